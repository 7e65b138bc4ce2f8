-- Small texts and what opening them under the steady profile gives, by computation (02, note 11). A text comes with its derivation.
use mathlib.Core.Path.{◌≡◌, refl, ◌∙◌}
use mathlib.Core.List.{List, [], ◌∷◌}
use mathlib.Core.Option.{Option-elim}
use Prim.Native.Nat.{ℕ}
use Rattle.std.specs.Prelude.{Ok}
use Rattle.grammar.specs.Grammar as derived
use Rattle.grammar.specs.Grammar.{Reads}
use Rattle.grammar.specs.Syntax.{syntax_of}
use Rattle.model.specs.Words.{word_of}
use Rattle.model.specs.Resolved.{Model, resolved}
use Rattle.model.specs.Stands.{items_of, sums_of}
use Rattle.model.specs.Opening.{Opening, refused, opened}
use Rattle.model.proofs.Computes.{judged_bytes, kinds_in, written, tree_of, sites_of, not_given_in, resolved_from, placed, judged_tree, opens-so}
use Rattle.profile.specs.Unsteady.{several, several_sums, branch_unsteady, next_unsteady, branches_unsteady, sum_unsteady, cont_unsteady, conts_unsteady, sums_unsteady, unsteady}
use Rattle.profile.specs.Opening.{also_steady, opening_steady}
use Rattle.profile.proofs.Asks.{refused-so, opened-asks}

-- ---- what is computed

-- 29 of a text with this derivation, whatever the model is
unfoldable pub judged_steady : List ℕ → derived.Model → Model → Opening
unfolding tree_of sites_of not_given_in resolved_from placed judged_tree items_of sums_of Option-elim several several_sums branch_unsteady next_unsteady branches_unsteady sum_unsteady cont_unsteady conts_unsteady sums_unsteady
    unsteady also_steady
judged_steady text d m = also_steady text (syntax_of d) (opened m)

module _ (text : List ℕ) where
  -- a text with a derivation, whose model 2 to 10 let through
  steady-so : (d : derived.Model) (o : Opening) → judged_bytes text ≡ Ok tt → written d ≡ kinds_in text → judged_tree text d ≡ opened (resolved (word_of text) (syntax_of d)) → judged_steady text d (resolved (word_of text) (syntax_of d)) ≡ o → opening_steady text ≡ o
  unfolding judged_steady also_steady written kinds_in Reads
  steady-so d o p r t e = opened-asks text (record { reading = d; reads = r; tree = refl }) (opens-so text d _ p r t) ∙ e

  -- it is accepted
  abbrev Accepted : Type 0
  Accepted = (m : Model) × (opening_steady text ≡ opened m)

-- ---- parts of derivations

-- {go,1}, then what follows
abbrev goes : derived.Next → derived.Prefix
goes n = derived.prefix derived.no_gate derived.wait (derived.plain (derived.fixed (derived.integer derived.whole))) n

-- an item `A[]`, and a call
abbrev called : derived.Item
called = derived.item_call derived.no_args

-- (i); (i||j)
abbrev single : derived.Item → derived.Cont
single i = derived.group i derived.close

abbrev pair : derived.Item → derived.Item → derived.Cont
pair i j = derived.group i (derived.also j derived.close)

-- bodies: one sum of one branch; two
abbrev alone : derived.Prefix → derived.Body
alone p = derived.body p derived.no_choices derived.no_sums

abbrev beside : derived.Prefix → derived.Prefix → derived.Body
beside p q = derived.body p derived.no_choices (derived.beside q derived.no_choices derived.no_sums)

-- one definition without parameters, or two, and the system line
abbrev once : derived.Start
once = derived.once derived.no_starts

abbrev one : derived.Body → derived.Start → derived.Model
one b s = derived.definitions (derived.last_definition derived.no_params b (derived.last_start s))

abbrev two : derived.Body → derived.Body → derived.Start → derived.Model
two a b s = derived.definitions (derived.next_definition derived.no_params a (derived.last_definition derived.no_params b (derived.last_start s)))

-- ---- 29, and texts without offenders
-- A[]={go,1}.((A[]||B[]));B[]={go,1};A[];
abbrev nested_text : List ℕ
nested_text = 65 ∷ 91 ∷ 93 ∷ 61 ∷ 123 ∷ 103 ∷ 111 ∷ 44 ∷ 49 ∷ 125 ∷ 46 ∷ 40 ∷ 40 ∷ 65 ∷ 91 ∷ 93 ∷ 124 ∷ 124 ∷ 66 ∷ 91 ∷ 93 ∷ 41 ∷ 41 ∷ 59 ∷ 66 ∷ 91 ∷ 93 ∷ 61 ∷ 123 ∷ 103 ∷ 111 ∷ 44 ∷ 49 ∷ 125 ∷ 59 ∷ 65 ∷ 91 ∷ 93 ∷ 59 ∷ []

-- of two groups, one in the other, the inner one has two items: 29 at its `(`
pub nested : opening_steady nested_text ≡ refused 29 12
unfolding judged_bytes kinds_in written judged_tree judged_steady
nested = steady-so nested_text (two (alone (goes (derived.dot (single (derived.item_group called (derived.also called derived.close)))))) (alone (goes derived.stop)) once) (refused 29 12) refl refl refl refl

-- A[]={go,1}.(B[]||A[]);B[]={go,1}||{go,1};A[];
abbrev outer_text : List ℕ
outer_text = 65 ∷ 91 ∷ 93 ∷ 61 ∷ 123 ∷ 103 ∷ 111 ∷ 44 ∷ 49 ∷ 125 ∷ 46 ∷ 40 ∷ 66 ∷ 91 ∷ 93 ∷ 124 ∷ 124 ∷ 65 ∷ 91 ∷ 93 ∷ 41 ∷ 59 ∷ 66 ∷ 91 ∷ 93 ∷ 61 ∷ 123 ∷ 103 ∷ 111 ∷ 44 ∷ 49 ∷ 125 ∷ 124 ∷ 124 ∷ 123 ∷ 103 ∷ 111 ∷ 44 ∷ 49 ∷ 125 ∷ 59 ∷ 65 ∷ 91 ∷ 93 ∷ 59 ∷ []

-- a group of two items, the first a call of a definition with two sums: the `(` stands first
pub outer : opening_steady outer_text ≡ refused 29 11
unfolding judged_bytes kinds_in written judged_tree judged_steady
outer = steady-so outer_text (two (alone (goes (derived.dot (pair called called)))) (beside (goes derived.stop) (goes derived.stop)) once) (refused 29 11) refl refl refl refl

-- A[]={go,1}.({go,1}.(A[]||A[]));A[];
abbrev within_text : List ℕ
within_text = 65 ∷ 91 ∷ 93 ∷ 61 ∷ 123 ∷ 103 ∷ 111 ∷ 44 ∷ 49 ∷ 125 ∷ 46 ∷ 40 ∷ 123 ∷ 103 ∷ 111 ∷ 44 ∷ 49 ∷ 125 ∷ 46 ∷ 40 ∷ 65 ∷ 91 ∷ 93 ∷ 124 ∷ 124 ∷ 65 ∷ 91 ∷ 93 ∷ 41 ∷ 41 ∷ 59 ∷ 65 ∷ 91 ∷ 93 ∷ 59 ∷ []

-- an offender in a group of one item
pub within : opening_steady within_text ≡ refused 29 19
unfolding judged_bytes kinds_in written judged_tree judged_steady
within = steady-so within_text (one (alone (goes (derived.dot (single (derived.item_sum (goes (derived.dot (pair called called))) derived.no_choices))))) once) (refused 29 19) refl refl refl refl

-- A[]={go,1}||{go,1};B[]={go,1}.A[];A[];
abbrev unreached_text : List ℕ
unreached_text = 65 ∷ 91 ∷ 93 ∷ 61 ∷ 123 ∷ 103 ∷ 111 ∷ 44 ∷ 49 ∷ 125 ∷ 124 ∷ 124 ∷ 123 ∷ 103 ∷ 111 ∷ 44 ∷ 49 ∷ 125 ∷ 59 ∷ 66 ∷ 91 ∷ 93 ∷ 61 ∷ 123 ∷ 103 ∷ 111 ∷ 44 ∷ 49 ∷ 125 ∷ 46 ∷ 65 ∷ 91 ∷ 93 ∷ 59 ∷ 65 ∷ 91 ∷ 93 ∷ 59 ∷ []

-- a definition that nothing reaches calls one with two sums: 29 at the call's name
pub unreached : opening_steady unreached_text ≡ refused 29 30
unfolding judged_bytes kinds_in written judged_tree judged_steady
unreached = steady-so unreached_text (two (beside (goes derived.stop) (goes derived.stop)) (alone (goes (derived.dot (derived.call derived.no_args)))) once) (refused 29 30) refl refl refl refl

-- A[]={go,1}.(({go,1}+{go,1}));A[];
abbrev ones_text : List ℕ
ones_text = 65 ∷ 91 ∷ 93 ∷ 61 ∷ 123 ∷ 103 ∷ 111 ∷ 44 ∷ 49 ∷ 125 ∷ 46 ∷ 40 ∷ 40 ∷ 123 ∷ 103 ∷ 111 ∷ 44 ∷ 49 ∷ 125 ∷ 43 ∷ 123 ∷ 103 ∷ 111 ∷ 44 ∷ 49 ∷ 125 ∷ 41 ∷ 41 ∷ 59 ∷ 65 ∷ 91 ∷ 93 ∷ 59 ∷ []

-- groups of one item, one in the other
pub ones : Accepted ones_text
unfolding judged_bytes kinds_in written judged_tree judged_steady
ones = (_, steady-so ones_text (one (alone (goes (derived.dot (single (derived.item_group (derived.item_sum (goes derived.stop) (derived.or (goes derived.stop) derived.no_choices)) derived.close))))) once) _ refl refl refl refl)

-- A[]={go,1}||{go,1};3*A[];
abbrev started_text : List ℕ
started_text = 65 ∷ 91 ∷ 93 ∷ 61 ∷ 123 ∷ 103 ∷ 111 ∷ 44 ∷ 49 ∷ 125 ∷ 124 ∷ 124 ∷ 123 ∷ 103 ∷ 111 ∷ 44 ∷ 49 ∷ 125 ∷ 59 ∷ 51 ∷ 42 ∷ 65 ∷ 91 ∷ 93 ∷ 59 ∷ []

-- a definition with two sums that only the system line names
pub started : Accepted started_text
unfolding judged_bytes kinds_in written judged_tree judged_steady
started = (_, steady-so started_text (one (beside (goes derived.stop) (goes derived.stop)) (derived.counted derived.no_starts)) _ refl refl refl refl)

-- A[]={go,1}.(A[]||A[])||{go,1};129*A[];
abbrev crowd_text : List ℕ
crowd_text = 65 ∷ 91 ∷ 93 ∷ 61 ∷ 123 ∷ 103 ∷ 111 ∷ 44 ∷ 49 ∷ 125 ∷ 46 ∷ 40 ∷ 65 ∷ 91 ∷ 93 ∷ 124 ∷ 124 ∷ 65 ∷ 91 ∷ 93 ∷ 41 ∷ 124 ∷ 124 ∷ 123 ∷ 103 ∷ 111 ∷ 44 ∷ 49 ∷ 125 ∷ 59 ∷ 49 ∷ 50 ∷ 57 ∷ 42 ∷ 65 ∷ 91 ∷ 93 ∷ 59 ∷ []

-- 258 processes, and a group of two items: 10 comes before 29
pub crowd : opening_steady crowd_text ≡ refused 10 30
unfolding judged_bytes kinds_in written judged_tree
crowd = refused-so crowd_text (opens-so crowd_text (one (beside (goes (derived.dot (pair called called))) (goes derived.stop)) (derived.counted derived.no_starts)) (refused 10 30) refl refl refl)
