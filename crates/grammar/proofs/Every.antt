-- Every tree of the grammar stands in its list (Every.antt) once the depth is four times the number of its tokens, and a little: by recursion on the trees, from their widths.
use mathlib.Core.Path.{refl, sym, subst}
use mathlib.Core.List.Memᴰ.{append_left as left}
use mathlib.Core.List.Memᴰ.{append_right as right}
use mathlib.Core.List.Memᴰ.{head}
use mathlib.Core.List.Memᴰ.{map as mapped}
use mathlib.Core.List.Memᴰ.{tail}
use mathlib.Core.List.{List, ◌∷◌, map, Memᴰ as In}
use Prim.Native.Nat.{ℕ, zero, suc, ◌+◌, ◌*◌, ◌≤◌}
use native.Mathlib.Omega.{arith}
use Rattle.grammar.specs.Grammar
use Rattle.grammar.specs.Grammar.{Whole, Relation, Number, Expr, Terms, Term, Factors, Atom, Exprs, Args, Part, Parts, Set, Test, Ands, Ors, Cond, Scale, Rate, Values, Sets, Names, Channel, Action, Gate, Prefix, Next, Cont, Item, Items, Choices, Sums, Body, Params, Wholes, Starts, Start, System, Definitions, Model}
use Rattle.grammar.specs.Grammar.{flat_expr, flat_terms, flat_term, flat_factors, flat_atom, flat_exprs, flat_args, flat_part, flat_parts, flat_set, flat_test, flat_ands, flat_ors, flat_cond, flat_rate, flat_values, flat_sets, flat_names, flat_channel, flat_action, flat_gate, flat_prefix, flat_next, flat_cont, flat_item, flat_items, flat_choices, flat_sums, flat_body, flat_params, flat_wholes, flat_starts, flat_start, flat_system, flat_definitions, flat_model}
use Rattle.grammar.specs.Syntax.{wide}
use Rattle.grammar.specs.Every.{◌∗◌, ◌or◌, every_whole, every_relation, every_number, every_expr, every_terms, every_term, every_factors, every_atom, every_exprs, every_args, every_part, every_parts, every_set, every_test, every_ands, every_ors, every_cond, every_scale, every_rate, every_values, every_sets, every_names, every_channel, every_action, every_gate, every_prefix, every_next, every_cont, every_item, every_items, every_choices, every_sums, every_body, every_params, every_wholes, every_starts, every_start, every_system, every_definitions, every_model}
use Rattle.grammar.proofs.Wide.{wide-expr, wide-terms, wide-term, wide-factors, wide-atom, wide-exprs, wide-args, wide-part, wide-parts, wide-set, wide_test, wide-ands, wide-ors, wide-cond, wide-rate, wide-values, wide-sets, wide-names, wide-channel, wide-action, wide-gate, wide-prefix, wide-next, wide-cont, wide-item, wide-items, wide-choices, wide-sums, wide-body, wide-params, wide-wholes, wide-starts, wide-start, wide-system, wide-definitions, wide-model}

infixl 70 ◌⊙◌
-- a thing is the only one
itself : {A : Type 0} {a : A} {xs : List A} → In a (a ∷ xs)
itself = head refl

first : {A : Type 0} {a : A} {xs : List A} (ys : List A) → In a xs → In a (xs or ys)
unfolding ◌or◌
first ys i = left ys i

later : {A : Type 0} {a : A} (xs : List A) {ys : List A} → In a ys → In a (xs or ys)
unfolding ◌or◌
later xs i = right xs i

-- a function of a thing is among those functions of those things
◌⊙◌ : {A B : Type 0} {f : A → B} {a : A} {fs : List (A → B)} {xs : List A} → In f fs → In a xs → In (f a) (fs ∗ xs)
unfolding ◌∗◌
◌⊙◌ {A} {B} {f} {a} {fs} {xs} (head {x = g} {xs = gs} e) j = left (gs ∗ xs) (subst (λ (h : A → B). In (h a) (map g xs)) (sym e) (mapped g j))
◌⊙◌ {A} {B} {f} {a} {fs} {xs} (tail {x = g} {xs = gs} i) j = right (map g xs) (i ⊙ j)

-- ---- 01, Model text, in the order of Grammar.antt

whole_in : (w : Whole) → In w every_whole
whole_in Grammar.whole = itself
whole_in Grammar.negative = tail itself

relation-in : (r : Relation) → In r every_relation
relation-in Grammar.less = itself
relation-in Grammar.at_most = tail itself
relation-in Grammar.greater = tail (tail itself)
relation-in Grammar.at_least = tail (tail (tail itself))
relation-in Grammar.same = tail (tail (tail (tail itself)))
relation-in Grammar.differs = tail (tail (tail (tail (tail itself))))

number_in : (t : Number) → In t every_number
number_in (Grammar.integer a) = first _ (itself ⊙ whole_in a)
number_in Grammar.decimal = later _ (first _ itself)
number_in Grammar.negative_decimal = later _ (later _ itself)

mutual
  unfolding every_expr every_terms every_term every_factors every_atom

  expr-in : (t : Expr) (n : ℕ) → 4 * wide (flat_expr t) + 3 ≤ n → In t (every_expr n)
  expr-in t zero h = absurd (omega arith)
  expr-in (Grammar.sum a b) (suc n) h = let w = (wide-expr (Grammar.sum a b)).width in itself ⊙ term_in a n (omega (arith, w)) ⊙ terms-in b n (omega (arith, w))

  terms-in : (t : Terms) (n : ℕ) → 4 * wide (flat_terms t) + 1 ≤ n → In t (every_terms n)
  terms-in t zero h = absurd (omega arith)
  terms-in Grammar.no_terms (suc n) h = first _ itself
  terms-in (Grammar.plus a b) (suc n) h = let w = (wide-terms (Grammar.plus a b)).width in later _ (first _ (itself ⊙ term_in a n (omega (arith, w)) ⊙ terms-in b n (omega (arith, w))))
  terms-in (Grammar.minus a b) (suc n) h = let w = (wide-terms (Grammar.minus a b)).width in later _ (later _ (itself ⊙ term_in a n (omega (arith, w)) ⊙ terms-in b n (omega (arith, w))))

  term_in : (t : Term) (n : ℕ) → 4 * wide (flat_term t) + 2 ≤ n → In t (every_term n)
  term_in t zero h = absurd (omega arith)
  term_in (Grammar.product a b) (suc n) h = let w = (wide-term (Grammar.product a b)).width in itself ⊙ atom-in a n (omega (arith, w)) ⊙ factors-in b n (omega (arith, w))

  factors-in : (t : Factors) (n : ℕ) → 4 * wide (flat_factors t) + 1 ≤ n → In t (every_factors n)
  factors-in t zero h = absurd (omega arith)
  factors-in Grammar.no_factors (suc n) h = first _ itself
  factors-in (Grammar.times a b) (suc n) h = let w = (wide-factors (Grammar.times a b)).width in later _ (first _ (itself ⊙ atom-in a n (omega (arith, w)) ⊙ factors-in b n (omega (arith, w))))
  factors-in (Grammar.divide a b) (suc n) h = let w = (wide-factors (Grammar.divide a b)).width in later _ (later _ (itself ⊙ atom-in a n (omega (arith, w)) ⊙ factors-in b n (omega (arith, w))))

  atom-in : (t : Atom) (n : ℕ) → 4 * wide (flat_atom t) + 1 ≤ n → In t (every_atom n)
  atom-in t zero h = absurd (omega arith)
  atom-in (Grammar.number a) (suc n) h = first _ (itself ⊙ whole_in a)
  atom-in Grammar.name (suc n) h = later _ (first _ itself)
  atom-in (Grammar.absolute a) (suc n) h = let w = (wide-atom (Grammar.absolute a)).width in later _ (later _ (first _ (itself ⊙ expr-in a n (omega (arith, w)))))
  atom-in (Grammar.maximum a b) (suc n) h = let w = (wide-atom (Grammar.maximum a b)).width in later _ (later _ (later _ (first _ (itself ⊙ expr-in a n (omega (arith, w)) ⊙ expr-in b n (omega (arith, w))))))
  atom-in (Grammar.minimum a b) (suc n) h = let w = (wide-atom (Grammar.minimum a b)).width in later _ (later _ (later _ (later _ (first _ (itself ⊙ expr-in a n (omega (arith, w)) ⊙ expr-in b n (omega (arith, w)))))))
  atom-in (Grammar.bracketed a) (suc n) h = let w = (wide-atom (Grammar.bracketed a)).width in later _ (later _ (later _ (later _ (later _ (itself ⊙ expr-in a n (omega (arith, w)))))))

exprs-in : (t : Exprs) (n : ℕ) → 4 * wide (flat_exprs t) + 4 ≤ n → In t (every_exprs n)
unfolding every_exprs
exprs-in t zero h = absurd (omega arith)
exprs-in (Grammar.last_expr a) (suc n) h = let w = (wide-exprs (Grammar.last_expr a)).width in first _ (itself ⊙ expr-in a n (omega (arith, w)))
exprs-in (Grammar.next_expr a b) (suc n) h = let w = (wide-exprs (Grammar.next_expr a b)).width in later _ (itself ⊙ expr-in a n (omega (arith, w)) ⊙ exprs-in b n (omega (arith, w)))

args_in : (t : Args) (n : ℕ) → 4 * wide (flat_args t) ≤ n → In t (every_args n)
unfolding every_args
args_in Grammar.no_args n h = first _ itself
args_in (Grammar.args a) n h = let w = (wide-args (Grammar.args a)).width in later _ (itself ⊙ exprs-in a n (omega (arith, w)))

part_in : (t : Part) (n : ℕ) → 4 * wide (flat_part t) + 3 ≤ n → In t (every_part n)
unfolding every_part
part_in (Grammar.single a) n h = let w = (wide-part (Grammar.single a)).width in first _ (itself ⊙ expr-in a n (omega (arith, w)))
part_in (Grammar.range a b) n h = let w = (wide-part (Grammar.range a b)).width in later _ (itself ⊙ expr-in a n (omega (arith, w)) ⊙ expr-in b n (omega (arith, w)))

parts_in : (t : Parts) (n : ℕ) → 4 * wide (flat_parts t) + 1 ≤ n → In t (every_parts n)
unfolding every_parts
parts_in t zero h = absurd (omega arith)
parts_in Grammar.no_parts (suc n) h = first _ itself
parts_in (Grammar.without a b) (suc n) h = let w = (wide-parts (Grammar.without a b)).width in later _ (first _ (itself ⊙ part_in a n (omega (arith, w)) ⊙ parts_in b n (omega (arith, w))))
parts_in (Grammar.union a b) (suc n) h = let w = (wide-parts (Grammar.union a b)).width in later _ (later _ (first _ (itself ⊙ part_in a n (omega (arith, w)) ⊙ parts_in b n (omega (arith, w)))))
parts_in (Grammar.inter a b) (suc n) h = let w = (wide-parts (Grammar.inter a b)).width in later _ (later _ (later _ (itself ⊙ part_in a n (omega (arith, w)) ⊙ parts_in b n (omega (arith, w)))))

set-in : (t : Set) (n : ℕ) → 4 * wide (flat_set t) + 3 ≤ n → In t (every_set n)
unfolding every_set
set-in (Grammar.set a b) n h = let w = (wide-set (Grammar.set a b)).width in itself ⊙ part_in a n (omega (arith, w)) ⊙ parts_in b n (omega (arith, w))

test_in : (t : Test) (n : ℕ) → 4 * wide (flat_test t) + 3 ≤ n → In t (every_test n)
unfolding every_test
test_in (Grammar.holds a b c) n h = let w = (wide_test (Grammar.holds a b c)).width in first _ (itself ⊙ expr-in a n (omega (arith, w)) ⊙ relation-in b ⊙ expr-in c n (omega (arith, w)))
test_in (Grammar.fails a b c) n h = let w = (wide_test (Grammar.fails a b c)).width in later _ (itself ⊙ expr-in a n (omega (arith, w)) ⊙ relation-in b ⊙ expr-in c n (omega (arith, w)))

ands-in : (t : Ands) (n : ℕ) → 4 * wide (flat_ands t) + 1 ≤ n → In t (every_ands n)
unfolding every_ands
ands-in t zero h = absurd (omega arith)
ands-in Grammar.no_ands (suc n) h = first _ itself
ands-in (Grammar.both a b) (suc n) h = let w = (wide-ands (Grammar.both a b)).width in later _ (itself ⊙ test_in a n (omega (arith, w)) ⊙ ands-in b n (omega (arith, w)))

ors-in : (t : Ors) (n : ℕ) → 4 * wide (flat_ors t) + 1 ≤ n → In t (every_ors n)
unfolding every_ors
ors-in t zero h = absurd (omega arith)
ors-in Grammar.no_ors (suc n) h = first _ itself
ors-in (Grammar.either a b c) (suc n) h = let w = (wide-ors (Grammar.either a b c)).width in later _ (itself ⊙ test_in a n (omega (arith, w)) ⊙ ands-in b n (omega (arith, w)) ⊙ ors-in c n (omega (arith, w)))

cond-in : (t : Cond) (n : ℕ) → 4 * wide (flat_cond t) + 3 ≤ n → In t (every_cond n)
unfolding every_cond
cond-in (Grammar.cond a b c) n h = let w = (wide-cond (Grammar.cond a b c)).width in itself ⊙ test_in a n (omega (arith, w)) ⊙ ands-in b n (omega (arith, w)) ⊙ ors-in c n (omega (arith, w))

scale_in : (t : Scale) → In t every_scale
unfolding every_scale
scale_in (Grammar.fixed a) = first _ (itself ⊙ number_in a)
scale_in Grammar.named = later _ itself

rate-in : (t : Rate) (n : ℕ) → 4 * wide (flat_rate t) ≤ n → In t (every_rate n)
unfolding every_rate
rate-in (Grammar.plain a) n h = first _ (itself ⊙ scale_in a)
rate-in (Grammar.scaled a b) n h = let w = (wide-rate (Grammar.scaled a b)).width in later _ (itself ⊙ scale_in a ⊙ atom-in b n (omega (arith, w)))

values-in : (t : Values) (n : ℕ) → 4 * wide (flat_values t) ≤ n → In t (every_values n)
unfolding every_values
values-in (Grammar.one_value a) n h = let w = (wide-values (Grammar.one_value a)).width in first _ (itself ⊙ expr-in a n (omega (arith, w)))
values-in (Grammar.two_values a b) n h = let w = (wide-values (Grammar.two_values a b)).width in later _ (itself ⊙ expr-in a n (omega (arith, w)) ⊙ expr-in b n (omega (arith, w)))

sets-in : (t : Sets) (n : ℕ) → 4 * wide (flat_sets t) ≤ n → In t (every_sets n)
unfolding every_sets
sets-in (Grammar.one_set a) n h = let w = (wide-sets (Grammar.one_set a)).width in first _ (itself ⊙ set-in a n (omega (arith, w)))
sets-in (Grammar.two_sets a b) n h = let w = (wide-sets (Grammar.two_sets a b)).width in later _ (itself ⊙ set-in a n (omega (arith, w)) ⊙ set-in b n (omega (arith, w)))

names_in : (t : Names) (n : ℕ) → 4 * wide (flat_names t) + 1 ≤ n → In t (every_names n)
unfolding every_names
names_in t zero h = absurd (omega arith)
names_in Grammar.last_name (suc n) h = first _ itself
names_in (Grammar.next_name a) (suc n) h = let w = (wide-names (Grammar.next_name a)).width in later _ (itself ⊙ names_in a n (omega (arith, w)))

channel-in : (t : Channel) (n : ℕ) → 4 * wide (flat_channel t) + 3 ≤ n → In t (every_channel n)
unfolding every_channel
channel-in (Grammar.one_item a) n h = let w = (wide-channel (Grammar.one_item a)).width in first _ (itself ⊙ expr-in a n (omega (arith, w)))
channel-in (Grammar.two_items a b) n h = let w = (wide-channel (Grammar.two_items a b)).width in later _ (first _ (itself ⊙ expr-in a n (omega (arith, w)) ⊙ expr-in b n (omega (arith, w))))
channel-in (Grammar.three_items a b c) n h = let w = (wide-channel (Grammar.three_items a b c)).width in later _ (later _ (itself ⊙ expr-in a n (omega (arith, w)) ⊙ expr-in b n (omega (arith, w)) ⊙ expr-in c n (omega (arith, w))))

action-in : (t : Action) (n : ℕ) → 4 * wide (flat_action t) ≤ n → In t (every_action n)
unfolding every_action
action-in Grammar.wait n h = first _ itself
action-in (Grammar.launch a b) n h = let w = (wide-action (Grammar.launch a b)).width in later _ (first _ (itself ⊙ channel-in a n (omega (arith, w)) ⊙ values-in b n (omega (arith, w))))
action-in (Grammar.kill a b) n h = let w = (wide-action (Grammar.kill a b)).width in later _ (later _ (first _ (itself ⊙ channel-in a n (omega (arith, w)) ⊙ values-in b n (omega (arith, w)))))
action-in (Grammar.receive a b) n h = let w = (wide-action (Grammar.receive a b)).width in later _ (later _ (later _ (first _ (itself ⊙ channel-in a n (omega (arith, w)) ⊙ sets-in b n (omega (arith, w))))))
action-in (Grammar.bind a b c) n h = let w = (wide-action (Grammar.bind a b c)).width in later _ (later _ (later _ (later _ (first _ (itself ⊙ channel-in a n (omega (arith, w)) ⊙ sets-in b n (omega (arith, w)) ⊙ names_in c n (omega (arith, w)))))))
action-in (Grammar.check a b) n h = let w = (wide-action (Grammar.check a b)).width in later _ (later _ (later _ (later _ (later _ (first _ (itself ⊙ channel-in a n (omega (arith, w)) ⊙ sets-in b n (omega (arith, w))))))))
action-in (Grammar.hand_send a b) n h = let w = (wide-action (Grammar.hand_send a b)).width in later _ (later _ (later _ (later _ (later _ (later _ (first _ (itself ⊙ channel-in a n (omega (arith, w)) ⊙ values-in b n (omega (arith, w)))))))))
action-in (Grammar.hand_receive a b) n h = let w = (wide-action (Grammar.hand_receive a b)).width in later _ (later _ (later _ (later _ (later _ (later _ (later _ (first _ (itself ⊙ channel-in a n (omega (arith, w)) ⊙ sets-in b n (omega (arith, w))))))))))
action-in (Grammar.hand_bind a b c) n h = let w = (wide-action (Grammar.hand_bind a b c)).width in later _ (later _ (later _ (later _ (later _ (later _ (later _ (later _ (itself ⊙ channel-in a n (omega (arith, w)) ⊙ sets-in b n (omega (arith, w)) ⊙ names_in c n (omega (arith, w))))))))))

gate-in : (t : Gate) (n : ℕ) → 4 * wide (flat_gate t) ≤ n → In t (every_gate n)
unfolding every_gate
gate-in Grammar.no_gate n h = first _ itself
gate-in (Grammar.gate a) n h = let w = (wide-gate (Grammar.gate a)).width in later _ (itself ⊙ cond-in a n (omega (arith, w)))

mutual
  unfolding every_prefix every_next every_cont every_item every_items every_choices

  prefix-in : (t : Prefix) (n : ℕ) → 4 * wide (flat_prefix t) + 1 ≤ n → In t (every_prefix n)
  prefix-in t zero h = absurd (omega arith)
  prefix-in (Grammar.prefix a b c d) (suc n) h = let w = (wide-prefix (Grammar.prefix a b c d)).width in itself ⊙ gate-in a n (omega (arith, w)) ⊙ action-in b n (omega (arith, w)) ⊙ rate-in c n (omega (arith, w)) ⊙ next-in d n (omega (arith, w))

  next-in : (t : Next) (n : ℕ) → 4 * wide (flat_next t) + 1 ≤ n → In t (every_next n)
  next-in t zero h = absurd (omega arith)
  next-in Grammar.stop (suc n) h = first _ itself
  next-in (Grammar.dot a) (suc n) h = let w = (wide-next (Grammar.dot a)).width in later _ (itself ⊙ cont-in a n (omega (arith, w)))

  cont-in : (t : Cont) (n : ℕ) → 4 * wide (flat_cont t) + 2 ≤ n → In t (every_cont n)
  cont-in t zero h = absurd (omega arith)
  cont-in (Grammar.chain a) (suc n) h = let w = (wide-cont (Grammar.chain a)).width in first _ (itself ⊙ prefix-in a n (omega (arith, w)))
  cont-in (Grammar.call a) (suc n) h = let w = (wide-cont (Grammar.call a)).width in later _ (first _ (itself ⊙ args_in a n (omega (arith, w))))
  cont-in (Grammar.group a b) (suc n) h = let w = (wide-cont (Grammar.group a b)).width in later _ (later _ (itself ⊙ item_in a n (omega (arith, w)) ⊙ items-in b n (omega (arith, w))))

  item_in : (t : Item) (n : ℕ) → 4 * wide (flat_item t) + 2 ≤ n → In t (every_item n)
  item_in t zero h = absurd (omega arith)
  item_in (Grammar.item_sum a b) (suc n) h = let w = (wide-item (Grammar.item_sum a b)).width in first _ (itself ⊙ prefix-in a n (omega (arith, w)) ⊙ choices-in b n (omega (arith, w)))
  item_in (Grammar.item_call a) (suc n) h = let w = (wide-item (Grammar.item_call a)).width in later _ (first _ (itself ⊙ args_in a n (omega (arith, w))))
  item_in (Grammar.item_group a b) (suc n) h = let w = (wide-item (Grammar.item_group a b)).width in later _ (later _ (itself ⊙ item_in a n (omega (arith, w)) ⊙ items-in b n (omega (arith, w))))

  items-in : (t : Items) (n : ℕ) → 4 * wide (flat_items t) + 1 ≤ n → In t (every_items n)
  items-in t zero h = absurd (omega arith)
  items-in Grammar.close (suc n) h = first _ itself
  items-in (Grammar.also a b) (suc n) h = let w = (wide-items (Grammar.also a b)).width in later _ (itself ⊙ item_in a n (omega (arith, w)) ⊙ items-in b n (omega (arith, w)))

  choices-in : (t : Choices) (n : ℕ) → 4 * wide (flat_choices t) + 1 ≤ n → In t (every_choices n)
  choices-in t zero h = absurd (omega arith)
  choices-in Grammar.no_choices (suc n) h = first _ itself
  choices-in (Grammar.or a b) (suc n) h = let w = (wide-choices (Grammar.or a b)).width in later _ (itself ⊙ prefix-in a n (omega (arith, w)) ⊙ choices-in b n (omega (arith, w)))

sums-in : (t : Sums) (n : ℕ) → 4 * wide (flat_sums t) + 1 ≤ n → In t (every_sums n)
unfolding every_sums
sums-in t zero h = absurd (omega arith)
sums-in Grammar.no_sums (suc n) h = first _ itself
sums-in (Grammar.beside a b c) (suc n) h = let w = (wide-sums (Grammar.beside a b c)).width in later _ (itself ⊙ prefix-in a n (omega (arith, w)) ⊙ choices-in b n (omega (arith, w)) ⊙ sums-in c n (omega (arith, w)))

body-in : (t : Body) (n : ℕ) → 4 * wide (flat_body t) + 1 ≤ n → In t (every_body n)
unfolding every_body
body-in (Grammar.body a b c) n h = let w = (wide-body (Grammar.body a b c)).width in itself ⊙ prefix-in a n (omega (arith, w)) ⊙ choices-in b n (omega (arith, w)) ⊙ sums-in c n (omega (arith, w))

params_in : (t : Params) (n : ℕ) → 4 * wide (flat_params t) ≤ n → In t (every_params n)
unfolding every_params
params_in Grammar.no_params n h = first _ itself
params_in (Grammar.params a) n h = let w = (wide-params (Grammar.params a)).width in later _ (itself ⊙ names_in a n (omega (arith, w)))

wholes-in : (t : Wholes) (n : ℕ) → 4 * wide (flat_wholes t) + 1 ≤ n → In t (every_wholes n)
unfolding every_wholes
wholes-in t zero h = absurd (omega arith)
wholes-in (Grammar.last_whole a) (suc n) h = first _ (itself ⊙ whole_in a)
wholes-in (Grammar.next_whole a b) (suc n) h = let w = (wide-wholes (Grammar.next_whole a b)).width in later _ (itself ⊙ whole_in a ⊙ wholes-in b n (omega (arith, w)))

starts-in : (t : Starts) (n : ℕ) → 4 * wide (flat_starts t) ≤ n → In t (every_starts n)
unfolding every_starts
starts-in Grammar.no_starts n h = first _ itself
starts-in (Grammar.starts a) n h = let w = (wide-starts (Grammar.starts a)).width in later _ (itself ⊙ wholes-in a n (omega (arith, w)))

start-in : (t : Start) (n : ℕ) → 4 * wide (flat_start t) ≤ n → In t (every_start n)
unfolding every_start
start-in (Grammar.once a) n h = let w = (wide-start (Grammar.once a)).width in first _ (itself ⊙ starts-in a n (omega (arith, w)))
start-in (Grammar.counted a) n h = let w = (wide-start (Grammar.counted a)).width in later _ (itself ⊙ starts-in a n (omega (arith, w)))

system-in : (t : System) (n : ℕ) → 4 * wide (flat_system t) + 1 ≤ n → In t (every_system n)
unfolding every_system
system-in t zero h = absurd (omega arith)
system-in (Grammar.last_start a) (suc n) h = let w = (wide-system (Grammar.last_start a)).width in first _ (itself ⊙ start-in a n (omega (arith, w)))
system-in (Grammar.next_start a b) (suc n) h = let w = (wide-system (Grammar.next_start a b)).width in later _ (itself ⊙ start-in a n (omega (arith, w)) ⊙ system-in b n (omega (arith, w)))

definitions-in : (t : Definitions) (n : ℕ) → 4 * wide (flat_definitions t) + 1 ≤ n → In t (every_definitions n)
unfolding every_definitions
definitions-in t zero h = absurd (omega arith)
definitions-in (Grammar.last_definition a b c) (suc n) h = let w = (wide-definitions (Grammar.last_definition a b c)).width in first _ (itself ⊙ params_in a n (omega (arith, w)) ⊙ body-in b n (omega (arith, w)) ⊙ system-in c n (omega (arith, w)))
definitions-in (Grammar.next_definition a b c) (suc n) h = let w = (wide-definitions (Grammar.next_definition a b c)).width in later _ (itself ⊙ params_in a n (omega (arith, w)) ⊙ body-in b n (omega (arith, w)) ⊙ definitions-in c n (omega (arith, w)))

pub model_in : (t : Model) (n : ℕ) → 4 * wide (flat_model t) + 2 ≤ n → In t (every_model n)
unfolding every_model
model_in t zero h = absurd (omega arith)
model_in (Grammar.variable a b) (suc n) h = let w = (wide-model (Grammar.variable a b)).width in first _ (itself ⊙ number_in a ⊙ model_in b n (omega (arith, w)))
model_in (Grammar.definitions a) (suc n) h = let w = (wide-model (Grammar.definitions a)).width in later _ (itself ⊙ definitions-in a n (omega (arith, w)))
