-- Every tree of the grammar up to a depth, in lists: a line for each type of Grammar.antt, a term for each of its constructors. By these lists it is a
-- function what a text reads as (Verdict.antt); they are written to be read, never to be computed. Assumes nothing: these are definitions.
use Rattle.std.specs.Prelude.{List, [], ◌∷◌, ◌++◌, map, ℕ, zero, suc}
use Rattle.grammar.specs.Grammar
use Rattle.grammar.specs.Grammar.{Whole, Number, Expr, Terms, Term, Factors, Atom, Exprs, Args, Part, Parts, Set, Relation, Test, Ands, Ors, Cond, Scale, Rate, Values, Sets, Names, Channel, Action, Gate, Prefix, Next, Cont, Item, Items, Choices, Sums, Body, Params, Wholes, Starts, Start, System, Definitions, Model}

infixl 70 ◌∗◌
infixr 60 ◌or◌
-- this alone
abbrev pub only : {A : Type 0} → A → List A
only a = a ∷ []

-- each of these functions of each of those things
unfoldable pub ◌∗◌ : {A B : Type 0} → List (A → B) → List A → List B
[] ∗ xs = []
(f ∷ fs) ∗ xs = map f xs ++ fs ∗ xs

-- these, then those
unfoldable pub ◌or◌ : {A : Type 0} → List A → List A → List A
xs or ys = xs ++ ys

-- ---- the trees of each type, in the order of Grammar.antt; n: how deep they are at most

-- 01, the paragraph on tokens: numbers
abbrev pub every_whole : List Whole
every_whole = Grammar.whole ∷ Grammar.negative ∷ []

-- 01, the paragraph on tokens: numbers
abbrev pub every_number : List Number
every_number = only Grammar.integer ∗ every_whole or only Grammar.decimal or only Grammar.negative_decimal

unfoldable mutual
  -- 01, Expression
  pub every_expr : ℕ → List Expr
  every_expr zero = []
  every_expr (suc n) = only Grammar.sum ∗ every_term n ∗ every_terms n

  -- 01, Expression
  pub every_terms : ℕ → List Terms
  every_terms zero = []
  every_terms (suc n) = only Grammar.no_terms or only Grammar.plus ∗ every_term n ∗ every_terms n or only Grammar.minus ∗ every_term n ∗ every_terms n

  -- 01, Expression
  pub every_term : ℕ → List Term
  every_term zero = []
  every_term (suc n) = only Grammar.product ∗ every_atom n ∗ every_factors n

  -- 01, Expression
  pub every_factors : ℕ → List Factors
  every_factors zero = []
  every_factors (suc n) = only Grammar.no_factors or only Grammar.times ∗ every_atom n ∗ every_factors n or only Grammar.divide ∗ every_atom n ∗ every_factors n

  -- 01, Expression
  pub every_atom : ℕ → List Atom
  every_atom zero = []
  every_atom (suc n) =
      only Grammar.number ∗ every_whole or only Grammar.name or only Grammar.absolute ∗ every_expr n or only Grammar.maximum ∗ every_expr n ∗ every_expr n or only Grammar.minimum ∗ every_expr n ∗ every_expr n
      or only Grammar.bracketed ∗ every_expr n

-- 01, Continuation: the expressions of a call
unfoldable pub every_exprs : ℕ → List Exprs
every_exprs zero = []
every_exprs (suc n) = only Grammar.last_expr ∗ every_expr n or only Grammar.next_expr ∗ every_expr n ∗ every_exprs n

-- 01, Continuation: the expressions of a call
unfoldable pub every_args : ℕ → List Args
every_args n = only Grammar.no_args or only Grammar.args ∗ every_exprs n

-- 01, Set
unfoldable pub every_part : ℕ → List Part
every_part n = only Grammar.single ∗ every_expr n or only Grammar.range ∗ every_expr n ∗ every_expr n

-- 01, Set
unfoldable pub every_parts : ℕ → List Parts
every_parts zero = []
every_parts (suc n) = only Grammar.no_parts or only Grammar.without ∗ every_part n ∗ every_parts n or only Grammar.union ∗ every_part n ∗ every_parts n or only Grammar.inter ∗ every_part n ∗ every_parts n

-- 01, Set
unfoldable pub every_set : ℕ → List Set
every_set n = only Grammar.set ∗ every_part n ∗ every_parts n

-- 01, Condition
abbrev pub every_relation : List Relation
every_relation = Grammar.less ∷ Grammar.at_most ∷ Grammar.greater ∷ Grammar.at_least ∷ Grammar.same ∷ Grammar.differs ∷ []

-- 01, Condition
unfoldable pub every_test : ℕ → List Test
every_test n = only Grammar.holds ∗ every_expr n ∗ every_relation ∗ every_expr n or only Grammar.fails ∗ every_expr n ∗ every_relation ∗ every_expr n

-- 01, Condition
unfoldable pub every_ands : ℕ → List Ands
every_ands zero = []
every_ands (suc n) = only Grammar.no_ands or only Grammar.both ∗ every_test n ∗ every_ands n

-- 01, Condition
unfoldable pub every_ors : ℕ → List Ors
every_ors zero = []
every_ors (suc n) = only Grammar.no_ors or only Grammar.either ∗ every_test n ∗ every_ands n ∗ every_ors n

-- 01, Condition
unfoldable pub every_cond : ℕ → List Cond
every_cond n = only Grammar.cond ∗ every_test n ∗ every_ands n ∗ every_ors n

-- 01, Rate
unfoldable pub every_scale : List Scale
every_scale = only Grammar.fixed ∗ every_number or only Grammar.named

-- 01, Rate
unfoldable pub every_rate : ℕ → List Rate
every_rate n = only Grammar.plain ∗ every_scale or only Grammar.scaled ∗ every_scale ∗ every_atom n

-- 01, Actions
unfoldable pub every_values : ℕ → List Values
every_values n = only Grammar.one_value ∗ every_expr n or only Grammar.two_values ∗ every_expr n ∗ every_expr n

-- 01, Actions
unfoldable pub every_sets : ℕ → List Sets
every_sets n = only Grammar.one_set ∗ every_set n or only Grammar.two_sets ∗ every_set n ∗ every_set n

-- 01, Actions
unfoldable pub every_names : ℕ → List Names
every_names zero = []
every_names (suc n) = only Grammar.last_name or only Grammar.next_name ∗ every_names n

-- 01, Actions
unfoldable pub every_channel : ℕ → List Channel
every_channel n = only Grammar.one_item ∗ every_expr n or only Grammar.two_items ∗ every_expr n ∗ every_expr n or only Grammar.three_items ∗ every_expr n ∗ every_expr n ∗ every_expr n

-- 01, Actions
unfoldable pub every_action : ℕ → List Action
every_action n =
    only Grammar.wait or only Grammar.launch ∗ every_channel n ∗ every_values n or only Grammar.kill ∗ every_channel n ∗ every_values n or only Grammar.receive ∗ every_channel n ∗ every_sets n
    or only Grammar.bind ∗ every_channel n ∗ every_sets n ∗ every_names n or only Grammar.check ∗ every_channel n ∗ every_sets n or only Grammar.hand_send ∗ every_channel n ∗ every_values n
    or only Grammar.hand_receive ∗ every_channel n ∗ every_sets n or only Grammar.hand_bind ∗ every_channel n ∗ every_sets n ∗ every_names n

-- 01, Guarded prefix
unfoldable pub every_gate : ℕ → List Gate
every_gate n = only Grammar.no_gate or only Grammar.gate ∗ every_cond n

unfoldable mutual
  -- 01, Guarded prefix
  pub every_prefix : ℕ → List Prefix
  every_prefix zero = []
  every_prefix (suc n) = only Grammar.prefix ∗ every_gate n ∗ every_action n ∗ every_rate n ∗ every_next n

  -- 01, Guarded prefix
  pub every_next : ℕ → List Next
  every_next zero = []
  every_next (suc n) = only Grammar.stop or only Grammar.dot ∗ every_cont n

  -- 01, Continuation
  pub every_cont : ℕ → List Cont
  every_cont zero = []
  every_cont (suc n) = only Grammar.chain ∗ every_prefix n or only Grammar.call ∗ every_args n or only Grammar.group ∗ every_item n ∗ every_items n

  -- 01, Continuation
  pub every_item : ℕ → List Item
  every_item zero = []
  every_item (suc n) = only Grammar.item_sum ∗ every_prefix n ∗ every_choices n or only Grammar.item_call ∗ every_args n or only Grammar.item_group ∗ every_item n ∗ every_items n

  -- 01, Continuation
  pub every_items : ℕ → List Items
  every_items zero = []
  every_items (suc n) = only Grammar.close or only Grammar.also ∗ every_item n ∗ every_items n

  -- 01, Sum
  pub every_choices : ℕ → List Choices
  every_choices zero = []
  every_choices (suc n) = only Grammar.no_choices or only Grammar.or ∗ every_prefix n ∗ every_choices n

-- 01, Body
unfoldable pub every_sums : ℕ → List Sums
every_sums zero = []
every_sums (suc n) = only Grammar.no_sums or only Grammar.beside ∗ every_prefix n ∗ every_choices n ∗ every_sums n

-- 01, Body
unfoldable pub every_body : ℕ → List Body
every_body n = only Grammar.body ∗ every_prefix n ∗ every_choices n ∗ every_sums n

-- 01, Model
unfoldable pub every_params : ℕ → List Params
every_params n = only Grammar.no_params or only Grammar.params ∗ every_names n

-- 01, Model
unfoldable pub every_wholes : ℕ → List Wholes
every_wholes zero = []
every_wholes (suc n) = only Grammar.last_whole ∗ every_whole or only Grammar.next_whole ∗ every_whole ∗ every_wholes n

-- 01, Model
unfoldable pub every_starts : ℕ → List Starts
every_starts n = only Grammar.no_starts or only Grammar.starts ∗ every_wholes n

-- 01, Model
unfoldable pub every_start : ℕ → List Start
every_start n = only Grammar.once ∗ every_starts n or only Grammar.counted ∗ every_starts n

-- 01, Model
unfoldable pub every_system : ℕ → List System
every_system zero = []
every_system (suc n) = only Grammar.last_start ∗ every_start n or only Grammar.next_start ∗ every_start n ∗ every_system n

-- 01, Model
unfoldable pub every_definitions : ℕ → List Definitions
every_definitions zero = []
every_definitions (suc n) = only Grammar.last_definition ∗ every_params n ∗ every_body n ∗ every_system n or only Grammar.next_definition ∗ every_params n ∗ every_body n ∗ every_definitions n

-- 01, Model
unfoldable pub every_model : ℕ → List Model
every_model zero = []
every_model (suc n) = only Grammar.variable ∗ every_number ∗ every_model n or only Grammar.definitions ∗ every_definitions n
