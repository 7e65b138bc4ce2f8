-- Walking what stands in one scope, expressions, sets, conditions, rates, values and arguments, resolves it: a clause for each constructor. From the forms of a tree, and from names that are given.
use mathlib.Core.Path.{◌≡◌, refl, ap, ◌∙◌}
use mathlib.Core.List.Memᴰ.{append_left as left}
use mathlib.Core.List.Memᴰ.{append_right as right}
use mathlib.Core.List.Memᴰ.{head}
use mathlib.Core.List.{List, [], Memᴰ as In}
use mathlib.Core.Bool.{Bool, true, false}
use Prim.Native.Nat.{ℕ, ◌+◌, ◌≤◌, ◌<◌}
use native.Mathlib.Omega.{arith}
use lib.IntN.{ℤ, nat_abs}
use lib.ListN.{length, get_or}
use Rattle.value.specs.Range.{InRange}
use Rattle.value.proofs.Bounds.{in_size}
use Rattle.grammar.specs.Grammar.{Relation, less, at_most, greater, at_least, same, differs}
use Rattle.grammar.specs.Syntax
use Rattle.grammar.specs.Syntax.{Op, plus, minus, times, divide, maximum, minimum, Join, without, union, inter}
use Rattle.tree.specs.Node as node
use Rattle.tree.specs.Node.{field, cell, kind_of, token_of, left_of, third_of, op_kind, join_kind, relation_kind, test_kind, number_kind}
use Rattle.tree.specs.Table
use Rattle.tree.specs.Table.{Node, Leaf, One, Two}
use Rattle.tree.proofs.Cells.{kind-of, token-of}
use Rattle.tree.proofs.Holds.{expr-interval, exprs-interval, set-interval, cond-interval}
use Rattle.model.specs.Sites.{Scope, whole, value, scale, expr_sites, exprs_sites, set_sites, cond_sites, scale_sites, rate_sites, values_sites, sets_sites, Variable, Definition}
use Rattle.model.specs.Words.{whole_of, decimal_of}
use Rattle.model.specs.Limits.{local_limit}
use Rattle.model.specs.Given.{Meaning, local, variable, nothing, is_value, is_given, meaning}
use Rattle.model.specs.Good.{GoodExpr, GoodScale, GoodRate}
use Rattle.model.specs.Resolved
use Rattle.model.specs.Resolved.{is_channel_name, list_of, number_value, number_scale, value_named, scale_named, resolve_expr, resolve_set, resolve_cond, resolve_scale, resolve_rate, resolve_values, resolve_sets}
use Rattle.model.proofs.Members.{not-both}
use Rattle.model.specs.Faultless.{AllFine, FineNumber, scale_of}
use Rattle.model.proofs.Resolves.{expr-good, rate-good}
use Rattle.tables.specs.Settled as settled
use Rattle.tables.specs.Settled.{offset, number_cell, Number, Index, Pair, Over, OneOrTwo, Arguments}
use Rattle.settle.specs.Walks.{Role, role_of, role_at, Point, value_cell, scale_cell, name_cell, cell_by, step_by, step, NumberSafe, SafeBy}
use Rattle.settle.specs.Walks as role
use Rattle.settle.proofs.Moves.{Keeps, plain-does, leaf, one, two}

-- ---- kinds at which nothing changes

pub op-plain : (o : Op) → (op_kind o < 256) × (role_of (op_kind o) ≡ role.plain)
unfolding op_kind role_of number_kind
op-plain plus = (omega arith, refl)
op-plain minus = (omega arith, refl)
op-plain times = (omega arith, refl)
op-plain divide = (omega arith, refl)
op-plain maximum = (omega arith, refl)
op-plain minimum = (omega arith, refl)

pub join-plain : (j : Join) → (join_kind j < 256) × (role_of (join_kind j) ≡ role.plain)
unfolding join_kind role_of number_kind
join-plain without = (omega arith, refl)
join-plain union = (omega arith, refl)
join-plain inter = (omega arith, refl)

pub test_plain : (b : Bool) (r : Relation) → (test_kind b r < 256) × (role_of (test_kind b r) ≡ role.plain)
unfolding test_kind relation_kind role_of number_kind
test_plain false less = (omega arith, refl)
test_plain false at_most = (omega arith, refl)
test_plain false greater = (omega arith, refl)
test_plain false at_least = (omega arith, refl)
test_plain false same = (omega arith, refl)
test_plain false differs = (omega arith, refl)
test_plain true less = (omega arith, refl)
test_plain true at_most = (omega arith, refl)
test_plain true greater = (omega arith, refl)
test_plain true at_least = (omega arith, refl)
test_plain true same = (omega arith, refl)
test_plain true differs = (omega arith, refl)

-- ---- cells of numbers and locals

pub number-of : {t : List ℕ} (κ : ℕ) (z : ℤ) (k : ℕ) → nat_abs z < offset → get_or t k 0 ≡ number_cell κ z → Number t κ z k
number-of κ z k l e = record { cell-is = e; fits = l }

pub index_of : {t : List ℕ} (κ n k : ℕ) → κ < 256 → n < field → get_or t k 0 ≡ cell κ n 0 0 → Index t κ n k
index_of κ n k h l e =
    let z : 0 < field = omega arith in
    record { kind-is = ap kind_of e ∙ kind-of h l z z; index_is = ap token_of e ∙ token-of h l z z }

pub range-fits : (z : ℤ) → InRange z → nat_abs z < offset
range-fits z h = omega (arith, in_size z h)

-- a name that has a value is no channel name
pub value-no-channel : (m : Meaning) → is_value m ≡ true → is_channel_name m ≡ false
unfolding is_value is_channel_name
value-no-channel (local i) e = refl
value-no-channel (variable (Syntax.number b false k)) e = refl
value-no-channel (variable (Syntax.number b true k)) e = not-both e refl
value-no-channel nothing e = not-both e refl

value-given : (m : Meaning) → is_value m ≡ true → is_given m ≡ true
unfolding is_value is_given
value-given (local i) e = refl
value-given (variable s) e = refl
value-given nothing e = not-both e refl

module _ (w : ℕ → List ℕ) (vs : List Variable) (ds : List Definition) (cs : List ℕ) (told : ℕ → Type 0) (t t' roots scopes : List ℕ) (trace : ℕ → Point) (first last : ℕ)
    (steps : (i : ℕ) → first ≤ i → i < last → trace (i + 1) ≡ step w vs ds t i (trace i)) (numbers : (v : Variable) → In v vs → FineNumber w vs ds cs v.number) where
  -- a value that a name stands for
  pub value-holds : (n seen : List ℕ) (m : Meaning) (k : ℕ) → is_value m ≡ true → length n ≤ local_limit → GoodExpr (length n) (value_named w vs ds cs m) → get_or t' k 0 ≡ value_cell (value_named w vs ds seen m) → settled.Expr t' (value_named w vs ds cs m) k
  unfolding is_value GoodExpr value_named number_value value_cell settled.Expr
  value-holds n seen (local i) k e l g c = index_of node.named i k (omega arith) (omega arith) c
  value-holds n seen (variable (Syntax.number b false j)) k e l g c = number-of node.literal (whole_of w b j) k (range-fits (whole_of w b j) g) c
  value-holds n seen (variable (Syntax.number b true j)) k e l g c = not-both e refl
  value-holds n seen nothing k e l g c = not-both e refl

  -- sc: the locals in scope; where the walk has more of them, those are not named here
  module _ (sc : Scope) (p : Point) (few : length sc ≤ local_limit) (alike : (k : ℕ) → is_given (meaning w vs sc k) ≡ true → meaning w vs p.scope k ≡ meaning w vs sc k) where
    abbrev pub Stays : (ℕ → ℕ → Type 0) → (ℕ → Type 0) → Type 0
    Stays P Q = Keeps w vs ds cs told t t' roots scopes trace first last p P Q

    -- ---- forms

    pub stays-leaf : {κ token : ℕ} {Q : ℕ → Type 0} (r : Role) → κ < 256 → role_of κ ≡ r → (r ≡ role.sum → ⊥) → (r ≡ role.ending → ⊥) → ((c b : ℕ) → token_of c ≡ token → step_by w vs ds r c b p ≡ p)
        → ((c b : ℕ) → token_of c ≡ token → SafeBy w vs told r c b p) → ((k c : ℕ) → token_of c ≡ token → get_or t' k 0 ≡ cell_by w vs ds r c p → Q k) → Stays (Leaf t κ token) Q
    stays-leaf r l e other never s safe q a =
        leaf w vs ds cs told t t' roots scopes trace first last steps r l e other never (λ c b n z. s c b n) (λ c b n z. safe c b n) (λ k c κ n z u v x y o. q k c n o) a

    stays-one : {κ token third : ℕ} {P : ℕ → ℕ → Type 0} {Q : ℕ → Type 0} → κ < 256 → role_of κ ≡ role.plain → Stays P Q → Stays (One t κ token third P) (Over t' κ Q)
    stays-one l e f a = one w vs ds cs told t t' roots scopes trace first last steps l (λ k n. plain-does w vs ds cs told t t' roots scopes trace first last steps l e n) (f a)

    pub stays_two : {κ token third : ℕ} {P Q : ℕ → ℕ → Type 0} {P' Q' : ℕ → Type 0} → κ < 256 → role_of κ ≡ role.plain → ((lo k : ℕ) → Q lo k → lo ≤ k) → Stays P P' → Stays Q Q' → Stays (Two t κ token third P Q) (Pair t' κ P' Q')
    stays_two l e low f g a = two w vs ds cs told t t' roots scopes trace first last steps l (λ lo left k h u v n. plain-does w vs ds cs told t t' roots scopes trace first last steps l e n) low (f a) (g (a + 0))

    -- ---- leaves

    literal-stays : (b : Bool) (κ k : ℕ) → κ < 256 → role_of κ ≡ role.whole b → InRange (whole_of w b k) → Stays (Leaf t κ k) (settled.Expr t' (Resolved.constant (whole_of w b k)))
    unfolding step_by cell_by settled.Expr
    literal-stays b κ k l e f =
        stays-leaf (role.whole b) l e (λ x. absurd (let z : ◌≡◌ {A = ℕ} 0 1 = cc in omega arith)) (λ x. absurd (let z : ◌≡◌ {A = ℕ} 0 1 = cc in omega arith)) (λ c q n. refl) (λ c q n. rw n f)
        (λ i c n x. number-of node.literal (whole_of w b k) i (range-fits (whole_of w b k) f) (x ∙ ap (λ (j : ℕ). number_cell node.literal (whole_of w b j)) n))

    named-stays : (k : ℕ) → is_value (meaning w vs sc k) ≡ true → GoodExpr (length sc) (value_named w vs ds cs (meaning w vs sc k)) → Stays (Leaf t node.named k) (settled.Expr t' (value_named w vs ds cs (meaning w vs sc k)))
    unfolding role_of number_kind step_by cell_by name_cell
    named-stays k v g =
        let e = alike k (value-given (meaning w vs sc k) v) in
        let no = value-no-channel (meaning w vs sc k) v in
        stays-leaf role.name (omega arith) refl (λ x. absurd (let z : ◌≡◌ {A = ℕ} 0 1 = cc in omega arith)) (λ x. absurd (let z : ◌≡◌ {A = ℕ} 0 1 = cc in omega arith)) (λ c q n. rw (n, e, no)) (λ c q n. tt)
        (λ i c n x. value-holds sc p.seen (meaning w vs sc k) i v few g (rw (n, e, no) at x))

    fixed-stays : (b d : Bool) (k : ℕ) → role_of (number_kind b d) ≡ role.number b d → number_kind b d < 256 → NumberSafe w told (Syntax.number b d k) → GoodScale (length sc) (Resolved.fixed (number_scale w vs ds cs (Syntax.number b d k))) → Stays (Leaf t (number_kind b d) k) (settled.Scale t' (Resolved.fixed (number_scale w vs ds cs (Syntax.number b d k))))
    unfolding step_by cell_by scale_cell settled.Scale resolve_scale GoodScale number_kind number_scale
    fixed-stays b true k e l f g =
        stays-leaf (role.number b true) l e (λ x. absurd (let z : ◌≡◌ {A = ℕ} 0 1 = cc in omega arith)) (λ x. absurd (let z : ◌≡◌ {A = ℕ} 0 1 = cc in omega arith)) (λ c q n. refl) (λ c q n. rw n f)
        (λ i c n x. number-of 29 (decimal_of w b k) i (omega (arith, g)) (x ∙ ap (λ (j : ℕ). number_cell 29 (decimal_of w b j)) n))
    fixed-stays b false k e l f g =
        stays-leaf (role.number b false) l e (λ x. absurd (let z : ◌≡◌ {A = ℕ} 0 1 = cc in omega arith)) (λ x. absurd (let z : ◌≡◌ {A = ℕ} 0 1 = cc in omega arith)) (λ c q n. refl) (λ c q n. rw n f)
        (λ i c n x. number-of 29 (number_scale w vs ds cs (Syntax.number b false k)) i (omega (arith, g)) (x ∙ ap (λ (j : ℕ). number_cell 29 (number_scale w vs ds cs (Syntax.number b false j))) n))

    scale-holds : (m : Meaning) (k : ℕ) → is_given m ≡ true → GoodScale (length sc) (scale_named w vs ds cs m) → get_or t' k 0 ≡ scale_cell (scale_named w vs ds [] m) → settled.Scale t' (scale_named w vs ds cs m) k
    unfolding is_given GoodScale scale_named number_scale scale_cell settled.Scale number_kind
    scale-holds (local i) k e g c = index_of node.scale_name i k (omega arith) (omega arith) c
    scale-holds (variable (Syntax.number b false j)) k e g c = number-of 29 (number_scale w vs ds cs (Syntax.number b false j)) k (omega (arith, g)) c
    scale-holds (variable (Syntax.number b true j)) k e g c = number-of 29 (decimal_of w b j) k (omega (arith, g)) c
    scale-holds nothing k e g c = not-both e refl

    scale-named-stays : (k : ℕ) → is_given (meaning w vs sc k) ≡ true → GoodScale (length sc) (scale_named w vs ds cs (meaning w vs sc k)) → Stays (Leaf t node.scale_name k) (settled.Scale t' (scale_named w vs ds cs (meaning w vs sc k)))
    unfolding role_of number_kind step_by cell_by
    scale-named-stays k v g =
        stays-leaf role.scale (omega arith) refl (λ x. absurd (let z : ◌≡◌ {A = ℕ} 0 1 = cc in omega arith)) (λ x. absurd (let z : ◌≡◌ {A = ℕ} 0 1 = cc in omega arith)) (λ c q n. refl) (λ c q n. rw (n, alike k v) v)
        (λ i c n x. scale-holds (meaning w vs sc k) i v g (rw (n, alike k v) at x))

    -- ---- the sorts of trees

    pub expr-stays : (e : Syntax.Expr) → AllFine w vs ds cs sc (expr_sites e) → Stays (Table.Expr t e) (settled.Expr t' (resolve_expr w vs ds cs sc e))
    unfolding Table.Expr expr_sites resolve_expr settled.Expr role_of number_kind
    expr-stays (Syntax.literal false n) h = literal-stays false node.literal n (omega arith) refl (h (whole false n) (head refl))
    expr-stays (Syntax.literal true n) h = literal-stays true node.negative n (omega arith) refl (h (whole true n) (head refl))
    expr-stays (Syntax.named n) h = named-stays n (h (value n) (head refl)) (expr-good w vs ds cs numbers sc (Syntax.named n) h)
    expr-stays (Syntax.absolute e) h = stays-one (omega arith) refl (expr-stays e h)
    expr-stays (Syntax.binary o e f) h =
        stays_two (op-plain o).0 (op-plain o).1 (λ lo k x. (expr-interval f).low x) (expr-stays e (λ x i. h x (left (expr_sites f) i))) (expr-stays f (λ x i. h x (right (expr_sites e) i)))

    pub exprs-stays : (r : Syntax.Exprs) → AllFine w vs ds cs sc (exprs_sites r) → Stays (Table.Exprs t r) (Arguments t' (list_of (resolve_expr w vs ds cs sc) r))
    unfolding Table.Exprs exprs_sites list_of Arguments role_of number_kind
    exprs-stays (Syntax.last_expr e) h = expr-stays e h
    exprs-stays (Syntax.next_expr e (Syntax.last_expr f)) h =
        stays_two (omega arith) refl (λ lo k x. (expr-interval f).low x) (expr-stays e (λ x i. h x (left (expr_sites f) i))) (expr-stays f (λ x i. h x (right (expr_sites e) i)))
    exprs-stays (Syntax.next_expr e (Syntax.next_expr f r)) h =
        stays_two (omega arith) refl (λ lo k x. (exprs-interval (Syntax.next_expr f r)).low x) (expr-stays e (λ x i. h x (left (exprs_sites (Syntax.next_expr f r)) i))) (exprs-stays (Syntax.next_expr f r) (λ x i. h x (right (expr_sites e) i)))

    pub set-stays : (s : Syntax.Set) → AllFine w vs ds cs sc (set_sites s) → Stays (Table.Set t s) (settled.Set t' (resolve_set w vs ds cs sc s))
    unfolding Table.Set set_sites resolve_set settled.Set role_of number_kind
    set-stays (Syntax.single e) h = expr-stays e h
    set-stays (Syntax.range e f) h = stays_two (omega arith) refl (λ lo k x. (expr-interval f).low x) (expr-stays e (λ x i. h x (left (expr_sites f) i))) (expr-stays f (λ x i. h x (right (expr_sites e) i)))
    set-stays (Syntax.joined j s r) h =
        stays_two (join-plain j).0 (join-plain j).1 (λ lo k x. (set-interval r).low x) (set-stays s (λ x i. h x (left (set_sites r) i))) (set-stays r (λ x i. h x (right (set_sites s) i)))

    pub cond-stays : (c : Syntax.Cond) → AllFine w vs ds cs sc (cond_sites c) → Stays (Table.Cond t c) (settled.Cond t' (resolve_cond w vs ds cs sc c))
    unfolding Table.Cond cond_sites resolve_cond settled.Cond role_of number_kind
    cond-stays (Syntax.compare b r e f) h =
        stays_two (test_plain b r).0 (test_plain b r).1 (λ lo k x. (expr-interval f).low x) (expr-stays e (λ x i. h x (left (expr_sites f) i))) (expr-stays f (λ x i. h x (right (expr_sites e) i)))
    cond-stays (Syntax.both c d) h = stays_two (omega arith) refl (λ lo k x. (cond-interval d).low x) (cond-stays c (λ x i. h x (left (cond_sites d) i))) (cond-stays d (λ x i. h x (right (cond_sites c) i)))
    cond-stays (Syntax.either c d) h = stays_two (omega arith) refl (λ lo k x. (cond-interval d).low x) (cond-stays c (λ x i. h x (left (cond_sites d) i))) (cond-stays d (λ x i. h x (right (cond_sites c) i)))

    number-safe : (v : Syntax.Number) → FineNumber w vs ds cs v → ((b : Bool) (j : ℕ) → v ≡ Syntax.number b true j → told j) → NumberSafe w told v
    number-safe (Syntax.number b false n) f g = f
    number-safe (Syntax.number b true n) f g = (f, g b n refl)

    number-stays : (v : Syntax.Number) → NumberSafe w told v → GoodScale (length sc) (Resolved.fixed (number_scale w vs ds cs v)) → Stays (Table.Number t v) (settled.Scale t' (Resolved.fixed (number_scale w vs ds cs v)))
    unfolding Table.Number role_of number_kind
    number-stays (Syntax.number false false n) f g = fixed-stays false false n refl (omega arith) f g
    number-stays (Syntax.number true false n) f g = fixed-stays true false n refl (omega arith) f g
    number-stays (Syntax.number false true n) f g = fixed-stays false true n refl (omega arith) f g
    number-stays (Syntax.number true true n) f g = fixed-stays true true n refl (omega arith) f g

    scale-stays : (s : Syntax.Scale) → ((v : Syntax.Number) → s ≡ Syntax.fixed v → NumberSafe w told v) → AllFine w vs ds cs sc (scale_sites s) → GoodScale (length sc) (resolve_scale w vs ds cs sc s) → Stays (Table.Scale t s) (settled.Scale t' (resolve_scale w vs ds cs sc s))
    unfolding Table.Scale scale_sites resolve_scale
    scale-stays (Syntax.fixed v) f h g = number-stays v (f v refl) g
    scale-stays (Syntax.named_scale n) f h g = scale-named-stays n (h (scale n) (head refl)) g

    pub rate-stays : (r : Syntax.Rate) → ((v : Syntax.Number) → scale_of r ≡ Syntax.fixed v → FineNumber w vs ds cs v) → ((b : Bool) (j : ℕ) → scale_of r ≡ Syntax.fixed (Syntax.number b true j) → told j) → AllFine w vs ds cs sc (rate_sites r) → Stays (Table.Rate t r) (settled.Rate t' (resolve_rate w vs ds cs sc r))
    unfolding Table.Rate rate_sites resolve_rate settled.Rate role_of number_kind GoodRate
    rate-stays (Syntax.plain s) f d h = scale-stays s (λ v q. number-safe v (f v q) (λ b j e. d b j (q ∙ ap Syntax.fixed e))) h (rate-good w vs ds cs numbers sc (Syntax.plain s) f h)
    rate-stays (Syntax.scaled s e) f d h =
        stays_two (omega arith) refl (λ lo k x. (expr-interval e).low x) (scale-stays s (λ v q. number-safe v (f v q) (λ b j x. d b j (q ∙ ap Syntax.fixed x))) (λ x i. h x (left (expr_sites e) i)) (rate-good w vs ds cs numbers sc (Syntax.scaled s e) f h).0) (expr-stays e (λ x i. h x (right (scale_sites s) i)))

    pub values-stays : (v : Syntax.Values) → AllFine w vs ds cs sc (values_sites v) → Stays (Table.Values t v) (OneOrTwo t' (settled.Expr t') (resolve_values w vs ds cs sc v))
    unfolding Table.Values values_sites resolve_values OneOrTwo role_of number_kind
    values-stays (Syntax.one_value e) h = expr-stays e h
    values-stays (Syntax.two_values e f) h = stays_two (omega arith) refl (λ lo k x. (expr-interval f).low x) (expr-stays e (λ x i. h x (left (expr_sites f) i))) (expr-stays f (λ x i. h x (right (expr_sites e) i)))

    pub sets-stays : (s : Syntax.Sets) → AllFine w vs ds cs sc (sets_sites s) → Stays (Table.Sets t s) (OneOrTwo t' (settled.Set t') (resolve_sets w vs ds cs sc s))
    unfolding Table.Sets sets_sites resolve_sets OneOrTwo role_of number_kind
    sets-stays (Syntax.one_set s) h = set-stays s h
    sets-stays (Syntax.two_sets s r) h = stays_two (omega arith) refl (λ lo k x. (set-interval r).low x) (set-stays s (λ x i. h x (left (set_sites r) i))) (set-stays r (λ x i. h x (right (set_sites s) i)))
