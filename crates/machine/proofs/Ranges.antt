-- In a good model, and with locals in range, what a part comes to lies in its range: values, channels, ends of sets, rates. By induction on the parts.
use mathlib.Core.Path.{◌≡◌, refl, subst}
use mathlib.Core.List.{List, [], ◌∷◌}
use mathlib.Core.Bool.{Bool, true, false, cond}
use mathlib.Core.Option.{Option, none, some}
use Prim.Native.Nat.{ℕ, ◌≤◌}
use native.Mathlib.Omega.{arith}
use borrow.Author.Tests.{leb-true}
use lib.Dec.{leb}
use lib.IntN.{ℤ, pos, negsuc}
use lib.ListN.{length, get_or}
use Rattle.std.specs.Prelude.{Some}
use Rattle.value.specs.Range.{InRange}
use Rattle.value.specs.Arithmetic.{sum_of, difference_of, product_of, abs_of, max_of, min_of}
use Rattle.value.proofs.Results.{value-good as result-good, quotient-good, abs-good, either-good}
use Rattle.grammar.specs.Syntax.{Op, plus, minus, times, divide, maximum, minimum, Join, without, union, inter}
use Rattle.value.specs.Items.{one_item, two_items, three_items}
use Rattle.model.specs.Resolved
use Rattle.model.specs.Good as Good
use Rattle.rules.specs.Offers as offers
use Rattle.machine.specs.Evaluate.{given, apply, eval_expr, joined, eval_set, rate_limit, in_rate, eval_scale, eval_rate, eval_item, eval_channel, eval_all, eval_value, eval_pair, eval_query, eval_action, eval_branch}
use Rattle.model.specs.Good.{Every, OneOrTwo, GoodExpr, GoodSet, GoodName, GoodValues, GoodSets, GoodAction, GoodBranch}
use Rattle.machine.specs.State.{GoodItem, GoodChannel, GoodPair}
use Rattle.machine.proofs.Branches.{none-not-some}
use Rattle.machine.proofs.Parts.{with-is, valued-is, given_is, some_is, all-length}
use Rattle.machine.proofs.Offering.{Comes, bare, opened, shut, comes}
use Rattle.machine.proofs.Everys.{every_get}

-- ---- rates
pub in-rate : (z : ℤ) (n : ℕ) → in_rate z ≡ some n → n ≤ rate_limit
unfolding in_rate
in-rate (negsuc k) n e = none-not-some none n refl e
in-rate (pos k) n e = go (leb k rate_limit) refl e
  where
    go : (b : Bool) → leb k rate_limit ≡ b → cond b (some k) none ≡ some n → n ≤ rate_limit
    go true q e = omega (arith, leb-true k rate_limit q, some_is k n e)
    go false q e = none-not-some none n refl e

pub scale-good : (ls : List ℤ) (s : Resolved.Scale) (n : ℕ) → eval_scale ls s ≡ some n → n ≤ rate_limit
unfolding eval_scale
scale-good ls (Resolved.fixed z) n e = in-rate _ n e
scale-good ls (Resolved.scale_local i) n e = in-rate _ n e

pub rate-good : (ls : List ℤ) (r : Resolved.Rate) (n : ℕ) → eval_rate ls r ≡ some n → n ≤ rate_limit
unfolding eval_rate
rate-good ls (Resolved.plain s) n e = scale-good ls s n e
rate-good ls (Resolved.scaled s e) n q =
    let g = given_is (eval_scale ls s) _ n q in
    let v = valued-is (eval_expr ls e) _ n g.rest in
    in-rate _ n v.rest

-- ---- expressions
-- whichever operator it is: a result is decided by its range, or is one of the two
apply-good : (o : Op) (x y z : ℤ) → InRange x → InRange y → apply o x y ≡ Some z → InRange z
unfolding apply sum_of difference_of product_of max_of min_of
apply-good plus x y z h k e = result-good _ z e
apply-good minus x y z h k e = result-good _ z e
apply-good times x y z h k e = result-good _ z e
apply-good divide x y z h k e = quotient-good x y z e
apply-good maximum x y z h k e = either-good _ x y z h k e
apply-good minimum x y z h k e = either-good _ x y z h k e

pub zero-good : InRange (pos 0)
zero-good = record { low = refl; high = refl }

-- both ends of every range that a set is made of
unfoldable pub EndsInRange : offers.Set → Type 0
EndsInRange (offers.range x y) = InRange x × InRange y
EndsInRange (offers.without s r) = EndsInRange s × EndsInRange r
EndsInRange (offers.union s r) = EndsInRange s × EndsInRange r
EndsInRange (offers.inter s r) = EndsInRange s × EndsInRange r

joined-good : (j : Join) (x y : offers.Set) → EndsInRange x → EndsInRange y → EndsInRange (joined j x y)
unfolding joined EndsInRange
joined-good without x y h k = (h, k)
joined-good union x y h k = (h, k)
joined-good inter x y h k = (h, k)

module _ (ls : List ℤ) (r : Every InRange ls) (n : ℕ) where
  pub expr-good : (e : Resolved.Expr) (z : ℤ) → GoodExpr n e → eval_expr ls e ≡ Some z → InRange z
  unfolding eval_expr GoodExpr
  expr-good (Resolved.constant y) z g q = let p : y ≡ z = cc in rw p at g
  expr-good (Resolved.local_at i) z g q = let p : get_or ls i (pos 0) ≡ z = cc in rw p at (every_get InRange (pos 0) zero-good ls i r)
  expr-good (Resolved.absolute e) z g q = let v = with-is (eval_expr ls e) abs_of z q in abs-good v.part z v.rest
  expr-good (Resolved.binary o e f) z g q =
      let v = with-is (eval_expr ls e) _ z q in
      let u = with-is (eval_expr ls f) _ z v.rest in
      apply-good o v.part u.part z (expr-good e v.part g.0 v.is) (expr-good f u.part g.1 u.is) u.rest

  pub set-good : (s : Resolved.Set) (x : offers.Set) → GoodSet n s → eval_set ls s ≡ some x → EndsInRange x
  unfolding eval_set GoodSet EndsInRange
  set-good (Resolved.single e) x g q =
      let v = valued-is (eval_expr ls e) _ x q in
      let h = expr-good e v.part g v.is in
      let p = some_is _ x v.rest in
      subst EndsInRange p (h, h)
  set-good (Resolved.range e f) x g q =
      let v = valued-is (eval_expr ls e) _ x q in
      let u = valued-is (eval_expr ls f) _ x v.rest in
      let p = some_is _ x u.rest in
      subst EndsInRange p (expr-good e v.part g.0 v.is, expr-good f u.part g.1 u.is)
  set-good (Resolved.joined j s t) x g q =
      let v = given_is (eval_set ls s) _ x q in
      let u = given_is (eval_set ls t) _ x v.rest in
      let p = some_is _ x u.rest in
      subst EndsInRange p (joined-good j v.part u.part (set-good s v.part g.0 v.is) (set-good t u.part g.1 u.is))

-- ---- lists
module _ {A B : Type 0} (f : A → Option B) where
  pub all-good : (P : A → Type 0) (Q : B → Type 0) → ((x : A) (y : B) → P x → f x ≡ some y → Q y) → (xs : List A) (ys : List B) → Every P xs → eval_all f xs ≡ some ys → Every Q ys
  unfolding eval_all Every
  all-good P Q h [] ys g e = subst (Every Q) (some_is _ ys e) tt
  all-good P Q h (x ∷ xs) ys g e =
      let v = given_is (f x) _ ys e in
      let u = given_is (eval_all f xs) _ ys v.rest in
      subst (Every Q) (some_is _ ys u.rest) (h x v.part g.0 v.is, all-good P Q h xs u.part g.1 u.is)

one-or-two : {A B : Type 0} (xs : List A) (ys : List B) → length ys ≡ length xs → OneOrTwo xs → OneOrTwo ys
one-or-two xs ys e h = record { one = omega arith; two = omega arith }

-- ---- actions

-- 01, Values: what a receive or a check asks for
pub record GoodQuery (m : Resolved.Model) (w : offers.Query) : Type 0 where
  pub channel : GoodChannel m w.channel
  pub number : OneOrTwo w.sets
  pub ends : Every EndsInRange w.sets

unfoldable pub GoodOffer : Resolved.Model → offers.Action → Type 0
GoodOffer m offers.wait = Unit {0}
GoodOffer m (offers.launch x) = GoodPair m x
GoodOffer m (offers.kill x) = GoodPair m x
GoodOffer m (offers.receive w) = GoodQuery m w
GoodOffer m (offers.bind w) = GoodQuery m w
GoodOffer m (offers.check w) = GoodQuery m w
GoodOffer m (offers.send x) = GoodPair m x
GoodOffer m (offers.take w) = GoodQuery m w
GoodOffer m (offers.take_bind w) = GoodQuery m w

module _ (m : Resolved.Model) (ls : List ℤ) (r : Every InRange ls) (n : ℕ) where
  item-good : (c : Resolved.Item) (x : offers.Item) → Good.GoodItem m n c → eval_item ls c ≡ some x → GoodItem m x
  unfolding eval_item Good.GoodItem GoodItem
  item-good (Resolved.number e) x g q =
      let v = valued-is (eval_expr ls e) _ x q in
      subst (GoodItem m) (some_is _ x v.rest) (expr-good ls r n e v.part g v.is)
  item-good (Resolved.name k) x g q = subst (GoodItem m) (some_is _ x q) g

  pub channel-good : (c : Resolved.Channel) (x : offers.Channel) → GoodName m n c → eval_channel ls c ≡ some x → GoodChannel m x
  unfolding eval_channel GoodName GoodChannel
  channel-good (one_item a) x g q =
      let v = given_is (eval_item ls a) _ x q in
      subst (GoodChannel m) (some_is _ x v.rest) (item-good a v.part g v.is)
  channel-good (two_items a b) x g q =
      let v = given_is (eval_item ls a) _ x q in
      let u = given_is (eval_item ls b) _ x v.rest in
      subst (GoodChannel m) (some_is _ x u.rest) (item-good a v.part g.0 v.is, item-good b u.part g.1 u.is)
  channel-good (three_items a b c) x g q =
      let v = given_is (eval_item ls a) _ x q in
      let u = given_is (eval_item ls b) _ x v.rest in
      let t = given_is (eval_item ls c) _ x u.rest in
      subst (GoodChannel m) (some_is _ x t.rest) (item-good a v.part g.0 v.is, item-good b u.part g.1 u.is, item-good c t.part g.2 t.is)

  value-good : (e : Resolved.Expr) (z : ℤ) → GoodExpr n e → eval_value ls e ≡ some z → InRange z
  unfolding eval_value
  value-good e z g q =
      let v = valued-is (eval_expr ls e) some z q in
      expr-good ls r n e z g (subst (λ (y : ℤ). eval_expr ls e ≡ Some y) (some_is _ z v.rest) v.is)

  pub pair-good : (c : Resolved.Channel) (es : List Resolved.Expr) (x : offers.Pair) → GoodValues m n c es → eval_pair ls c es ≡ some x → GoodPair m x
  unfolding eval_pair
  pair-good c es x g q =
      let v = given_is (eval_channel ls c) _ x q in
      let u = given_is (eval_all (eval_value ls) es) _ x v.rest in
      subst (GoodPair m) (some_is _ x u.rest)
      (record {
        channel = channel-good c v.part g.channel v.is;
        number = one-or-two es u.part (all-length (eval_value ls) es u.part u.is) g.number;
        values = all-good (eval_value ls) (GoodExpr n) InRange value-good es u.part g.values u.is;
      })

  pub query-good : (c : Resolved.Channel) (ss : List Resolved.Set) (w : offers.Query) → GoodSets m n c ss → eval_query ls c ss ≡ some w → GoodQuery m w
  unfolding eval_query
  query-good c ss w g q =
      let v = given_is (eval_channel ls c) _ w q in
      let u = given_is (eval_all (eval_set ls) ss) _ w v.rest in
      subst (GoodQuery m) (some_is _ w u.rest)
      (record {
        channel = channel-good c v.part g.channel v.is;
        number = one-or-two ss u.part (all-length (eval_set ls) ss u.part u.is) g.number;
        ends = all-good (eval_set ls) (GoodSet n) EndsInRange (set-good ls r n) ss u.part g.sets u.is;
      })

  -- an action that some pair leads to
  paired : (f : offers.Pair → offers.Action) → ((x : offers.Pair) → GoodPair m x → GoodOffer m (f x))
      → (c : Resolved.Channel) (es : List Resolved.Expr) (a : offers.Action) → GoodValues m n c es → given (eval_pair ls c es) (λ x. some (f x)) ≡ some a → GoodOffer m a
  paired f h c es a g q =
      let v = given_is (eval_pair ls c es) _ a q in
      subst (GoodOffer m) (some_is _ a v.rest) (h v.part (pair-good c es v.part g v.is))

  queried : (f : offers.Query → offers.Action) → ((w : offers.Query) → GoodQuery m w → GoodOffer m (f w))
      → (c : Resolved.Channel) (ss : List Resolved.Set) (a : offers.Action) → GoodSets m n c ss → given (eval_query ls c ss) (λ w. some (f w)) ≡ some a → GoodOffer m a
  queried f h c ss a g q =
      let v = given_is (eval_query ls c ss) _ a q in
      subst (GoodOffer m) (some_is _ a v.rest) (h v.part (query-good c ss v.part g v.is))

  pub action-good : (b : Resolved.Action) (a : offers.Action) → GoodAction m n b → eval_action ls b ≡ some a → GoodOffer m a
  unfolding eval_action GoodAction GoodOffer
  action-good (Resolved.wait k) a g q = subst (GoodOffer m) (some_is _ a q) tt
  action-good (Resolved.launch c v) a g q = paired offers.launch (λ x h. h) c v a g q
  action-good (Resolved.kill c v) a g q = paired offers.kill (λ x h. h) c v a g q
  action-good (Resolved.receive c s) a g q = queried offers.receive (λ x h. h) c s a g q
  action-good (Resolved.bind c s) a g q = queried offers.bind (λ x h. h) c s a g q
  action-good (Resolved.check c s) a g q = queried offers.check (λ x h. h) c s a g q
  action-good (Resolved.hand_send c v) a g q = paired offers.send (λ x h. h) c v a g q
  action-good (Resolved.hand_receive c s) a g q = queried offers.take (λ x h. h) c s a g q
  action-good (Resolved.hand_bind c s) a g q = queried offers.take_bind (λ x h. h) c s a g q

-- ---- branches

-- 01, Values: an action whose parts are in range, and a rate at most the largest
unfoldable pub GoodGuard : Resolved.Model → offers.Guard → Type 0
GoodGuard m (offers.bare a r) = GoodOffer m a × (r ≤ rate_limit)
GoodGuard m (offers.opened a r) = GoodOffer m a × (r ≤ rate_limit)
GoodGuard m offers.shut = Unit {0}

-- in a good branch of a good model
pub branch-good : (m : Resolved.Model) (ls : List ℤ) → Every InRange ls → (b : Resolved.Branch) → GoodBranch m (length ls) b → (g : offers.Guard) → eval_branch ls b ≡ some g → GoodGuard m g
unfolding GoodGuard
branch-good m ls r b h g e = go (comes ls b g e)
  where
    go : {g : offers.Guard} → Comes ls b g → GoodGuard m g
    go (bare {a = a} {r = n} p q) = (action-good m ls r (length ls) b.action a h.action q, rate-good ls b.rate n p)
    go (opened {a = a} {r = n} p q) = (action-good m ls r (length ls) b.action a h.action q, rate-good ls b.rate n p)
    go shut = tt
