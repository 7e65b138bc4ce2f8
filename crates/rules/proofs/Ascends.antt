-- The keys of a listing ascend strictly in 01's order: every part of the listing ascends, and what comes later has a later place, branch, pair or partner.
use Prim.Native.Nat.{ℕ, ◌<◌}
use mathlib.Core.Path.{◌≡◌}
use mathlib.Core.Bool.{true}
use mathlib.Core.List.Memᴰ
use mathlib.Core.List.{List, ◌∷◌, Memᴰ as In}
use borrow.Author.Tests.{lt-ltb}
use lib.IntN.{ℤ, pos}
use Rattle.rules.specs.Offers.{Pair, Query, Action, wait, launch, kill, receive, bind, check, send, take, take_bind, Guard, bare, opened, shut, Branch, State}
use Rattle.rules.specs.Order.{less, Ascending}
use Rattle.rules.specs.Kind as kind
use Rattle.rules.specs.Rules.{key}
use Rattle.rules.specs.Listing.{Entry, entry, key_of, gather, partner_action, partner, partners_in, of_action, of_guard, of_process, entries, rank, Earlier}
use Rattle.rules.proofs.Less.{less-first, less-rest}
use Rattle.rules.proofs.Gather.{gathered, when-out, unless-out, none-ascends, one-ascends, when-ascends, unless-ascends, ascends}
use Rattle.rules.proofs.Listed.{bindings, Source, single, double, source, Partner, fits, partner-of}

-- ---- keys
less-number : (m n : ℕ) (xs ys : List ℤ) → m < n → less (pos m ∷ xs) (pos n ∷ ys) ≡ true
less-number m n xs ys l = less-first (pos m) (pos n) xs ys (lt-ltb m n l)

-- an entry with this key
record Keyed (c i j k m q : ℕ) (e : Entry) : Type 0 where
  weight : ℕ
  is : e ≡ entry (key c i j k m q) weight

earlier : {c i j k m q c' i' j' k' m' q' : ℕ} {d e : Entry} → Keyed c i j k m q d → Keyed c' i' j' k' m' q' e
    → less (rank (key c i j k m q)) (rank (key c' i' j' k' m' q')) ≡ true → Earlier d e
unfolding key_of
earlier h h' b = rw (h.is, h'.is) b

later-place : {c i j k m q c' i' j' k' m' q' : ℕ} {d e : Entry} → Keyed c i j k m q d → Keyed c' i' j' k' m' q' e → i < i' → Earlier d e
unfolding rank
later-place h h' l = earlier h h' (less-number _ _ _ _ l)

later-branch : {c i j k m q c' j' k' m' q' : ℕ} {d e : Entry} → Keyed c i j k m q d → Keyed c' i j' k' m' q' e → j < j' → Earlier d e
unfolding rank
later-branch h h' l = earlier h h' (less-rest _ _ _ (less-number _ _ _ _ l))

later-pair : {c i j k m q c' k' m' q' : ℕ} {d e : Entry} → Keyed c i j k m q d → Keyed c' i j k' m' q' e → q < q' → Earlier d e
unfolding rank
later-pair h h' l = earlier h h' (less-rest _ _ _ (less-rest _ _ _ (less-number _ _ _ _ l)))

later-partner : {c i j k m q c' k' m' : ℕ} {d e : Entry} → Keyed c i j k m q d → Keyed c' i j k' m' q e → k < k' → Earlier d e
unfolding rank
later-partner h h' l = earlier h h' (less-rest _ _ _ (less-rest _ _ _ (less-rest _ _ _ (less-number _ _ _ _ l))))

later-partner-branch : {c i j k m q c' m' : ℕ} {d e : Entry} → Keyed c i j k m q d → Keyed c' i j k m' q e → m < m' → Earlier d e
unfolding rank
later-partner-branch h h' l = earlier h h' (less-rest _ _ _ (less-rest _ _ _ (less-rest _ _ _ (less-rest _ _ _ (less-number _ _ _ _ l)))))

-- an entry of branch j at place i
record Placed (i j : ℕ) (e : Entry) : Type 0 where
  c : ℕ
  k : ℕ
  m : ℕ
  q : ℕ
  keyed : Keyed c i j k m q e

module _ {Proc : Type 0} (branches : Proc → List (Branch Proc)) (s : State Proc) where
  -- ---- partners
  of-partner : {x : Pair} {r i j k m : ℕ} {g : Guard} {e : Entry} → Partner branches s x r i j k m g e → Keyed kind.handshake i j k m 0 e
  of-partner (fits a f q) = record { weight = _; is = q }

  at-partner : (x : Pair) (r i j k m : ℕ) (g : Guard) {e : Entry} → In e (partner x r i j k m g) → Keyed kind.handshake i j k m 0 e
  at-partner x r i j k m g h = of-partner (partner-of branches s x r i j k m g h)

  at-partners : (x : Pair) (r i j k : ℕ) (p : Proc) {e : Entry} → In e (partners_in branches x r i j k p) → (m : ℕ) × Keyed kind.handshake i j k m 0 e
  unfolding partners_in
  at-partners x r i j k p h =
      let v = gathered (λ (m : ℕ) (b : Branch Proc). partner x r i j k m b.guard) (branches p) (unless-out _ h).1 in
      (v.0, at-partner x r i j k v.0 v.1.guard v.3)

  partner_action-ascends : (x : Pair) (r i j k m r₂ : ℕ) (a : Action) → Ascending Earlier (partner_action x r i j k m r₂ a)
  unfolding partner_action
  partner_action-ascends x r i j k m r₂ (take w) = when-ascends Earlier _ _ (one-ascends Earlier _)
  partner_action-ascends x r i j k m r₂ (take_bind w) = when-ascends Earlier _ _ (one-ascends Earlier _)
  partner_action-ascends x r i j k m r₂ wait = none-ascends Earlier
  partner_action-ascends x r i j k m r₂ (launch y) = none-ascends Earlier
  partner_action-ascends x r i j k m r₂ (kill y) = none-ascends Earlier
  partner_action-ascends x r i j k m r₂ (receive w) = none-ascends Earlier
  partner_action-ascends x r i j k m r₂ (bind w) = none-ascends Earlier
  partner_action-ascends x r i j k m r₂ (check w) = none-ascends Earlier
  partner_action-ascends x r i j k m r₂ (send y) = none-ascends Earlier

  partner-ascends : (x : Pair) (r i j k m : ℕ) (g : Guard) → Ascending Earlier (partner x r i j k m g)
  unfolding partner
  partner-ascends x r i j k m (bare a r₂) = partner_action-ascends x r i j k m r₂ a
  partner-ascends x r i j k m (opened a r₂) = partner_action-ascends x r i j k m r₂ a
  partner-ascends x r i j k m shut = none-ascends Earlier

  partners_in-ascends : (x : Pair) (r i j k : ℕ) (p : Proc) → Ascending Earlier (partners_in branches x r i j k p)
  unfolding partners_in
  partners_in-ascends x r i j k p =
      unless-ascends Earlier _ _ (ascends Earlier _ (branches p) (λ m b. partner-ascends x r i j k m b.guard)
      (λ m m' b b' d e l h h'. later-partner-branch (at-partner x r i j k m b.guard h) (at-partner x r i j k m' b'.guard h') l))

  partners-ascend : (x : Pair) (r i j : ℕ) → Ascending Earlier (gather (partners_in branches x r i j) s.processes)
  partners-ascend x r i j =
      ascends Earlier _ s.processes (partners_in-ascends x r i j)
      (λ k k' p p' d e l h h'. later-partner (at-partners x r i j k p h).1 (at-partners x r i j k' p' h').1 l)

  -- ---- branches and processes
  at-binding : (i j r : ℕ) (w : Query) (q : ℕ) (x : Pair) {e : Entry} → In e (bindings i j r w q x) → Keyed kind.bind i j 0 0 q e
  at-binding i j r w q x h = record { weight = _; is = Memᴰ.eq_of_singleton (when-out _ h).1 }

  bind-ascends : (i j r : ℕ) (w : Query) → Ascending Earlier (gather (bindings i j r w) s.pairs)
  bind-ascends i j r w =
      ascends Earlier _ s.pairs (λ q x. when-ascends Earlier _ _ (one-ascends Earlier _))
      (λ q q' x x' d e l h h'. later-pair (at-binding i j r w q x h) (at-binding i j r w q' x' h') l)

  of_action-ascends : (i j r : ℕ) (a : Action) → Ascending Earlier (of_action branches s i j r a)
  unfolding of_action
  of_action-ascends i j r wait = one-ascends Earlier _
  of_action-ascends i j r (launch x) = one-ascends Earlier _
  of_action-ascends i j r (kill x) = one-ascends Earlier _
  of_action-ascends i j r (receive w) = when-ascends Earlier _ _ (one-ascends Earlier _)
  of_action-ascends i j r (bind w) = bind-ascends i j r w
  of_action-ascends i j r (check w) = unless-ascends Earlier _ _ (one-ascends Earlier _)
  of_action-ascends i j r (send x) = partners-ascend x r i j
  of_action-ascends i j r (take w) = none-ascends Earlier
  of_action-ascends i j r (take_bind w) = none-ascends Earlier

  of_guard-ascends : (i j : ℕ) (g : Guard) → Ascending Earlier (of_guard branches s i j g)
  unfolding of_guard
  of_guard-ascends i j (bare a r) = of_action-ascends i j r a
  of_guard-ascends i j (opened a r) = of_action-ascends i j r a
  of_guard-ascends i j shut = none-ascends Earlier

  of-source : {i j : ℕ} {g : Guard} {e : Entry} → Source branches s i j g e → Placed i j e
  of-source (single {c = c} {q = q} a f h) = record { c = c; k = 0; m = 0; q = q; keyed = record { weight = _; is = h } }
  of-source {i} {j} (double {x = x} {r = r} f h) =
      let u = gathered (partners_in branches x r i j) s.processes h in
      let v = at-partners x r i j u.0 u.1 u.3 in
      record { c = kind.handshake; k = u.0; m = v.0; q = 0; keyed = v.1 }

  at-branch : (i j : ℕ) (g : Guard) {e : Entry} → In e (of_guard branches s i j g) → Placed i j e
  at-branch i j g h = of-source (source branches s i j g h)

  at_place : (i : ℕ) (p : Proc) {e : Entry} → In e (of_process branches s i p) → (j : ℕ) × Placed i j e
  unfolding of_process
  at_place i p h =
      let v = gathered (λ (j : ℕ) (b : Branch Proc). of_guard branches s i j b.guard) (branches p) h in
      (v.0, at-branch i v.0 v.1.guard v.3)

  of_process-ascends : (i : ℕ) (p : Proc) → Ascending Earlier (of_process branches s i p)
  unfolding of_process
  of_process-ascends i p =
      ascends Earlier _ (branches p) (λ j b. of_guard-ascends i j b.guard)
      (λ j j' b b' d e l h h'. later-branch (at-branch i j b.guard h).keyed (at-branch i j' b'.guard h').keyed l)

  -- ---- the keys ascend strictly
  pub ascending : Ascending Earlier (entries branches s)
  unfolding entries
  ascending =
      ascends Earlier _ s.processes of_process-ascends
      (λ i i' p p' d e l h h'. later-place (at_place i p h).1.keyed (at_place i' p' h').1.keyed l)
