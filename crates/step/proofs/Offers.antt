-- What an offer's numbers say of the values that are bound or sent and of the pairs that change. By cases of the action that is shown.
use mathlib.Core.Path.{◌≡◌, refl, sym, ap, ◌∙◌}
use mathlib.Core.List.{List, [], ◌∷◌, ◌++◌}
use mathlib.Core.Option.{some}
use Prim.Native.Nat.{ℕ, ◌+◌, ◌≤◌}
use native.Mathlib.Omega.{arith}
use lib.IntN.{ℤ, pos, nat_abs}
use lib.ListN.{length, set, take, get_or}
use lib.Seq.{get_or-drop}
use Rattle.model.specs.Good.{OneOrTwo}
use Rattle.rules.specs.Offers as offers
use Rattle.rules.specs.Offers.{Action, Guard}
use Rattle.rules.specs.Rules.{unchanged}
use Rattle.rules.specs.Pairs.{channel_numbers}
use Rattle.rules.specs.Step.{bound_by, sent_by, on_action, change_of}
use Rattle.machine.specs.State.{padded, pair_numbers, channel_width}
use Rattle.state.proofs.Entries.{after-channel, pair-shape}
use Rattle.eval.specs.declared.offer.Offer.{Offer}
use Rattle.eval.specs.Channels.{numbers_of}
use Rattle.eval.proofs.Shapes.{numbers-are}
use Rattle.eval.specs.Shown as Shown
use Rattle.eval.specs.Shown.{ShowsValues, ShowsPair, ShowsAction, ShowsGuard, ShowsOffer, bare_offer}
use Rattle.std.specs.Prelude.{Some, None, Option as RustOption}
use Rattle.std.specs.Option.{option_flatten}
use Rattle.eval.specs.declared.Values.{Values}
use Rattle.step.specs.Enter.{values_of, bound_of, ShowsChange, launches, kills, neither, nothing}

-- the kind of an action's node
kind_number : Action → ℕ
kind_number offers.wait = 36
kind_number (offers.launch x) = 37
kind_number (offers.kill x) = 38
kind_number (offers.receive w) = 39
kind_number (offers.bind w) = 40
kind_number (offers.check w) = 41
kind_number (offers.send x) = 42
kind_number (offers.take w) = 43
kind_number (offers.take_bind w) = 44

module _ (t : List ℕ) (ls : List ℤ) (r : Offer) where
  kind-is : {a : Action} → ShowsAction t ls r a → r.kind ≡ kind_number a
  unfolding kind_number bare_offer
  kind-is (Shown.wait e) = ap (λ (o : Offer). o.kind) e
  kind-is (Shown.launch e h) = e
  kind-is (Shown.kill e h) = e
  kind-is (Shown.receive e h) = e
  kind-is (Shown.bind e h) = e
  kind-is (Shown.check e h) = e
  kind-is (Shown.send e h) = e
  kind-is (Shown.take e h) = e
  kind-is (Shown.take_bind e h) = e

  -- ---- names that take the values us
  module _ (us : RustOption Values) where
    action-bound : (a : Action) → r.kind ≡ kind_number a → values_of (bound_of (Some r) us) ≡ bound_by (values_of us) a
    unfolding kind_number bound_by bound_of values_of
    action-bound offers.wait e = rw e refl
    action-bound (offers.launch x) e = rw e refl
    action-bound (offers.kill x) e = rw e refl
    action-bound (offers.receive w) e = rw e refl
    action-bound (offers.bind w) e = rw e refl
    action-bound (offers.check w) e = rw e refl
    action-bound (offers.send x) e = rw e refl
    action-bound (offers.take w) e = rw e refl
    action-bound (offers.take_bind w) e = rw e refl

    values-bound : (g : Guard) → ShowsGuard t ls g (Some r) → values_of (bound_of (Some r) us) ≡ on_action [] (bound_by (values_of us)) g
    unfolding on_action
    values-bound (offers.bare a n) (Shown.bare h e) = action-bound a (kind-is h)
    values-bound (offers.opened a n) (Shown.opened h e) = action-bound a (kind-is h)
    values-bound offers.shut h = elim h [ ]

  -- ---- values sent
  values-taken : {n : ℕ} {a b c d : ℤ} {vs : List ℤ} → ShowsValues n a b c d vs → (take n (a ∷ c ∷ []) ≡ vs) × (n ≤ 2)
  values-taken (Shown.one e f g h i) = (rw (e, f) refl, omega arith)
  values-taken (Shown.two e f g h i) = (rw (e, f, h) refl, omega arith)

  unsent : (a : Action) → r.kind ≡ kind_number a → (r.kind ≡ 42 → ⊥) → [] ≡ sent_by a
  unfolding kind_number sent_by
  unsent offers.wait e n = refl
  unsent (offers.launch x) e n = refl
  unsent (offers.kill x) e n = refl
  unsent (offers.receive w) e n = refl
  unsent (offers.bind w) e n = refl
  unsent (offers.check w) e n = refl
  unsent (offers.send x) e n = absurd (n e)
  unsent (offers.take w) e n = refl
  unsent (offers.take_bind w) e n = refl

  pub none-sent : (r.kind ≡ 42 → ⊥) → (g : Guard) → ShowsGuard t ls g (Some r) → [] ≡ on_action [] sent_by g
  unfolding on_action
  none-sent n (offers.bare a q) (Shown.bare h e) = unsent a (kind-is h) n
  none-sent n (offers.opened a q) (Shown.opened h e) = unsent a (kind-is h) n
  none-sent n offers.shut h = elim h [ ]

  abbrev Sent : List ℤ → Type 0
  Sent vs = (take r.list.count (r.list.first ∷ r.list.second ∷ []) ≡ vs) × (r.list.count ≤ 2)

  action-sent : (a : Action) → ShowsAction t ls r a → r.kind ≡ 42 → Sent (sent_by a)
  unfolding sent_by kind_number
  action-sent offers.wait h k = absurd (omega (arith, kind-is h))
  action-sent (offers.launch x) (Shown.launch e h) k = absurd (omega arith)
  action-sent (offers.kill x) (Shown.kill e h) k = absurd (omega arith)
  action-sent (offers.receive w) (Shown.receive e h) k = absurd (omega arith)
  action-sent (offers.bind w) (Shown.bind e h) k = absurd (omega arith)
  action-sent (offers.check w) (Shown.check e h) k = absurd (omega arith)
  action-sent (offers.send x) (Shown.send e h) k = values-taken h.values-are
  action-sent (offers.take w) (Shown.take e h) k = absurd (omega arith)
  action-sent (offers.take_bind w) (Shown.take_bind e h) k = absurd (omega arith)

  pub some-sent : r.kind ≡ 42 → (g : Guard) → ShowsGuard t ls g (Some r) → Sent (on_action [] sent_by g)
  unfolding on_action
  some-sent k (offers.bare a q) (Shown.bare h e) = action-sent a h k
  some-sent k (offers.opened a q) (Shown.opened h e) = action-sent a h k
  some-sent k offers.shut h = elim h [ ]

  -- ---- pairs that change
  action-change : (a : Action) → ShowsAction t ls r a → ShowsChange (Some r) (change_of a)
  unfolding change_of kind_number
  action-change a h = go a h (kind-is h)
    where
      none : {n : ℕ} → r.kind ≡ n → (n ≡ 37 → ⊥) → (n ≡ 38 → ⊥) → ShowsChange (Some r) unchanged
      none e f g = neither (λ q. f (sym e ∙ q)) (λ q. g (sym e ∙ q))

      go : (a : Action) → ShowsAction t ls r a → r.kind ≡ kind_number a → ShowsChange (Some r) (change_of a)
      go offers.wait h e = none e (λ q. omega arith) (λ q. omega arith)
      go (offers.launch x) (Shown.launch k h) e = launches k h
      go (offers.kill x) (Shown.kill k h) e = kills k h
      go (offers.receive w) h e = none e (λ q. omega arith) (λ q. omega arith)
      go (offers.bind w) h e = none e (λ q. omega arith) (λ q. omega arith)
      go (offers.check w) h e = none e (λ q. omega arith) (λ q. omega arith)
      go (offers.send x) h e = none e (λ q. omega arith) (λ q. omega arith)
      go (offers.take w) h e = none e (λ q. omega arith) (λ q. omega arith)
      go (offers.take_bind w) h e = none e (λ q. omega arith) (λ q. omega arith)

module _ (t : List ℕ) (ls : List ℤ) where
  pub shows-change : (o : RustOption Offer) (g : Guard) → ShowsGuard t ls g o → ShowsChange o (on_action unchanged change_of g)
  unfolding on_action
  shows-change (Some r) (offers.bare a q) (Shown.bare h e) = action-change t ls r a h
  shows-change (Some r) (offers.opened a q) (Shown.opened h e) = action-change t ls r a h
  shows-change None offers.shut Shown.shut = nothing
  shows-change None (offers.bare a q) h = elim h [ ]
  shows-change None (offers.opened a q) h = elim h [ ]
  shows-change (Some r) offers.shut h = elim h [ ]

  -- nothing is sent or bound behind a false gate
  pub hidden-none : (f : Action → List ℤ) (g : Guard) → ShowsGuard t ls g None → [] ≡ on_action [] f g
  unfolding on_action
  hidden-none f offers.shut h = refl
  hidden-none f (offers.bare a q) h = elim h [ ]
  hidden-none f (offers.opened a q) h = elim h [ ]

-- no values
pub bare : values_of None ≡ []
unfolding values_of
bare = refl

-- what an offer binds
pub bound-shown : (t : List ℕ) (ls : List ℤ) (o : RustOption Offer) (us : RustOption Values) (g : Guard) → ShowsGuard t ls g o → values_of (bound_of o us) ≡ on_action [] (bound_by (values_of us)) g
unfolding bound_of
bound-shown t ls (Some r) us g h = values-bound t ls r us g h
bound-shown t ls None us g h = bare ∙ hidden-none t ls (bound_by (values_of us)) g h

-- what a branch with all its values offers
pub guard-shown : {t : List ℕ} {ls : List ℤ} {g : Guard} {o : RustOption (RustOption Offer)} → ShowsOffer t ls (some g) o → ShowsGuard t ls g (option_flatten o)
guard-shown (Shown.there h) = h

-- ---- the numbers of a pair
pub shown-row : (r : Offer) (x : offers.Pair) → ShowsPair r x
    → (numbers_of r.channel.shape r.channel.first r.channel.second r.channel.third ++ pos r.list.count ∷ r.list.first ∷ r.list.second ∷ [] ≡ pair_numbers x) × (r.list.count ≤ 2)
unfolding padded
shown-row r x h =
    let t = tail x.values h.values-are in
    (numbers-are x.channel h.channel-is _ ∙ ap (channel_numbers x.channel) t.0 ∙ sym (pair-shape x), t.1)
  where
    tail : (vs : List ℤ) → ShowsValues r.list.count r.list.first r.list.first_end r.list.second r.list.second_end vs
        → (◌≡◌ {A = List ℤ} (pos r.list.count ∷ r.list.first ∷ r.list.second ∷ []) (pos (length vs) ∷ padded 2 vs)) × (r.list.count ≤ 2)
    tail (v ∷ []) (Shown.one e f g i j) = (rw (e, f, i) refl, omega arith)
    tail (v ∷ w ∷ []) (Shown.two e f g i j) = (rw (e, f, i) refl, omega arith)
    tail [] h = elim h [ ]
    tail (v ∷ (w ∷ (_ ∷ _))) h = elim h [ ]

-- three numbers written after a channel's
pub three-written : (s : ℕ) (a b c : ℤ) (u : List ℤ) (n p q : ℤ) → length u ≡ 3
    → set (set (set (numbers_of s a b c ++ u) channel_width n) (channel_width + 1) p) (channel_width + 2) q ≡ numbers_of s a b c ++ n ∷ p ∷ q ∷ []
unfolding numbers_of
three-written s a b c (x ∷ y ∷ z ∷ []) n p q l = refl
three-written s a b c [] n p q l = absurd (omega arith)
three-written s a b c (x ∷ []) n p q l = absurd (omega arith)
three-written s a b c (x ∷ y ∷ []) n p q l = absurd (omega arith)
three-written s a b c (x ∷ y ∷ z ∷ w ∷ u) n p q l = absurd (omega arith)

-- the values in a pair's row
pub row-values : (x : offers.Pair) → OneOrTwo x.values
    → let row = pair_numbers x in
    (take (nat_abs (get_or row channel_width (pos 0))) (get_or row (channel_width + 1) (pos 0) ∷ get_or row (channel_width + 2) (pos 0) ∷ []) ≡ x.values)
    × (nat_abs (get_or row channel_width (pos 0)) ≤ 2) × (get_or row channel_width (pos 0) ≡ pos (nat_abs (get_or row channel_width (pos 0))))
unfolding padded
row-values x h = rw (pair-shape x) (go x.values h)
  where
    after : (k v w : ℤ) → let row = channel_numbers x.channel (k ∷ v ∷ w ∷ []) in (get_or row channel_width (pos 0) ≡ k) × (get_or row (channel_width + 1) (pos 0) ≡ v) × (get_or row (channel_width + 2) (pos 0) ≡ w)
    after k v w =
        let a = after-channel x.channel k (v ∷ w ∷ []) in
        let r : List ℤ = channel_numbers x.channel (k ∷ v ∷ w ∷ []) in
        (a.0, sym (get_or-drop (channel_width + 1) r 0 (pos 0)) ∙ ap (λ (l : List ℤ). get_or l 0 (pos 0)) a.1, sym (get_or-drop (channel_width + 1) r 1 (pos 0)) ∙ ap (λ (l : List ℤ). get_or l 1 (pos 0)) a.1)

    go : (vs : List ℤ) → OneOrTwo vs
        → let row = channel_numbers x.channel (pos (length vs) ∷ padded 2 vs) in
        (take (nat_abs (get_or row channel_width (pos 0))) (get_or row (channel_width + 1) (pos 0) ∷ get_or row (channel_width + 2) (pos 0) ∷ []) ≡ vs)
        × (nat_abs (get_or row channel_width (pos 0)) ≤ 2) × (get_or row channel_width (pos 0) ≡ pos (nat_abs (get_or row channel_width (pos 0))))
    go [] o = absurd (omega (arith, o.one))
    go (v ∷ []) o = let e = after (pos 1) v (pos 0) in rw (e.0, e.1) (refl, omega arith, refl)
    go (v ∷ w ∷ []) o = let e = after (pos 2) v w in rw (e.0, e.1, e.2) (refl, omega arith, refl)
    go (v ∷ w ∷ u ∷ vs) o = absurd (omega (arith, o.two))
