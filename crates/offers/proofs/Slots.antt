-- The listing by slots: each slot's entries in order, and a sender's partners among the slots. From the laws of gathered lists.
use Prim.Native.Nat.{ℕ}
use mathlib.Core.Path.{◌≡◌, refl, sym, ◌∙◌}
use mathlib.Core.Bool.{Bool, true, false}
use mathlib.Core.List.{List, []}
use lib.Dec.{eqb}
use Rattle.rules.specs.Offers.{Pair, Guard, bare, opened, shut, Branch, State}
use Rattle.rules.specs.Listing.{Entry, gather, unless, partner, partner_action, partners_in, of_action, of_guard, of_process, entries}
use Rattle.offers.specs.Slots.{slot_of, slots, partner_of, of_slot}
use Rattle.offers.proofs.Numbered.{append-nil, gather-same, gather-empty, each-gather}

module _ {Proc : Type 0} (branches : Proc → List (Branch Proc)) where
  of_guard_lem : (s : State Proc) (i j : ℕ) (g : Guard) → gather (λ n. of_slot branches s) (slot_of i j g) ≡ of_guard branches s i j g
  unfolding gather slot_of of_slot of_guard
  of_guard_lem s i j (bare a r) = append-nil (of_action branches s i j r a)
  of_guard_lem s i j (opened a r) = append-nil (of_action branches s i j r a)
  of_guard_lem s i j shut = refl

  pub entries-slots : (s : State Proc) → entries branches s ≡ gather (λ n. of_slot branches s) (slots branches s.processes)
  unfolding entries of_process slots
  entries-slots s =
      sym
      (each-gather (of_slot branches s) (λ (i : ℕ) (p : Proc). gather (λ (j : ℕ) (b : Branch Proc). slot_of i j b.guard) (branches p)) s.processes
      ∙ gather-same _ _ s.processes
      (λ i p. each-gather (of_slot branches s) (λ (j : ℕ) (b : Branch Proc). slot_of i j b.guard) (branches p) ∙ gather-same _ _ (branches p) (λ j b. of_guard_lem s i j b.guard)))

  -- the partners in one process
  module _ (x : Pair) (r i j : ℕ) where
    in-guard : (k m : ℕ) (g : Guard) → gather (λ n. partner_of x r i j) (slot_of k m g) ≡ unless (eqb k i) (partner x r i j k m g)
    unfolding gather slot_of partner_of partner
    in-guard k m (bare a r₂) = append-nil (unless (eqb k i) (partner_action x r i j k m r₂ a))
    in-guard k m (opened a r₂) = append-nil (unless (eqb k i) (partner_action x r i j k m r₂ a))
    in-guard k m shut = go (eqb k i)
      where
        go : (b : Bool) → ◌≡◌ {A = List Entry} [] (unless b [])
        go true = unfold unless in refl
        go false = unfold unless in refl

    unless-gather : {A : Type 0} (b : Bool) (f : ℕ → A → List Entry) (xs : List A) → gather (λ n y. unless b (f n y)) xs ≡ unless b (gather f xs)
    unless-gather true f xs = gather-empty (λ n y. unless true (f n y)) xs (λ n y. unfold unless in refl) ∙ (unfold unless in refl)
    unless-gather false f xs = gather-same (λ n y. unless false (f n y)) f xs (λ n y. unfold unless in refl) ∙ (unfold unless in refl)

    in-process : (k : ℕ) (p : Proc) → gather (λ n. partner_of x r i j) (gather (λ (m : ℕ) (b : Branch Proc). slot_of k m b.guard) (branches p)) ≡ partners_in branches x r i j k p
    unfolding partners_in
    in-process k p =
        each-gather (partner_of x r i j) (λ (m : ℕ) (b : Branch Proc). slot_of k m b.guard) (branches p)
        ∙ gather-same _ _ (branches p) (λ m b. in-guard k m b.guard)
        ∙ unless-gather (eqb k i) (λ (m : ℕ) (b : Branch Proc). partner x r i j k m b.guard) (branches p)

    pub partners-slots : (ps : List Proc) → gather (partners_in branches x r i j) ps ≡ gather (λ n. partner_of x r i j) (slots branches ps)
    unfolding slots
    partners-slots ps =
        sym
        (each-gather (partner_of x r i j) (λ (k : ℕ) (p : Proc). gather (λ (m : ℕ) (b : Branch Proc). slot_of k m b.guard) (branches p)) ps
        ∙ gather-same _ _ ps in-process)
