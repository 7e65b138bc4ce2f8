-- The slots as they are collected are those of the state, and question 12's answer as it is found. By induction on processes and branches.
use Prim.Native.Nat.{ℕ, zero, suc, ◌+◌, ◌≤◌, ◌<◌}
use mathlib.Core.Path.{◌≡◌, refl, sym, ap, ◌∙◌}
use mathlib.Core.List.{List, [], ◌∷◌, ◌++◌, map, append_assoc}
use mathlib.Core.Option.{none, some, Option-elim}
use native.Mathlib.Omega.{arith}
use native.Mathlib.Numerals.{add-one}
use lib.IntN.{ℤ}
use lib.ListN.{length, take, drop, get_elem?, length-append}
use Rattle.model.specs.Resolved
use Rattle.rules.specs.Offers as offers
use Rattle.rules.specs.Rules.{Nth, first, later}
use Rattle.rules.specs.Listing.{gather}
use Rattle.machine.specs.Evaluate.{eval_branch}
use Rattle.model.specs.Good.{Every}
use Rattle.machine.proofs.Everys.{every_append, every-nth}
use Rattle.machine.proofs.Branches.{get_nth}
use Rattle.machine.specs.Offer.{Process, branches_of, offered, branches, missing_branch, missing}
use Rattle.offers.specs.Slots.{Slot, slot_of, slots}
use Rattle.offers.specs.Walk.{guard_or, slots_from, slots_of}
use Rattle.offers.proofs.Numbered.{append-nil}

gather-map : {A B C : Type 0} (f : ℕ → B → List C) (g : A → B) (xs : List A) → gather f (map g xs) ≡ gather (λ n x. f n (g x)) xs
unfolding gather
gather-map f g [] = refl
gather-map f g (x ∷ xs) = ap (λ t. f zero (g x) ++ t) (gather-map (λ n. f (suc n)) g xs)

from-gather : (m : Resolved.Model) (ls : List ℤ) (i j : ℕ) (f : ℕ → offers.Guard → List Slot) (bs : List Resolved.Branch)
    → ((q : ℕ) (g : offers.Guard) → f q g ≡ slot_of i (j + q) g)
    → gather (λ (q : ℕ) (b : Resolved.Branch). f q (offered m ls b).guard) bs ≡ slots_from ls i j bs
unfolding gather slots_from offered guard_or
from-gather m ls i j f [] h = refl
from-gather m ls i j f (b ∷ bs) h =
    let e : j + 0 ≡ j = omega arith in
    ap (λ t. t ++ gather (λ (q : ℕ) (c : Resolved.Branch). f (suc q) (offered m ls c).guard) bs) (h zero (offered m ls b).guard ∙ ap (λ k. slot_of i k (offered m ls b).guard) e)
    ∙ ap (λ t. slot_of i j (offered m ls b).guard ++ t)
    (from-gather m ls i (suc j) (λ q. f (suc q)) bs (λ q g. let e : j + suc q ≡ suc j + q = omega arith in h (suc q) g ∙ ap (λ k. slot_of i k g) e))

of-gather : (m : Resolved.Model) (i : ℕ) (f : ℕ → Process → List Slot) (ps : List Process)
    → ((q : ℕ) (p : Process) → f q p ≡ slots_from p.locals (i + q) 0 (branches_of m p)) → gather f ps ≡ slots_of m i ps
unfolding gather slots_of
of-gather m i f [] h = refl
of-gather m i f (p ∷ ps) h =
    let e : i + 0 ≡ i = omega arith in
    ap (λ t. t ++ gather (λ q. f (suc q)) ps) (h zero p ∙ ap (λ k. slots_from p.locals k 0 (branches_of m p)) e)
    ∙ ap (λ t. slots_from p.locals i 0 (branches_of m p) ++ t)
    (of-gather m (suc i) (λ q. f (suc q)) ps
    (λ q r. let e : i + suc q ≡ suc i + q = omega arith in h (suc q) r ∙ ap (λ k. slots_from r.locals k 0 (branches_of m r)) e))

pub slots-are : (m : Resolved.Model) (ps : List Process) → slots (branches m) ps ≡ slots_of m 0 ps
unfolding slots branches
slots-are m ps =
    of-gather m 0 _ ps
    (λ q p. let e : 0 + q ≡ q = omega arith in
    gather-map _ (offered m p.locals) (branches_of m p)
    ∙ from-gather m p.locals q 0 (slot_of q) (branches_of m p) (λ n g. let z : n ≡ 0 + n = omega arith in ap (λ k. slot_of q k g) z)
    ∙ ap (λ k. slots_from p.locals k 0 (branches_of m p)) (sym e))

-- ---- how many
pub slot-one : (i j : ℕ) (g : offers.Guard) → length (slot_of i j g) ≤ 1
unfolding slot_of
slot-one i j (offers.bare a r) = omega arith
slot-one i j (offers.opened a r) = omega arith
slot-one i j offers.shut = omega arith

pub from-few : (ls : List ℤ) (i j : ℕ) (bs : List Resolved.Branch) → length (slots_from ls i j bs) ≤ length bs
unfolding slots_from
from-few ls i j [] = omega arith
from-few ls i j (b ∷ bs) =
    let e = length-append (slot_of i j (guard_or (eval_branch ls b))) (slots_from ls i (suc j) bs) in
    omega (arith, e, slot-one i j (guard_or (eval_branch ls b)), from-few ls i (suc j) bs)

-- ---- one place more
of-append : (m : Resolved.Model) (i : ℕ) (ps qs : List Process) → slots_of m i (ps ++ qs) ≡ slots_of m i ps ++ slots_of m (i + length ps) qs
unfolding slots_of
of-append m i [] qs = let e : i ≡ i + 0 = omega arith in ap (λ k. slots_of m k qs) e
of-append m i (p ∷ ps) qs =
    let e : suc i + length ps ≡ i + suc (length ps) = omega arith in
    ap (λ t. slots_from p.locals i 0 (branches_of m p) ++ t) (of-append m (suc i) ps qs ∙ ap (λ k. slots_of m (suc i) ps ++ slots_of m k qs) e)
    ∙ sym (append_assoc (slots_from p.locals i 0 (branches_of m p)) (slots_of m (suc i) ps) (slots_of m (i + suc (length ps)) qs))

take_next : {A : Type 0} {xs : List A} {i : ℕ} {x : A} → Nth xs i x → take (suc i) xs ≡ take i xs ++ (x ∷ [])
take_next first = refl
take_next (later {x} h) = ap (λ t. x ∷ t) (take_next h)

drop-next : {A : Type 0} {xs : List A} {i : ℕ} {x : A} → Nth xs i x → drop i xs ≡ x ∷ drop (suc i) xs
drop-next first = refl
drop-next (later h) = drop-next h

take-length : {A : Type 0} {xs : List A} {i : ℕ} {x : A} → Nth xs i x → length (take i xs) ≡ i
take-length first = refl
take-length (later h) = ap suc (take-length h)

module _ (m : Resolved.Model) {ps : List Process} {i : ℕ} {p : Process} (at : Nth ps i p) where
  pub of-next : slots_of m 0 (take (i + 1) ps) ≡ slots_of m 0 (take i ps) ++ slots_from p.locals i 0 (branches_of m p)
  of-next =
      let e : 0 + length (take i ps) ≡ i = omega (arith, take-length at) in
      ap (λ k. slots_of m 0 (take k ps)) (add-one i) ∙ ap (slots_of m 0) (take_next at) ∙ of-append m 0 (take i ps) (p ∷ [])
      ∙ ap (λ k. slots_of m 0 (take i ps) ++ slots_of m k (p ∷ [])) e
      ∙ ap (λ t. slots_of m 0 (take i ps) ++ t) (unfold slots_of in append-nil (slots_from p.locals i 0 (branches_of m p)))

  -- the first branch without value is here
  pub missing-here : (j : ℕ) → missing_branch p.locals 0 (branches_of m p) ≡ some j → missing m i (drop i ps) ≡ some (i, j)
  unfolding missing Option-elim
  missing-here j e = ap (missing m i) (drop-next at) ∙ rw e

  -- or later
  pub missing-later : missing_branch p.locals 0 (branches_of m p) ≡ none → missing m i (drop i ps) ≡ missing m (i + 1) (drop (i + 1) ps)
  unfolding missing Option-elim
  missing-later e = ap (missing m i) (drop-next at) ∙ rw (e, add-one i)

-- ---- where
slot-place : (n i j : ℕ) (g : offers.Guard) → i < n → Every (λ (x : Slot). x.place < n) (slot_of i j g)
unfolding slot_of Every
slot-place n i j (offers.bare a r) l = (l, tt)
slot-place n i j (offers.opened a r) l = (l, tt)
slot-place n i j offers.shut l = tt

from_place : (n : ℕ) (ls : List ℤ) (i j : ℕ) (bs : List Resolved.Branch) → i < n → Every (λ (x : Slot). x.place < n) (slots_from ls i j bs)
unfolding slots_from Every
from_place n ls i j [] l = tt
from_place n ls i j (b ∷ bs) l =
    every_append (λ (x : Slot). x.place < n) (slot_of i j (guard_or (eval_branch ls b))) (slots_from ls i (suc j) bs) (slot-place n i j (guard_or (eval_branch ls b)) l) (from_place n ls i (suc j) bs l)

of-place : (n : ℕ) (m : Resolved.Model) (i : ℕ) (ps : List Process) → i + length ps ≤ n → Every (λ (x : Slot). x.place < n) (slots_of m i ps)
unfolding slots_of Every
of-place n m i [] l = tt
of-place n m i (p ∷ ps) l =
    every_append (λ (x : Slot). x.place < n) (slots_from p.locals i 0 (branches_of m p)) (slots_of m (suc i) ps) (from_place n p.locals i 0 (branches_of m p) (omega arith)) (of-place n m (suc i) ps (omega arith))

-- a slot's process exists
pub place-below : (m : Resolved.Model) (ps : List Process) (k : ℕ) (x : Slot) → get_elem? (slots_of m 0 ps) k ≡ some x → x.place < length ps
place-below m ps k x e = every-nth (λ (x : Slot). x.place < length ps) (of-place (length ps) m 0 ps (omega arith)) (get_nth (slots_of m 0 ps) k e)
