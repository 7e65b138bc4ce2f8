-- A report's subtotals, added in definition order, equal the listing's total, for every state over a good model that lists; it has 64 numbers. From the rules' places
-- and since every process has the number of a definition.
use mathlib.Core.Path.{◌≡◌, refl, ap, ◌∙◌}
use mathlib.Core.List.{List, [], ◌∷◌, ◌++◌, Memᴰ as In}
use mathlib.Core.Option.{Option, Option-elim}
use Prim.Native.Nat.{ℕ, zero, suc, ◌+◌, ◌-◌, ◌≤◌, ◌<◌}
use native.Mathlib.Omega.{arith}
use lib.ListN.{length, get_or, replicate, length-append, length-replicate}
use Rattle.model.specs.Resolved
use Rattle.model.specs.Good.{GoodSum, GoodModel}
use Rattle.rules.specs.Rules.{Nth, Key, Derivable}
use Rattle.rules.specs.Listing.{Entry, entry, key_of}
use Rattle.rules.specs.Draw.{weights, total}
use Rattle.rules.specs.Subtotals.{actor, subtotal, subtotals}
use Rattle.rules.proofs.Subtotals.{adds-up, as_many, nth-is, counts-for}
use Rattle.machine.specs.Offer.{Process, branches}
use Rattle.machine.specs.State.{State, GoodProcess, GoodState}
use Rattle.machine.specs.Report.{report_length, definition_at, report_of}
use Rattle.machine.specs.Machine.{entries_are, listing}
use Rattle.machine.specs.Questions.{IsListing}
use Rattle.machine.proofs.Branches.{nth-get, get_nth}
use Rattle.machine.proofs.Everys.{every-nth}
use Rattle.machine.proofs.Listing.{accepted}

-- ---- zeros add nothing
total-zeros : (ws : List ℕ) (n : ℕ) → total (ws ++ replicate n 0) ≡ total ws
unfolding total
total-zeros [] zero = refl
total-zeros [] (suc n) = let h = total-zeros [] n in omega (arith, h)
total-zeros (w ∷ ws) n = let h = total-zeros ws n in omega (arith, h)

-- ---- a number of the first list, or a zero after it
front : (xs ys : List ℕ) (d : ℕ) → d < length xs → get_or (xs ++ ys) d 0 ≡ get_or xs d 0
front [] ys d l = absurd (omega arith)
front (x ∷ xs) ys zero l = refl
front (x ∷ xs) ys (suc d) l = front xs ys d (omega arith)

past : (xs : List ℕ) (n d : ℕ) → length xs ≤ d → get_or (xs ++ replicate n 0) d 0 ≡ 0
past [] zero d l = refl
past [] (suc n) zero l = refl
past [] (suc n) (suc d) l = past [] n d (omega arith)
past (x ∷ xs) n zero l = absurd (omega arith)
past (x ∷ xs) n (suc d) l = past xs n d (omega arith)

module _ (m : Resolved.Model) (good : GoodModel m) (s : State) (g : GoodState m s) where
  -- a good process has the number of a definition
  pub definition-below : (p : Process) → GoodProcess m p → p.definition < length m.definitions
  definition-below p h = omega (arith, (every-nth (GoodSum m) good.sums (get_nth m.sums p.sum h.sum.exists)).definition, h.definition)

  -- 02, note 6: an entry counts for the definition of the process that stands at its place
  pub counted-for : (es : List Entry) → IsListing m s es → (k : Key) (w : ℕ) → In (entry k w) es
      → (p : Process) × Nth s.processes (actor k) p × (definition_at s (entry k w) ≡ p.definition)
  unfolding definition_at key_of Option-elim Derivable
  counted-for es h k w i =
      let d = (h.derivable k w).0 i in
      let c = counts-for (branches m) s d.2 in
      (c.0, c.1, ap (λ (o : Option Process). Option-elim o 0 (λ (p : Process). p.definition)) (nth-get c.1))

  below : (es : List Entry) → IsListing m s es → (e : Entry) → In e es → definition_at s e < length m.definitions
  below es h (entry k w) i =
      let c = counted-for es h k w i in
      omega (arith, definition-below c.0 (every-nth (GoodProcess m) g.processes c.1), c.2)

  -- 02, note 6: the subtotals added in definition order equal the listing's total
  pub report-adds-up : (es : List Entry) → IsListing m s es → total (report_of m s es) ≡ total (weights es)
  unfolding report_of
  report-adds-up es h = total-zeros (subtotals (definition_at s) es 0 (length m.definitions)) (report_length - length m.definitions) ∙ adds-up (definition_at s) es (length m.definitions) (below es h)

  -- for every state that lists
  pub listed-adds-up : (es : List Entry) → listing m s ≡ entries_are es → total (report_of m s es) ≡ total (weights es)
  listed-adds-up es e = report-adds-up es ((accepted m s es).0 e).1

  -- 02, note 6: 64 numbers
  pub report-length : (es : List Entry) → length (report_of m s es) ≡ report_length
  unfolding report_of
  report-length es =
      length-append (subtotals (definition_at s) es 0 (length m.definitions)) (replicate (report_length - length m.definitions) 0)
      ∙ omega (arith, as_many (definition_at s) es 0 (length m.definitions), length-replicate {A = ℕ} (report_length - length m.definitions) 0, good.few-definitions)

  -- 02, note 6: one weight sum for each definition
  pub share-is : (es : List Entry) (d : ℕ) → d < length m.definitions → get_or (report_of m s es) d 0 ≡ subtotal (definition_at s) es d
  unfolding report_of
  share-is es d l =
      let n = length m.definitions in
      let i : d < length (subtotals (definition_at s) es 0 n) = omega (arith, as_many (definition_at s) es 0 n) in
      let z : 0 + d ≡ d = omega arith in
      front (subtotals (definition_at s) es 0 n) (replicate (report_length - n) 0) d i ∙ nth-is (definition_at s) es 0 n d l ∙ ap (subtotal (definition_at s) es) z

  -- 02, note 6: then zeros
  pub none-beyond : (es : List Entry) (d : ℕ) → length m.definitions ≤ d → get_or (report_of m s es) d 0 ≡ 0
  unfolding report_of
  none-beyond es d l =
      let n = length m.definitions in
      past (subtotals (definition_at s) es 0 n) (report_length - n) d (omega (arith, as_many (definition_at s) es 0 n))
