-- What a report leaves, as the effect of the call says: 11 leaves it, 12 to 14 zero it, and the shares of a listing are the machine's. From what the listing found.
use mathlib.Core.Path.{◌≡◌, refl, sym, ap, ◌∙◌}
use mathlib.Core.List.{List}
use mathlib.Core.Option.{some}
use Prim.Native.Nat.{ℕ}
use native.Mathlib.Omega.{arith}
use lib.IntN.{ℤ}
use lib.ListN.{length, replicate}
use Rattle.std.specs.Prelude.{Result, Err, Ok}
use Rattle.model.specs.Resolved
use Rattle.model.specs.Good.{GoodModel}
use Rattle.rules.specs.Listing.{Entry}
use Rattle.machine.specs.State.{State, state_numbers}
use Rattle.machine.specs.Report.{report_of}
use Rattle.machine.specs.Machine as machine
use Rattle.machine.specs.Machine.{Listed, entries_are, refused_with, no, reported_as, turn, sharing, reports, on_state, report', acts, two_parts, on_machine}
use Rattle.listing.specs.declared.Refusal as listing
use Rattle.listing.specs.Buffer.{Answers, Outcome as Found}
use Rattle.listing.specs.Buffer as buffer
use Rattle.shares.specs.Shared.{Shared}
use Rattle.buffers.specs.Listing.{shown}
use Rattle.buffers.specs.Parts.{lent_two}
use Rattle.buffers.specs.Effect.{leaves, requested}
use Rattle.engine.specs.declared.Told.{Told}
use Rattle.engine.specs.declared.Refusal.{Refusal}
use Rattle.engine.specs.declared.Refusal.TheVariants.{Listing}
use Rattle.engine.specs.Gives.{Gives, answer_of}
use Rattle.engine.specs.Tables.{told_by, Finds, closed, holding}
use Rattle.store.proofs.Tables.{left-two}
use Rattle.engine.proofs.Shows.{Refuses, entries, refuses, listing-is, eleven-gives}
use Rattle.engine.proofs.Drawn.{told_is}

module _ (zs : List ℤ) (m : Resolved.Model) where
  -- the report buffer after a report that was lent l
  abbrev Left : List ℕ → List ℕ → List ℕ
  Left bs l = (requested report' (lent_two bs zs) l (some m)).output

  -- 01, Listing, 11: leaves the report as lent
  pub as_lent_lem : (r : Refusal) (bs l k B : List ℕ) → ((y : listing.Refusal) → r ≡ Listing y → ⊥) → Finds m zs k (Err r) B → l ≡ Left bs l
  unfolding requested leaves on_machine no shown
  as_lent_lem r bs l k B i (closed e q f) = rw (e bs)
  as_lent_lem r bs l k B i (holding {s} {x} e g z q h) = absurd (by x q)
    where
      by : (x : Found) → Err r ≡ told_by x → ⊥
      by (Ok w) q = let y : ◌≡◌ {A = ℕ} 0 1 = cc in omega arith
      by (Err y) q = i y (cc q)

  -- 02, note 6: 12 to 14 zero it
  pub as-zeros : (r : listing.Refusal) (bs l k B : List ℕ) → Finds m zs k (Err (Listing r)) B → replicate (length l) 0 ≡ Left bs l
  unfolding requested leaves on_machine acts on_state reports sharing no shown
  as-zeros r bs l k B (closed e q f) = let y : ◌≡◌ {A = ℕ} 0 1 = cc in absurd (omega arith)
  as-zeros r bs l k B (holding {s} {x} e g z q h) = rw (e bs) (by (machine.listing m s) (listing-is m s) x h.answer q)
    where
      by : (x : Listed) → Refuses x → (y : Found) → Answers x y → Err (Listing r) ≡ told_by y → replicate (length l) 0 ≡ shown (sharing m s x).answer.listing l
      by x entries y (buffer.Answers.counts n t) a = let y : ◌≡◌ {A = ℕ} 0 1 = cc in absurd (omega arith)
      by x (refuses i j c) y d a = refl

  -- 02, note 6: what is shared
  pub record Sharing (l : List ℕ) (count : ℕ) : Type 0 where
    pub state : State
    pub entries : List Entry
    pub shared : Shared zs l count m state entries
    pub left : (bs r : List ℕ) → report_of m state entries ≡ Left bs r

  pub shares_of : GoodModel m → (t : Told) (k B : List ℕ) → Finds m zs k (Ok t) B → Sharing B t.listed.count
  unfolding requested leaves on_machine acts on_state reports sharing reported_as shown buffer.listing_numbers
  shares_of good t k B (closed e q f) = let z : ◌≡◌ {A = ℕ} 0 1 = cc in absurd (omega arith)
  shares_of good t k B (holding {s} {x = y} e g z q h) = go (machine.listing m s) refl h.numbers y h.answer q
    where
      go : (v : Listed) → machine.listing m s ≡ v → B ≡ buffer.listing_numbers v → (x : Found) → Answers v x → Ok t ≡ told_by x → Sharing B t.listed.count
      go (refused_with a) q f x (buffer.Answers.refuses d) k = let y : ◌≡◌ {A = ℕ} 0 1 = cc in absurd (omega arith)
      go (entries_are es) q f x (buffer.Answers.counts n u) k = record {
        state = s;
        entries = es;
        shared = record { good = good; state = g; numbers = z; listed = q; filled = f; count-is = ap (λ (t : Told). t.listed.count) (told_is k) ∙ n };
        left = λ bs r. rw (e bs, q);
      }

-- ---- what a report gives
module _ (bs : List ℕ) (zs : List ℤ) (l : List ℕ) where
  sharing-gives : (m : Resolved.Model) (s : State) {x : Listed} → Refuses x → state_numbers s ≡ zs → (r : Found) → Answers x r → (b : List ℕ) → b ≡ shown (sharing m s x).answer.listing l
      → Gives (leaves two_parts (lent_two bs zs) l (turn (machine.holding (machine.held m (sharing m s x).machine)) (sharing m s x).answer)) (answer_of (told_by r)) (lent_two bs zs) b
  unfolding leaves sharing no reported_as
  sharing-gives m s entries e r (buffer.Answers.counts n t) b f = record { number = refl; place = refl; branch = refl; count = n; total = t; chosen = refl; buffers = left-two bs zs zs m s (sym e); output = f }
  sharing-gives m s (refuses n p c) e r (buffer.Answers.refuses q) b f = record { number = q.number; place = q.place; branch = q.branch; count = refl; total = refl; chosen = refl; buffers = left-two bs zs zs m s (sym e); output = f }

  pub finds-report : (m : Resolved.Model) (r : Result Told Refusal) (k B b : List ℕ) → Finds m zs k r B → b ≡ Left zs m bs l → Gives (requested report' (lent_two bs zs) l (some m)) (answer_of r) (lent_two bs zs) b
  unfolding requested leaves on_machine acts on_state reports no shown
  finds-report m r k B b (closed e q f) i = let j : b ≡ l = i ∙ rw (e bs) in rw (e bs, q, j) (eleven-gives report' (lent_two bs zs) l)
  finds-report m r k B b (holding {s} {x = y} e g z q h) i = rw (e bs, q) (sharing-gives m s (listing-is m s) (sym z) y h.answer b (rw (e bs) at i))
