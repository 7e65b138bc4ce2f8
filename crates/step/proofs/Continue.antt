-- What a continuation's root says of its arguments, its processes and their rows. From what the root shows.
use mathlib.Core.Path.{◌≡◌, refl, sym, ap, subst, ◌∙◌}
use mathlib.Core.List.{List, []}
use mathlib.Core.Bool.{Bool, true, false}
use Prim.Native.Nat.{ℕ, ◌+◌, ◌*◌, ◌≤◌, ◌<◌}
use native.Mathlib.Omega.{arith}
use borrow.Author.Tests.{ltb-true, ltb-false}
use lib.Dec.{ltb}
use lib.IntN.{ℤ, nat_abs}
use lib.ListN.{length, take}
use lib.Seq.{sets}
use Rattle.std.specs.Prelude.{Some, None}
use Rattle.model.specs.Resolved
use Rattle.model.specs.Good.{Every, GoodPart}
use Rattle.rules.specs.Order.{Ascending}
use Rattle.tables.specs.Settled as Settled
use Rattle.machine.specs.Offer.{arguments_given, next_processes}
use Rattle.machine.specs.State.{State, flatten, process_numbers, state_numbers, process_room, process_width, state_length}
use Rattle.machine.proofs.Continues.{next-good}
use Rattle.state.specs.Fits.{scopes_of, FitsProcess}
use Rattle.state.specs.Test.{at, is_below}
use Rattle.state.specs.Change.{process_replaced}
use Rattle.state.proofs.Rows.{flatten-length}
use Rattle.state.proofs.Entries.{process-wide}
use Rattle.state.proofs.Over.{good-fits}
use Rattle.state.proofs.Read.{processes-below}
use Rattle.state.proofs.Spliced.{splice-numbers}
use Rattle.eval.specs.Held.{Held, Worth}
use Rattle.eval.specs.Next as become
use Rattle.eval.specs.Next.{Next, ShowsNext, Continues, Continuation, Spaced, Rows, cut, most}
use Rattle.eval.proofs.Rows.{filled}
use Rattle.step.specs.declared.Moving.{Moving}
use Rattle.step.specs.Enter.{Continued, Defined, Replaces, entering}
use Rattle.step.proofs.Tables.{few, fits, passed, long, processes-are}

module _ (t : List ℕ) where
  shown-at : {ps : List Resolved.Part} {k : ℕ} → ShowsNext t ps (Some k) → Settled.Parts t ps k
  shown-at (become.at h) = h

  shown-nothing : {ps : List Resolved.Part} → ShowsNext t ps None → ps ≡ []
  shown-nothing become.nothing = refl

  -- ---- 17
  module _ (ls : List ℤ) (r : Next) where
    pub given-asks : (k : ℕ) → r ≡ Some k → Continued t ls r → (m : Resolved.Model) × Held (Settled.Parts t) (Every (GoodPart m (length ls))) k
    given-asks k e c = (c.model, record { part = c.parts; at = shown-at (subst (ShowsNext t c.parts) e c.shows); fit = c.fit.parts })

    pub given_is : (k : ℕ) → r ≡ Some k → (b : Bool) → Worth (Settled.Parts t) (arguments_given ls) k b → (ps : List Resolved.Part) → ShowsNext t ps r → b ≡ arguments_given ls ps
    given_is k e b f ps h = f ps (shown-at (subst (ShowsNext t ps) e h))

    pub given-none : r ≡ None → (ps : List Resolved.Part) → ShowsNext t ps r → true ≡ arguments_given ls ps
    unfolding arguments_given
    given-none e ps h = sym (ap (arguments_given ls) (shown-nothing (subst (ShowsNext t ps) e h)))

  -- ---- how many
  module _ (root variables : ℕ) (r : Next) where
    pub continues : {m : Resolved.Model} {ls : List ℤ} {ps : List Resolved.Part} (k : ℕ) → r ≡ Some k → Defined t root variables m ls ps r → Continues t root variables (length ls) m ps k
    continues {ps = ps} k e d = record { good = d.good; defines = d.defines; at = shown-at (subst (ShowsNext t ps) e d.shows); fit = d.fit.parts }

    pub continuation : {m : Resolved.Model} {ls : List ℤ} {ps : List Resolved.Part} (k : ℕ) → r ≡ Some k → Defined t root variables m ls ps r → Continuation t root variables k
    continuation {m} {ls} {ps} k e d = record { locals = length ls; model = m; parts = ps; holds = continues k e d }

    pub none-next : {m : Resolved.Model} {ls : List ℤ} {ps : List Resolved.Part} → r ≡ None → Defined t root variables m ls ps r → next_processes m ls ps ≡ []
    unfolding next_processes
    none-next {m} {ls} {ps} e d = ap (next_processes m ls) (shown-nothing (subst (ShowsNext t ps) e d.shows))

pub cut_most : (n : ℕ) → cut n ≤ most
unfolding cut
cut_most n = go (ltb most n) refl
  where
    go : (b : Bool) → ltb most n ≡ b → mathlib.Core.Bool.cond b most n ≤ most
    go true e = omega arith
    go false e = omega (arith, ltb-false most n e)

pub cut-none : cut 0 ≡ 0
unfolding cut
cut-none = refl

-- a cut number tells of the limit
pub cut-tells : (a n : ℕ) → (257 < a + cut n → 257 < a + n) × (a ≤ 256 → a + cut n ≤ 257 → a + n ≤ 257)
unfolding cut
cut-tells a n = go (ltb most n) refl
  where
    go : (b : Bool) → ltb most n ≡ b → let c = mathlib.Core.Bool.cond b most n in (257 < a + c → 257 < a + n) × (a ≤ 256 → a + c ≤ 257 → a + n ≤ 257)
    go true e = let l = ltb-true most n e in (λ h. omega arith, λ f h. absurd (omega arith))
    go false e = (λ h. h, λ f h. h)

-- ---- the state with the process at a place replaced
module _ {d : Moving} {i : ℕ} {ls : List ℤ} {r : Next} {m : Resolved.Model} {s : State} {ps : List Resolved.Part}
    (h : Replaces d i ls r m s ps) where
  next_fits : Every (FitsProcess (scopes_of m)) (next_processes m ls ps)
  unfolding Every Ascending
  next_fits = (good-fits m (record { processes = next_processes m ls ps; pairs = [] }) h.stands.good (record {
    few-processes = omega (arith, h.inside, h.room);
    processes = next-good m h.stands.good ls h.defined.fit.values ps h.defined.fit.parts;
    few-pairs = omega arith;
    pairs = tt;
    ascending = tt;
  })).processes

  pub rows-wide : length (flatten process_numbers (next_processes m ls ps)) ≡ length (next_processes m ls ps) * process_width
  rows-wide = flatten-length process_numbers process_width (FitsProcess (scopes_of m)) (process-wide (scopes_of m) (few h.stands)) (next_processes m ls ps) next_fits

  pub spaced : (k size : ℕ) → r ≡ Some k → size ≡ process_room → Spaced d.tables.nodes.now d.tables.scopes.now d.tables.root d.tables.variables ls k size 0
  spaced k size e l = record { model = m; scoped = h.scoped; parts = ps; holds = continues d.tables.nodes.now d.tables.root d.tables.variables r k e h.defined; fits = omega (arith, h.inside, h.room) }

  -- what splice asks
  pub splice-asks : (count size : ℕ) → count ≡ length (next_processes m ls ps) → size ≡ process_room
      → (length d.state.now ≡ state_length) × (i < 256) × (is_below 257 (at d.state.now 0) ≡ true) × (1 ≤ nat_abs (at d.state.now 0)) × (count + i ≤ 256) × (count * process_width ≤ size)
  splice-asks count size e l =
      let n = processes-are h.stands in
      let f = h.stands.state.few-processes in
      (long h.stands, omega (arith, h.inside), processes-below d.state.now (passed h.stands), omega (arith, h.inside, n), omega (arith, h.inside, h.room), omega (arith, h.inside, h.room))

  pub replaced : (count : ℕ) (new zs' : List ℤ) → count ≡ length (next_processes m ls ps) → new ≡ flatten process_numbers (next_processes m ls ps) → zs' ≡ process_replaced i count new d.state.now → zs' ≡ state_numbers (entering m s i ls ps)
  unfolding entering
  replaced count new zs' e f g =
      g ∙ ap (process_replaced i count new) h.stands.numbers
      ∙ rw (e, f) (splice-numbers (scopes_of m) (few h.stands) m.channels s (fits h.stands) i (next_processes m ls ps) h.inside next_fits (omega (arith, h.inside, h.room)))

  -- the rows that are written first
  pub rows-put : (f g : List ℤ) (n : ℕ) → length f ≡ process_room → Rows f 0 (next_processes m ls ps) g n → (n ≡ length (next_processes m ls ps)) × (take (n * process_width) g ≡ flatten process_numbers (next_processes m ls ps)) × (length g ≡ process_room)
  rows-put f g n l w =
      let xs : List ℤ = flatten process_numbers (next_processes m ls ps) in
      let e : n ≡ length (next_processes m ls ps) = omega (arith, w.next) in
      let q : n * process_width ≡ length xs = omega (arith, rows-wide, e) in
      let z : length g ≡ length f = ap length w.numbers ∙ lib.Seq.length-sets f 0 xs in
      (e, ap (take (n * process_width)) w.numbers ∙ (ap (λ (j : ℕ). take j (sets f 0 xs)) q ∙ filled f xs (omega (arith, rows-wide, h.inside, h.room))), omega arith)
