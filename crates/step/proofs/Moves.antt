-- The answer of each question, and the states between two replacements. From the lengths of what is replaced.
use mathlib.Core.Path.{◌≡◌, refl, sym, ap, ◌∙◌}
use mathlib.Core.List.{List}
use mathlib.Core.Bool.{Bool, true, false, cond, not, ◌&&◌}
use Prim.Native.Nat.{ℕ, ◌+◌, ◌-◌, ◌≤◌, ◌<◌}
use native.Mathlib.Omega.{arith}
use borrow.Author.Tests.{le-leb, lt-leb, leb-true, ltb-true}
use lib.Dec.{leb, ltb}
use lib.IntN.{ℤ}
use lib.ListN.{length}
use Rattle.std.specs.Prelude.{Err, Ok}
use Rattle.model.specs.Resolved
use Rattle.rules.specs.Rules.{Change}
use Rattle.rules.specs.Pairs.{pairs_after}
use Rattle.rules.specs.Step.{replace, replace_both}
use Rattle.rules.proofs.Spliced.{replace-length, replace_both-length, later_first, earlier-first, either_first}
use Rattle.machine.specs.Offer.{Process, arguments_given, next_processes}
use Rattle.machine.specs.State.{State, GoodProcess, state_numbers}
use Rattle.machine.proofs.Everys.{every-replace}
use Rattle.machine.proofs.Continues.{next-good}
use Rattle.std.specs.Prelude.{Option as RustOption}
use Rattle.eval.specs.declared.offer.Offer.{Offer}
use Rattle.eval.specs.Next.{Next, cut, most}
use Rattle.step.specs.declared.Refusal.TheVariants.{Arguments, Processes, Pairs}
use Rattle.step.specs.declared.Moving.{Moving}
use Rattle.step.specs.Enter.{Stands, Continued, Replaces, entering, Changes, changed, verdict, state_of, Answers, Alone, Both, both_entering, Meets, Taken}

pub not-true : (b : Bool) → not b ≡ true → b ≡ false
not-true true e = let z : ◌≡◌ {A = ℕ} 0 1 = cc in absurd (omega arith)
not-true false e = refl

pub not-false : (b : Bool) → not b ≡ false → b ≡ true
not-false true e = refl
not-false false e = let z : ◌≡◌ {A = ℕ} 0 1 = cc in absurd (omega arith)

pub cut-zero : (n : ℕ) → cut n ≡ 0 → n ≡ 0
unfolding cut
cut-zero n e = go (ltb most n) refl e
  where
    go : (b : Bool) → ltb most n ≡ b → cond b most n ≡ 0 → n ≡ 0
    go true q e = absurd (omega arith)
    go false q e = e

pub cut-some : (n : ℕ) → (cut n ≡ 0 → ⊥) → 1 ≤ n
unfolding cut
cut-some n e = go (ltb most n) refl e
  where
    go : (b : Bool) → ltb most n ≡ b → (cond b most n ≡ 0 → ⊥) → 1 ≤ n
    go true q e = let l = ltb-true most n q in omega arith
    go false q e = omega (arith, e)

-- two cut numbers tell of the limit
pub cut-both : (a n p : ℕ) → (258 < a + cut n + cut p → 258 < a + n + p) × (a + cut n + cut p ≤ 258 → a + n + p ≤ 258)
unfolding cut
cut-both a n p = go (ltb most n) refl (ltb most p) refl
  where
    go : (b : Bool) → ltb most n ≡ b → (c : Bool) → ltb most p ≡ c → let x = cond b most n in let y = cond c most p in (258 < a + x + y → 258 < a + n + p) × (a + x + y ≤ 258 → a + n + p ≤ 258)
    go true e c f = let l = ltb-true most n e in (λ h. omega arith, λ h. absurd (omega arith))
    go false e true f = let l = ltb-true most p f in (λ h. omega arith, λ h. absurd (omega arith))
    go false e false f = (λ h. h, λ h. h)

-- ---- the state after one replacement
module _ {d : Moving} {i : ℕ} {ls : List ℤ} {r : Next} {m : Resolved.Model} {s : State} {ps : List Resolved.Part}
    (h : Replaces d i ls r m s ps) where
  pub entering-length : length (entering m s i ls ps).processes + 1 ≡ length s.processes + length (next_processes m ls ps)
  unfolding entering
  entering-length = replace-length i (next_processes m ls ps) s.processes h.inside

  pub entering-stands : (zs' : List ℤ) → zs' ≡ state_numbers (entering m s i ls ps) → Stands zs' m (entering m s i ls ps)
  unfolding entering
  entering-stands zs' e = record {
    good = h.stands.good;
    state = record {
      few-processes = omega (arith, entering-length, h.room);
      processes = every-replace (GoodProcess m) i (next_processes m ls ps) s.processes (next-good m h.stands.good ls h.defined.fit.values ps h.defined.fit.parts) h.stands.state.processes;
      few-pairs = h.stands.state.few-pairs;
      pairs = h.stands.state.pairs;
      ascending = h.stands.state.ascending;
    };
    numbers = e;
  }

-- ---- a process by itself
module _ {d : Moving} {i : ℕ} {ls : List ℤ} {next : Next} {offer : RustOption Offer} {m : Resolved.Model} {s : State} {ps : List Resolved.Part} {n : Change}
    (h : Alone d i ls next offer m s ps n) where
  pub continued : Continued d.tables.nodes.now ls next
  continued = record { model = m; parts = ps; shows = h.defined.shows; fit = h.defined.fit }

  pub changes : Changes d.state.now offer m s n
  changes = record { stands = h.stands; shows = h.shows; good = h.good }

  pub replaces : length s.processes + length (next_processes m ls ps) ≤ 257 → Replaces d i ls next m s ps
  replaces l = record { scoped = h.scoped; stands = h.stands; defined = h.defined; inside = h.inside; room = l }

  pub changes-then : (l : length s.processes + length (next_processes m ls ps) ≤ 257) (zs' : List ℤ) → zs' ≡ state_numbers (entering m s i ls ps) → Changes zs' offer m (entering m s i ls ps) n
  changes-then l zs' e = record { stands = entering-stands (replaces l) zs' e; shows = h.shows; good = h.good }

  abbrev Gives : Taken → List ℤ → Type 0
  Gives r zs' = Answers (arguments_given ls ps) s (changed (entering m s i ls ps) n) r zs'

  after-length : length (replace i (next_processes m ls ps) s.processes) + 1 ≡ length s.processes + length (next_processes m ls ps)
  after-length = replace-length i (next_processes m ls ps) s.processes h.inside

  pub no-17 : arguments_given ls ps ≡ false → Gives (Err Arguments) d.state.now
  unfolding verdict state_of
  no-17 e = record { is = rw e refl; numbers = h.stands.numbers }

  pub no-18 : arguments_given ls ps ≡ true → 257 < length s.processes + length (next_processes m ls ps) → Gives (Err Processes) d.state.now
  unfolding verdict state_of changed entering
  no-18 e l = record { is = rw (e, lt-leb (length (replace i (next_processes m ls ps) s.processes)) 256 (omega (arith, after-length, l))) refl; numbers = h.stands.numbers }

  few : length s.processes + length (next_processes m ls ps) ≤ 257 → leb (length (replace i (next_processes m ls ps) s.processes)) 256 ≡ true
  few l = le-leb (length (replace i (next_processes m ls ps) s.processes)) 256 (omega (arith, after-length, l))

  pub no-19 : arguments_given ls ps ≡ true → length s.processes + length (next_processes m ls ps) ≤ 257 → leb (length (pairs_after n s.pairs)) 256 ≡ false → Gives (Err Pairs) d.state.now
  unfolding verdict state_of changed entering
  no-19 e l f = record { is = rw (e, few l, f) refl; numbers = h.stands.numbers }

  pub yes : arguments_given ls ps ≡ true → length s.processes + length (next_processes m ls ps) ≤ 257 → leb (length (pairs_after n s.pairs)) 256 ≡ true
      → (zs' : List ℤ) → zs' ≡ state_numbers (changed (entering m s i ls ps) n) → Gives (Ok tt) zs'
  unfolding verdict state_of changed entering
  yes e l f zs' q = record { is = rw (e, few l, f) refl; numbers = q }

  pub room_after : leb (length (pairs_after n s.pairs)) 256 ≡ true → length (pairs_after n (entering m s i ls ps).pairs) ≤ 256
  unfolding entering
  room_after f = leb-true (length (pairs_after n s.pairs)) 256 f

-- ---- two processes
module _ {d : Moving} {i : ℕ} {ls : List ℤ} {next : Next} {k : ℕ} {us : List ℤ} {other : Next} {m : Resolved.Model} {s : State} {ps qs : List Resolved.Part}
    (h : Both d i ls next k us other m s ps qs) where
  module _ (z : length (next_processes m ls ps) ≡ 0) where
    pub first_goes : Replaces d i ls next m s ps
    first_goes = record { scoped = h.scoped; stands = h.stands; defined = h.first; inside = omega (arith, h.order, h.inside); room = omega (arith, h.stands.state.few-processes, z) }

    pub second-next : (d' : Moving) → d'.tables ≡ d.tables → d'.state.now ≡ state_numbers (entering m s i ls ps) → Replaces d' (k - 1) us other m (entering m s i ls ps) qs
    second-next d' q e = record {
      scoped = rw q h.scoped;
      stands = entering-stands first_goes d'.state.now e;
      defined = rw q h.second;
      inside = omega (arith, entering-length first_goes, h.order, h.inside, z);
      room = omega (arith, entering-length first_goes, h.room, z, h.order, h.inside);
    }

    pub first-both : state_numbers (entering m (entering m s i ls ps) (k - 1) us qs) ≡ state_numbers (both_entering m s i ls ps k us qs)
    unfolding entering both_entering
    first-both =
        let q : length (next_processes m ls ps) + k - 1 ≡ k - 1 = omega (arith, z, h.order) in
        let e = earlier-first i (next_processes m ls ps) k (next_processes m us qs) s.processes h.order h.inside in
        sym (ap (λ (xs : List Process). state_numbers (record { processes = xs; pairs = s.pairs })) (e ∙ ap (λ (j : ℕ). replace j (next_processes m us qs) (replace i (next_processes m ls ps) s.processes)) q))

  module _ (z : 1 ≤ length (next_processes m ls ps)) where
    pub second-goes : Replaces d k us other m s qs
    second-goes = record { scoped = h.scoped; stands = h.stands; defined = h.second; inside = h.inside; room = omega (arith, h.room, z) }

    pub first_next : (d' : Moving) → d'.tables ≡ d.tables → d'.state.now ≡ state_numbers (entering m s k us qs) → Replaces d' i ls next m (entering m s k us qs) ps
    first_next d' q e = record {
      scoped = rw q h.scoped;
      stands = entering-stands second-goes d'.state.now e;
      defined = rw q h.first;
      inside = omega (arith, entering-length second-goes, h.order, h.inside);
      room = omega (arith, entering-length second-goes, h.room);
    }

    pub second-both : state_numbers (entering m (entering m s k us qs) i ls ps) ≡ state_numbers (both_entering m s i ls ps k us qs)
    unfolding entering both_entering
    second-both = sym (ap (λ (xs : List Process). state_numbers (record { processes = xs; pairs = s.pairs })) (later_first i (next_processes m ls ps) k (next_processes m us qs) s.processes h.order))

-- ---- a handshake
module _ {d : Moving} {i : ℕ} {ls : List ℤ} {next : Next} {k : ℕ} {us : List ℤ} {other : Next} {m : Resolved.Model} {s : State} {ps qs : List Resolved.Part}
    (h : Meets d i ls next k us other m s ps qs) where
  pub first-continued : Continued d.tables.nodes.now ls next
  first-continued = record { model = m; parts = ps; shows = h.first.shows; fit = h.first.fit }

  pub second-continued : Continued d.tables.nodes.now us other
  second-continued = record { model = m; parts = qs; shows = h.second.shows; fit = h.second.fit }

  abbrev Comes : Taken → List ℤ → Type 0
  Comes r zs' = Answers (arguments_given ls ps && arguments_given us qs) s (both_entering m s i ls ps k us qs) r zs'

  pub first-17 : arguments_given ls ps ≡ false → Comes (Err Arguments) d.state.now
  unfolding verdict state_of
  first-17 e = record { is = rw e refl; numbers = h.stands.numbers }

  pub second-17 : arguments_given ls ps ≡ true → arguments_given us qs ≡ false → Comes (Err Arguments) d.state.now
  unfolding verdict state_of
  second-17 e f = record { is = rw (e, f) refl; numbers = h.stands.numbers }

  both-length : length (replace_both i (next_processes m ls ps) k (next_processes m us qs) s.processes) + 2 ≡ length s.processes + length (next_processes m ls ps) + length (next_processes m us qs)
  both-length = replace_both-length i (next_processes m ls ps) k (next_processes m us qs) s.processes h.apart h.first-inside h.second-inside

  pub both-18 : arguments_given ls ps ≡ true → arguments_given us qs ≡ true → 258 < length s.processes + length (next_processes m ls ps) + length (next_processes m us qs) → Comes (Err Processes) d.state.now
  unfolding verdict state_of both_entering
  both-18 e f l = record {
    is = rw (e, f, lt-leb (length (replace_both i (next_processes m ls ps) k (next_processes m us qs) s.processes)) 256 (omega (arith, both-length, l))) refl;
    numbers = h.stands.numbers;
  }

  pub both_yes : arguments_given ls ps ≡ true → arguments_given us qs ≡ true → length s.processes + length (next_processes m ls ps) + length (next_processes m us qs) ≤ 258
      → (zs' : List ℤ) → zs' ≡ state_numbers (both_entering m s i ls ps k us qs) → Comes (Ok tt) zs'
  unfolding verdict state_of both_entering
  both_yes e f l zs' q = record {
    is = rw (e, f, le-leb (length (replace_both i (next_processes m ls ps) k (next_processes m us qs) s.processes)) 256 (omega (arith, both-length, l)), le-leb (length s.pairs) 256 h.stands.state.few-pairs) refl;
    numbers = q;
  }

  module _ (l : length s.processes + length (next_processes m ls ps) + length (next_processes m us qs) ≤ 258) where
    pub in_order : i < k → Both d i ls next k us other m s ps qs
    in_order o = record { scoped = h.scoped; stands = h.stands; first = h.first; second = h.second; order = o; inside = h.second-inside; room = l }

    pub turned : k ≤ i → Both d k us other i ls next m s qs ps
    turned o = record { scoped = h.scoped; stands = h.stands; first = h.second; second = h.first; order = omega (arith, o, h.apart); inside = h.first-inside; room = omega (arith, l) }

  pub turned_same : state_numbers (both_entering m s k us qs i ls ps) ≡ state_numbers (both_entering m s i ls ps k us qs)
  unfolding both_entering
  turned_same = ap (λ (xs : List Process). state_numbers (record { processes = xs; pairs = s.pairs })) (either_first k (next_processes m us qs) i (next_processes m ls ps) s.processes)
