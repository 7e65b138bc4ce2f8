-- Each answer of the test is a case of its definition. From the tables of the model, and from what the walk along the run tells.
use mathlib.Core.Path.{◌≡◌, refl, sym, ap, ◌∙◌}
use mathlib.Core.List.{List}
use mathlib.Core.Bool.{Bool, true, false}
use Prim.Native.Nat.{ℕ, ◌-◌}
use lib.IntN.{ℤ}
use lib.ListN.{length, take, drop}
use Rattle.std.specs.Prelude.{None, Some}
use Rattle.model.specs.Resolved
use Rattle.waitnames.specs.Names.{name_tokens, wait_names}
use Rattle.runs.specs.Tree.{Listed}
use Rattle.machine.specs.State.{State}
use Rattle.machine.specs.Machine.{moves_by}
use Rattle.state.specs.Fits.{scopes_of}
use Rattle.state.specs.Test.{every, at, is_zero, is_state}
use Rattle.state.specs.Decode.{decode}
use Rattle.store.specs.declared.Settled.{Settled}
use Rattle.store.proofs.Tables.{scopes-are}
use Rattle.walk.specs.declared.Written.{Written}
use Rattle.searching.specs.Lent.{Lends}
use Rattle.searching.proofs.Held.{tables, state_in}
use Rattle.underway.specs.Buffer.{is_head, is_walked, is_under, is_search, entries_in, start_part, run_in, wait_in, start_in}
use Rattle.underway.proofs.Far.{far-walked}
use Rattle.pieces.specs.declared.Position.{Position}
use Rattle.pieces.specs.Walked.{is_run}
use Rattle.pieces.specs.Position.{run_of}
use Rattle.resuming.specs.Standing.{position_in}
use Rattle.resuming.proofs.Standing.{Head, head-so, placed-none, run-is, start-is}
use Rattle.resuming.proofs.Waits.{waits-long}

-- all zeros, or such numbers
pub zeros-search : (m : Resolved.Model) (l : List ℤ) → is_zero (at l 0) ≡ true → every is_zero l ≡ is_search m l
unfolding is_search
zeros-search m l e = rw e refl

pub full-search : (m : Resolved.Model) (l : List ℤ) → is_zero (at l 0) ≡ false → is_under m l ≡ is_search m l
unfolding is_search
full-search m l e = rw e refl

module _ (x : Settled) (y : Written) (m : Resolved.Model) (h : Lends x y m) (waits : List ℕ) (w : waits ≡ name_tokens m) (l : List ℤ) where
  long : length waits ≡ length (wait_names m)
  long = ap length w ∙ sym (waits-long m)

  headed : {b : Bool} → is_head (length waits) l ≡ b → is_head (length (wait_names m)) l ≡ b
  headed e = ap (λ (n : ℕ). is_head n l) (sym long) ∙ e

  pub head-is : is_head (length waits) l ≡ true → Head (length (wait_names m)) l
  head-is e = head-so (length (wait_names m)) l (headed e)

  pub few-names : is_head (length waits) l ≡ true → Head (length waits) l
  few-names e = head-so (length waits) l e

  stated : {b : Bool} → is_state (take x.sums x.tables.scopes.now) x.channels (take (length l - 13) (drop 13 l)) ≡ b → is_state (scopes_of m) m.channels (start_part l) ≡ b
  stated e = rw (← start-is l, ← scopes-are x.tables.nodes.now x.tables.roots.now x.tables.scopes.now x.sums x.channels m (tables x y m h), ← h.represents.channels-are) e

  pub under-headless : is_head (length waits) l ≡ false → false ≡ is_under m l
  unfolding is_under
  under-headless e = rw (headed e) refl

  module _ (a : is_head (length waits) l ≡ true) where
    pub under-stateless : is_state (take x.sums x.tables.scopes.now) x.channels (take (length l - 13) (drop 13 l)) ≡ false → false ≡ is_under m l
    unfolding is_under
    under-stateless e = rw (headed a, stated e) refl

    module _ (b : is_state (take x.sums x.tables.scopes.now) x.channels (take (length l - 13) (drop 13 l)) ≡ true) where
      pub under-far : position_in l ≡ None → false ≡ is_under m l
      unfolding is_under
      under-far e = rw (headed a, stated b, far-walked m l (head-is a).entries (sym (placed-none l (entries_in l) e))) refl

      walked-is : is_run (moves_by m (wait_in l)) false (start_in m l) (run_in l) ≡ is_walked m l
      unfolding is_run is_walked
      walked-is = refl

      pub under-is : (r : Bool) (p : Position) → position_in l ≡ Some p → (W : State → Listed State) → W ≡ moves_by m (wait_in l) → r ≡ is_run W false (state_in x y m h (take (length l - 13) (drop 13 l))) (run_of p.last) → r ≡ is_under m l
      unfolding is_under
      under-is r p q W e f =
          rw (headed a, stated b) (f ∙ ap (λ (V : State → Listed State). is_run V false (state_in x y m h (take (length l - 13) (drop 13 l))) (run_of p.last)) e
          ∙ ap (λ (z : List ℤ). is_run (moves_by m (wait_in l)) false (decode (scopes_of m) z) (run_of p.last)) (start-is l)
          ∙ ap (is_run (moves_by m (wait_in l)) false (start_in m l)) (run-is l p q) ∙ walked-is)
