-- A process of a state over a text's model carries the definition whose text holds its sum (02, note 6): from where the sums of the text are written.
use mathlib.Core.Path.{◌≡◌, refl}
use mathlib.Core.List.{List}
use mathlib.Core.Option.{Option, some}
use Prim.Native.Nat.{ℕ}
use native.Mathlib.Omega.{arith}
use lib.ListN.{get_elem?}
use Rattle.grammar.specs.Syntax.{syntax_of}
use Rattle.model.specs.Words.{word_of}
use Rattle.model.specs.Resolved
use Rattle.model.specs.Resolved.{resolved}
use Rattle.model.specs.Opening.{Opening}
use Rattle.model.specs.Held.{held}
use Rattle.model.proofs.Held.{Agree, refuses, holds, agree}
use Rattle.model.proofs.Written.{held_by}
use Rattle.machine.specs.Offer.{Process}
use Rattle.machine.specs.State.{GoodProcess}
use Rattle.buffers.specs.Transitions.{Carried}

pub carries : (text : List ℕ) (m : Resolved.Model) → held text ≡ some m → (p : Process) → GoodProcess m p → Carried text p
carries text m e p g = by (agree text) e
  where
    by : {o : Option Resolved.Model} {q : Opening} → Agree text o q → o ≡ some m → Carried text p
    by (refuses n l) e = absurd (let z : ◌≡◌ {A = ℕ} 0 1 = cc in omega arith)
    by (holds {s} y2 y5 y7 y8 y9) e =
        let q : resolved (word_of text) s ≡ m = cc in
        let k : get_elem? (resolved (word_of text) (syntax_of y5.reading)).sums p.sum ≡ some g.sum.sum = rw (y5.tree, q) g.sum.exists in
        let h = held_by (word_of text) y5.reading p.sum g.sum.sum k in
        record {
          tree = syntax_of y5.reading;
          reads = record { reading = y5.reading; reads = y5.reads; tree = refl };
          sum = h.0;
          number = h.1;
          written = rw g.definition h.2;
        }
