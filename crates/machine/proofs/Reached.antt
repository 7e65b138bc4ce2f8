-- After any list of calls the fresh machine is closed, or holds a model that some text opened, with what is over it. By induction on the calls, given that opened models are good.
use mathlib.Core.Path.{◌≡◌, refl, sym, ap, ◌∙◌}
use mathlib.Core.List.{List, [], ◌∷◌}
use mathlib.Core.Bool.{Bool, true, false, cond}
use Prim.Native.Nat.{ℕ, ◌≤◌}
use Rattle.model.specs.Resolved
use Rattle.model.specs.Opening.{process_limit, Opening, refused, opened, opening}
use Rattle.model.specs.Opening as opening
use Rattle.model.specs.Good.{GoodModel}
use Rattle.profile.specs.Opening.{opening_steady}
use Rattle.profile.proofs.Opened.{opened-plain}
use Rattle.machine.specs.Machine.{as_lent, no, turn, Held, Good, Machine, closed, holding, Request, Ask, open', open_steady', on', acts, has_lengths, Call, opens, on_machine, asked_of_machine, calls, after}
use Rattle.machine.proofs.Keeps.{opened-good, acts-good, same-model}

-- a model that some text opened, and all that is held over it
pub record Holds (h : Held) : Type 0 where
  pub text : List ℕ
  pub read : opening text ≡ opened h.model
  pub model : GoodModel h.model
  pub good : Good h

unfoldable pub GoodMachine : Machine → Type 0
GoodMachine closed = Unit {0}
GoodMachine (holding h) = Holds h

module _ (opened-model : (text : List ℕ) (m : Resolved.Model) → opening text ≡ opened m → GoodModel m × (opening.processes_at_start m.definitions m.starts ≤ process_limit)) where
  -- an opening that opens no other model than a plain one does
  opening-good : (text : List ℕ) (o : Opening) → ((m : Resolved.Model) → o ≡ opened m → opening text ≡ opened m) → GoodMachine (opens o).machine
  unfolding opens GoodMachine
  opening-good text (refused n p) h = tt
  opening-good text (opened m) h = let g = opened-model text m (h m refl) in record { text = text; read = h m refl; model = g.0; good = opened-good m g.0 g.1 }

  request-good : (r : Request) (h : Held) → Holds h → Holds (acts r h).machine
  request-good r h g = record {
    text = g.text;
    read = g.read ∙ ap opened (sym (same-model r h));
    model = rw (same-model r h) g.model;
    good = acts-good r h g.model g.good;
  }

  asked-good : (y : Machine) (k : Ask) → GoodMachine y → GoodMachine (asked_of_machine y k).machine
  unfolding asked_of_machine on_machine GoodMachine
  asked-good y (open' text) g = opening-good text (opening text) (λ m e. e)
  asked-good y (open_steady' text) g = opening-good text (opening_steady text) (λ m e. opened-plain text m e)
  asked-good closed (on' r) g = tt
  asked-good (holding h) (on' r) g = request-good r h g

  -- one call
  pub call-good : (y : Machine) (c : Call) → GoodMachine y → GoodMachine (calls y c).machine
  unfolding calls
  call-good y c g = by (has_lengths c.ask c.lengths c.output)
    where
      by : (b : Bool) → GoodMachine (cond b (asked_of_machine y c.ask) (turn y (no 1 0 0 as_lent))).machine
      by true = asked-good y c.ask g
      by false = g

  -- every list of calls
  pub after-good : (cs : List Call) (y : Machine) → GoodMachine y → GoodMachine (after y cs)
  unfolding after
  after-good [] y g = g
  after-good (c ∷ cs) y g = after-good cs (calls y c).machine (call-good y c g)

  pub reached : (cs : List Call) → GoodMachine (after closed cs)
  unfolding GoodMachine
  reached cs = after-good cs closed tt
