-- The tables of a text that a model buffer holds, from what reading it gives; and what the run over them is lent.
use mathlib.Core.Path.{◌≡◌, refl, sym}
use mathlib.Core.List.{List}
use mathlib.Core.Bool.{true}
use Prim.Native.Nat.{ℕ}
use lib.IntN.{ℤ}
use lib.ListN.{length, take}
use mathlib.Core.Option.{none}
use Rattle.std.specs.Prelude.{Err, Ok, Some, None}
use Rattle.std.specs.Result.{result_ok}
use Rattle.model.specs.Held.{held}
use Rattle.opening.specs.declared.SoundModel.{SoundModel}
use Rattle.opening.proofs.Models.{none-held, held-model}
use Rattle.model.specs.Resolved
use Rattle.model.proofs.Held.{held-good}
use Rattle.settle.specs.declared.Model.{Model}
use Rattle.opening.specs.Models.{ModelHeld, ModelRead, Held}
use Rattle.machine.specs.State.{state_length}
use Rattle.state.specs.Test.{is_state}
use Rattle.store.specs.Tables.{Tables, Whole}
use Rattle.store.proofs.Tables.{state_of, numbers-back, state-good}
use Rattle.step.specs.Enter.{Lent}

-- ---- what was read

module _ (text t roots scopes : List ℕ) where
  -- as an Option of the result has it
  pub none-read : (r : Held) → ModelRead text t roots scopes r → result_ok r ≡ None → held text ≡ none
  none-read (Ok f) d e = cc
  none-read (Err x) d e = none-held text t roots scopes (Err x) d refl

  pub read-model : (r : Held) {f : SoundModel} → ModelRead text t roots scopes r → result_ok r ≡ Some f → ModelHeld text t roots scopes f.model f.place
  read-model (Ok g) {f} d e = let i : g ≡ f = cc in rw i at (held-model text t roots scopes (Ok g) d refl)
  read-model (Err x) d e = cc

  pub whole : {x : Model} {p : ℕ} (o : ModelHeld text t roots scopes x p) → Whole t roots scopes x.lists.root x.lists.variables x.sums x.channels o.model
  whole {x} o = record { definitions = x.lists.definitions; represents = o.shown; good = held-good text o.model o.holds }

-- ---- what the run is lent

module _ (t roots scopes : List ℕ) (root variables sums channels : ℕ) (m : Resolved.Model) (h : Whole t roots scopes root variables sums channels m) where
  pub tables : Tables t roots scopes sums channels m
  tables = record { root = root; variables = variables; definitions = h.definitions; represents = h.represents; good = h.good }

  module _ (zs : List ℤ) (l : length zs ≡ state_length) (e : is_state (take sums scopes) channels zs ≡ true) where
    pub run_lent : Lent t roots scopes root variables zs m (state_of t roots scopes sums channels m tables zs)
    run_lent = record {
      definitions = h.definitions;
      sums = sums;
      channels = channels;
      represents = h.represents;
      stands = record { good = h.good; state = state-good t roots scopes sums channels m tables zs l e; numbers = sym (numbers-back t roots scopes sums channels m tables zs l e) };
    }
