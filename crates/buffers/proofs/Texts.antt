-- After every list of calls the model buffer is that of the last accepted text: by induction on the calls, of which openings alone write it.
use mathlib.Core.Path.{◌≡◌, refl, ap, ◌∙◌}
use mathlib.Core.Bool.{Bool, true, false}
use mathlib.Core.List.{List, [], ◌∷◌}
use mathlib.Core.Option.{Option, none, Option-elim}
use Prim.Native.Nat.{ℕ}
use lib.ListN.{length}
use Rattle.model.specs.Opening.{Opening, refused, opened}
use Rattle.machine.specs.Machine.{Machine, closed, holding, Request, Ask, open', open_steady', on', model, lent_to, uses, is_lent, has_lengths}
use Rattle.buffers.specs.Parts.{Engine, fresh, numbers_of}
use Rattle.buffers.specs.Effect.{Effect, untouched, opens_with, left_in, leaves, requested, answered}
use Rattle.buffers.specs.Calls.{BufferCall, lent_engine, left_by, lent_lengths, engine_after, Holds, zeros}
use Rattle.buffers.specs.Texts.{keeps, reads, text_after, bytes_of}
use Rattle.buffers.proofs.Local.{model-lent}
use Rattle.buffers.proofs.Every.{IsOpening, plainly, steadily, stays, one-untouched, own-engine, left_as, asks-all, call-goes}

-- a request leaves the model buffer as it was lent
same_bytes_lem : (r : Request) (x : Engine) (y : Machine) → left_in (uses r) x y model ≡ x model
unfolding left_in numbers_of
same_bytes_lem r x closed = refl
same_bytes_lem r x (holding h) = rw (model-lent r)

-- an opening with right lengths writes the text's bytes, or zeros
written : (text : List ℕ) (o : Opening) (l : List ℕ) → (opens_with text o l).left model ≡ bytes_of (keeps text o)
unfolding opens_with bytes_of keeps Option-elim fresh numbers_of
written text (refused n p) l = refl
written text (opened m) l = refl

-- what one call leaves in it
module _ {x : Engine} {y : Machine} (h : Holds x y) (o : Option (List ℕ)) (e : x model ≡ bytes_of o) (c : BufferCall) where
  opens : {k : Ask} {text : List ℕ} {o : Opening} → has_lengths c.ask (lent_lengths c) (length c.output) ≡ true → IsOpening k text o → c.ask ≡ k → left_by x c model ≡ bytes_of (keeps text o)
  opens {k} {text} {o} w i q =
      left_as h c w model (rw q (i.lent model)) ∙ ap (λ (e : Effect). e.left model) (asks-all h c w ∙ ap (λ (k : Ask). answered k (lent_engine c x) c.output) q ∙ i.effect_is _ c.output) ∙ written text o c.output

  left-model : left_by x c model ≡ bytes_of (reads o (has_lengths c.ask (lent_lengths c) (length c.output)) c.ask)
  left-model = by (has_lengths c.ask (lent_lengths c) (length c.output)) refl c.ask refl
    where
      by : (b : Bool) → has_lengths c.ask (lent_lengths c) (length c.output) ≡ b → (k : Ask) → c.ask ≡ k → left_by x c model ≡ bytes_of (reads o b k)
      by true w (open' text) q = unfold reads in opens w (plainly text) q
      by true w (open_steady' text) q = unfold reads in opens w (steadily text) q
      by true w (on' r) q = unfold reads answered requested leaves in
          let t : is_lent model (lent_to c.ask) ≡ true = rw q (model-lent r) in
          left_as h c w model t
          ∙ ap (λ (e : Effect). e.left model) (asks-all h c w ∙ ap (λ (k : Ask). answered k (lent_engine c x) c.output) q)
          ∙ same_bytes_lem r (lent_engine c x) _
          ∙ own-engine h c w model t
          ∙ e
      by false w (open' text) q = unfold reads untouched in stays h c (ap (λ (e : Effect). e.left) (one-untouched h c w)) model ∙ e
      by false w (open_steady' text) q = unfold reads untouched in stays h c (ap (λ (e : Effect). e.left) (one-untouched h c w)) model ∙ e
      by false w (on' r) q = unfold reads untouched in stays h c (ap (λ (e : Effect). e.left) (one-untouched h c w)) model ∙ e

-- whatever is held, from there on
from-any : (x : Engine) (y : Machine) → Holds x y → (o : Option (List ℕ)) → x model ≡ bytes_of o → (cs : List BufferCall) → engine_after x cs model ≡ bytes_of (text_after o cs)
unfolding engine_after text_after
from-any x y h o e [] = e
from-any x y h o e (c ∷ cs) = from-any (left_by x c) _ (call-goes h c).left _ (left-model h o e c) cs

-- 01, Fresh, Open: from the fresh engine
pub last-text : (cs : List BufferCall) → engine_after fresh cs model ≡ bytes_of (text_after none cs)
unfolding fresh bytes_of Option-elim
last-text cs = from-any fresh closed (zeros (λ p. refl)) none refl cs
