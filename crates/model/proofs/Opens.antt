-- Opening a text goes by any reading of it, since there is but one, and by any place at which it goes wrong, since there is but one.
use mathlib.Core.Path.{◌≡◌, ap, ◌∙◌}
use mathlib.Core.List.{List}
use Prim.Native.Nat.{ℕ}
use Rattle.std.specs.Prelude.{Err, Ok}
use Rattle.token.specs.Token.{tokens, kinds_of}
use Rattle.token.specs.Questions.{bytes_judged, refusal}
use Rattle.grammar.specs.Grammar.{Model, Reads, Wrong}
use Rattle.grammar.specs.Syntax.{syntax_of}
use Rattle.grammar.proofs.Verdict.{verdict-fits, verdict-fails}
use Rattle.model.specs.Opening.{refused, byte_place, tree_judged, read_judged, after_bytes, opening}

module _ (text : List ℕ) where
  -- 2 to 4
  pub bytes-refused : (n p : ℕ) → bytes_judged text ≡ Err (refusal n p) → opening text ≡ refused n p
  unfolding opening after_bytes
  bytes-refused n p e = ap (after_bytes text) e

  -- 5
  pub goes-wrong : (k : ℕ) → bytes_judged text ≡ Ok tt → Wrong (kinds_of (tokens text)) k → opening text ≡ refused 5 (byte_place text k)
  unfolding opening after_bytes read_judged
  goes-wrong k e w = ap (after_bytes text) e ∙ ap (read_judged text) (verdict-fails (kinds_of (tokens text)) k w)

  -- 6 to 10
  pub fits : (m : Model) → bytes_judged text ≡ Ok tt → Reads (kinds_of (tokens text)) m → opening text ≡ tree_judged text (syntax_of m)
  unfolding opening after_bytes read_judged
  fits m e r = ap (after_bytes text) e ∙ ap (read_judged text) (verdict-fits (kinds_of (tokens text)) m r)
