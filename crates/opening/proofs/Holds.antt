-- Which model a text holds goes by any reading of it and by any place at which it goes wrong, as opening does (model: Opens).
use mathlib.Core.Path.{◌≡◌, ap, ◌∙◌}
use mathlib.Core.List.{List}
use mathlib.Core.Option.{none}
use Prim.Native.Nat.{ℕ}
use Rattle.std.specs.Prelude.{Err, Ok}
use Rattle.token.specs.Token.{tokens, kinds_of}
use Rattle.token.specs.Questions.{bytes_judged, refusal}
use Rattle.grammar.specs.Grammar.{Model, Reads, Wrong}
use Rattle.grammar.specs.Syntax.{syntax_of}
use Rattle.grammar.proofs.Verdict.{verdict-fits, verdict-fails}
use Rattle.model.specs.Held.{tree_held, model_in, read_held, bytes_held, held}

module _ (text : List ℕ) where
  -- 2 to 4
  pub bytes-none : (n p : ℕ) → bytes_judged text ≡ Err (refusal n p) → held text ≡ none
  unfolding held bytes_held
  bytes-none n p e = ap (bytes_held text) e

  -- 5
  pub wrong-none : (k : ℕ) → bytes_judged text ≡ Ok tt → Wrong (kinds_of (tokens text)) k → held text ≡ none
  unfolding held bytes_held read_held
  wrong-none k e w = ap (bytes_held text) e ∙ ap (read_held text) (verdict-fails (kinds_of (tokens text)) k w)

  -- 6 to 9
  pub fits-held : (m : Model) → bytes_judged text ≡ Ok tt → Reads (kinds_of (tokens text)) m → held text ≡ model_in (tree_held text (syntax_of m))
  unfolding held bytes_held read_held
  fits-held m e r = ap (bytes_held text) e ∙ ap (read_held text) (verdict-fits (kinds_of (tokens text)) m r)
