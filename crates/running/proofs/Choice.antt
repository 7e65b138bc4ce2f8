-- Even words choose entries as their weights say: each draw comes from equally many words, and each entry is chosen by as many draws as its weight says.
use mathlib.Core.Path.{◌≡◌, refl, ap, ◌∙◌}
use mathlib.Core.Bool.{Bool}
use mathlib.Core.List.{List}
use Prim.Native.Nat.{ℕ, zero, suc, ◌*◌, ◌/◌, ◌≤◌, ◌<◌}
use native.Mathlib.Omega.{arith}
use Rattle.model.specs.Resolved
use Rattle.rules.specs.Rules.{Nth}
use Rattle.rules.specs.Listing.{Entry, weight_of}
use Rattle.rules.specs.Draw.{weights, total, chosen, is_chosen, count}
use Rattle.rules.proofs.Draws.{draws, nth-weight}
use Rattle.words.specs.Words.{word_values}
use Rattle.words.specs.Exact.{count_words, Exact}
use Rattle.words.proofs.Exact.{exact}
use Rattle.machine.specs.State.{State}
use Rattle.machine.specs.Machine.{entries_are, listing}
use Rattle.machine.proofs.Listing.{accepted}
use Rattle.running.specs.Choice.{chooses_entry, EvenChoice}

-- both count alike
counts-alike : (p : ℕ → Bool) (n : ℕ) → count_words p n ≡ count p n
unfolding count_words count
counts-alike p zero = refl
counts-alike p (suc n) = omega (arith, counts-alike p n)

module _ (es : List Entry) (above : 0 < total (weights es)) (fits : total (weights es) ≤ word_values) where
  abbrev ws : List ℕ
  ws = weights es

  even : Exact word_values (total ws) (word_values / total ws)
  even = exact word_values (total ws) above fits

  chosen_by : (i : ℕ) (e : Entry) → Nth es i e → count_words (chooses_entry es i) word_values ≡ word_values / total ws * weight_of e
  unfolding chooses_entry
  chosen_by i e h =
      even.draws (λ d. is_chosen i (chosen ws d))
      ∙ ap (λ (n : ℕ). word_values / total ws * n) (counts-alike (λ d. is_chosen i (chosen ws d)) (total ws) ∙ draws ws i ∙ nth-weight h)

  pub evenly : EvenChoice es
  evenly = record { times = word_values / total ws; some_words = even.some_words; entry = λ h. chosen_by _ _ h; turned = even.turned }

-- R.2: of every listing above total zero that the machine gives
pub even-choice : (m : Resolved.Model) (s : State) (es : List Entry) → listing m s ≡ entries_are es → 0 < total (weights es) → EvenChoice es
even-choice m s es e above = evenly es above (omega (arith, ((accepted m s es).0 e).3))
