-- Even words choose entries as their weights say (docs/DECISIONS.md, R.2). Definitions only; proofs/Choice.antt has that it holds.
use Rattle.std.specs.Prelude.{◌≡◌, Bool, List, ℕ, ◌*◌, ◌≤◌, ◌<◌}
use Rattle.rules.specs.Rules.{Nth}
use Rattle.rules.specs.Listing.{Entry, weight_of}
use Rattle.rules.specs.Draw.{weights, total, chosen, is_chosen}
use Rattle.words.specs.Words.{word_values}
use Rattle.words.specs.Exact.{count_words, gives_one, is_turned}

-- R.2: a word is used, and its draw chooses entry i
unfoldable pub chooses_entry : List Entry → (i word : ℕ) → Bool
chooses_entry es i = gives_one word_values (total (weights es)) (λ d. is_chosen i (chosen (weights es) d))

-- R.2: of the 2^64 words each entry is chosen by its weight times the same number, at least 1, and fewer than the total are turned away
pub record EvenChoice (es : List Entry) : Type 0 where
  pub times : ℕ
  pub some_words : 1 ≤ times
  pub entry : {i : ℕ} {e : Entry} → Nth es i e → count_words (chooses_entry es i) word_values ≡ times * weight_of e
  pub turned : count_words (is_turned word_values (total (weights es))) word_values < total (weights es)
