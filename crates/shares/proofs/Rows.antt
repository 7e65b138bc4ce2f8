-- An entry's place and weight, read from the listing buffer. Seven numbers an entry.
use mathlib.Core.Path.{◌≡◌, refl, sym, ap, ◌∙◌}
use mathlib.Core.List.{List, [], ◌∷◌}
use Prim.Native.Nat.{ℕ, zero, suc, ◌+◌, ◌*◌, ◌≤◌, ◌<◌}
use native.Mathlib.Omega.{arith}
use lib.ListN.{length, get_or, drop}
use lib.Seq.{get_or-drop}
use Rattle.rules.specs.Rules.{key}
use Rattle.rules.specs.Listing.{Entry, entry, key_of, weight_of}
use Rattle.rules.specs.Subtotals.{actor}
use Rattle.machine.specs.Machine.{entry_width}
use Rattle.listing.specs.Buffer.{rows}

-- what stands past the last entry
abbrev pub nil : Entry
nil = entry (key 0 0 0 0 0 0) 0

shift : (l : List ℕ) (n j : ℕ) → get_or l (suc n * entry_width + j) 0 ≡ get_or (drop entry_width l) (n * entry_width + j) 0
shift l n j = let e : entry_width + (n * entry_width + j) ≡ suc n * entry_width + j = omega arith in sym (get_or-drop entry_width l (n * entry_width + j) 0 ∙ ap (λ (k : ℕ). get_or l k 0) e)

pub place_in : (es : List Entry) (rest : List ℕ) (n : ℕ) → n < length es → get_or (rows es rest) (n * entry_width + 1) 0 ≡ actor (key_of (get_or es n nil))
unfolding rows actor key_of
place_in [] rest n l = absurd (omega arith)
place_in (entry (key c i j k m q) w ∷ es) rest zero l = refl
place_in (entry (key c i j k m q) w ∷ es) rest (suc n) l = shift (rows (entry (key c i j k m q) w ∷ es) rest) n 1 ∙ place_in es rest n (omega arith)

pub weight-in : (es : List Entry) (rest : List ℕ) (n : ℕ) → n < length es → get_or (rows es rest) (n * entry_width + 6) 0 ≡ weight_of (get_or es n nil)
unfolding rows weight_of
weight-in [] rest n l = absurd (omega arith)
weight-in (entry (key c i j k m q) w ∷ es) rest zero l = refl
weight-in (entry (key c i j k m q) w ∷ es) rest (suc n) l = shift (rows (entry (key c i j k m q) w ∷ es) rest) n 6 ∙ weight-in es rest n (omega arith)

pub rows_long : (es : List Entry) (rest : List ℕ) → length es * entry_width ≤ length (rows es rest)
unfolding rows
rows_long [] rest = omega arith
rows_long (entry (key c i j k m q) w ∷ es) rest = omega (arith, rows_long es rest)
