-- A process written after the others gives the numbers of the state with that process more: what is overwritten are unused numbers.
use mathlib.Core.Path.{◌≡◌, refl, sym, ap, ap₂, ◌∙◌}
use mathlib.Core.List.{List, [], ◌∷◌, ◌++◌, append_assoc, append-nil}
use Prim.Native.Nat.{ℕ, zero, suc, ◌+◌, ◌-◌, ◌*◌, ◌≤◌, ◌<◌}
use native.Mathlib.Omega.{arith}
use lib.IntN.{ℤ, pos}
use lib.ListN.{length, set, take, drop, replicate, length-append, length-replicate, length-set, replicate-append-replicate}
use lib.Seq.{take_at, drop_at, take-append-le, drop-append-le, take-append-add, drop-append-add}
use Rattle.model.specs.Limits.{local_limit}
use Rattle.machine.specs.Offer.{Process}
use Rattle.machine.specs.State.{State, padded, flatten, process_numbers, pair_numbers, state_numbers, pair_room, process_room, process_width}
use Rattle.state.specs.Fits.{FewLocals, FitsProcess, Fits}
use Rattle.state.specs.Change.{process_added, process_pushed}
use Rattle.state.proofs.Rows.{flatten-length, padded-length}
use Rattle.state.proofs.Entries.{process-wide, few-of-process}
use Rattle.state.proofs.Spliced.{flatten-append}

-- a number set in the front list, and one in the list behind it
set_front : (a b : List ℤ) (i : ℕ) (v : ℤ) → i < length a → set (a ++ b) i v ≡ set a i v ++ b
set_front [] b i v l = absurd (omega arith)
set_front (x ∷ a) b zero v l = refl
set_front (x ∷ a) b (suc i) v l = ap (λ (r : List ℤ). x ∷ r) (set_front a b i v (omega arith))

set_past : (a b : List ℤ) (i : ℕ) (v : ℤ) → set (a ++ b) (length a + i) v ≡ a ++ set b i v
set_past [] b i v = let e : 0 + i ≡ i = omega arith in ap (λ (j : ℕ). set b j v) e
set_past (x ∷ a) b i v = let e : suc (length a) + i ≡ suc (length a + i) = omega arith in ap (λ (j : ℕ). set (x ∷ (a ++ b)) j v) e ∙ ap (λ (r : List ℤ). x ∷ r) (set_past a b i v)

abbrev Z : ℕ → List ℤ
Z n = replicate n (pos 0)

-- ---- numbers f, then 0s: a row written over the first 0s, its last number first
module _ (total : ℕ) (f ls : List ℤ) (z d : ℤ) (room : length f + process_width ≤ total) (few : length ls ≤ local_limit) where
  -- the 0s after the row
  abbrev rest : List ℤ
  rest = Z (total - (length f + process_width))

  -- the row's last number in place
  abbrev marked : List ℤ
  marked = set (padded total f) (length f + (1 + local_limit)) d

  zeros-apart : Z (total - length f) ≡ Z (1 + local_limit) ++ (pos 0 ∷ rest)
  zeros-apart =
      let e : 1 + local_limit + (1 + (total - (length f + process_width))) ≡ total - length f = omega arith in
      let g : 1 + (total - (length f + process_width)) ≡ suc (total - (length f + process_width)) = omega arith in
      sym (ap (λ (j : ℕ). Z (1 + local_limit) ++ Z j) (sym g) ∙ replicate-append-replicate (1 + local_limit) (1 + (total - (length f + process_width))) (pos 0) ∙ ap Z e)

  marked-is : marked ≡ f ++ (Z (1 + local_limit) ++ (d ∷ rest))
  unfolding padded
  marked-is =
      ap (λ (l : List ℤ). set (f ++ l) (length f + (1 + local_limit)) d) zeros-apart ∙ set_past f (Z (1 + local_limit) ++ (pos 0 ∷ rest)) (1 + local_limit) d
      ∙ ap (λ (l : List ℤ). f ++ l) (row-marked (Z (1 + local_limit)) (length-replicate (1 + local_limit) (pos 0)))
    where
      row-marked : (u : List ℤ) → length u ≡ 1 + local_limit → set (u ++ (pos 0 ∷ rest)) (1 + local_limit) d ≡ u ++ (d ∷ rest)
      row-marked u e = let g : 1 + local_limit ≡ length u + 0 = omega arith in ap (λ (j : ℕ). set (u ++ (pos 0 ∷ rest)) j d) g ∙ set_past u (pos 0 ∷ rest) 0 d

  zeros-split : Z (1 + local_limit) ≡ Z (1 + length ls) ++ Z (local_limit - length ls)
  zeros-split = let e : 1 + length ls + (local_limit - length ls) ≡ 1 + local_limit = omega arith in sym (replicate-append-replicate (1 + length ls) (local_limit - length ls) (pos 0) ∙ ap Z e)

  marked-dropped : drop (length f + (1 + length ls)) marked ≡ Z (local_limit - length ls) ++ (d ∷ rest)
  marked-dropped =
      ap (drop (length f + (1 + length ls))) marked-is
      ∙ drop-append-add f (Z (1 + local_limit) ++ (d ∷ rest)) (1 + length ls)
      ∙ ap (λ (l : List ℤ). drop (1 + length ls) (l ++ (d ∷ rest))) zeros-split
      ∙ ap (drop (1 + length ls)) (append_assoc (Z (1 + length ls)) (Z (local_limit - length ls)) (d ∷ rest))
      ∙ drop_at (Z (1 + length ls)) (Z (local_limit - length ls) ++ (d ∷ rest)) (1 + length ls) (length-replicate (1 + length ls) (pos 0))

  marked-taken : take (length f) marked ≡ f
  marked-taken = ap (take (length f)) marked-is ∙ take_at f (Z (1 + local_limit) ++ (d ∷ rest)) (length f) refl

  pub table-pushed : take (length f) marked ++ (z ∷ (ls ++ drop (length f + (1 + length ls)) marked)) ≡ padded total (f ++ (z ∷ (padded local_limit ls ++ d ∷ [])))
  unfolding padded
  table-pushed =
      let n : length (f ++ (z ∷ ((ls ++ Z (local_limit - length ls)) ++ d ∷ []))) ≡ length f + process_width = simp (length-append, length-replicate) (omega arith) in
      ap₂ (λ (l r : List ℤ). l ++ (z ∷ (ls ++ r))) marked-taken marked-dropped
      ∙ ap (λ (r : List ℤ). f ++ (z ∷ r)) (sym (append_assoc ls (Z (local_limit - length ls)) (d ∷ rest)) ∙ sym (append_assoc (ls ++ Z (local_limit - length ls)) (d ∷ []) rest))
      ∙ sym (append_assoc f (z ∷ ((ls ++ Z (local_limit - length ls)) ++ d ∷ [])) rest)
      ∙ ap (λ (m : ℕ). (f ++ (z ∷ ((ls ++ Z (local_limit - length ls)) ++ d ∷ []))) ++ Z (total - m)) (sym n)

-- ---- the whole
whole-pushed : (n : ℕ) (m : ℤ) (t q ls : List ℤ) (sum : ℕ) → length t ≡ process_room → n < 256 → length ls ≤ local_limit
    → process_added sum ls (pos n ∷ m ∷ (t ++ q)) ≡ pos (n + 1) ∷ m ∷ ((take (n * process_width) t ++ (pos sum ∷ (ls ++ drop (n * process_width + (1 + length ls)) t))) ++ q)
unfolding process_added
whole-pushed n m t q ls sum l h k =
    let p : ℕ = n * process_width in
    let j : ℕ = p + (1 + length ls) in
    let w : 2 + p + 1 + length ls ≡ 2 + j = omega arith in
    let e : take (2 + p) (pos n ∷ m ∷ (t ++ q)) ≡ pos n ∷ m ∷ take p t = take-append-add (pos n ∷ m ∷ []) (t ++ q) p ∙ ap (λ (r : List ℤ). pos n ∷ m ∷ r) (take-append-le p t q (omega arith)) in
    let d : drop (2 + p + 1 + length ls) (pos n ∷ m ∷ (t ++ q)) ≡ drop j t ++ q = ap (λ (i : ℕ). drop i (pos n ∷ m ∷ (t ++ q))) w ∙ drop-append-add (pos n ∷ m ∷ []) (t ++ q) j ∙ drop-append-le j t q (omega arith) in
    ap₂ (λ (r u : List ℤ). set (r ++ (pos sum ∷ (ls ++ u))) 0 (pos (n + 1))) e d
    ∙ ap (λ (r : List ℤ). pos (n + 1) ∷ m ∷ (take p t ++ (pos sum ∷ r))) (sym (append_assoc ls (drop j t) q))
    ∙ ap (λ (r : List ℤ). pos (n + 1) ∷ m ∷ r) (sym (append_assoc (take p t) (pos sum ∷ (ls ++ drop j t)) q))

-- a number of the first table
whole-marked : (n m d : ℤ) (t q : List ℤ) (i : ℕ) → i < length t → set (n ∷ m ∷ (t ++ q)) (2 + i) d ≡ n ∷ m ∷ (set t i d ++ q)
whole-marked n m d t q i l =
    let e : 2 + i ≡ suc (suc i) = omega arith in
    ap (λ (j : ℕ). set (n ∷ m ∷ (t ++ q)) j d) e ∙ ap (λ (r : List ℤ). n ∷ m ∷ r) (set_front t q i d l)

-- 01, Open: one process more
pub push-numbers : (scopes : List ℕ) → FewLocals scopes → (channels : ℕ) (s : State) → Fits scopes channels s → (p : Process) → FitsProcess scopes p → length s.processes < 256
    → process_pushed p.sum p.locals p.definition (state_numbers s) ≡ state_numbers (record { processes = s.processes ++ (p ∷ []); pairs = s.pairs })
unfolding state_numbers process_numbers flatten process_pushed
push-numbers scopes few channels s fits p fp room =
    let ps : List Process = s.processes in
    let n : ℕ = length ps in
    let f : List ℤ = flatten process_numbers ps in
    let q : List ℤ = padded pair_room (flatten pair_numbers s.pairs) in
    let m : ℤ = pos (length s.pairs) in
    let d : ℤ = pos p.definition in
    let lf : length f ≡ n * process_width = flatten-length process_numbers process_width (FitsProcess scopes) (process-wide scopes few) ps fits.processes in
    let lt : length (padded process_room f) ≡ process_room = padded-length process_room f (omega arith) in
    let lp : length p.locals ≤ local_limit = few-of-process scopes few p fp in
    let t : List ℤ = set (padded process_room f) (length f + (1 + local_limit)) d in
    let ls : length t ≡ process_room = length-set (padded process_room f) (length f + (1 + local_limit)) d ∙ lt in
    let c : n + 1 ≡ length (ps ++ (p ∷ [])) = sym (length-append ps (p ∷ [])) in
    let w : 2 + n * process_width + (1 + local_limit) ≡ 2 + (length f + (1 + local_limit)) = omega arith in
    let e : f ++ (pos p.sum ∷ (padded local_limit p.locals ++ d ∷ [])) ≡ flatten process_numbers (ps ++ (p ∷ [])) =
    sym (flatten-append process_numbers ps (p ∷ []) ∙ ap (λ (r : List ℤ). f ++ r) (append-nil (pos p.sum ∷ (padded local_limit p.locals ++ d ∷ [])))) in
    ap (process_added p.sum p.locals) (ap (λ (j : ℕ). set (pos n ∷ m ∷ (padded process_room f ++ q)) j d) w ∙ whole-marked (pos n) m d (padded process_room f) q (length f + (1 + local_limit)) (omega (arith, lt, lf)))
    ∙ whole-pushed n m t q p.locals p.sum ls room lp
    ∙ ap (λ (j : ℕ). pos (n + 1) ∷ m ∷ ((take j t ++ (pos p.sum ∷ (p.locals ++ drop (j + (1 + length p.locals)) t))) ++ q)) (sym lf)
    ∙ ap₂ (λ (j : ℕ) (u : List ℤ). pos j ∷ m ∷ (u ++ q)) c (table-pushed process_room f p.locals (pos p.sum) d (omega arith) lp ∙ ap (padded process_room) e)
