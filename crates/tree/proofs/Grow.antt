-- A node that is written after its parts makes a tree of them, whose nodes are theirs and the new one; trees below a written node stay. From Interval.antt.
use mathlib.Core.Path.{◌≡◌, ap, refl, ◌∙◌}
use mathlib.Core.List.{List}
use Prim.Native.Nat.{ℕ, ◌+◌, ◌<◌}
use native.Mathlib.Omega.{arith}
use lib.ListN.{length, get_or, set}
use lib.Seq.{get_or-set_same, get_or-set_other}
use Rattle.tree.specs.Node.{field, cell}
use Rattle.tree.specs.Table.{Node, Leaf, One, Two, Three}
use Rattle.tree.proofs.Interval.{Interval, stays}

module _ (t t' : List ℕ) (u : ℕ) where
  below : (c : ℕ) → t' ≡ set t u c → (i : ℕ) → i < u → get_or t' i 0 ≡ get_or t i 0
  below c w i l = ap (λ (s : List ℕ). get_or s i 0) w ∙ get_or-set_other t u i c 0 (omega arith)

  -- a tree below u stays when u is written
  pub grow-stays : {a b : ℕ} {P : List ℕ → ℕ → ℕ → Type 0} → Interval a b P → (c : ℕ) → t' ≡ set t u c → {lo k : ℕ} → k < u → P t lo k → P t' lo k
  grow-stays p c w h = stays p u h (below c w)

  module _ (room : u < length t) {kind token left third : ℕ} (w : t' ≡ set t u (cell kind token left third)) (x : token < field) (y : left < field) (z : third < field) where
    grow-node : Node t' u kind token left third
    grow-node = record { written = ap (λ (s : List ℕ). get_or s u 0) w ∙ get_or-set_same t u (cell kind token left third) 0 room; token-fits = x; left-fits = y; third-fits = z }

  module _ (room : u < length t) {kind token : ℕ} where
    pub grow-leaf : t' ≡ set t u (cell kind token 0 0) → token < field → Leaf t' kind token u u
    grow-leaf w x = record { node = grow-node room w x (omega arith) (omega arith); low = refl }

    pub grow-one : {a b : ℕ} {P : List ℕ → ℕ → ℕ → Type 0} → Interval a b P → {third lo root : ℕ} → t' ≡ set t u (cell kind token 0 third) → token < field → third < field → u ≡ root + 1 → P t lo root → One t' kind token third (P t') lo u
    grow-one p {third} {root = root} w x z e h = record { root = root; above = e; node = grow-node room w x (omega arith) z; holds = grow-stays p (cell kind token 0 third) w (omega arith) h }

    pub grow-two : {a b c d : ℕ} {P Q : List ℕ → ℕ → ℕ → Type 0} → Interval a b P → Interval c d Q → {third lo left right : ℕ} → t' ≡ set t u (cell kind token left third) → token < field → left < field → third < field → u ≡ right + 1 → P t lo left → Q t (left + 1) right → Two t' kind token third (P t') (Q t') lo u
    grow-two p q {third} {left = left} {right = right} w x y z e h g =
        let l = q.low g in
        record { left = left; right = right; above = e; node = grow-node room w x y z; holds-first = grow-stays p (cell kind token left third) w (omega arith) h; holds-second = grow-stays q (cell kind token left third) w (omega arith) g }

    pub grow-three : {a b c d i j : ℕ} {P Q R : List ℕ → ℕ → ℕ → Type 0} → Interval a b P → Interval c d Q → Interval i j R → {lo left middle right : ℕ} → t' ≡ set t u (cell kind token left middle) → token < field → left < field → middle < field → u ≡ right + 1 → P t lo left → Q t (left + 1) middle → R t (middle + 1) right → Three t' kind token (P t') (Q t') (R t') lo u
    grow-three p q r {left = left} {middle = middle} {right = right} w x y z e h g f =
        let l = q.low g in
        let m = r.low f in
        record {
          left = left;
          middle = middle;
          right = right;
          above = e;
          node = grow-node room w x y z;
          holds-first = grow-stays p (cell kind token left middle) w (omega arith) h;
          holds-second = grow-stays q (cell kind token left middle) w (omega arith) g;
          holds-third = grow-stays r (cell kind token left middle) w (omega arith) f;
        }
