-- A bounded walk joins over parts of the walk and behind entries, and comes to what walking one state after the other does (02, note 10). Assumes nothing.
use mathlib.Core.Path.{◌≡◌, refl, sym, ap, ◌∙◌}
use mathlib.Core.List.{List, [], ◌∷◌, ◌++◌, map}
use mathlib.Core.Bool.{Bool, true, false}
use mathlib.Core.Option.{none, some, Option-elim}
use Prim.Native.Nat.{ℕ, zero, suc, ◌+◌, ◌-◌, ◌≤◌}
use native.Mathlib.Omega.{arith}
use lib.ListN.{length}
use Rattle.runs.specs.Tree.{Listed, Answer, found}
use Rattle.runs.specs.Walk.{Event, meets, reaches, behind, levels, events, walk, later_same, later, ending, Next, lost, finds, met_before, next_of, rest_of}
use Rattle.runs.specs.Marks.{mark, going, gone, stepped, ahead, onward, onwards}
use Rattle.runs.proofs.Later.{met-finds, next-in, later-rest, later-length}
use Rattle.spend.specs.Spend.{Spent, through, hit, stop, spend, and_then, behind_spent, comes_to}

-- ---- over two parts, and behind an entry

pub spend-join : (b : ℕ) (m : Bool) (xs ys : List Event) → spend b m (xs ++ ys) ≡ and_then (spend b m xs) ys
unfolding spend and_then
spend-join b m [] ys = refl
spend-join b m (meets ∷ xs) ys = spend-join b true xs ys
spend-join b m (reaches true r ∷ xs) ys = refl
spend-join zero m (reaches false r ∷ xs) ys = search (spend-join zero m xs ys)
spend-join (suc b) m (reaches false r ∷ xs) ys = spend-join b m xs ys

pub spend-behind : (e b : ℕ) (m : Bool) (xs : List Event) → spend b m (map (behind e) xs) ≡ behind_spent e (spend b m xs)
unfolding spend behind_spent behind
spend-behind e b m [] = refl
spend-behind e b m (meets ∷ xs) = spend-behind e b true xs
spend-behind e b m (reaches true r ∷ xs) = refl
spend-behind e zero m (reaches false r ∷ xs) = search (spend-behind e zero m xs)
spend-behind e (suc b) m (reaches false r ∷ xs) = spend-behind e b m xs

-- ---- from one run to the next

-- what is spent on the next run
unfoldable pub spend_next : (b : ℕ) → Next → List Event → Spent
spend_next b (lost k) es = through (suc b) k
spend_next b (finds k true r) es = hit b r
spend_next zero (finds k false r) es = stop k r
spend_next (suc b) (finds k false r) es = spend b k es

twice : (m : Bool) (x : Next) → met_before m (met_before true x) ≡ met_before true x
unfolding met_before
twice true (lost k) = refl
twice false (lost k) = refl
twice true (finds k h r) = refl
twice false (finds k h r) = refl

or-not : (m : Bool) → met_before m (lost false) ≡ lost m
unfolding met_before
or-not true = refl
or-not false = refl

or-found : (m h : Bool) (r : List ℕ) → met_before m (finds false h r) ≡ finds m h r
unfolding met_before
or-found true h r = refl
or-found false h r = refl

pub spend-next : (b : ℕ) (m : Bool) (xs : List Event) → spend b m xs ≡ spend_next b (met_before m (next_of xs)) (rest_of xs)
unfolding spend next_of rest_of
spend-next b m [] = rw (or-not m) (unfold spend_next in refl)
spend-next b m (meets ∷ xs) = spend-next b true xs ∙ ap (λ (x : Next). spend_next b x (rest_of xs)) (sym (twice m (next_of xs)))
spend-next b m (reaches true r ∷ xs) = rw (or-found m true r) (unfold spend_next in refl)
spend-next zero m (reaches false r ∷ xs) = rw (or-found m false r) (unfold spend_next in refl)
spend-next (suc b) m (reaches false r ∷ xs) = rw (or-found m false r) (unfold spend_next in refl)

-- ---- one state after the other

module _ {S : Type 0} (ways : S → Listed S) (s : S) (d : ℕ) where
  gone-stays : (n c : ℕ) (a : Answer) → onwards ways s d n (gone c a) ≡ gone c a
  unfolding onwards onward
  gone-stays zero c a = refl
  gone-stays (suc n) c a = gone-stays n c a

  -- after the next run
  next-spends : (n c : ℕ) (x : Next) (es : List Event) → ((m : ℕ) (k : Bool) (q : List ℕ) → n ≡ suc m → x ≡ finds k false q → comes_to (suc c) n (spend m k es) ≡ onwards ways s d n (going (suc c) (mark (some q) k)))
      → comes_to c (suc n) (spend_next n x es) ≡ onwards ways s d n (stepped c x)
  unfolding comes_to spend_next stepped
  next-spends n c (lost k) es f = let e : c + suc n - suc n ≡ c = omega arith in ap (λ (j : ℕ). gone j (ending k)) e ∙ sym (gone-stays n c (ending k))
  next-spends n c (finds k true q) es f = let e : c + suc n - n ≡ suc c = omega arith in ap (λ (j : ℕ). gone j (found q)) e ∙ sym (gone-stays n (suc c) (found q))
  next-spends zero c (finds k false q) es f = unfold onwards in let e : c + 1 ≡ suc c = omega arith in ap (λ (j : ℕ). going j (mark (some q) k)) e
  next-spends (suc n) c (finds k false q) es f = further c n (spend n k es) ∙ f n k q refl refl
    where
      further : (c n : ℕ) (x : Spent) → comes_to c (suc (suc n)) x ≡ comes_to (suc c) (suc n) x
      further c n (through b m) = let e : c + suc (suc n) - b ≡ suc c + suc n - b = omega arith in ap (λ (j : ℕ). gone j (ending m)) e
      further c n (hit b r) = let e : c + suc (suc n) - b ≡ suc c + suc n - b = omega arith in ap (λ (j : ℕ). gone j (found r)) e
      further c n (stop m r) = let e : c + suc (suc n) ≡ suc c + suc n = omega arith in ap (λ (j : ℕ). going j (mark (some r) m)) e

  -- 02, note 10: from a run on, n states and no more
  pub spends : (n c : ℕ) (m : Bool) (r : List ℕ) → length r ≤ d → comes_to c (suc n) (spend n m (later ways s d r)) ≡ onwards ways s d (suc n) (going c (mark (some r) m))
  unfolding onwards onward ahead Option-elim
  spends zero c m r l =
      ap (comes_to c 1) (spend-next 0 m (later ways s d r))
      ∙ next-spends 0 c (met_before m (next_of (later ways s d r))) (rest_of (later ways s d r)) (λ j k q e f. let z : ◌≡◌ {A = ℕ} 0 1 = cc in absurd (omega arith))
  spends (suc n) c m r l =
      ap (comes_to c (suc (suc n))) (spend-next (suc n) m (later ways s d r))
      ∙ next-spends (suc n) c (met_before m (next_of (later ways s d r))) (rest_of (later ways s d r))
      (λ j k q e f.
      let w = met-finds m (next_of (later ways s d r)) f in
      let o : length q ≤ d = later-length ways s d r false q l (next-in (later ways s d r) w.0 false q w.1) in
      let u : rest_of (later ways s d r) ≡ later ways s d q = later-rest ways s d r w.0 false q l w.1 in
      let v : j ≡ n = omega arith in
      ap (λ (es : List Event). comes_to (suc c) (suc n) (spend j k es)) u ∙ ap (λ (i : ℕ). comes_to (suc c) (suc n) (spend i k (later ways s d q))) v ∙ spends n (suc c) k q o)

  later-empty : later ways s d [] ≡ levels ways s 1 d
  unfolding later later_same
  later-empty = let z : d - 0 ≡ d = omega arith in ap (levels ways s 1) z

  -- the beginning walks the empty run first
  pub spends-first : (n : ℕ) (m : Bool) → comes_to 0 (suc n) (spend n m (walk ways s d)) ≡ onwards ways s d (suc n) (going 0 (mark none m))
  unfolding walk levels events onwards onward ahead Option-elim next_of rest_of
  spends-first n m =
      ap (comes_to 0 (suc n)) (spend-next n m (walk ways s d))
      ∙ next-spends n 0 (met_before m (finds false false [])) (levels ways s 1 d)
      (λ j k q e f.
      let a : met_before m (finds false false []) ≡ finds m false [] = or-found m false [] in
      let b : m ≡ k = cc in
      let g : [] ≡ q = cc in
      rest j k q e b g)
    where
      rest : (j : ℕ) (k : Bool) (q : List ℕ) → n ≡ suc j → m ≡ k → [] ≡ q → comes_to 1 n (spend j k (levels ways s 1 d)) ≡ onwards ways s d n (going 1 (mark (some q) k))
      rest j k q e b g = rw (← b, ← g, e) (ap (λ (es : List Event). comes_to 1 (suc j) (spend j m es)) (sym later-empty) ∙ spends j 1 m [] (omega arith))
