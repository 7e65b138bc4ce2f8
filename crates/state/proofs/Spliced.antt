-- The changes of a state's numbers are those of the state: a table of rows rewritten at a place is the table of the changed list.
use mathlib.Core.Path.{◌≡◌, refl, sym, ap, ap₂, ◌∙◌}
use mathlib.Core.List.{List, [], ◌∷◌, ◌++◌, append_assoc}
use Prim.Native.Nat.{ℕ, zero, suc, ◌+◌, ◌-◌, ◌*◌, ◌≤◌, ◌<◌}
use native.Mathlib.Omega.{arith}
use lib.IntN.{ℤ, pos, nat_abs}
use lib.ListN.{length, set, take, drop, replicate, length-append, length-drop, length-replicate, replicate-append-replicate}
use lib.Seq.{take_at, drop_at, take-append-le, drop-append-le, take-append-add, drop-append-add, length-take-le}
use Rattle.rules.specs.Step.{replace}
use Rattle.rules.proofs.Spliced.{spliced, replace-length}
use Rattle.model.specs.Good.{Every}
use Rattle.machine.specs.Offer.{Process}
use Rattle.machine.specs.State.{State, padded, flatten, process_numbers, pair_numbers, state_numbers, pair_room, process_room, process_width}
use Rattle.state.specs.Fits.{FewLocals, FitsProcess, Fits}
use Rattle.state.specs.Change.{rewritten, process_replaced, pairs_from}
use Rattle.state.proofs.Rows.{flatten-length, padded-length}
use Rattle.state.proofs.Entries.{process-wide}

-- ---- numbers a, b, c, then 0s: b replaced by k
module _ (total : ℕ) (a b c k : List ℤ) (room : length a + (length b + length c) ≤ total) (fits : length a + (length k + length c) ≤ total) where
  abbrev Z : ℕ → List ℤ
  Z n = replicate n (pos 0)

  before-numbers : padded total (a ++ (b ++ c)) ≡ a ++ (b ++ (c ++ Z (total - (length a + (length b + length c)))))
  unfolding padded
  before-numbers =
      let e : length (a ++ (b ++ c)) ≡ length a + (length b + length c) = simp length-append in
      ap (λ (n : ℕ). (a ++ (b ++ c)) ++ Z (total - n)) e ∙ simp append_assoc

  after-numbers : padded total (a ++ (k ++ c)) ≡ a ++ (k ++ (c ++ Z (total - (length a + (length k + length c)))))
  unfolding padded
  after-numbers =
      let e : length (a ++ (k ++ c)) ≡ length a + (length k + length c) = simp length-append in
      ap (λ (n : ℕ). (a ++ (k ++ c)) ++ Z (total - n)) e ∙ simp append_assoc

  tail-numbers : (z y : ℕ) → z + length b ≡ y + length k → rewritten (length b) k (b ++ (c ++ Z z)) ≡ k ++ (c ++ Z y)
  unfolding rewritten
  tail-numbers z y e =
      let d : drop (length b) (b ++ (c ++ Z z)) ≡ c ++ Z z = drop_at b (c ++ Z z) (length b) refl in
      let f : Z z ++ Z (length b) ≡ Z y ++ Z (length k) = replicate-append-replicate z (length b) (pos 0) ∙ ap Z e ∙ sym (replicate-append-replicate y (length k) (pos 0)) in
      let g : k ++ ((c ++ Z z) ++ Z (length b)) ≡ (k ++ (c ++ Z y)) ++ Z (length k) =
      ap (λ (r : List ℤ). k ++ r) (append_assoc c (Z z) (Z (length b)) ∙ ap (λ (r : List ℤ). c ++ r) f) ∙ simp append_assoc in
      ap (λ (r : List ℤ). take (length (b ++ (c ++ Z z))) (k ++ (r ++ Z (length b)))) d
      ∙ ap (take (length (b ++ (c ++ Z z)))) g
      ∙ take_at (k ++ (c ++ Z y)) (Z (length k)) (length (b ++ (c ++ Z z))) (simp (length-append, length-replicate) (omega arith))

  pub table-rewritten : take (length a) (padded total (a ++ (b ++ c))) ++ rewritten (length b) k (drop (length a) (padded total (a ++ (b ++ c)))) ≡ padded total (a ++ (k ++ c))
  table-rewritten =
      let z : ℕ = total - (length a + (length b + length c)) in
      let y : ℕ = total - (length a + (length k + length c)) in
      let t : List ℤ = b ++ (c ++ Z z) in
      ap (λ (l : List ℤ). take (length a) l ++ rewritten (length b) k (drop (length a) l)) before-numbers
      ∙ ap₂ (λ (l r : List ℤ). l ++ rewritten (length b) k r) (take_at a t (length a) refl) (drop_at a t (length a) refl)
      ∙ ap (λ (l : List ℤ). a ++ l) (tail-numbers z y (omega arith))
      ∙ sym after-numbers

pub flatten-append : {A : Type 0} (f : A → List ℤ) (xs ys : List A) → flatten f (xs ++ ys) ≡ flatten f xs ++ flatten f ys
unfolding flatten
flatten-append f [] ys = refl
flatten-append f (x ∷ xs) ys = ap (λ (l : List ℤ). f x ++ l) (flatten-append f xs ys) ∙ sym (append_assoc (f x) (flatten f xs) (flatten f ys))

-- ---- the member at a place
pub apart : {A : Type 0} (i : ℕ) (xs : List A) → i < length xs → (y : A) × (xs ≡ take i xs ++ (y ∷ drop (suc i) xs))
apart i [] l = absurd (omega arith)
apart zero (x ∷ xs) l = (x, refl)
apart {A} (suc i) (x ∷ xs) l = let w = apart i xs (omega arith) in (w.0, ap (λ (r : List A). x ∷ r) w.1)

-- ---- what holds of every member holds of those on either side
module _ {A : Type 0} (P : A → Type 0) where
  pub every-left : (xs ys : List A) → Every P (xs ++ ys) → Every P xs
  unfolding Every
  every-left [] ys h = tt
  every-left (x ∷ xs) ys h = (h.0, every-left xs ys h.1)

  pub every-right : (xs ys : List A) → Every P (xs ++ ys) → Every P ys
  unfolding Every
  every-right [] ys h = h
  every-right (x ∷ xs) ys h = every-right xs ys h.1

  pub every_first : (x : A) (xs : List A) → Every P (x ∷ xs) → P x
  unfolding Every
  every_first x xs h = h.0

  pub every-later : (x : A) (xs : List A) → Every P (x ∷ xs) → Every P xs
  unfolding Every
  every-later x xs h = h.1

-- ---- the processes of a state's numbers
module _ (scopes : List ℕ) (few : FewLocals scopes) where
  processes-wide : (ps : List Process) → Every (FitsProcess scopes) ps → length (flatten process_numbers ps) ≡ length ps * process_width
  processes-wide ps h = flatten-length process_numbers process_width (FitsProcess scopes) (process-wide scopes few) ps h

  replaced-table : (es cs ks : List Process) (y : Process) → Every (FitsProcess scopes) es → FitsProcess scopes y → Every (FitsProcess scopes) cs → Every (FitsProcess scopes) ks
      → length es + (1 + length cs) ≤ 256 → length es + (length ks + length cs) ≤ 256
      → let t = padded process_room (flatten process_numbers (es ++ (y ∷ cs))) in
      take (length es * process_width) t ++ rewritten process_width (flatten process_numbers ks) (drop (length es * process_width) t) ≡ padded process_room (flatten process_numbers (es ++ (ks ++ cs)))
  unfolding flatten
  replaced-table es cs ks y ha hy hc hk m n =
      let a : List ℤ = flatten process_numbers es in
      let b : List ℤ = process_numbers y in
      let c : List ℤ = flatten process_numbers cs in
      let k : List ℤ = flatten process_numbers ks in
      let la : length a ≡ length es * process_width = processes-wide es ha in
      let lb : length b ≡ process_width = process-wide scopes few y hy in
      let lc : length c ≡ length cs * process_width = processes-wide cs hc in
      let lk : length k ≡ length ks * process_width = processes-wide ks hk in
      let e : flatten process_numbers (es ++ (y ∷ cs)) ≡ a ++ (b ++ c) = flatten-append process_numbers es (y ∷ cs) in
      let f : flatten process_numbers (es ++ (ks ++ cs)) ≡ a ++ (k ++ c) = flatten-append process_numbers es (ks ++ cs) ∙ ap (λ (r : List ℤ). a ++ r) (flatten-append process_numbers ks cs) in
      ap (λ (l : List ℤ). take (length es * process_width) (padded process_room l) ++ rewritten process_width k (drop (length es * process_width) (padded process_room l))) e
      ∙ ap₂ (λ (p w : ℕ). take p (padded process_room (a ++ (b ++ c))) ++ rewritten w k (drop p (padded process_room (a ++ (b ++ c))))) (sym la) (sym lb)
      ∙ table-rewritten process_room a b c k (omega arith) (omega arith)
      ∙ ap (padded process_room) (sym f)

  -- ---- the whole
  whole-replaced : (n m : ℤ) (t q new : List ℤ) (place k : ℕ) → length t ≡ process_room → place * process_width ≤ process_room
      → process_replaced place k new (n ∷ m ∷ (t ++ q)) ≡ pos (nat_abs n - 1 + k) ∷ m ∷ ((take (place * process_width) t ++ rewritten process_width new (drop (place * process_width) t)) ++ q)
  unfolding process_replaced
  whole-replaced n m t q new place k l h =
      let p : ℕ = place * process_width in
      let e : take (2 + p) (n ∷ m ∷ (t ++ q)) ≡ n ∷ m ∷ take p t = take-append-add (n ∷ m ∷ []) (t ++ q) p ∙ ap (λ (r : List ℤ). n ∷ m ∷ r) (take-append-le p t q (omega arith)) in
      let d : drop (2 + p) (n ∷ m ∷ (t ++ q)) ≡ drop p t ++ q = drop-append-add (n ∷ m ∷ []) (t ++ q) p ∙ drop-append-le p t q (omega arith) in
      let f : take (pairs_from - (2 + p)) (drop p t ++ q) ≡ drop p t = take_at (drop p t) q (pairs_from - (2 + p)) (simp length-drop (omega arith)) in
      let g : drop process_room (t ++ q) ≡ q = drop_at t q process_room l in
      ap (λ (r : List ℤ). set (r ++ (rewritten process_width new (take (pairs_from - (2 + p)) (drop (2 + p) (n ∷ m ∷ (t ++ q)))) ++ drop process_room (t ++ q))) 0 (pos (nat_abs n - 1 + k))) e
      ∙ ap (λ (r : List ℤ). pos (nat_abs n - 1 + k) ∷ m ∷ (take p t ++ (rewritten process_width new (take (pairs_from - (2 + p)) r) ++ drop process_room (t ++ q)))) d
      ∙ ap₂ (λ (r s : List ℤ). pos (nat_abs n - 1 + k) ∷ m ∷ (take p t ++ (rewritten process_width new r ++ s))) f g
      ∙ ap (λ (r : List ℤ). pos (nat_abs n - 1 + k) ∷ m ∷ r) (sym (append_assoc (take p t) (rewritten process_width new (drop p t)) q))

  -- 01, State, step: the acting process is replaced at its place by its continuation
  pub splice-numbers : (channels : ℕ) (s : State) → Fits scopes channels s → (place : ℕ) (ks : List Process) → place < length s.processes → Every (FitsProcess scopes) ks
      → length s.processes - 1 + length ks ≤ 256
      → process_replaced place (length ks) (flatten process_numbers ks) (state_numbers s) ≡ state_numbers (record { processes = replace place ks s.processes; pairs = s.pairs })
  unfolding state_numbers
  splice-numbers channels s f place ks l h room =
      let ps : List Process = s.processes in
      let es : List Process = take place ps in
      let cs : List Process = drop (suc place) ps in
      let w = apart place ps l in
      let r : replace place ks ps ≡ es ++ (ks ++ cs) = spliced place ks ps l in
      let hs : Every (FitsProcess scopes) (es ++ (w.0 ∷ cs)) = rw w.1 at f.processes in
      let la : length es ≡ place = length-take-le place ps (omega arith) in
      let lc : length cs ≡ length ps - suc place = length-drop (suc place) ps in
      let q : List ℤ = padded pair_room (flatten pair_numbers s.pairs) in
      let t : List ℤ = padded process_room (flatten process_numbers ps) in
      let lt : length t ≡ process_room = padded-length process_room (flatten process_numbers ps) (omega (arith, processes-wide ps f.processes, f.few-processes)) in
      let ha = every-left (FitsProcess scopes) es (w.0 ∷ cs) hs in
      let hb = every-right (FitsProcess scopes) es (w.0 ∷ cs) hs in
      let e : take (place * process_width) t ++ rewritten process_width (flatten process_numbers ks) (drop (place * process_width) t) ≡ padded process_room (flatten process_numbers (es ++ (ks ++ cs))) =
      ap₂ (λ (j : ℕ) (xs : List Process). take (j * process_width) (padded process_room (flatten process_numbers xs)) ++ rewritten process_width (flatten process_numbers ks) (drop (j * process_width) (padded process_room (flatten process_numbers xs)))) (sym la) w.1
      ∙ replaced-table es cs ks w.0 ha (every_first (FitsProcess scopes) w.0 cs hb) (every-later (FitsProcess scopes) w.0 cs hb) h (omega (arith, f.few-processes)) (omega arith) in
      let n : length ps - 1 + length ks ≡ length (replace place ks ps) = omega (arith, replace-length place ks ps l) in
      whole-replaced (pos (length ps)) (pos (length s.pairs)) t q (flatten process_numbers ks) place (length ks) lt (omega (arith, f.few-processes))
      ∙ ap₂ (λ (j : ℕ) (u : List ℤ). pos j ∷ pos (length s.pairs) ∷ (u ++ q)) n (e ∙ ap (λ (xs : List Process). padded process_room (flatten process_numbers xs)) (sym r))
