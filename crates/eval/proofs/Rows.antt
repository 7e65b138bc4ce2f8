-- Rows of processes, written one after the other. From the kit's laws of lists.
use mathlib.Core.Path.{◌≡◌, refl, sym, ap, ◌∙◌}
use mathlib.Core.List.{List, [], ◌∷◌, ◌++◌, append_assoc, append-nil}
use Prim.Native.Nat.{ℕ, zero, suc, ◌+◌, ◌-◌, ◌*◌, ◌≤◌, ◌<◌}
use native.Mathlib.Numerals.{add-one}
use native.Mathlib.Omega.{arith}
use lib.IntN.{ℤ, pos}
use lib.ListN.{length, get_or, set, take, drop, replicate, length-append, length-replicate}
use lib.Seq.{sets, length-sets, sets-eq, take-append_seam}
use borrow.Rule.Slice.PartMut.{put_mid, Post-is}
use Rattle.value.specs.Range.{Value}
use Rattle.tree.specs.Node.{field, kind_of, token_of, left_of}
use Rattle.model.specs.Limits.{local_limit}
use Rattle.model.specs.Resolved
use Rattle.tables.specs.Settled as Settled
use Rattle.tables.specs.Represents.{Sums}
use Rattle.tables.proofs.Parts.{pair-above, pair-second}
use Rattle.model.specs.Good.{Every, GoodExpr}
use Rattle.machine.specs.Evaluate.{eval_expr}
use Rattle.machine.specs.Offer.{Process, or_zero}
use Rattle.machine.specs.State.{process_width, padded, process_numbers, flatten}
use Rattle.eval.specs.Next.{Rows, Room, SumsFit, arguments, known, entered}
use Rattle.eval.proofs.Exprs.{IsExpr, expr-kind}
use Rattle.eval.proofs.Arguments.{SomeArguments}

-- ---- stores
pub sets_then : {A : Type 0} (l : List A) (i : ℕ) (xs ys : List A) → sets (sets l i xs) (i + length xs) ys ≡ sets l i (xs ++ ys)
sets_then l i [] ys = let e : i + 0 ≡ i = omega arith in ap (λ (n : ℕ). sets l n ys) e
sets_then l i (x ∷ xs) ys =
    let e : i + suc (length xs) ≡ suc i + length xs = omega arith in
    ap (λ (n : ℕ). sets (sets (set l i x) (suc i) xs) n ys) e ∙ sets_then (set l i x) (suc i) xs ys

-- the first of a list that is filled from its start
pub filled : (l vs : List ℤ) → length vs ≤ length l → take (length vs) (sets l 0 vs) ≡ vs
filled l vs h = rw (sets-eq vs l 0 (omega arith)) (take-append_seam vs (drop (0 + length vs) l))

-- ---- the numbers of a process
pub row-length : (p : Process) → length p.locals ≤ local_limit → length (process_numbers p) ≡ process_width
unfolding process_numbers padded
row-length p h = simp (length-append, length-replicate) (omega arith)

padded-long : (zs : List ℤ) → length zs ≤ local_limit → length (padded local_limit zs) ≡ local_limit
unfolding padded
padded-long zs h = simp (length-append, length-replicate) (omega arith)

-- locals copied over zeros, and the number after these written
pub numbers-written : (n : ℕ) (ls : List ℤ) (d : ℤ) → length ls ≤ n → set (ls ++ drop (length ls) (replicate (suc n) (pos 0))) n d ≡ padded n ls ++ (d ∷ [])
unfolding padded
numbers-written zero [] d l = refl
numbers-written (suc n) [] d l =
    let e : suc n - 0 ≡ suc n = omega arith in
    let f : n - 0 ≡ n = omega arith in
    rw e (ap (λ (t : List ℤ). pos 0 ∷ t) (rw f at (numbers-written n [] d (omega arith))))
numbers-written zero (x ∷ ls) d l = absurd (omega arith)
numbers-written (suc n) (x ∷ ls) d l =
    let e : suc n - suc (length ls) ≡ n - length ls = omega arith in
    rw e (ap (λ (t : List ℤ). x ∷ t) (numbers-written n ls d (omega arith)))

-- a row stored where it belongs
pub row-stored : (f ys : List ℤ) (a e : ℕ) → e ≡ a + length ys → e ≤ length f → put_mid a (e - a) f ys ≡ sets f a ys
row-stored f ys a e q h =
    ap (λ (t : List ℤ). take a f ++ (ys ++ t)) (Post-is a e f (omega arith) ∙ ap (λ (n : ℕ). drop n f) q)
    ∙ sym (append_assoc (take a f) ys (drop (a + length ys) f)) ∙ sym (sets-eq ys f a (omega arith))

-- ---- rows

-- as many locals as a row has
abbrev pub Few : List Process → Type 0
Few ps = Every (λ (p : Process). length p.locals ≤ local_limit) ps

flatten-append : (xs ys : List Process) → flatten process_numbers (xs ++ ys) ≡ flatten process_numbers xs ++ flatten process_numbers ys
unfolding flatten
flatten-append [] ys = refl
flatten-append (x ∷ xs) ys = rw (flatten-append xs ys, append_assoc)

pub rows-length : (xs : List Process) → Few xs → length (flatten process_numbers xs) ≡ length xs * process_width
unfolding flatten Every
rows-length [] h = refl
rows-length (x ∷ xs) h = length-append (process_numbers x) (flatten process_numbers xs) ∙ omega (arith, row-length x h.0, rows-length xs h.1)

pub rows_none : (f : List ℤ) (at : ℕ) → Rows f at [] f at
unfolding flatten
rows_none f at = record { numbers = refl; next = omega arith }

pub rows-one : (f g : List ℤ) (at : ℕ) (p : Process) → g ≡ sets f (at * process_width) (process_numbers p) → Rows f at (p ∷ []) g (at + 1)
unfolding flatten
rows-one f g at p e = record { numbers = e ∙ ap (sets f (at * process_width)) (sym (append-nil (process_numbers p))); next = refl }

pub rows_then : (f g h : List ℤ) (at n r : ℕ) (xs ys : List Process) → Few xs → Rows f at xs g n → Rows g n ys h r → Rows f at (xs ++ ys) h r
rows_then f g h at n r xs ys few p q =
    let l = rows-length xs few in
    let e : n * process_width ≡ at * process_width + length (flatten process_numbers xs) = omega (arith, p.next) in
    record {
      numbers = q.numbers ∙ (rw (p.numbers, e, flatten-append xs ys) (sets_then f (at * process_width) (flatten process_numbers xs) (flatten process_numbers ys)));
      next = omega (arith, p.next, q.next, length-append xs ys);
    }

pub rows-size : {f g : List ℤ} {at r : ℕ} {ps : List Process} → Rows f at ps g r → length g ≡ length f
rows-size {f} {at = at} {ps = ps} p = ap length p.numbers ∙ length-sets f (at * process_width) (flatten process_numbers ps)

-- ---- arguments
module _ (t : List ℕ) (n k size at : ℕ) (r : Room t n k size at) where
  pub room-some : SomeArguments t n k
  room-some = record { part = r.arguments; at = r.holds; fit = r.fit }

  pub room-inside : at < size
  unfolding Settled.Arguments
  room-inside = go r.arguments r.holds r.fits
    where
      go : (es : List Resolved.Expr) → Settled.Arguments t es k → at + length es ≤ size → at < size
      go [] a h = absurd a
      go (e ∷ es) a h = omega arith

  pub room-more : kind_of (get_or t k 0) ≡ 52 → Room t n (k - 1) size (at + 1)
  unfolding Settled.Arguments Every
  room-more h = go r.arguments r.holds r.fit r.fits
    where
      go : (es : List Resolved.Expr) → Settled.Arguments t es k → Every (GoodExpr n) es → at + length es ≤ size → Room t n (k - 1) size (at + 1)
      go [] a g f = absurd a
      go (e ∷ []) a g f = absurd (omega (arith, expr-kind t k e a))
      go (e ∷ d ∷ es) a g f = record { arguments = d ∷ es; holds = pair-second a; fit = g.1; fits = omega arith }

module _ (t : List ℕ) (ls : List ℤ) (k : ℕ) (v g : List ℤ) (at : ℕ) (x : Value) where
  pub last-put : (kind_of (get_or t k 0) ≡ 52 → ⊥) → IsExpr t ls k x → (es : List Resolved.Expr) → Settled.Arguments t es k → set v at (or_zero x) ≡ sets v at (arguments ls es)
  unfolding Settled.Arguments arguments
  last-put h w [] a = absurd a
  last-put h w (e ∷ []) a = rw (w e a)
  last-put h w (e ∷ f ∷ es) a = absurd (h a.kind-is)

  pub more-put : kind_of (get_or t k 0) ≡ 52 → IsExpr t ls (left_of (get_or t k 0)) x → ((es : List Resolved.Expr) → Settled.Arguments t es (k - 1) → g ≡ sets (set v at (or_zero x)) (at + 1) (arguments ls es))
      → (es : List Resolved.Expr) → Settled.Arguments t es k → g ≡ sets v at (arguments ls es)
  unfolding Settled.Arguments arguments
  more-put h w u [] a = absurd a
  more-put h w u (e ∷ []) a = absurd (omega (arith, expr-kind t k e a))
  more-put h w u (e ∷ f ∷ es) a =
      let q : or_zero x ≡ or_zero (eval_expr ls e) = ap or_zero (w e a.holds-first) in
      u (f ∷ es) (pair-second a) ∙ rw (add-one at, q)

-- ---- sums
module _ (t : List ℕ) (count k size at : ℕ) (r : SumsFit t count k size at) where
  pub sums-inside : (at + 1) * process_width ≤ size
  unfolding Sums
  sums-inside = go r.sums r.holds r.fits
    where
      go : (ns : List ℕ) → Sums t ns k → (at + length ns) * process_width ≤ size → (at + 1) * process_width ≤ size
      go [] a h = absurd a
      go (n ∷ ns) a h = omega arith

  pub sums-more : kind_of (get_or t k 0) ≡ 55 → (1 ≤ k) × SumsFit t count (k - 1) size (at + 1)
  unfolding Sums Every
  sums-more h = go r.sums r.holds r.below r.fits
    where
      go : (ns : List ℕ) → Sums t ns k → Every (λ (n : ℕ). n < count) ns → (at + length ns) * process_width ≤ size → (1 ≤ k) × SumsFit t count (k - 1) size (at + 1)
      go [] a b f = absurd a
      go (n ∷ []) a b f = absurd (omega (arith, a.kind-is))
      go (n ∷ o ∷ ns) a b f = (pair-above a, record { sums = o ∷ ns; holds = pair-second a; below = b.1; fits = omega arith })

  -- the number of the last sum, and of one before others
  pub last-below : (kind_of (get_or t k 0) ≡ 55 → ⊥) → token_of (get_or t k 0) < count
  unfolding Sums Every
  last-below h = go r.sums r.holds r.below
    where
      go : (ns : List ℕ) → Sums t ns k → Every (λ (n : ℕ). n < count) ns → token_of (get_or t k 0) < count
      go [] a b = absurd a
      go (n ∷ []) a b = rw a.index_is b.0
      go (n ∷ o ∷ ns) a b = absurd (h a.kind-is)

  pub first_below : kind_of (get_or t k 0) ≡ 55 → token_of (get_or t (left_of (get_or t k 0)) 0) < count
  unfolding Sums Every
  first_below h = go r.sums r.holds r.below
    where
      go : (ns : List ℕ) → Sums t ns k → Every (λ (n : ℕ). n < count) ns → token_of (get_or t (left_of (get_or t k 0)) 0) < count
      go [] a b = absurd a
      go (n ∷ []) a b = absurd (omega (arith, a.kind-is))
      go (n ∷ o ∷ ns) a b = rw a.holds-first.index_is b.0

pub token-small : (c : ℕ) → token_of c < field
unfolding token_of
token-small c = omega arith

module _ (t scopes : List ℕ) (k at : ℕ) (ls f g : List ℤ) (n : ℕ) where
  pub last_sum : (kind_of (get_or t k 0) ≡ 55 → ⊥) → Rows f at (known scopes (token_of (get_or t k 0)) ls ∷ []) g n → (ns : List ℕ) → Sums t ns k → Rows f at (entered scopes ns ls) g n
  unfolding Sums entered
  last_sum h w [] a = absurd a
  last_sum h w (i ∷ []) a = rw (← a.index_is) w
  last_sum h w (i ∷ j ∷ is) a = absurd (h a.kind-is)

  pub more-sums : length ls ≤ local_limit → (b : List ℤ) (r : ℕ) → kind_of (get_or t k 0) ≡ 55 → Rows f at (known scopes (token_of (get_or t (left_of (get_or t k 0)) 0)) ls ∷ []) g n
      → ((ns : List ℕ) → Sums t ns (k - 1) → Rows g n (entered scopes ns ls) b r) → (ns : List ℕ) → Sums t ns k → Rows f at (entered scopes ns ls) b r
  unfolding Sums entered known Every
  more-sums few b r h v w [] a = absurd a
  more-sums few b r h v w (i ∷ []) a = absurd (omega (arith, a.kind-is))
  more-sums few b r h v w (i ∷ j ∷ is) a =
      let p : Process = known scopes i ls in
      rows_then f g b at n r (p ∷ []) (entered scopes (j ∷ is) ls) (few, tt) (rw (← a.holds-first.index_is) v) (w (j ∷ is) (pair-second a))
