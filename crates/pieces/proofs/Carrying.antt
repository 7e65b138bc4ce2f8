-- What is spent on the runs that are left is what carrying a search on comes to (02, note 10). From the laws of walking in pieces.
use mathlib.Core.Path.{◌≡◌, refl, sym, ap, ◌∙◌, subst}
use mathlib.Core.List.{List, [], ◌∷◌}
use mathlib.Core.Bool.{Bool, true, false}
use mathlib.Core.Option.{Option, none, some, Option-elim}
use Prim.Native.Nat.{ℕ, zero, suc, ◌+◌, ◌-◌, ◌≤◌}
use native.Mathlib.Omega.{arith}
use borrow.Author.Tests.{ne_eqb}
use lib.ListN.{length, take, length-take}
use Rattle.std.specs.Prelude.{Result, Ok, Err}
use Rattle.runs.specs.Tree.{Listed}
use Rattle.runs.specs.Walk.{Event, meets, reaches, events, levels, walk, later, ending, Next, lost, finds, met_before, next_of, rest_of}
use Rattle.runs.specs.Marks as marks
use Rattle.runs.specs.Marks.{Mark, mark, going, gone, ahead, onwards, settled_by, settled, carry_on, is_mark}
use Rattle.runs.proofs.Walk.{follows-goes}
use Rattle.runs.proofs.Marks.{Marks, absent, stood, marked, marks as marks-pass, Keeps, keeps, onwards-keeps}
use Rattle.machine.specs.Machine.{depth_limit}
use Rattle.search.specs.Walks.{met_in}
use Rattle.search.specs.declared.Missed.{Missed}
use Rattle.spend.specs.Spend as spec
use Rattle.spend.specs.Spend.{spend, through, hit, stop, comes_to}
use Rattle.spend.proofs.Spend.{spend_next, spend-next, spends, spends-first}
use Rattle.pieces.specs.declared.Budget.{Budget}
use Rattle.pieces.specs.declared.Stop.{Stop}
use Rattle.pieces.specs.declared.Stop.TheVariants.{Wait, Spent}
use Rattle.pieces.specs.declared.Reached.{Reached}
use Rattle.pieces.specs.declared.Position.{Position}
use Rattle.pieces.specs.declared.Going.{Going}
use Rattle.pieces.specs.declared.Going.TheVariants.{On, Over}
use Rattle.pieces.specs.Walked.{IsRun, Spends, waits, stops, Reaches, ends, reaches-run}
use Rattle.pieces.specs.Position.{run_of, last_of, mark_of, remaining, Sound, Comes, stands, finds as found-so, misses}

-- ---- what a walk leaves is within its budget

pub through-within : (b k : ℕ) (m n : Bool) (xs : List Event) → spend b m xs ≡ through (suc k) n → k ≤ b
unfolding spend
through-within b k m n [] e = let o : b ≡ k = cc in omega (arith, o)
through-within b k m n (meets ∷ xs) e = through-within b k true n xs e
through-within b k m n (reaches true r ∷ xs) e = let z : ◌≡◌ {A = ℕ} 0 1 = cc in absurd (omega arith)
through-within zero k m n (reaches false r ∷ xs) e = let z : ◌≡◌ {A = ℕ} 0 1 = cc in absurd (omega arith)
through-within (suc b) k m n (reaches false r ∷ xs) e = let o = through-within b k m n xs e in omega (arith, o)

pub hit-within : (b k : ℕ) (m : Bool) (q : List ℕ) (xs : List Event) → spend b m xs ≡ hit k q → k ≤ b
unfolding spend
hit-within b k m q [] e = let z : ◌≡◌ {A = ℕ} 0 1 = cc in absurd (omega arith)
hit-within b k m q (meets ∷ xs) e = hit-within b k true q xs e
hit-within b k m q (reaches true r ∷ xs) e = let o : b ≡ k = cc in omega (arith, o)
hit-within zero k m q (reaches false r ∷ xs) e = let z : ◌≡◌ {A = ℕ} 0 1 = cc in absurd (omega arith)
hit-within (suc b) k m q (reaches false r ∷ xs) e = let o = hit-within b k m q xs e in omega (arith, o)

-- ---- taken apart

pub reaches-so : {run : List ℕ} {x : spec.Spent} {r q : Result Budget Reached} → r ≡ q → Reaches run x r → Reaches run x q
reaches-so {run} {x} e f = subst (Reaches run x) e f

pub ends-is : {run : List ℕ} {x : spec.Spent} {l : Budget} → Reaches run x (Ok l) → x ≡ through (suc l.further) l.met
ends-is (ends p) = p

pub waits-is : {run : List ℕ} {x : spec.Spent} {r : Reached} {k : ℕ} → Reaches run x (Err r) → r.stop ≡ Wait k → x ≡ hit k (take r.length run)
waits-is {run} {x} {r} {k} (reaches-run w f) e = by (rw e at f)
  where
    by : Spends run r.length x (Err (Wait k)) → x ≡ hit k (take r.length run)
    by (waits p) = p

pub stops-is : {run : List ℕ} {x : spec.Spent} {r : Reached} {m : Bool} → Reaches run x (Err r) → r.stop ≡ Spent m → x ≡ stop m (take r.length run)
stops-is {run} {x} {r} {m} (reaches-run w f) e = by (rw e at f)
  where
    by : Spends run r.length x (Err (Spent m)) → x ≡ stop m (take r.length run)
    by (stops p) = p

pub reached-long : {run : List ℕ} {x : spec.Spent} {r : Reached} → Reaches run x (Err r) → r.length ≤ length run
reached-long (reaches-run w f) = w

-- ---- where a search stands

last-none : (x : Position) → x.count ≡ 0 → last_of x ≡ none
unfolding last_of
last-none x o = rw o refl

last_some : (x : Position) → (x.count ≡ 0 → ⊥) → last_of x ≡ some (run_of x.last)
unfolding last_of
last_some x o = rw (ne_eqb x.count 0 o) refl

module _ {S : Type 0} (ways : S → Listed S) (s : S) (d : ℕ) where
  pub remaining-all : (x : Position) → x.count ≡ 0 → remaining ways s d (last_of x) ≡ walk ways s d
  unfolding remaining Option-elim
  remaining-all x o = rw (last-none x o) refl

  remaining-after : (o : Option (List ℕ)) (r : List ℕ) → o ≡ some r → remaining ways s d o ≡ later ways s d r
  unfolding remaining Option-elim
  remaining-after o r e = rw e refl

  -- the run that was walked last
  last-run : (c : ℕ) {r : List ℕ} {o : Option (List ℕ)} → is_mark ways s d c o ≡ true → o ≡ some r → IsRun ways s r × (length r ≤ d)
  last-run c {r} {o} e p = by (marked ways s d c (some r) (rw p at e))
    where
      by : Marks ways s d c (some r) → IsRun ways s r × (length r ≤ d)
      by (stood g z l f) = (record { before = false; wait = g; follows = (follows-goes ways false s r g).1 f }, l)

  -- the same, where it stands in a table
  module _ (x : Position) (run : List ℕ) (some-walked : x.count ≡ 0 → ⊥) (t : run ≡ x.last.entries) (w : x.last.length ≤ length run) where
    table-last : last_of x ≡ some (take x.last.length run)
    table-last = last_some x some-walked ∙ ap (λ (l : List ℕ). some (take x.last.length l)) (sym t)

    pub table-after : remaining ways s d (last_of x) ≡ later ways s d (take x.last.length run)
    table-after = remaining-after (last_of x) (take x.last.length run) table-last

    pub table-run : is_mark ways s d x.count (last_of x) ≡ true → IsRun ways s (take x.last.length run)
    table-run e = (last-run x.count e table-last).0

    pub table-short : is_mark ways s d x.count (last_of x) ≡ true → x.last.length ≤ d
    table-short e = let a = (last-run x.count e table-last).1 in let b = length-take x.last.length run in omega (arith, a, b, w)

  ahead-is : (o : Option (List ℕ)) (m : Bool) → ahead ways s d (mark o m) ≡ met_before m (next_of (remaining ways s d o))
  unfolding ahead remaining Option-elim walk levels events next_of
  ahead-is none m = refl
  ahead-is (some r) m = refl

  -- n states more, and no further
  onwards-is : (n c : ℕ) (o : Option (List ℕ)) (m : Bool) → 1 ≤ n → Marks ways s d c o → comes_to c n (spend (n - 1) m (remaining ways s d o)) ≡ onwards ways s d n (going c (mark o m))
  unfolding remaining Option-elim
  onwards-is zero c o m l f = absurd (omega (arith, l))
  onwards-is (suc n) c none m l (absent e) = let k : suc n - 1 ≡ n = omega arith in rw (k, e) (spends-first ways s d n m)
  onwards-is (suc n) c (some r) m l (stood g z w f) = let k : suc n - 1 ≡ n = omega arith in rw k (spends ways s d n c m r w)

  carry-is : (n c : ℕ) (o : Option (List ℕ)) (m : Bool) → 1 ≤ n → Marks ways s d c o → carry_on ways s d n (going c (mark o m)) ≡ settled ways s d (comes_to c n (spend (n - 1) m (remaining ways s d o)))
  unfolding carry_on
  carry-is zero c o m l f = absurd (omega (arith, l))
  carry-is (suc n) c o m l f = ap (settled ways s d) (sym (onwards-is (suc n) c o m l f))

  -- ---- whether there is another run

  -- a walk of one state tells
  none-ahead : (x : Next) (es : List Event) (b : Budget) (c : ℕ) (p : Mark) → spend_next 0 x es ≡ through (suc b.further) b.met → settled_by c p x ≡ gone c (ending b.met)
  unfolding spend_next settled_by
  none-ahead (lost k) es b c p e = let q : k ≡ b.met = cc in ap (λ (j : Bool). gone c (ending j)) q
  none-ahead (finds k true r) es b c p e = let z : ◌≡◌ {A = ℕ} 0 1 = cc in absurd (omega arith)
  none-ahead (finds k false r) es b c p e = let z : ◌≡◌ {A = ℕ} 0 1 = cc in absurd (omega arith)

  one-ahead : {run : List ℕ} {r : Reached} (x : Next) (es : List Event) (c : ℕ) (p : Mark) → Reaches run (spend_next 0 x es) (Err r) → settled_by c p x ≡ going c p
  unfolding spend_next settled_by
  one-ahead {run} {r} (lost k) es c p f = absurd (by r.stop refl f)
    where
      by : (q : Stop) → r.stop ≡ q → Reaches run (through 1 k) (Err r) → ⊥
      by (Wait j) e f = let g = waits-is f e in let z : ◌≡◌ {A = ℕ} 0 1 = cc in omega arith
      by (Spent j) e f = let g = stops-is f e in let z : ◌≡◌ {A = ℕ} 0 1 = cc in omega arith
  one-ahead (finds k h r) es c p f = refl

  module _ (x : Position) (run : List ℕ) where
    abbrev left : List Event
    left = remaining ways s d (last_of x)

    next-so : spend 0 x.met left ≡ spend_next 0 (ahead ways s d (mark_of x)) (rest_of left)
    next-so = spend-next 0 x.met left ∙ ap (λ (y : Next). spend_next 0 y (rest_of left)) (sym (ahead-is (last_of x) x.met))

    pub settle-over : (b : Budget) (m : Missed) → Reaches run (spend 0 x.met left) (Ok b) → met_in m ≡ b.met
        → Comes (settled ways s d (going x.count (mark_of x))) (Over (record { count = x.count; found = Err m }))
    unfolding settled
    settle-over b m f q =
        let e = none-ahead (ahead ways s d (mark_of x)) (rest_of left) b x.count (mark_of x) (sym next-so ∙ ends-is f) in
        subst (λ (y : marks.Going). Comes y (Over (record { count = x.count; found = Err m }))) (sym (e ∙ ap (λ (j : Bool). gone x.count (ending j)) (sym q))) misses

    pub settle-on : {r : Reached} → Sound x → Reaches run (spend 0 x.met left) (Err r) → Comes (settled ways s d (going x.count (mark_of x))) (On x)
    unfolding settled
    settle-on {r} w f =
        let e = one-ahead (ahead ways s d (mark_of x)) (rest_of left) x.count (mark_of x) (subst (λ (y : spec.Spent). Reaches run y (Err r)) next-so f) in
        subst (λ (y : marks.Going). Comes y (On x)) (sym e) (stands w)

  -- ---- n states more

  pub carry-none : (x : Position) (n : ℕ) → n ≡ 0 → Sound x → Comes (carry_on ways s d n (going x.count (mark_of x))) (On x)
  unfolding carry_on
  carry-none x n o w = rw o (stands w)

  module _ (x : Position) (n : ℕ) (more : 1 ≤ n) (e : is_mark ways s d x.count (last_of x) ≡ true) (run : List ℕ) where
    abbrev rest : List Event
    rest = remaining ways s d (last_of x)

    so : Marks ways s d x.count (last_of x)
    so = marked ways s d x.count (last_of x) e

    is : carry_on ways s d n (going x.count (mark_of x)) ≡ settled ways s d (comes_to x.count n (spend (n - 1) x.met rest))
    is = carry-is n x.count (last_of x) x.met more so

    pub carry-over : (b : Budget) (m : Missed) → Reaches run (spend (n - 1) x.met rest) (Ok b) → met_in m ≡ b.met → Comes (carry_on ways s d n (going x.count (mark_of x))) (Over (record { count = x.count + n - 1 - b.further; found = Err m }))
    unfolding settled comes_to
    carry-over b m f q =
        let k : x.count + n - suc b.further ≡ x.count + n - 1 - b.further = omega arith in
        subst (λ (g : marks.Going). Comes g (Over (record { count = x.count + n - 1 - b.further; found = Err m })))
        (sym (is ∙ ap (λ (u : spec.Spent). settled ways s d (comes_to x.count n u)) (ends-is f) ∙ ap (λ (j : ℕ). gone j (ending b.met)) k ∙ ap (λ (j : Bool). gone (x.count + n - 1 - b.further) (ending j)) (sym q))) misses

    pub carry-found : (r : Reached) (k : ℕ) → Reaches run (spend (n - 1) x.met rest) (Err r) → r.stop ≡ Wait k
        → Comes (carry_on ways s d n (going x.count (mark_of x))) (Over (record { count = x.count + n - k; found = Ok (record { length = r.length; entries = run }) }))
    unfolding settled comes_to
    carry-found r k f p =
        subst (λ (g : marks.Going). Comes g (Over (record { count = x.count + n - k; found = Ok (record { length = r.length; entries = run }) })))
        (sym (is ∙ ap (λ (u : spec.Spent). settled ways s d (comes_to x.count n u)) (waits-is f p))) (found-so (reached-long f))

    module _ (r : Reached) (m : Bool) (f : Reaches run (spend (n - 1) x.met rest) (Err r)) (p : r.stop ≡ Spent m) where
      -- where the search stands then
      abbrev there : Position
      there = record { count = x.count + n; met = m; last = record { length = r.length; entries = run } }

      there-last : last_of there ≡ some (take r.length run)
      there-last = last_some there (λ z. omega (arith, more, z))

      pub there-sound : length run ≡ depth_limit → Sound there
      there-sound k = record { room = k; short = reached-long f; first = λ z. absurd (omega (arith, more, z)) }

      onwards-there : comes_to x.count n (spend (n - 1) x.met rest) ≡ going (x.count + n) (mark_of there)
      unfolding comes_to
      onwards-there = ap (comes_to x.count n) (stops-is f p) ∙ ap (λ (o : Option (List ℕ)). going (x.count + n) (mark o m)) (sym there-last)

      pub there-stands : is_mark ways s d (x.count + n) (last_of there) ≡ true
      there-stands = marks-pass ways s d (x.count + n) (last_of there) (by (subst (Keeps ways s d) (sym (onwards-is n x.count (last_of x) x.met more so) ∙ onwards-there) (onwards-keeps ways s d n (going x.count (mark_of x)) (keeps so))))
        where
          by : Keeps ways s d (going (x.count + n) (mark_of there)) → Marks ways s d (x.count + n) (last_of there)
          by (keeps g) = g

      pub carry-settles : {u : Going} → Comes (settled ways s d (going (x.count + n) (mark_of there))) u → Comes (carry_on ways s d n (going x.count (mark_of x))) u
      carry-settles {u} g = subst (λ (v : marks.Going). Comes v u) (sym (is ∙ ap (settled ways s d) onwards-there)) g
