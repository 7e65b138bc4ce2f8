-- What carrying on came to, as it is written and answered. By cases of whether the search has ended.
use mathlib.Core.Path.{◌≡◌, refl, sym, ap, ◌∙◌, subst}
use mathlib.Core.List.{List, []}
use mathlib.Core.Bool.{Bool, true, false, cond}
use mathlib.Core.Option.{Option, none, some}
use Prim.Native.Nat.{ℕ, ◌+◌, ◌≤◌, ◌<◌}
use native.Mathlib.Omega.{arith}
use borrow.Author.Tests.{le-leb, lt-leb, eqb-true}
use lib.Dec.{eqb}
use lib.IntN.{ℤ, nat_abs}
use lib.ListN.{length, take}
use Rattle.std.specs.Prelude.{Ok, Err}
use Rattle.model.specs.Resolved
use Rattle.model.specs.Good.{GoodModel}
use Rattle.runs.specs.Tree as tree
use Rattle.runs.specs.Walk.{ending}
use Rattle.runs.specs.Marks as marks
use Rattle.runs.specs.Marks.{mark, going, gone}
use Rattle.runs.proofs.Marks.{CountsTo, counts, counts-gone}
use Rattle.search.specs.Walks.{Answered, a-run, no_run, not_known, met_in}
use Rattle.search.specs.declared.Missed.{Missed}
use Rattle.search.specs.declared.Missed.TheVariants.{Nothing, Unsure}
use Rattle.machine.specs.Machine.{Search, search_at, search_length, as_lent, no, count_limit, progress_as, ended_as, carried_as, carries_by}
use Rattle.state.specs.Test.{at}
use Rattle.underway.specs.Buffer.{under_in, entries_of, under_numbers, search_numbers, search_in, is_search, carried_numbers}
use Rattle.underway.proofs.Written.{carried-search}
use Rattle.searching.specs.declared.Found.{Found}
use Rattle.searching.specs.Run as run
use Rattle.searching.specs.Run.{result_of}
use Rattle.pieces.specs.declared.Run.{Run}
use Rattle.pieces.specs.declared.Position.{Position}
use Rattle.pieces.specs.declared.Ended.{Ended}
use Rattle.pieces.specs.declared.Going.{Going}
use Rattle.pieces.specs.declared.Going.TheVariants.{On, Over}
use Rattle.pieces.specs.Position.{run_of, last_of, mark_of, Sound, Comes, stands, finds, misses}
use Rattle.resuming.specs.declared.Progress.{Progress}
use Rattle.resuming.specs.Progress.{bare, Tells}
use Rattle.resuming.specs.Standing.{carried_on, count_of}

-- ---- the count

pub count-within : {g : marks.Going} {r : Going} {k : ℕ} → Comes g r → CountsTo k g → count_of r ≤ k
unfolding count_of
count-within (stands s) (counts l) = l
count-within (finds w) (counts-gone l) = l
count-within misses (counts-gone l) = l

pub count-on : {r : Going} {p : Position} {k : ℕ} → r ≡ On p → count_of r ≤ k → p.count ≤ k
unfolding count_of
count-on {r} {p} {k} e l = subst (λ (g : Going). count_of g ≤ k) e l

pub under-count : (m : Resolved.Model) (l : List ℤ) → (under_in m l).count ≡ nat_abs (at l 2)
unfolding under_in
under-count m l = refl

pub comes-so : {g : marks.Going} {r q : Going} → r ≡ q → Comes g r → Comes g q
comes-so {g} e h = subst (Comes g) e h

pub on-sound : {g : marks.Going} {p : Position} → Comes g (On p) → Sound p
on-sound (stands s) = s

-- ---- at the end

-- with a run
pub ended-run : {c : ℕ} {a : tree.Answer} {e : Ended} {r : Run} → e.found ≡ Ok r → Comes (gone c a) (Over e) → Answered a (Ok r.length) r.entries × (c ≡ e.count)
ended-run {r = r} q (finds {r = k} w) = (subst (λ (x : Run). Answered (tree.found (run_of k)) (Ok x.length) x.entries) (let p : k ≡ r = cc in p) (a-run w refl), refl)
ended-run q misses = let z : ◌≡◌ {A = ℕ} 0 1 = cc in absurd (omega arith)

missed-so : (m : Missed) (run : List ℕ) → Answered (ending (met_in m)) (Err m) run
unfolding ending
missed-so Nothing run = no_run refl
missed-so Unsure run = not_known refl

-- without
pub ended-none : {c : ℕ} {a : tree.Answer} {e : Ended} {m : Missed} (run : List ℕ) → e.found ≡ Err m → Comes (gone c a) (Over e) → Answered a (Err m) run × (c ≡ e.count)
ended-none run q (finds w) = let z : ◌≡◌ {A = ℕ} 0 1 = cc in absurd (omega arith)
ended-none {m = m} run q (misses {m = k}) = (subst (λ (x : Missed). Answered (ending (met_in k)) (Err x) run) (let p : k ≡ m = cc in p) (missed-so k run), refl)

-- it has ended
pub over-is : {g : marks.Going} {e : Ended} → Comes g (Over e) → (c : ℕ) × (a : tree.Answer) × (g ≡ gone c a)
over-is (finds {c = c} {r = r} w) = (c, tree.found (run_of r), refl)
over-is (misses {c = c} {m = m}) = (c, ending (met_in m), refl)

pub ended-tells : (c k : ℕ) (a : tree.Answer) (f : Found) → c ≡ k → f ≡ result_of a → Tells (ended_as c a) (record { number = f.number; count = k; ended = 1; length = f.length; run = f.run })
unfolding ended_as result_of progress_as run.entries_of
ended-tells c k (tree.found r) f p q = rw q (record { number = refl; count = sym p; ended = refl; long = refl; run = refl })
ended-tells c k tree.nothing f p q = rw q (record { number = refl; count = sym p; ended = refl; long = refl; run = refl })
ended-tells c k tree.unsure f p q = rw q (record { number = refl; count = sym p; ended = refl; long = refl; run = refl })

-- ---- as it is written

-- no run has no entries
none-same : (x : Search) (c : ℕ) (b : Bool) → search_numbers (some (search_at x c (mark none b))) ≡ search_numbers (some (search_at x c (mark (some []) b)))
unfolding search_numbers under_numbers entries_of
none-same x c b = refl

module _ (m : Resolved.Model) (fine : GoodModel m) (l : List ℤ) (long : length l ≡ search_length) (pass : is_search m l ≡ true) (x : Search) (q : search_in m l ≡ some x) where
  last-numbers : (p : Position) → Sound p → search_numbers (some (search_at x p.count (mark_of p))) ≡ carried_numbers l p.count p.met (run_of p.last)
  unfolding last_of
  last-numbers p s = by (eqb p.count 0) refl
    where
      by : (b : Bool) → eqb p.count 0 ≡ b → search_numbers (some (search_at x p.count (mark (cond b none (some (run_of p.last))) p.met))) ≡ carried_numbers l p.count p.met (run_of p.last)
      by true e =
          let o : p.last.length ≡ 0 = s.first (eqb-true p.count 0 e) in
          let r : run_of p.last ≡ [] = ap (λ (n : ℕ). take n p.last.entries) o in
          none-same x p.count p.met ∙ carried-search m fine l long pass x q p.count p.met [] ∙ ap (carried_numbers l p.count p.met) (sym r)
      by false e = carried-search m fine l long pass x q p.count p.met (run_of p.last)

  -- where it stands, or zeros
  pub on-written : (g : marks.Going) (p : Position) → Comes g (On p) → carried_numbers l p.count p.met (run_of p.last) ≡ search_numbers (carried_as x g).machine
  unfolding carried_as
  on-written _ p (stands s) = sym (last-numbers p s)

  pub over-written : (g : marks.Going) (e : Ended) (k : List ℤ) → Comes g (Over e) → k ≡ search_numbers none → k ≡ search_numbers (carried_as x g).machine
  unfolding carried_as
  over-written g e k f z = let o = over-is f in rw o.2 z

pub on-tells : (x : Search) (g : marks.Going) (p : Position) → Comes g (On p) → Tells (carried_as x g).answer (bare 0 p.count 0)
unfolding carried_as progress_as run.entries_of
on-tells x _ p (stands s) = record { number = refl; count = refl; ended = refl; long = refl; run = refl }

pub over-tells : (x : Search) (g : marks.Going) (e : Ended) (r : Progress) → Comes g (Over e) → ((c : ℕ) (a : tree.Answer) → Comes (gone c a) (Over e) → Tells (ended_as c a) r) → Tells (carried_as x g).answer r
unfolding carried_as
over-tells x g e r f t = let o = over-is f in rw o.2 (t o.0 o.1 (subst (λ (h : marks.Going). Comes h (Over e)) o.2 f))

-- ---- 28

pub tells28 : Tells (no 28 0 0 as_lent) (bare 28 0 0)
unfolding no run.entries_of
tells28 = record { number = refl; count = refl; ended = refl; long = refl; run = refl }

module _ (m : Resolved.Model) (n : ℕ) where
  pub none-carried : (o : Option Search) → o ≡ none → (search_numbers (carries_by n m o).machine ≡ search_numbers o) × Tells (carries_by n m o).answer (bare 28 0 0)
  unfolding carries_by
  none-carried o e = rw e (refl, tells28)

  pub far-carried : (o : Option Search) (x : Search) → o ≡ some x → count_limit < x.count + n → (search_numbers (carries_by n m o).machine ≡ search_numbers o) × Tells (carries_by n m o).answer (bare 28 0 0)
  unfolding carries_by
  far-carried o x e l = rw (e, lt-leb (x.count + n) count_limit l) (refl, tells28)

  pub near-carried : (o : Option Search) (x : Search) → o ≡ some x → x.count + n ≤ count_limit → carries_by n m o ≡ carried_as x (carried_on m n x)
  unfolding carries_by
  near-carried o x e l = rw (e, le-leb (x.count + n) count_limit l) refl

  pub goes-on : (o : Option Search) (x : Search) → o ≡ some x → x.count + n ≤ count_limit → (k : List ℤ) (r : Progress)
      → (k ≡ search_numbers (carried_as x (carried_on m n x)).machine) × Tells (carried_as x (carried_on m n x)).answer r → (k ≡ search_numbers (carries_by n m o).machine) × Tells (carries_by n m o).answer r
  goes-on o x e l k r t = rw (near-carried o x e l) t
