-- Numbers that pass the test of a search's buffer tell where it stands: a position of the walk over tables, which is the machine's mark. From the test, number by number.
use mathlib.Core.Path.{◌≡◌, refl, sym, ap, ap₂, ◌∙◌, subst}
use mathlib.Core.List.{List, [], ◌∷◌, map}
use mathlib.Core.Bool.{Bool, true, false, cond, not, ◌&&◌, ◌||◌}
use mathlib.Core.Option.{Option, none, some}
use Prim.Native.Nat.{ℕ, zero, suc, ◌-◌}
use native.Mathlib.Omega.{arith}
use borrow.Author.Tests.{ne_eqb}
use lib.Dec.{eqb, T}
use lib.Signed.{non_neg}
use mir.Syntax.{w64}
use mir.Val.{Fits, SFits}
use lib.IntN.{ℤ, pos, negsuc, nat_abs}
use lib.ListN.{length, take, drop, length-take, length-drop, length-map}
use lib.Seq.{drop-drop}
use Rattle.std.specs.Prelude as std
use Rattle.std.specs.Prelude.{None, Some}
use Rattle.value.proofs.Kit.{same-eq, eq-same}
use Rattle.model.specs.Resolved
use Rattle.model.specs.Good.{GoodModel}
use Rattle.waitnames.specs.Names.{wait_names}
use Rattle.runs.specs.Tree.{Listed}
use Rattle.runs.specs.Marks as marks
use Rattle.runs.specs.Marks.{mark, going, carry_on, is_mark}
use Rattle.search.proofs.Part.{tail-mid}
use Rattle.machine.specs.State.{State}
use Rattle.machine.specs.Machine.{depth_limit, entry_limit, count_limit, search_length, moves_by, GoodSearch, GoodSearching}
use Rattle.state.specs.Fits.{scopes_of}
use Rattle.state.specs.Test.{every, at, is_zero, is_below, is_state}
use Rattle.state.proofs.Tests.{below-bound, below-natural}
use Rattle.step.specs.Enter as enter
use Rattle.underway.specs.Buffer.{is_natural, is_entries, is_head, is_walked, is_under, is_search, entries_in, run_part, start_part, run_in, last_of as last_in, wait_in, under_in, search_in, under_numbers, search_numbers}
use Rattle.underway.proofs.Buffer.{passed, start-part}
use Rattle.underway.proofs.Far.{far-walked}
use Rattle.pieces.specs.declared.Position.{Position}
use Rattle.pieces.specs.declared.Going.{Going}
use Rattle.pieces.specs.Position.{run_of, last_of, mark_of, Sound, Comes}
use Rattle.resuming.specs.Standing.{position_with, placed, position_in, carried_on}

-- ---- the numbers before the start

both : (a b : Bool) → (a && b) ≡ true → (a ≡ true) × (b ≡ true)
both true b e = (refl, e)
both false b e = let z : ◌≡◌ {A = ℕ} 0 1 = cc in absurd (omega arith)

-- what the test of the numbers before the start asks
pub record Head (w : ℕ) (l : List ℤ) : Type 0 where
  pub depth : is_below (suc depth_limit) (at l 0) ≡ true
  pub wait : is_below (suc w) (at l 1) ≡ true
  pub count : is_below (suc count_limit) (at l 2) ≡ true
  pub short : is_below (suc (nat_abs (at l 0))) (at l 4) ≡ true
  pub first : (not (is_zero (at l 2)) || is_zero (at l 4)) ≡ true
  pub entries : is_entries (nat_abs (at l 4)) (run_part l) ≡ true

pub head-so : (w : ℕ) (l : List ℤ) → is_head w l ≡ true → Head w l
unfolding is_head
head-so w l e =
    let a = both (is_below (suc depth_limit) (at l 0)) _ e in
    let b = both (is_below (suc w) (at l 1)) _ a.1 in
    let c = both (is_below (suc count_limit) (at l 2)) _ b.1 in
    let d = both (is_below 2 (at l 3)) _ c.1 in
    let f = both (is_below (suc (nat_abs (at l 0))) (at l 4)) _ d.1 in
    let g = both (not (is_zero (at l 2)) || is_zero (at l 4)) _ f.1 in
    record { depth = a.0; wait = b.0; count = c.0; short = f.0; first = g.0; entries = g.1 }

pub natural-so : (n : ℕ) (z : ℤ) → is_below n z ≡ true → is_natural z ≡ true
unfolding is_natural
natural-so n z e = let p = below-natural n z e in rw p refl

-- a number that is 0 or more may be cast
pub natural-cast : (z : ℤ) → SFits w64 z → is_natural z ≡ true → T (non_neg z) × Fits w64 (nat_abs z)
unfolding is_natural
natural-cast (pos k) f e = (tt, omega (arith, f.sfits))
natural-cast (negsuc k) f e = let z : ◌≡◌ {A = ℕ} 0 1 = cc in absurd (omega arith)

zero-so : (z : ℤ) → is_zero z ≡ true → nat_abs z ≡ 0
unfolding is_zero
zero-so z e = ap nat_abs (same-eq z (pos 0) e)

so-zero : (n : ℕ) (z : ℤ) → is_below n z ≡ true → nat_abs z ≡ 0 → is_zero z ≡ true
unfolding is_zero
so-zero n z e o = eq-same z (pos 0) (below-natural n z e ∙ ap pos o)

take-map : (n : ℕ) (zs : List ℤ) → take n (map nat_abs zs) ≡ map nat_abs (take n zs)
take-map zero zs = refl
take-map (suc n) [] = refl
take-map (suc n) (z ∷ zs) = ap (λ (r : List ℕ). nat_abs z ∷ r) (take-map n zs)

-- ---- where it stands

placed-so : (l : List ℤ) (o : std.Option (List ℕ)) (p : Position) → placed l o ≡ Some p → (es : List ℕ) × (o ≡ Some es) × (p ≡ position_with l es)
unfolding placed
placed-so l None p e = let z : ◌≡◌ {A = ℕ} 0 1 = cc in absurd (omega arith)
placed-so l (Some es) p e = (es, refl, cc)

pub placed-none : (l : List ℤ) (o : std.Option (List ℕ)) → placed l o ≡ None → o ≡ None
unfolding placed
placed-none l None e = refl
placed-none l (Some es) e = let z : ◌≡◌ {A = ℕ} 0 1 = cc in absurd (omega arith)

module _ (l : List ℤ) (p : Position) (q : position_in l ≡ Some p) where
  es : List ℕ
  es = (placed-so l (entries_in l) p q).0

  is : p ≡ position_with l es
  unfolding es placed-so
  is = (placed-so l (entries_in l) p q).2

  entries-are : es ≡ map nat_abs (run_part l)
  unfolding entries_in es placed-so
  entries-are = by (every (is_below entry_limit) (run_part l)) es (placed-so l (entries_in l) p q).1
    where
      by : (b : Bool) (ks : List ℕ) → cond b (Some (map nat_abs (run_part l))) None ≡ Some ks → ks ≡ map nat_abs (run_part l)
      by true ks e = cc
      by false ks e = let z : ◌≡◌ {A = ℕ} 0 1 = cc in absurd (omega arith)

  pub count-is : p.count ≡ nat_abs (at l 2)
  count-is = ap (λ (x : Position). x.count) is

  pub met-is : p.met ≡ not (is_zero (at l 3))
  met-is = ap (λ (x : Position). x.met) is

  pub run-is : run_of p.last ≡ run_in l
  unfolding run_in
  run-is = ap (λ (x : Position). run_of x.last) is ∙ ap (take (nat_abs (at l 4))) entries-are ∙ take-map (nat_abs (at l 4)) (run_part l)

  last-of : (c : ℕ) (r : List ℕ) → cond (eqb c 0) none (some r) ≡ last_in c r
  unfolding last_in
  last-of zero r = refl
  last-of (suc c) r = rw (ne_eqb (suc c) 0 (λ e. omega (arith, e))) refl

  pub last-is : last_of p ≡ last_in (nat_abs (at l 2)) (run_in l)
  unfolding last_of
  last-is = last-of p.count (run_of p.last) ∙ ap₂ last_in count-is run-is

  pub sound : {w : ℕ} → Head w l → length l ≡ search_length → Sound p
  sound h k =
      let a = below-bound (suc depth_limit) (at l 0) h.depth in
      let b = below-bound (suc (nat_abs (at l 0))) (at l 4) h.short in
      let n : length es ≡ depth_limit = ap length entries-are ∙ simp (length-map, length-take, length-drop) (omega (arith, k)) in
      let c = ap (λ (x : Position). x.last.length) is in
      let d : length p.last.entries ≡ length es = ap (λ (x : Position). length x.last.entries) is in
      record {
        room = d ∙ n;
        short = omega (arith, a, b, n, c, d);
        first = λ z. c ∙ zero-so (at l 4) (sym (ap (λ (t : Bool). not t || is_zero (at l 4)) (so-zero (suc count_limit) (at l 2) h.count (sym count-is ∙ z))) ∙ h.first);
      }

-- the numbers of the start, as a slice
pub start-is : (l : List ℤ) → take (length l - 13) (drop 13 l) ≡ start_part l
start-is l = tail-mid 13 l ∙ sym (drop-drop 8 5 l)

-- ---- numbers that pass

pub none-is : (m : Resolved.Model) (l : List ℤ) → is_zero (at l 0) ≡ true → search_in m l ≡ none
unfolding search_in
none-is m l e = rw e refl

module _ (m : Resolved.Model) (fine : GoodModel m) (l : List ℤ) (long : length l ≡ search_length) (pass : is_search m l ≡ true) (full : is_zero (at l 0) ≡ false) where
  under-so : is_under m l ≡ true
  unfolding is_search
  under-so = sym (ap (λ (b : Bool). cond b (every is_zero l) (is_under m l)) full) ∙ pass

  parts : (is_head (length (wait_names m)) l ≡ true) × (is_walked m l ≡ true)
  unfolding is_under
  parts = let a = both (is_head (length (wait_names m)) l) _ under-so in (a.0, (both (is_state (scopes_of m) m.channels (start_part l)) (is_walked m l) a.1).1)

  pub head : Head (length (wait_names m)) l
  head = head-so (length (wait_names m)) l parts.0

  pub search-is : search_in m l ≡ some (under_in m l)
  unfolding search_in
  search-is = rw full refl

  pub good : GoodSearch m (under_in m l)
  unfolding GoodSearching
  good = subst (GoodSearching m) search-is (passed m fine l long pass).good

  pub numbers-are : under_numbers (under_in m l) ≡ l
  unfolding search_numbers
  numbers-are = sym (ap search_numbers search-is) ∙ (passed m fine l long pass).numbers

  pub stands : enter.Stands (start_part l) m (under_in m l).start
  stands = record { good = fine; state = good.start; numbers = sym (ap start_part numbers-are) ∙ start-part m fine (under_in m l) good }

  pub entries-there : (es : List ℕ) × (entries_in l ≡ Some es)
  entries-there = by (entries_in l) refl
    where
      by : (o : std.Option (List ℕ)) → entries_in l ≡ o → (es : List ℕ) × (entries_in l ≡ Some es)
      by None q = let p : true ≡ false = sym parts.1 ∙ far-walked m l head.entries (sym q) in let z : ◌≡◌ {A = ℕ} 0 1 = cc in absurd (omega arith)
      by (Some es) q = (es, q)

  pub placed-there : (p : Position) × (position_in l ≡ Some p)
  unfolding placed
  placed-there = (position_with l entries-there.0, ap (placed l) entries-there.1)

  pub numbered : search_numbers (search_in m l) ≡ l
  numbered = (passed m fine l long pass).numbers

  -- ---- what the walk over tables is asked, and what it comes to

  module _ (p : Position) (q : position_in l ≡ Some p) (W : State → Listed State) (e : W ≡ moves_by m (wait_in l)) (d : ℕ) (f : d ≡ nat_abs (at l 0)) where
    pub mark-so : is_mark W (under_in m l).start d p.count (last_of p) ≡ true
    unfolding under_in
    mark-so =
        ap (λ (V : State → Listed State). is_mark V (under_in m l).start d p.count (last_of p)) e
        ∙ ap (λ (k : ℕ). is_mark (moves_by m (wait_in l)) (under_in m l).start k p.count (last_of p)) f
        ∙ ap (λ (k : ℕ). is_mark (moves_by m (wait_in l)) (under_in m l).start (nat_abs (at l 0)) k (last_of p)) (count-is l p q)
        ∙ ap (λ (o : Option (List ℕ)). is_mark (moves_by m (wait_in l)) (under_in m l).start (nat_abs (at l 0)) (nat_abs (at l 2)) o) (last-is l p q)
        ∙ good.stands

    same-search : carry_on W (under_in m l).start d ≡ carry_on (moves_by m (wait_in l)) (under_in m l).start (nat_abs (at l 0))
    same-search = ap (λ (V : State → Listed State). carry_on V (under_in m l).start d) e ∙ ap (λ (k : ℕ). carry_on (moves_by m (wait_in l)) (under_in m l).start k) f

    same-place : going p.count (mark_of p) ≡ going (under_in m l).count (under_in m l).mark
    unfolding under_in
    same-place =
        ap (λ (k : ℕ). going k (mark_of p)) (count-is l p q) ∙ ap (λ (o : Option (List ℕ)). going (nat_abs (at l 2)) (mark o p.met)) (last-is l p q)
        ∙ ap (λ (b : Bool). going (nat_abs (at l 2)) (mark (last_in (nat_abs (at l 2)) (run_in l)) b)) (met-is l p q)

    pub carried-so : (n : ℕ) (r : Going) → Comes (carry_on W (under_in m l).start d n (going p.count (mark_of p))) r → Comes (carried_on m n (under_in m l)) r
    unfolding under_in
    carried-so n r g = subst (λ (x : marks.Going). Comes x r) (ap (λ (h : ℕ → marks.Going → marks.Going). h n (going p.count (mark_of p))) same-search ∙ ap (carry_on (moves_by m (wait_in l)) (under_in m l).start (nat_abs (at l 0)) n) same-place) g
