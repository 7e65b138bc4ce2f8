-- A search in pieces that keeps the run walked last goes as one that keeps the next: by any numbers of states it walks exactly so many unless it ends, and then answers as one in one call; and what it keeps
-- passes the exact test (02, note 10). Assumes nothing.
use mathlib.Core.Path.{◌≡◌, refl, sym, ap, ◌∙◌, subst}
use mathlib.Core.Bool.{Bool, true, false, cond, not, ◌&&◌}
use mathlib.Core.List.Memᴰ
use mathlib.Core.List.{List, [], ◌∷◌, map, Memᴰ as In}
use mathlib.Core.Logic.{⊎_elim}
use mathlib.Core.Option.{Option, none, some, Option-elim}
use Prim.Native.Nat.{ℕ, zero, suc, ◌+◌, ◌-◌, ◌≤◌, ◌<◌}
use native.Mathlib.Omega.{arith}
use borrow.Author.Tests.{leb-true, le-leb, eqb-true, eqb-false, ne_eqb}
use lib.Dec.{eqb, leb}
use lib.ListN.{length, drop}
use lib.Seq.{get_or-drop}
use Rattle.runs.specs.Tree.{idle, leads, Listed, unlisted, lists, way_in, Answer, found, nothing, unsure}
use Rattle.runs.specs.Walk.{meets, reaches, behind, end_of, of_listed, events, events_from, next, later_same, later, follows, ending, search, Next, lost, finds, met_before, next_of}
use Rattle.runs.specs.Steps.{Place, begun, Carried, under, ended, onto, walked, turn, carry}
use Rattle.runs.specs.Marks.{Mark, mark, unmarked, Going, going, gone, stepped, settled_by, ahead, onward, onwards, settled, carry_on, is_mark}
use Rattle.runs.proofs.Events.{behind-run, through, Goes, reached}
use Rattle.runs.proofs.Walk.{in-level, follows-goes}
use Rattle.runs.proofs.Later.{met-finds, next-in, later-length}
use Rattle.runs.proofs.Carried.{Stands, total, stands-begun, stands-carry, Carries, carries}

module _ {S : Type 0} (ways : S → Listed S) (s : S) (d : ℕ) where
  -- ---- the run walked last, and the run walked next

  pub data Alike : Going → Carried → Type 0 where
    at : {c : ℕ} {p : Mark} {q : Place} → ahead ways s d p ≡ finds q.met q.wait q.run → Alike (going c p) (under c q)
    over : {c : ℕ} {a : Answer} → Alike (gone c a) (ended c a)

  -- before it is asked whether another run is left
  data Nearly : Going → Carried → Type 0 where
    nearly : {x : Going} {y : Carried} → Alike x y → Nearly x y
    late : {c : ℕ} {p : Mark} {k : Bool} → ahead ways s d p ≡ lost k → Nearly (going c p) (ended c (ending k))

  onto-nearly : (c : ℕ) (p : Mark) (x : Next) → ahead ways s d p ≡ x → Nearly (going c p) (onto c x)
  unfolding onto
  onto-nearly c p (lost k) e = late e
  onto-nearly c p (finds m h r) e = nearly (at {q = record { run = r; wait = h; met = m }} e)

  nearly-onward : (x : Going) (y : Carried) → Nearly x y → Nearly (onward ways s d x) (turn ways s d y)
  unfolding onward turn stepped walked ahead Option-elim
  nearly-onward x y (nearly (at {c = c} {p = p} {q = q} e)) = rw e (by q.wait)
    where
      by : (b : Bool)
          → Nearly (cond b (gone (suc c) (found q.run)) (going (suc c) (mark (some q.run) q.met)))
          (cond b (ended (suc c) (found q.run)) (onto (suc c) (met_before q.met (next_of (later ways s d q.run)))))
      by true = nearly over
      by false = onto-nearly (suc c) (mark (some q.run) q.met) (met_before q.met (next_of (later ways s d q.run))) refl
  nearly-onward x y (nearly over) = nearly over
  nearly-onward x y (late e) = rw e (nearly over)

  nearly-onwards : (n : ℕ) (x : Going) (y : Carried) → Nearly x y → Nearly (onwards ways s d n x) (carry ways s d n y)
  unfolding onwards carry
  nearly-onwards zero x y f = f
  nearly-onwards (suc n) x y f = nearly-onwards n (onward ways s d x) (turn ways s d y) (nearly-onward x y f)

  settled-alike : (x : Going) (y : Carried) → Nearly x y → Alike (settled ways s d x) y
  unfolding settled settled_by
  settled-alike x y (nearly (at e)) = rw e (at e)
  settled-alike x y (nearly over) = over
  settled-alike x y (late e) = rw e over

  pub carry-alike : (n : ℕ) (x : Going) (y : Carried) → Alike x y → Alike (carry_on ways s d n x) (carry ways s d n y)
  unfolding carry_on carry
  carry-alike zero x y f = f
  carry-alike (suc n) x y f = settled-alike (onwards ways s d (suc n) x) (carry ways s d (suc n) y) (nearly-onwards (suc n) x y (nearly f))

  -- ---- note 10

  -- so many states from the beginning lead here
  pub record Standing (c : ℕ) (p : Mark) : Type 0 where
    pub place : Place
    pub next : ahead ways s d p ≡ finds place.met place.wait place.run
    pub stands : Stands ways s d (under c place)

  pub standing-unmarked : Standing 0 unmarked
  unfolding begun ahead Option-elim met_before
  standing-unmarked = record { place = begun; next = refl; stands = stands-begun ways s d }

  alike-under : {x : Going} {y : Carried} {c : ℕ} {q : Place} → Alike x y → y ≡ under c q → (p : Mark) × (x ≡ going c p) × (ahead ways s d p ≡ finds q.met q.wait q.run)
  alike-under {c = c} {q = q} (at {c = k} {p = p} {q = r} e) f =
      let a : k ≡ c = cc in let b : r ≡ q = cc in (p, ap (λ (j : ℕ). going j p) a, e ∙ ap (λ (z : Place). finds z.met z.wait z.run) b)
  alike-under over f = let z : ◌≡◌ {A = ℕ} 0 1 = cc in absurd (omega arith)

  alike-ended : {x : Going} {y : Carried} {c : ℕ} {a : Answer} → Alike x y → y ≡ ended c a → x ≡ gone c a
  alike-ended (at e) f = let z : ◌≡◌ {A = ℕ} 0 1 = cc in absurd (omega arith)
  alike-ended {c = c} {a = a} (over {c = k} {a = b}) f = cc

  -- by n states more: exactly so many unless it ends, and then the answer is the search's
  pub record Pieces (c n : ℕ) (x : Going) : Type 0 where
    pub short : c + n < total ways s d → (p : Mark) × (x ≡ going (c + n) p) × Standing (c + n) p
    pub long : total ways s d ≤ c + n → x ≡ gone (total ways s d) (search ways s d)

  pub pieces : (c n : ℕ) (p : Mark) → Standing c p → Pieces c n (carry_on ways s d n (going c p))
  pieces c n p f =
      let g : Carries ways s d c n (carry ways s d n (under c f.place)) = carries ways s d n c f.place f.stands in
      let a : Alike (carry_on ways s d n (going c p)) (carry ways s d n (under c f.place)) = carry-alike n (going c p) (under c f.place) (at f.next) in
      let k : Stands ways s d (carry ways s d n (under c f.place)) = stands-carry ways s d n (under c f.place) f.stands in
      record {
        short = λ o. let w = g.short o in let u = alike-under a w.1 in (u.0, u.1, record { place = w.0; next = u.2; stands = subst (λ (y : Carried). Stands ways s d y) w.1 k });
        long = λ o. alike-ended a (g.long o);
      }

-- ---- what is kept is a run

module _ {S : Type 0} (ways : S → Listed S) where
  from_goes : (e n : ℕ) (s : S) (k h : Bool) (q : List ℕ) → In (reaches h q) (events_from ways e n s) → Goes ways k s q h
  unfolding events_from of_listed Goes way_in
  from_goes e n s k h q = of (ways s) refl
    where
      of : (l : Listed S) → ways s ≡ l → In (reaches h q) (of_listed (events ways n) e l) → Goes ways k s q h
      of unlisted p i = let z : reaches h q ≡ meets = Memᴰ.eq_of_singleton i in let y : ◌≡◌ {A = ℕ} 0 1 = cc in absurd (omega arith)
      of (lists ws) p i =
          let x = through (events ways n) e (drop e ws) h q i in
          let w : way_in (ways s) (e + x.number) ≡ leads x.wait x.state = ap (λ (l : Listed S). way_in l (e + x.number)) p ∙ sym (get_or-drop e ws x.number idle) ∙ x.way in
          rw x.run (x.wait, x.state, w, (reached ways n x.wait x.state h x.rest x.inside).1)

  -- behind an entry that leads to t
  after-goes : (s t : S) (e : ℕ) (j k h : Bool) (p : List ℕ) → way_in (ways s) e ≡ leads j t → Goes ways j t p h → Goes ways k s (e ∷ p) h
  unfolding Goes
  after-goes s t e j k h p w f = (j, t, w, f)

  next-is : (s t : S) (e : ℕ) (j : Bool) → way_in (ways s) e ≡ leads j t → next ways s e ≡ t
  unfolding next end_of
  next-is s t e j w = rw w refl

  same-goes : (s : S) (r : List ℕ) (k g : Bool) → Goes ways k s r g → (h : Bool) (q : List ℕ) → In (reaches h q) (later_same ways s r) → Goes ways k s q h
  unfolding later_same Goes
  same-goes s [] k g f h q i = elim i [ ]
  same-goes s (e ∷ es) k g (j, t, w, f) h q i = pick (same-goes t es j g f h)
    where
      pick : ((p : List ℕ) → In (reaches h p) (later_same ways t es) → Goes ways j t p h) → Goes ways k s q h
      pick below =
          ⊎_elim
          (λ u.
          let x = behind-run e (later_same ways (next ways s e) es) h q u in
          let y : In (reaches h x.0) (later_same ways t es) = subst (λ (v : S). In (reaches h x.0) (later_same ways v es)) (next-is s t e j w) x.2 in
          rw x.1 (after-goes s t e j k h x.0 w (below x.0 y)))
          (λ u. from_goes (suc e) (length es) s k h q u) (Memᴰ.append_cases (map (behind e) (later_same ways (next ways s e) es)) i)

  later-goes : (s : S) (d : ℕ) (r : List ℕ) (g : Bool) → Goes ways false s r g → (h : Bool) (q : List ℕ) → In (reaches h q) (later ways s d r) → Goes ways false s q h
  unfolding later
  later-goes s d r g f h q i =
      ⊎_elim (λ u. same-goes s r false g f h q u)
      (λ u. let x = in-level ways s (suc (length r)) (d - length r) u in (reached ways x.0 false s h q x.2).1) (Memᴰ.append_cases (later_same ways s r) i)

  empty-goes : (s : S) → Goes ways false s [] false
  unfolding Goes
  empty-goes s = refl

is_some : (o : Option Bool) → Option-elim o false (λ h. true) ≡ true → (g : Bool) × (o ≡ some g)
unfolding Option-elim
is_some none e = let z : ◌≡◌ {A = ℕ} 0 1 = cc in absurd (omega arith)
is_some (some g) e = (g, refl)

both : (a b : Bool) → (a && b) ≡ true → (a ≡ true) × (b ≡ true)
both true true e = (refl, refl)
both true false e = let z : ◌≡◌ {A = ℕ} 0 1 = cc in absurd (omega arith)
both false b e = let z : ◌≡◌ {A = ℕ} 0 1 = cc in absurd (omega arith)

not-zero : (c : ℕ) (b : Bool) → eqb c 0 ≡ b → not b ≡ true → c ≡ 0 → ⊥
not-zero c true e f z = let y : ◌≡◌ {A = ℕ} 0 1 = cc in omega arith
not-zero c false e f z = eqb-false c 0 e z

module _ {S : Type 0} (ways : S → Listed S) (s : S) (d : ℕ) where
  -- a run from the start, within the depth; absent exactly when the count is 0
  pub data Marks (c : ℕ) : Option (List ℕ) → Type 0 where
    absent : c ≡ 0 → Marks c none
    stood : {r : List ℕ} (g : Bool) → (c ≡ 0 → ⊥) → length r ≤ d → Goes ways false s r g → Marks c (some r)

  -- the exact test
  pub marked : (c : ℕ) (o : Option (List ℕ)) → is_mark ways s d c o ≡ true → Marks c o
  unfolding is_mark
  marked c none e = absent (eqb-true c 0 e)
  marked c (some r) e =
      let a = both (not (eqb c 0)) (leb (length r) d && Option-elim (follows ways false s r) false (λ h. true)) e in
      let b = both (leb (length r) d) (Option-elim (follows ways false s r) false (λ h. true)) a.1 in
      let x = is_some (follows ways false s r) b.1 in
      stood x.0 (not-zero c (eqb c 0) refl a.0) (leb-true (length r) d b.0) ((follows-goes ways false s r x.0).0 x.1)

  pub marks : (c : ℕ) (o : Option (List ℕ)) → Marks c o → is_mark ways s d c o ≡ true
  unfolding is_mark Option-elim
  marks c none (absent e) = rw e refl
  marks c (some r) (stood g z l f) = rw (ne_eqb c 0 z, le-leb (length r) d l, (follows-goes ways false s r g).1 f) refl

  -- the run that is found next
  found-marks : (c : ℕ) (o : Option (List ℕ)) → Marks c o → {m h : Bool} {r : List ℕ} → Option-elim o (finds false false []) (λ q. next_of (later ways s d q)) ≡ finds m h r → Marks (suc c) (some r)
  unfolding Option-elim
  found-marks c none f {r = r} e = let a : r ≡ [] = cc in rw a (let o : length {A = ℕ} [] ≤ d = omega arith in stood {r = []} false (λ z. omega arith) o (empty-goes ways s))
  found-marks c (some q) (stood g z l k) {m} {h} {r} e =
      let i = next-in (later ways s d q) m h r e in stood h (λ y. omega arith) (later-length ways s d q h r l i) (later-goes ways s d q g k h r i)

  -- a run that is answered is within the depth
  unfoldable pub Short : Answer → Type 0
  Short (found r) = length r ≤ d
  Short nothing = Unit {0}
  Short unsure = Unit {0}

  short-ending : (m : Bool) → Short (ending m)
  unfolding ending Short
  short-ending true = tt
  short-ending false = tt

  short-run : {c : ℕ} {r : List ℕ} → Marks c (some r) → Short (found r)
  unfolding Short
  short-run (stood g z l f) = l

  -- what a search in pieces keeps, and what it ends with
  pub data Keeps : Going → Type 0 where
    keeps : {c : ℕ} {p : Mark} → Marks c p.last → Keeps (going c p)
    keeps-none : {c : ℕ} {a : Answer} → Short a → Keeps (gone c a)

  stepped-keeps : (c : ℕ) (p : Mark) (x : Next) → Marks c p.last → ahead ways s d p ≡ x → Keeps (stepped c x)
  unfolding stepped ahead
  stepped-keeps c p (lost m) f e = keeps-none (short-ending m)
  stepped-keeps c p (finds m h r) f e = by h
    where
      by : (b : Bool) → Keeps (cond b (gone (suc c) (found r)) (going (suc c) (mark (some r) m)))
      by true = keeps-none (short-run (found-marks c p.last f (met-finds p.met _ e).1))
      by false = keeps (found-marks c p.last f (met-finds p.met _ e).1)

  pub onwards-keeps : (n : ℕ) (x : Going) → Keeps x → Keeps (onwards ways s d n x)
  unfolding onwards onward
  onwards-keeps zero x f = f
  onwards-keeps (suc n) (going c p) (keeps f) = onwards-keeps n (stepped c (ahead ways s d p)) (stepped-keeps c p (ahead ways s d p) f refl)
  onwards-keeps (suc n) (gone c a) f = onwards-keeps n (gone c a) f

  settled-keeps : (x : Going) → Keeps x → Keeps (settled ways s d x)
  unfolding settled settled_by
  settled-keeps (going c p) f = by (ahead ways s d p)
    where
      by : (y : Next) → Keeps (settled_by c p y)
      by (lost m) = keeps-none (short-ending m)
      by (finds m h r) = f
  settled-keeps (gone c a) f = f

  -- note 10: what is kept passes the exact test again
  pub carry-keeps : (n : ℕ) (x : Going) → Keeps x → Keeps (carry_on ways s d n x)
  unfolding carry_on
  carry-keeps zero x f = f
  carry-keeps (suc n) x f = settled-keeps (onwards ways s d (suc n) x) (onwards-keeps (suc n) x f)

-- ---- how far the count goes

pub data CountsTo (k : ℕ) : Going → Type 0 where
  counts : {c : ℕ} {p : Mark} → c ≤ k → CountsTo k (going c p)
  counts-gone : {c : ℕ} {a : Answer} → c ≤ k → CountsTo k (gone c a)

pub counts-within : {k l : ℕ} {y : Going} → k ≤ l → CountsTo k y → CountsTo l y
counts-within o (counts {c = c} f) = counts {c = c} (omega arith)
counts-within o (counts-gone {c = c} f) = counts-gone {c = c} (omega arith)

module _ {S : Type 0} (ways : S → Listed S) (s : S) (d : ℕ) where
  stepped-counts : (k c : ℕ) (x : Next) → suc c ≤ k → CountsTo k (stepped c x)
  unfolding stepped
  stepped-counts k c (lost m) o = counts-gone {c = c} (omega arith)
  stepped-counts k c (finds m h r) o = by h
    where
      by : (b : Bool) → CountsTo k (cond b (gone (suc c) (found r)) (going (suc c) (mark (some r) m)))
      by true = counts-gone o
      by false = counts o

  -- further by n
  onwards-counts : (n k c : ℕ) (x : Going) → CountsTo c x → c + n ≤ k → CountsTo k (onwards ways s d n x)
  unfolding onwards onward
  onwards-counts zero k c (going b p) (counts f) o = counts {c = b} (omega arith)
  onwards-counts zero k c (gone b a) (counts-gone f) o = counts-gone {c = b} (omega arith)
  onwards-counts (suc n) k c (going b p) (counts f) o = onwards-counts n k (suc c) (stepped b (ahead ways s d p)) (stepped-counts (suc c) b (ahead ways s d p) (omega arith)) (omega arith)
  onwards-counts (suc n) k c (gone b a) (counts-gone f) o = onwards-counts n k (suc c) (gone b a) (counts-gone {c = b} (omega arith)) (omega arith)

  settled-counts : (k : ℕ) (x : Going) → CountsTo k x → CountsTo k (settled ways s d x)
  unfolding settled settled_by
  settled-counts k (going c p) (counts f) = by (ahead ways s d p)
    where
      by : (y : Next) → CountsTo k (settled_by c p y)
      by (lost m) = counts-gone f
      by (finds m h r) = counts f
  settled-counts k (gone c a) f = f

  -- note 10: no further than by n
  pub carry-counts : (n c : ℕ) (p : Mark) → CountsTo (c + n) (carry_on ways s d n (going c p))
  unfolding carry_on
  carry-counts zero c p = counts {c = c} (omega arith)
  carry-counts (suc n) c p = let o : c ≤ c = omega arith in let l : c + suc n ≤ c + suc n = omega arith in settled-counts (c + suc n) (onwards ways s d (suc n) (going c p)) (onwards-counts (suc n) (c + suc n) c (going c p) (counts o) l)
