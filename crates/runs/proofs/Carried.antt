-- A search that is carried on by any numbers of states answers as one in one call, and walks exactly that many unless it ends (02, note 10). Assumes nothing.
use mathlib.Core.Path.{◌≡◌, refl, sym, ap, ◌∙◌, subst}
use mathlib.Core.Bool.{Bool, true, false, cond}
use mathlib.Core.List.{List, [], ◌∷◌}
use Prim.Native.Nat.{ℕ, zero, suc, ◌+◌, ◌-◌, ◌≤◌, ◌<◌}
use native.Mathlib.Omega.{arith}
use lib.ListN.{length}
use Rattle.runs.specs.Tree.{Listed, Answer, found}
use Rattle.runs.specs.Walk.{Event, meets, reaches, events, levels, walk, later_same, later, ending, judge, search, Next, lost, finds, met_before, next_of, rest_of}
use Rattle.runs.specs.Steps.{Place, begun, Carried, under, ended, onto, walked, turn, carry, calls, states}
use Rattle.runs.proofs.Later.{met-finds, next-in, later-rest, later-length}

-- ---- judging, from one run to the next

pub judge-lost : (m n : Bool) (xs : List Event) → met_before m (next_of xs) ≡ lost n → (judge m xs ≡ ending n) × (states xs ≡ 0)
unfolding judge next_of met_before states
judge-lost true n [] e = let a : true ≡ n = cc in (rw a refl, refl)
judge-lost false n [] e = let a : false ≡ n = cc in (rw a refl, refl)
judge-lost m n (meets ∷ xs) e = judge-lost true n xs (twice m (next_of xs) e)
  where
    twice : (m : Bool) (x : Next) → met_before m (met_before true x) ≡ lost n → met_before true x ≡ lost n
    twice true (lost k) p = p
    twice false (lost k) p = p
    twice m (finds k h r) p = let z : ◌≡◌ {A = ℕ} 0 1 = cc in absurd (omega arith)
judge-lost m n (reaches h r ∷ xs) e = let z : ◌≡◌ {A = ℕ} 0 1 = cc in absurd (omega arith)

same_head : (m n g h : Bool) (q r : List ℕ) (xs : List Event) → m ≡ n → g ≡ h → q ≡ r
    → (judge m (reaches g q ∷ xs) ≡ judge n (reaches h r ∷ xs)) × (states (reaches g q ∷ xs) ≡ states (reaches h r ∷ xs))
same_head m n g h q r xs a b c = (cc, cc)

pub judge-finds : (m n h : Bool) (r : List ℕ) (xs : List Event) → met_before m (next_of xs) ≡ finds n h r
    → (judge m xs ≡ judge n (reaches h r ∷ rest_of xs)) × (states xs ≡ states (reaches h r ∷ rest_of xs))
unfolding judge next_of met_before states rest_of
judge-finds m n h r [] e = let z : ◌≡◌ {A = ℕ} 0 1 = cc in absurd (omega arith)
judge-finds m n h r (meets ∷ xs) e = judge-finds true n h r xs (twice m (next_of xs) e)
  where
    twice : (m : Bool) (x : Next) → met_before m (met_before true x) ≡ finds n h r → met_before true x ≡ finds n h r
    twice true (finds k g q) p = p
    twice false (finds k g q) p = p
    twice m (lost k) p = let z : ◌≡◌ {A = ℕ} 0 1 = cc in absurd (omega arith)
judge-finds true n h r (reaches g q ∷ xs) e = let a : true ≡ n = cc in let b : g ≡ h = cc in let c : q ≡ r = cc in same_head true n g h q r xs a b c
judge-finds false n h r (reaches g q ∷ xs) e = let a : false ≡ n = cc in let b : g ≡ h = cc in let c : q ≡ r = cc in same_head false n g h q r xs a b c

-- a run is walked: it is the wait's, or not
pub stops : (m b : Bool) (r : List ℕ) (xs : List Event) → b ≡ true → (judge m (reaches b r ∷ xs) ≡ found r) × (states (reaches b r ∷ xs) ≡ 1)
unfolding judge states
stops m b r xs e = rw e (refl, refl)

pub passes : (m b : Bool) (r : List ℕ) (xs : List Event) → b ≡ false → (judge m (reaches b r ∷ xs) ≡ judge m xs) × (states (reaches b r ∷ xs) ≡ suc (states xs))
unfolding judge states
passes m b r xs e = rw e (refl, refl)

-- states walked so far
abbrev pub count_of : Carried → ℕ
count_of (under c p) = c
count_of (ended c a) = c

-- ---- calls one after the other

unfoldable pub sum : List ℕ → ℕ
sum [] = 0
sum (n ∷ ns) = n + sum ns

module _ {S : Type 0} (ways : S → Listed S) (s : S) (d : ℕ) where
  pub carry-adds : (m n : ℕ) (x : Carried) → carry ways s d (m + n) x ≡ carry ways s d n (carry ways s d m x)
  unfolding carry
  carry-adds zero n x = let e : 0 + n ≡ n = omega arith in ap (λ (k : ℕ). carry ways s d k x) e
  carry-adds (suc m) n x = let e : suc m + n ≡ suc (m + n) = omega arith in ap (λ (k : ℕ). carry ways s d k x) e ∙ carry-adds m n (turn ways s d x)

  -- note 10: any numbers in turn are their sum in one call
  pub calls-sum : (ns : List ℕ) (x : Carried) → calls ways s d ns x ≡ carry ways s d (sum ns) x
  unfolding calls sum carry
  calls-sum [] x = refl
  calls-sum (n ∷ ns) x = calls-sum ns (carry ways s d n x) ∙ sym (carry-adds n (sum ns) x)

  -- ---- where a search stands

  -- what is left from a place on, the run that is walked next first
  abbrev pub left : Place → List Event
  left p = reaches p.wait p.run ∷ later ways s d p.run

  -- all states of the search
  abbrev pub total : ℕ
  total = states (walk ways s d)

  -- c states were walked, and what is left gives the search's answer
  pub data Stands : Carried → Type 0 where
    on : {c : ℕ} {p : Place} → length p.run ≤ d → search ways s d ≡ judge p.met (left p) → total ≡ c + states (left p) → Stands (under c p)
    over : {c : ℕ} {a : Answer} → search ways s d ≡ a → total ≡ c → Stands (ended c a)

  pub stands-begun : Stands (under 0 begun)
  unfolding begun search walk levels events later later_same
  stands-begun =
      let e : d - 0 ≡ d = omega arith in
      let a : judge false (walk ways s d) ≡ judge false (left begun) = rw e refl in
      let b : total ≡ states (left begun) = rw e refl in
      let c : states (left begun) ≡ 0 + states (left begun) = omega arith in
      let l : 0 ≤ d = omega arith in
      on {p = begun} l a (b ∙ c)

  -- a place that isn't the wait's, where walking comes upon x next
  stands-onto : (c : ℕ) (p : Place) (x : Next) → p.wait ≡ false → length p.run ≤ d → search ways s d ≡ judge p.met (left p) → total ≡ c + states (left p)
      → met_before p.met (next_of (later ways s d p.run)) ≡ x → Stands (onto (suc c) x)
  unfolding onto
  stands-onto c p (lost n) w l a t e =
      let k = passes p.met p.wait p.run (later ways s d p.run) w in
      let j = judge-lost p.met n (later ways s d p.run) e in
      let u : states (left p) ≡ suc (states (later ways s d p.run)) = k.1 in
      let v : states (later ways s d p.run) ≡ 0 = j.1 in
      let o : total ≡ suc c = omega arith in
      over (a ∙ k.0 ∙ j.0) o
  stands-onto c p (finds n h r) w l a t e =
      let k = passes p.met p.wait p.run (later ways s d p.run) w in
      let j = judge-finds p.met n h r (later ways s d p.run) e in
      let f = met-finds p.met (next_of (later ways s d p.run)) e in
      let y : rest_of (later ways s d p.run) ≡ later ways s d r = later-rest ways s d p.run f.0 h r l f.1 in
      let o : length r ≤ d = later-length ways s d p.run h r l (next-in (later ways s d p.run) f.0 h r f.1) in
      let u : states (left p) ≡ suc (states (later ways s d p.run)) = k.1 in
      let v : states (later ways s d p.run) ≡ states (reaches h r ∷ later ways s d r) = j.1 ∙ ap (λ (z : List Event). states (reaches h r ∷ z)) y in
      let x : total ≡ suc c + states (reaches h r ∷ later ways s d r) = omega arith in
      on {p = record { run = r; wait = h; met = n }} o (a ∙ k.0 ∙ j.0 ∙ ap (λ (z : List Event). judge n (reaches h r ∷ z)) y) x

  pub stands-walked : (c : ℕ) (p : Place) → Stands (under c p) → Stands (walked ways s d c p)
  unfolding walked
  stands-walked c p (on l a t) = by p.wait refl
    where
      by : (b : Bool) → p.wait ≡ b → Stands (cond b (ended (suc c) (found p.run)) (onto (suc c) (met_before p.met (next_of (later ways s d p.run)))))
      by true w =
          let k = stops p.met p.wait p.run (later ways s d p.run) w in
          let u : states (left p) ≡ 1 = k.1 in
          let o : total ≡ suc c = omega arith in
          over (a ∙ k.0) o
      by false w = stands-onto c p (met_before p.met (next_of (later ways s d p.run))) w l a t refl

  pub stands-turn : (x : Carried) → Stands x → Stands (turn ways s d x)
  unfolding turn
  stands-turn (under c p) f = stands-walked c p f
  stands-turn (ended c a) f = f

  -- ---- note 10

  -- what n states come to, where c were walked before: exactly so many unless it ends, and then the answer is the search's
  pub record Carries (c n : ℕ) (x : Carried) : Type 0 where
    pub short : c + n < total → (p : Place) × (x ≡ under (c + n) p)
    pub long : total ≤ c + n → x ≡ ended total (search ways s d)

  -- a search that has ended stays so
  pub stays : (n c : ℕ) (a : Answer) → carry ways s d n (ended c a) ≡ ended c a
  unfolding carry turn
  stays zero c a = refl
  stays (suc n) c a = stays n c a

  some_left : (p : Place) → 1 ≤ states (left p)
  some_left p = by p.wait refl
    where
      by : (b : Bool) → p.wait ≡ b → 1 ≤ states (left p)
      by true w = let k = (stops p.met p.wait p.run (later ways s d p.run) w).1 in omega arith
      by false w = let k = (passes p.met p.wait p.run (later ways s d p.run) w).1 in omega arith

  -- one state more is walked
  walked-count : (c : ℕ) (p : Place) → count_of (walked ways s d c p) ≡ suc c
  unfolding walked onto
  walked-count c p = by p.wait (met_before p.met (next_of (later ways s d p.run)))
    where
      by : (b : Bool) (x : Next) → count_of (cond b (ended (suc c) (found p.run)) (onto (suc c) x)) ≡ suc c
      by true x = refl
      by false (lost n) = refl
      by false (finds n h r) = refl

  carries-more : (n c : ℕ) (x : Carried) → Stands x → count_of x ≡ suc c → ((q : Place) → Stands (under (suc c) q) → Carries (suc c) n (carry ways s d n (under (suc c) q)))
      → Carries c (suc n) (carry ways s d n x)
  carries-more n c (under k q) g e rest =
      let y = rest q (subst (λ (j : ℕ). Stands (under j q)) e g) in
      let l : suc c + n ≡ c + suc n = omega arith in
      let z : carry ways s d n (under k q) ≡ carry ways s d n (under (suc c) q) = ap (λ (j : ℕ). carry ways s d n (under j q)) e in
      record {
        short = λ o. let w = y.short (omega arith) in (w.0, z ∙ w.1 ∙ ap (λ (j : ℕ). under j w.0) l);
        long = λ o. z ∙ y.long (omega arith);
      }
  carries-more n c (ended k a) (over f t) e rest =
      record {
        short = λ o. let u : k ≡ suc c = e in absurd (omega arith);
        long = λ o. stays n k a ∙ ap (λ (j : ℕ). ended j a) (sym t) ∙ ap (ended total) (sym f);
      }

  pub carries : (n c : ℕ) (p : Place) → Stands (under c p) → Carries c n (carry ways s d n (under c p))
  unfolding carry turn
  carries zero c p (on l a t) =
      let k : 1 ≤ states (left p) = some_left p in
      let e : c ≡ c + 0 = omega arith in
      record { short = λ o. (p, ap (λ (j : ℕ). under j p) e); long = λ o. absurd (omega arith) }
  carries (suc n) c p f = carries-more n c (walked ways s d c p) (stands-walked c p f) (walked-count c p) (carries n (suc c))

  -- note 10: carried on by any numbers from the beginning
  pub stepwise : (ns : List ℕ) → Carries 0 (sum ns) (calls ways s d ns (under 0 begun))
  stepwise ns = subst (λ (x : Carried). Carries 0 (sum ns) x) (sym (calls-sum ns (under 0 begun))) (carries (sum ns) 0 begun stands-begun)

  -- carrying on keeps where a search stands
  pub stands-carry : (n : ℕ) (x : Carried) → Stands x → Stands (carry ways s d n x)
  unfolding carry
  stands-carry zero x f = f
  stands-carry (suc n) x f = stands-carry n _ (stands-turn x f)
