-- How the answers of reading functions are put together: tokens one after another, nodes that are written once their parts are read, and the trees that the
-- table then holds. From the laws of Grow.antt and of lists.
use mathlib.Core.Path.{◌≡◌, refl, sym, ap, ◌∙◌}
use mathlib.Core.List.{List, ◌∷◌}
use Prim.Native.Nat.{ℕ, ◌+◌, ◌≤◌, ◌<◌}
use native.Mathlib.Numerals.{add-one}
use native.Mathlib.Omega.{arith}
use lib.ListN.{length, get_or, drop, set, length-set}
use lib.Seq.{drop-cons, get_or-set_other}
use Rattle.std.specs.Prelude.{Err, Ok}
use Rattle.grammar.specs.Machine.{Sym}
use Rattle.grammar.specs.Follows.{next, fault, Follows}
use Rattle.grammar.specs.Syntax.{wide}
use Rattle.grammar.proofs.Follows.{inside, got}
use Rattle.grammar.proofs.Prepends.{Prepends, place as prepended}
use Rattle.tree.specs.Node.{field, cell}
use Rattle.tree.specs.Table.{Leaf, One, Two, Three}
use Rattle.tree.specs.Reading.{place, place_counted, Ready, Span, Made, Grown, Parsed, Extended, Tally, Tallied, Read, Counted}
use Rattle.tree.proofs.Interval.{Interval, stays}
use Rattle.tree.proofs.Grow.{grow-leaf, grow-one, grow-two, grow-three}

infixl 60 ◌then◌
-- ---- tokens

next-token : (ts : List ℕ) (k : ℕ) → k < length ts → drop k ts ≡ get_or ts k 0 ∷ drop (k + 1) ts
next-token ts k h = rw add-one (drop-cons ts k 0 h)

-- nothing
pub span_none : {ts t : List ℕ} {at used : ℕ} → at ≤ length ts → Span (λ us. us) ts t t at used at used
span_none h = record { text = refl; onward = omega arith; within = h; more = omega arith; fewer = omega arith; kept = λ i l. refl; size = refl }

-- the one token k
pub span-token : {ts t : List ℕ} {at used : ℕ} (k : ℕ) → get_or ts at 0 ≡ k → 0 < k → Span (λ us. k ∷ us) ts t t at used (at + 1) used
span-token {ts} {t} {at} k e h =
    let l = inside ts at (omega arith) in
    record {
      text = next-token ts at l ∙ ap (λ (x : ℕ). x ∷ drop (at + 1) ts) e;
      onward = omega arith;
      within = omega arith;
      more = omega arith;
      fewer = omega arith;
      kept = λ i m. refl;
      size = refl;
    }

-- one span after another
pub ◌then◌ : {f g : List ℕ → List ℕ} {ts t t₁ t₂ : List ℕ} {at used n u m w : ℕ} → Span f ts t t₁ at used n u → Span g ts t₁ t₂ n u m w → Span (λ us. f (g us)) ts t t₂ at used m w
◌then◌ {f} p q =
    record {
      text = p.text ∙ ap f q.text;
      onward = omega (arith, p.onward, q.onward);
      within = q.within;
      more = omega (arith, p.more, q.more);
      fewer = omega (arith, p.fewer, q.fewer);
      kept = λ i l. q.kept i (omega (arith, p.more)) ∙ p.kept i l;
      size = q.size ∙ p.size;
    }

-- the same tokens, written otherwise
pub span-as : {f g : List ℕ → List ℕ} {ts t t' : List ℕ} {at used n u : ℕ} → ((us : List ℕ) → g us ≡ f us) → Span f ts t t' at used n u → Span g ts t t' at used n u
span-as {ts = ts} {n = n} e s =
    record { text = s.text ∙ sym (e (drop n ts)); onward = s.onward; within = s.within; more = s.more; fewer = s.fewer; kept = s.kept; size = s.size }

-- the node u was written
pub record Wrote (t t' : List ℕ) (u kind token left third : ℕ) : Type 0 where
  pub written : t' ≡ set t u (cell kind token left third)
  pub token-fits : token < field
  pub left-fits : left < field
  pub third-fits : third < field

module _ {t t' : List ℕ} {u kind token left third : ℕ} (w : Wrote t t' u kind token left third) where
  pub wrote-size : length t' ≡ length t
  wrote-size = ap length w.written ∙ length-set t u (cell kind token left third)

  -- past those that are there: one of the tokens is its own
  pub span-wrote : {f : List ℕ → List ℕ} {ts t₀ : List ℕ} {at used n : ℕ} → Span f ts t₀ t at used n u → u + at < used + n → Span f ts t₀ t' at used n (u + 1)
  span-wrote s h =
      record {
        text = s.text;
        onward = s.onward;
        within = s.within;
        more = omega (arith, s.more);
        fewer = omega arith;
        kept = λ i l. ap (λ (x : List ℕ). get_or x i 0) w.written ∙ get_or-set_other t u i (cell kind token left third) 0 (omega (arith, s.more)) ∙ s.kept i l;
        size = wrote-size ∙ s.size;
      }

  -- among those that are there: written anew, once it is known what they are
  pub span-over : {f : List ℕ → List ℕ} {ts t₀ : List ℕ} {at used n m : ℕ} → Span f ts t₀ t at used n m → used ≤ u → Span f ts t₀ t' at used n m
  span-over s h =
      record {
        text = s.text;
        onward = s.onward;
        within = s.within;
        more = s.more;
        fewer = s.fewer;
        kept = λ i l. ap (λ (x : List ℕ). get_or x i 0) w.written ∙ get_or-set_other t u i (cell kind token left third) 0 (omega arith) ∙ s.kept i l;
        size = wrote-size ∙ s.size;
      }

-- where it ends
pub span-place : {f : List ℕ → List ℕ} {w : ℕ} {ts t t' : List ℕ} {at used n u : ℕ} → Prepends f w → Span f ts t t' at used n u → n ≡ at + wide f
span-place {ts = ts} {at = at} {n = n} p s = prepended p ts at n (omega (arith, s.onward, s.within)) s.within s.text

-- ---- where the next function may start

pub ready-after : {f : List ℕ → List ℕ} {ts t t' : List ℕ} {at used n u : ℕ} → Ready ts at used → Span f ts t t' at used n u → Ready ts n u
ready-after r s = record { inside = s.within; room = r.room; few = omega (arith, r.few, s.fewer) }

pub ready-token : {ts : List ℕ} {at used : ℕ} → Ready ts at used → 0 < get_or ts at 0 → Ready ts (at + 1) used
ready-token {ts} {at} r h = record { inside = omega (arith, inside ts at h); room = r.room; few = omega (arith, r.few) }

-- ---- what a table holds, where it has room

-- P from lo to k, if k is a node of the table
abbrev pub Seen : (List ℕ → ℕ → ℕ → Type 0) → List ℕ → ℕ → ℕ → Type 0
Seen P t lo k = k < length t → P t lo k

-- what was read before a span is still there after it
pub seen-later : {a b : ℕ} {P : List ℕ → ℕ → ℕ → Type 0} {f : List ℕ → List ℕ} {ts t t' : List ℕ} {at used n u lo k : ℕ} → Interval a b P → Span f ts t t' at used n u → k < used → Seen P t lo k → Seen P t' lo k
seen-later {used = used} p s h q l = stays p used h s.kept (q (omega (arith, s.size)))

-- what stands above a node stays when that node is written anew
pub seen-over : {a b : ℕ} {P : List ℕ → ℕ → ℕ → Type 0} {t t' : List ℕ} {u kind token left third lo k : ℕ} → Interval a b P → Wrote t t' u kind token left third → u < lo → Seen P t lo k → Seen P t' lo k
seen-over {t = t} {u = u} {kind} {token} {left} {third} p w h q l =
    p.keep (λ i m n. ap (λ (x : List ℕ). get_or x i 0) w.written ∙ get_or-set_other t u i (cell kind token left third) 0 (omega arith)) (q (omega (arith, wrote-size w)))

module _ {t t' : List ℕ} {kind token : ℕ} where
  pub seen-leaf : {u : ℕ} → Wrote t t' u kind token 0 0 → Seen (λ s. Leaf s kind token) t' u u
  seen-leaf {u} w l = grow-leaf t t' u (omega (arith, wrote-size w)) w.written w.token-fits

  pub seen_one : {a b third lo r : ℕ} {P : List ℕ → ℕ → ℕ → Type 0} → Interval a b P → Wrote t t' (r + 1) kind token 0 third → Seen P t lo r → Seen (λ s. One s kind token third (P s)) t' lo (r + 1)
  seen_one {r = r} p w h l =
      let room : r + 1 < length t = omega (arith, wrote-size w) in
      grow-one t t' (r + 1) room p w.written w.token-fits w.third-fits refl (h (omega arith))

  pub seen-two : {a b c d third lo left r : ℕ} {P Q : List ℕ → ℕ → ℕ → Type 0} → Interval a b P → Interval c d Q → Wrote t t' (r + 1) kind token left third → Seen P t lo left → Seen Q t (left + 1) r → Seen (λ s. Two s kind token third (P s) (Q s)) t' lo (r + 1)
  seen-two {r = r} p q w h g l =
      let room : r + 1 < length t = omega (arith, wrote-size w) in
      let second = g (omega arith) in
      grow-two t t' (r + 1) room p q w.written w.token-fits w.left-fits w.third-fits refl (h (omega (arith, q.low second))) second

  pub seen-three : {a b c d i j lo left middle r : ℕ} {P Q R : List ℕ → ℕ → ℕ → Type 0} → Interval a b P → Interval c d Q → Interval i j R → Wrote t t' (r + 1) kind token left middle → Seen P t lo left → Seen Q t (left + 1) middle → Seen R t (middle + 1) r → Seen (λ s. Three s kind token (P s) (Q s) (R s)) t' lo (r + 1)
  seen-three {r = r} p q o w h g f l =
      let room : r + 1 < length t = omega (arith, wrote-size w) in
      let third = f (omega arith) in
      let second = g (omega (arith, o.low third)) in
      grow-three t t' (r + 1) room p q o w.written w.token-fits w.left-fits w.third-fits refl (h (omega (arith, o.low third, q.low second))) second third

-- ---- what callees hand over, once it is known which answer they gave

pub next-at : {ts : List ℕ} {at n root : ℕ} {x : List Sym} {r : Read} → r ≡ Ok (n, root) → Follows ts at x (place r) → Follows ts at x (next n)
unfolding place
next-at e f = got (ap place e) f

pub fault-at : {ts : List ℕ} {at k : ℕ} {x : List Sym} {r : Read} → r ≡ Err k → Follows ts at x (place r) → Follows ts at x (fault k)
unfolding place
fault-at e f = got (ap place e) f

pub counted-next-at : {ts : List ℕ} {at n root m : ℕ} {x : List Sym} {r : Counted} → r ≡ Ok (n, root, m) → Follows ts at x (place_counted r) → Follows ts at x (next n)
unfolding place_counted
counted-next-at e f = got (ap place_counted e) f

pub counted-fault-at : {ts : List ℕ} {at k : ℕ} {x : List Sym} {r : Counted} → r ≡ Err k → Follows ts at x (place_counted r) → Follows ts at x (fault k)
unfolding place_counted
counted-fault-at e f = got (ap place_counted e) f

-- a tree that was read, or the table's length as it was
module _ {T : Type 0} {flat : T → List ℕ → List ℕ} {holds : List ℕ → T → ℕ → ℕ → Type 0} {ts t t' : List ℕ} {at used : ℕ} where
  pub made_of : {n root : ℕ} {r : Read} → r ≡ Ok (n, root) → Parsed flat holds ts t t' at used r → Made flat holds ts t t' at used n root
  unfolding Parsed
  made_of e p = rw e at p

  pub tally-of : {count : T → ℕ} {c n root m : ℕ} {r : Counted} → r ≡ Ok (n, root, m) → Tallied flat count holds ts t t' at used c r → Tally flat count holds ts t t' at used c n root m
  unfolding Tallied
  tally-of e p = rw e at p

  -- what follows of an answer, whichever it is
  module _ {U : Type 0} {flat₂ : U → List ℕ → List ℕ} {holds₂ : List ℕ → U → ℕ → ℕ → Type 0} {ts₂ t₂ t₂' : List ℕ} {at₂ used₂ : ℕ} where
    pub parsed-as : (r : Read) → ((n root : ℕ) → Made flat holds ts t t' at used n root → Made flat₂ holds₂ ts₂ t₂ t₂' at₂ used₂ n root) → (length t' ≡ length t → length t₂' ≡ length t₂) → Parsed flat holds ts t t' at used r → Parsed flat₂ holds₂ ts₂ t₂ t₂' at₂ used₂ r
    unfolding Parsed
    parsed-as (Ok (n, root)) f g p = f n root p
    parsed-as (Err k) f g p = g p

    pub tallied-as : {count : T → ℕ} {count₂ : U → ℕ} {c c₂ : ℕ} → (r : Counted) → ((n root m : ℕ) → Tally flat count holds ts t t' at used c n root m → Tally flat₂ count₂ holds₂ ts₂ t₂ t₂' at₂ used₂ c₂ n root m) → (length t' ≡ length t → length t₂' ≡ length t₂) → Tallied flat count holds ts t t' at used c r → Tallied flat₂ count₂ holds₂ ts₂ t₂ t₂' at₂ used₂ c₂ r
    unfolding Tallied
    tallied-as (Ok (n, root, m)) f g p = f n root m p
    tallied-as (Err k) f g p = g p

pub fault-size : {T : Type 0} (flat : T → List ℕ → List ℕ) (holds : List ℕ → T → ℕ → ℕ → Type 0) (ts t t' : List ℕ) (at used : ℕ) {k : ℕ} {r : Read} → r ≡ Err k → Parsed flat holds ts t t' at used r → length t' ≡ length t
unfolding Parsed
fault-size flat holds ts t t' at used e p = rw e at p

pub counted-fault-size : {T : Type 0} (flat : T → List ℕ → List ℕ) (count : T → ℕ) (holds : List ℕ → T → ℕ → ℕ → Type 0) (ts t t' : List ℕ) (at used c : ℕ) {k : ℕ} {r : Counted} → r ≡ Err k → Tallied flat count holds ts t t' at used c r → length t' ≡ length t
unfolding Tallied
counted-fault-size flat count holds ts t t' at used c e p = rw e at p

-- more that was read after a tree
module _ {T X Y : Type 0} {flat : T → List ℕ → List ℕ} {grow : X → T → Y} {before : List ℕ → X → ℕ → ℕ → Type 0} {holds : List ℕ → Y → ℕ → ℕ → Type 0} {ts t t' : List ℕ} {at left : ℕ} where
  pub grown-of : {n root : ℕ} {r : Read} → r ≡ Ok (n, root) → Extended flat grow before holds ts t t' at left r → Grown flat grow before holds ts t t' at left n root
  unfolding Extended
  grown-of e p = rw e at p

  pub extended-as : {T₂ X₂ Y₂ : Type 0} {flat₂ : T₂ → List ℕ → List ℕ} {grow₂ : X₂ → T₂ → Y₂} {before₂ : List ℕ → X₂ → ℕ → ℕ → Type 0} {holds₂ : List ℕ → Y₂ → ℕ → ℕ → Type 0} {ts₂ t₂ t₂' : List ℕ} {at₂ left₂ : ℕ} → (r : Read) → ((n root : ℕ) → Grown flat grow before holds ts t t' at left n root → Grown flat₂ grow₂ before₂ holds₂ ts₂ t₂ t₂' at₂ left₂ n root) → (length t' ≡ length t → length t₂' ≡ length t₂) → Extended flat grow before holds ts t t' at left r → Extended flat₂ grow₂ before₂ holds₂ ts₂ t₂ t₂' at₂ left₂ r
  unfolding Extended
  extended-as (Ok (n, root)) f g p = f n root p
  extended-as (Err k) f g p = g p

  pub parsed-grown : {U : Type 0} {flat₂ : U → List ℕ → List ℕ} {holds₂ : List ℕ → U → ℕ → ℕ → Type 0} {ts₂ t₂ t₂' : List ℕ} {at₂ used₂ : ℕ} → (r : Read) → ((n root : ℕ) → Grown flat grow before holds ts t t' at left n root → Made flat₂ holds₂ ts₂ t₂ t₂' at₂ used₂ n root) → (length t' ≡ length t → length t₂' ≡ length t₂) → Extended flat grow before holds ts t t' at left r → Parsed flat₂ holds₂ ts₂ t₂ t₂' at₂ used₂ r
  unfolding Extended Parsed
  parsed-grown (Ok (n, root)) f g p = f n root p
  parsed-grown (Err k) f g p = g p

-- ---- operators, nested to the left

module _ {A T : Type 0} {flat_a : A → List ℕ → List ℕ} {flat : T → List ℕ → List ℕ} {width : A → ℕ} (wide-part : (a : A) → Prepends (flat_a a) (width a)) where
  -- a first part, and what grew on it
  pub made-grown : {X Y Z : Type 0} {flat_z : Z → List ℕ → List ℕ} {before : List ℕ → X → ℕ → ℕ → Type 0} {after : List ℕ → Y → ℕ → ℕ → Type 0} {holds : List ℕ → Z → ℕ → ℕ → Type 0} {grow : X → T → Y} {ts t t₁ t₂ : List ℕ} {at used n r m root : ℕ} (first : A → X) (both : A → T → Z) → ((a : A) (z : T) (us : List ℕ) → flat_z (both a z) us ≡ flat_a a (flat z us)) → ((a : A) (z : T) (s : List ℕ) (lo k : ℕ) → n ≡ at + wide (flat_a a) → after s (grow (first a) z) lo k → holds s (both a z) lo k) → Made flat_a (λ s a. before s (first a)) ts t t₁ at used n r → Grown flat grow before after ts t₁ t₂ n r m root → Made flat_z holds ts t t₂ at used m root
  made-grown {t₁ = t₁} {t₂ = t₂} {used = used} {r = r} {root = root} first both text shows p g =
      record {
        tree = both p.tree g.tree;
        span = span-as (text p.tree g.tree) (p.span then g.span);
        shown = λ l.
            let room : r < length t₁ = omega (arith, g.span.more, g.span.size) in
            shows p.tree g.tree t₂ used root (span-place (wide-part p.tree) p.span) (g.shown l (first p.tree) used (p.shown room));
      }

  -- a sign, a part, a node over what was there and the part, and what grew on these
  pub grown-joined : {X : Type 0} {holds : List ℕ → X → ℕ → ℕ → Type 0} {part : List ℕ → A → ℕ → ℕ → Type 0} {grow grow' : X → T → X} {a b c d : ℕ} {ts t t₁ t₂ t₃ : List ℕ} {at left n r m root sign kind : ℕ} (more : A → T → T) (join : X → A → X) → ((x : X) → Interval a b (λ s. holds s x)) → ((y : A) → Interval c d (λ s. part s y)) → ((y : A) (z : T) (us : List ℕ) → flat (more y z) us ≡ sign ∷ flat_a y (flat z us)) → ((x : X) (y : A) (z : T) → n ≡ at + 1 + wide (flat_a y) → grow x (more y z) ≡ grow' (join x y) z) → ((x : X) (y : A) (s : List ℕ) (lo k : ℕ) → Two s kind 0 0 (holds s x) (part s y) lo k → holds s (join x y) lo k) → get_or ts at 0 ≡ sign → 0 < sign → Made flat_a part ts t t₁ (at + 1) (left + 1) n r → Wrote t₁ t₂ (r + 1) kind 0 left 0 → Grown flat grow' holds holds ts t₂ t₃ n (r + 1) m root → Grown flat grow holds holds ts t t₃ at left m root
  grown-joined {holds = holds} {t₂ = t₂} {t₃ = t₃} {left = left} {r = r} {root = root} {sign = sign} more join hx hy text grows shows e h p w g =
      record {
        tree = more p.tree g.tree;
        span = span-as (text p.tree g.tree) (span-wrote w (span-token sign e h then p.span) (omega (arith, p.span.fewer)) then g.span);
        shown = λ l x lo before.
            let room : r + 1 < length t₂ = omega (arith, g.span.more, g.span.size) in
            let seen = seen-two (hx x) (hy p.tree) w (λ k. stays (hx x) (left + 1) (omega arith) p.span.kept before) p.shown room in
            let both = shows x p.tree t₂ lo (r + 1) seen in
            rw (grows x p.tree g.tree (span-place (wide-part p.tree) p.span)) (g.shown l (join x p.tree) lo both);
      }
