-- Channel names in their tree: a name's own bits lead to it, so that looking it up finds its place, and a name that is new hangs where they end. From the fields of a cell.
use mathlib.Core.Path.{◌≡◌, refl, sym, ap, ◌∙◌, subst}
use mathlib.Core.List.Memᴰ.{head}
use mathlib.Core.List.Memᴰ.{tail}
use mathlib.Core.List.{List, [], ◌∷◌, ◌++◌, Memᴰ as In}
use mathlib.Core.Bool.{Bool, true, false, cond, not}
use mathlib.Core.Option.{Option, none, some}
use mathlib.Core.Logic.{◌⊎◌, inl, inr, ⊎_elim}
use Prim.Native.Nat.{ℕ, zero, suc, ◌+◌, ◌*◌, ◌/◌, ◌%◌, ◌<◌}
use native.Mathlib.Omega.{arith}
use native.Mathlib.Decide.{dec_lt, ℕ_discrete}
use borrow.Author.Tests.{eqb-true, eqb-false}
use lib.Dec.{eqb}
use Rattle.std.specs.Prelude.{None, Some}
use Rattle.std.specs.Bool.{then_some}
use Rattle.token.specs.Questions.{Found}
use lib.ListN.{length, get_or, set, get_elem?, length-append, length-set, get_or-append}
use lib.Seq.{get_or-set_same, get_or-set_other, get_or_at}
use Rattle.tree.specs.Node.{field, cell, token_of, left_of, third_of}
use Rattle.tree.proofs.Cells.{token-of, left-of, third_of_lem}
use Rattle.model.specs.Words.{same}
use Rattle.model.specs.Given.{place_in}
use Rattle.model.proofs.Members.{never, not-both, got-below}
use Rattle.model.proofs.Repeats.{same_bytes_lem, bytes_same}
use Rattle.model.proofs.Meanings.{Placed, found, absent, placed}
use Rattle.names.specs.Lists.{packed}
use Rattle.settle.specs.Kids.{hash_of, word_size, top_bit, bits_of, kid_of, kid_found, with_kid, alone, hung_below, Way, here, down, Hung}
use Rattle.settle.specs.Places.{place_or, heard_after, Heard, Sought}

-- ---- places in a list

got-at : {j : ℕ} (xs : List ℕ) (q : ℕ) → get_elem? xs q ≡ some j → get_or xs q 0 ≡ j
got-at [] q e = never e
got-at (x ∷ xs) zero e = cc
got-at (x ∷ xs) (suc q) e = got-at xs q e

at_in : (xs : List ℕ) (i : ℕ) → i < length xs → In (get_or xs i 0) xs
at_in [] i l = absurd (omega arith)
at_in (x ∷ xs) zero l = head refl
at_in (x ∷ xs) (suc i) l = tail (at_in xs i (omega arith))

-- ---- the bits of a name

-- two words, one bit on
word_on : (a b : ℕ) → (a + word_size * b) / 2 ≡ a / 2 + top_bit * (b % 2) + word_size * (b / 2)
word_on a b = omega arith

low_bit : (a b : ℕ) → (a + word_size * b) % 2 ≡ a % 2
low_bit a b = omega arith

pub word_fits : (a b : ℕ) → a < word_size → a / 2 + top_bit * (b % 2) < word_size
word_fits a b l = omega arith

-- and three
bits-on : (a b c : ℕ) → (a + word_size * (b + word_size * c)) / 2 ≡ a / 2 + top_bit * (b % 2) + word_size * (b / 2 + top_bit * (c % 2) + word_size * (c / 2))
bits-on a b c = word_on a (b + word_size * c) ∙ rw (low_bit b c, word_on b c)

bits-same : (low high : List ℕ) (j k : ℕ) → packed low high j ≡ packed low high k → bits_of low high j ≡ bits_of low high k
unfolding packed bits_of
bits-same low high j k e =
    let a : get_or low j 0 ≡ get_or low k 0 = cc in
    let b : get_or high j 0 ≡ get_or high k 0 = cc in
    rw (a, b)

-- ---- ways

further : {t : List ℕ} {x i y j : ℕ} → Way t x i y j → 0 < kid_of (get_or t j 0) (y % 2) → Way t x i (y / 2) (kid_of (get_or t j 0) (y % 2))
further here l = down l here
further (down a w) l = down a (further w l)

onward : {t : List ℕ} {x i y j : ℕ} → Way t x i y j → (j ≡ i → ⊥) → (0 < kid_of (get_or t i 0) (x % 2)) × ((z : ℕ) × Way t (x / 2) (kid_of (get_or t i 0) (x % 2)) z j)
onward here f = absurd (f refl)
onward {y = y} (down a w) f = (a, (y, w))

-- where the kids stay, ways stay
way-kept : {t t' : List ℕ} (n : ℕ) → ((i b : ℕ) → i < n → 0 < kid_of (get_or t i 0) b → kid_of (get_or t' i 0) b ≡ kid_of (get_or t i 0) b) → ((i b : ℕ) → i < n → kid_of (get_or t i 0) b < n)
    → {x i y j : ℕ} → i < n → Way t x i y j → Way t' x i y j
way-kept n f g l here = here
way-kept n f g {x} {i} {y} {j} l (down a w) = let e = f i (x % 2) l a in down {x = x} {i = i} {y = y} {j = j} (rw e a) (rw e (way-kept n f g (g i (x % 2) l) w))

-- ---- a search

-- the search for the name k stands at node i, with the bits x left; where k was met, they lead to it
pub record Seeking (low high t seen : List ℕ) (k x i : ℕ) : Type 0 where
  pub inside : i < length seen
  pub came : Way t (bits_of low high k) 0 x i
  pub goes : (j : ℕ) → j < length seen → packed low high k ≡ packed low high (get_or seen j 0) → (y : ℕ) × Way t x i y j

module _ {low high t seen : List ℕ} (h : Hung low high t seen) (k : ℕ) where
  abbrev v : ℕ → List ℕ
  v = packed low high

  pub begins : 0 < length seen → Seeking low high t seen k (bits_of low high k) 0
  begins l =
      record {
        inside = l;
        came = here;
        goes = λ j m e. let w = h.ways j m in (w.0, rw (bits-same low high k (get_or seen j 0) e) w.1);
      }

  module _ {x i : ℕ} (s : Seeking low high t seen k x i) where
    name-at : token_of (get_or t i 0) ≡ get_or seen i 0
    name-at = h.names i s.inside

    pub found_here : same v k (token_of (get_or t i 0)) ≡ true → place_in v k 0 seen ≡ some i
    found_here e = by (place_in v k 0 seen) (placed v k 0 seen)
      where
        is : v k ≡ v (get_or seen i 0)
        is = same_bytes_lem v k (get_or seen i 0) (rw name-at at e)

        by : (o : Option ℕ) → Placed v k seen 0 o → o ≡ some i
        by o (found q g f) =
            let d : q ≡ i = h.differ q i (got-below seen q g) s.inside (ap v (got-at seen q g) ∙ sym f ∙ is) in
            ap (λ (n : ℕ). some n) (omega arith)
        by o (absent f) = absurd (f (get_or seen i 0) (at_in seen i s.inside) is)

    module _ (no : same v k (token_of (get_or t i 0)) ≡ false) where
      another : (j : ℕ) → v k ≡ v (get_or seen j 0) → j ≡ i → ⊥
      another j e q = not-both (bytes_same v k (get_or seen i 0) (e ∙ ap (λ (a : ℕ). v (get_or seen a 0)) q)) (rw name-at at no)

      pub goes_on : 0 < kid_of (get_or t i 0) (x % 2) → Seeking low high t seen k (x / 2) (kid_of (get_or t i 0) (x % 2))
      goes_on l =
          record {
            inside = h.inside i (x % 2) s.inside;
            came = further s.came l;
            goes = λ j m e. (onward (s.goes j m e).1 (another j e)).1;
          }

      pub never_met : kid_of (get_or t i 0) (x % 2) ≡ 0 → (j : ℕ) → j < length seen → v k ≡ v (get_or seen j 0) → ⊥
      never_met z j m e = let o = (onward (s.goes j m e).1 (another j e)).0 in omega arith

not-placed : (v : ℕ → List ℕ) (k : ℕ) (seen : List ℕ) → ((j : ℕ) → j < length seen → v k ≡ v (get_or seen j 0) → ⊥) → place_in v k 0 seen ≡ none
not-placed v k seen f = by (place_in v k 0 seen) (placed v k 0 seen)
  where
    by : (o : Option ℕ) → Placed v k seen 0 o → o ≡ none
    by o (found q g e) = absurd (f q (got-below seen q g) (e ∙ ap v (sym (got-at seen q g))))
    by o (absent g) = refl

-- ---- nodes with a kid more

-- the cases of `kid_of`
pub kid-first : (c b : ℕ) → b ≡ 0 → left_of c ≡ kid_of c b
unfolding kid_of
kid-first c b e = rw e

pub kid-second : (c b : ℕ) → (b ≡ 0 → ⊥) → third_of c ≡ kid_of c b
unfolding kid_of
kid-second c zero e = absurd (e refl)
kid-second c (suc b) e = refl

pub kid-found : (c b kid : ℕ) → kid ≡ kid_of c b → then_some (not (eqb kid 0)) kid ≡ kid_found c b
unfolding kid_found
kid-found c b kid e = rw e (by (eqb (kid_of c b) 0))
  where
    by : (x : Bool) → then_some (not x) (kid_of c b) ≡ cond x None (Some (kid_of c b))
    by true = refl
    by false = refl

-- a kid that is there, and none
pub kid-some : (c b : ℕ) {m : ℕ} {f : Found} → f ≡ kid_found c b → f ≡ Some m → (m ≡ kid_of c b) × (m ≡ 0 → ⊥)
unfolding kid_found
kid-some c b {m} {f} e q = by (eqb (kid_of c b) 0) refl (sym e ∙ q)
  where
    by : (x : Bool) → eqb (kid_of c b) 0 ≡ x → ◌≡◌ {A = Found} (cond x None (Some (kid_of c b))) (Some m) → (m ≡ kid_of c b) × (m ≡ 0 → ⊥)
    by true z y = cc
    by false z y = let g : kid_of c b ≡ m = cc in (sym g, λ o. eqb-false (kid_of c b) 0 z (g ∙ o))

pub kid-none : (c b : ℕ) {f : Found} → f ≡ kid_found c b → f ≡ None → kid_of c b ≡ 0
unfolding kid_found
kid-none c b {f} e q = by (eqb (kid_of c b) 0) refl (sym e ∙ q)
  where
    by : (x : Bool) → eqb (kid_of c b) 0 ≡ x → ◌≡◌ {A = Found} (cond x None (Some (kid_of c b))) None → kid_of c b ≡ 0
    by true z y = eqb-true (kid_of c b) 0 z
    by false z y = cc

pos_of : {m c : ℕ} → m ≡ c → (m ≡ 0 → ⊥) → 0 < c
pos_of e o = omega (arith, e, o)

-- the cases of `hang`
module _ (t : List ℕ) (i b n k : ℕ) {t₁ t₂ : List ℕ} {name : ℕ} (new : t₁ ≡ set t n (alone k)) (name-is : name ≡ token_of (get_or t i 0)) where
  pub hang-first : {other : ℕ} → b ≡ 0 → other ≡ third_of (get_or t i 0) → t₂ ≡ set t₁ i (cell 0 name n other) → t₂ ≡ hung_below t i b n k
  unfolding hung_below with_kid
  hang-first z e w = rw (w, new, name-is, e, z)

  pub hang-second : {other : ℕ} → (b ≡ 0 → ⊥) → other ≡ left_of (get_or t i 0) → t₂ ≡ set t₁ i (cell 0 name other n) → t₂ ≡ hung_below t i b n k
  unfolding hung_below with_kid
  hang-second z e w = rw (w, new, name-is, e) (ap (set (set t n (alone k)) i) (by b z))
    where
      by : (b : ℕ) → (b ≡ 0 → ⊥) → cell 0 (token_of (get_or t i 0)) (left_of (get_or t i 0)) n ≡ with_kid (get_or t i 0) b n
      by zero z = absurd (z refl)
      by (suc b) z = refl

pub hung-size : (t : List ℕ) (i b n k : ℕ) → length (hung_below t i b n k) ≡ length t
unfolding hung_below
hung-size t i b n k = length-set (set t n (alone k)) i (with_kid (get_or t i 0) b n) ∙ length-set t n (alone k)

pub fields_fit : (c : ℕ) → (token_of c < field) × (left_of c < field) × (third_of c < field)
unfolding token_of left_of third_of
fields_fit c = (omega arith, omega arith, omega arith)

module _ (k : ℕ) (small : k < field) where
  alone-token : token_of (alone k) ≡ k
  alone-token = token-of (omega arith) small (omega arith) (omega arith)

  alone-kid : (b : ℕ) → kid_of (alone k) b ≡ 0
  unfolding kid_of
  alone-kid zero = left-of (omega arith) small (omega arith) (omega arith)
  alone-kid (suc b) = third_of_lem (omega arith) small (omega arith) (omega arith)

module _ (c m : ℕ) (small : m < field) where
  abbrev fits : (token_of c < field) × (left_of c < field) × (third_of c < field)
  fits = fields_fit c

  token-kept : (b : ℕ) → token_of (with_kid c b m) ≡ token_of c
  unfolding with_kid
  token-kept zero = token-of (omega arith) fits.0 small fits.2
  token-kept (suc b) = token-of (omega arith) fits.0 fits.1 small

  kid-put : (b : ℕ) → kid_of (with_kid c b m) b ≡ m
  unfolding with_kid kid_of
  kid-put zero = left-of (omega arith) fits.0 small fits.2
  kid-put (suc b) = third_of_lem (omega arith) fits.0 fits.1 small

  kid-either : (b a : ℕ) → (kid_of (with_kid c b m) a ≡ m) ⊎ (kid_of (with_kid c b m) a ≡ kid_of c a)
  unfolding with_kid kid_of
  kid-either zero zero = inl (left-of (omega arith) fits.0 small fits.2)
  kid-either zero (suc a) = inr (third_of_lem (omega arith) fits.0 small fits.2)
  kid-either (suc b) zero = inr (left-of (omega arith) fits.0 fits.1 small)
  kid-either (suc b) (suc a) = inl (third_of_lem (omega arith) fits.0 fits.1 small)

  kid-apart : (b a : ℕ) → b < 2 → a < 2 → (a ≡ b → ⊥) → kid_of (with_kid c b m) a ≡ kid_of c a
  unfolding with_kid kid_of
  kid-apart zero zero l u e = absurd (e refl)
  kid-apart zero (suc a) l u e = third_of_lem (omega arith) fits.0 small fits.2
  kid-apart (suc b) zero l u e = left-of (omega arith) fits.0 fits.1 small
  kid-apart (suc b) (suc a) l u e = absurd (e (omega arith))

  kid-where : (b a : ℕ) → b < 2 → a < 2 → ((kid_of (with_kid c b m) a ≡ m) × (a ≡ b)) ⊎ (kid_of (with_kid c b m) a ≡ kid_of c a)
  kid-where b a l u = by (ℕ_discrete a b)
    where
      by : Dec (a ≡ b) → ((kid_of (with_kid c b m) a ≡ m) × (a ≡ b)) ⊎ (kid_of (with_kid c b m) a ≡ kid_of c a)
      by (yes e) = inl (ap (kid_of (with_kid c b m)) e ∙ kid-put b, e)
      by (no e) = inr (kid-apart b a l u e)

  kid-kept : (b a : ℕ) → kid_of c b ≡ 0 → 0 < kid_of c a → kid_of (with_kid c b m) a ≡ kid_of c a
  unfolding with_kid kid_of
  kid-kept zero zero e l = absurd (omega arith)
  kid-kept zero (suc a) e l = third_of_lem (omega arith) fits.0 small fits.2
  kid-kept (suc b) zero e l = left-of (omega arith) fits.0 fits.1 small
  kid-kept (suc b) (suc a) e l = absurd (omega arith)

-- ---- a name is hung

module _ {low high t seen : List ℕ} {n k x i : ℕ} (g : Heard low high t n k seen) (s : Seeking low high t seen k x i) (free : kid_of (get_or t i 0) (x % 2) ≡ 0) where
  abbrev t' : List ℕ
  t' = hung_below t i (x % 2) n k

  at-parent : get_or t' i 0 ≡ with_kid (get_or t i 0) (x % 2) n
  unfolding hung_below
  at-parent = get_or-set_same (set t n (alone k)) i (with_kid (get_or t i 0) (x % 2) n) 0 (omega (arith, length-set t n (alone k), s.inside, g.count, g.room))

  at_new : get_or t' n 0 ≡ alone k
  unfolding hung_below
  at_new = get_or-set_other (set t n (alone k)) i n (with_kid (get_or t i 0) (x % 2) n) 0 (λ e. omega (arith, e, s.inside, g.count)) ∙ get_or-set_same t n (alone k) 0 g.room

  at_other : (j : ℕ) → j < n → (j ≡ i → ⊥) → get_or t' j 0 ≡ get_or t j 0
  unfolding hung_below
  at_other j l o = get_or-set_other (set t n (alone k)) i j (with_kid (get_or t i 0) (x % 2) n) 0 o ∙ get_or-set_other t n j (alone k) 0 (λ e. omega (arith, e))

  -- what holds of the parent and of every other node holds of the nodes before n
  either_way : (P : ℕ → ℕ → Type 0) → P (with_kid (get_or t i 0) (x % 2) n) (get_or t i 0) → ((c : ℕ) → P c c) → (j : ℕ) → j < n → P (get_or t' j 0) (get_or t j 0)
  either_way P a b j l = by (ℕ_discrete j i)
    where
      by : Dec (j ≡ i) → P (get_or t' j 0) (get_or t j 0)
      by (yes e) = rw (e, at-parent) a
      by (no e) = rw (at_other j l e) (b (get_or t j 0))

  token-same : (j : ℕ) → j < n → token_of (get_or t' j 0) ≡ token_of (get_or t j 0)
  token-same = either_way (λ c d. token_of c ≡ token_of d) (token-kept (get_or t i 0) n g.few (x % 2)) (λ c. refl)

  kid-same : (b j : ℕ) → j < n → 0 < kid_of (get_or t j 0) b → kid_of (get_or t' j 0) b ≡ kid_of (get_or t j 0) b
  kid-same b = either_way (λ c d. 0 < kid_of d b → kid_of c b ≡ kid_of d b) (kid-kept (get_or t i 0) n g.few (x % 2) b free) (λ c l. refl)

  kid-or : (b j : ℕ) → j < n → (kid_of (get_or t' j 0) b ≡ n) ⊎ (kid_of (get_or t' j 0) b ≡ kid_of (get_or t j 0) b)
  kid-or b = either_way (λ c d. (kid_of c b ≡ n) ⊎ (kid_of c b ≡ kid_of d b)) (kid-either (get_or t i 0) n g.few (x % 2) b) (λ c. inr refl)

  ways-kept : {a b y j : ℕ} → b < n → Way t a b y j → Way t' a b y j
  ways-kept = way-kept n (λ j b. kid-same b j) (λ j b l. rw g.count (g.hung.inside j b (rw g.count at l)))

  abbrev seen' : List ℕ
  seen' = seen ++ k ∷ []

  before : (j : ℕ) → j < n → get_or seen' j 0 ≡ get_or seen j 0
  before j l = get_or-append seen (k ∷ []) 0 j (omega (arith, g.count))

  last : get_or seen' n 0 ≡ k
  last = get_or_at seen k [] 0 n (sym g.count)

  -- what holds of the names before and of the new one holds of all
  of-all : (P : ℕ → Type 0) → ((j : ℕ) → j < n → P j) → P n → (j : ℕ) → j < length seen' → P j
  of-all P a b j l = by (dec_lt j n)
    where
      by : Dec (j < n) → P j
      by (yes e) = a j e
      by (no e) = let q : n ≡ j = omega (arith, g.count, length-append seen (k ∷ [])) in subst P q b

  -- a node's number is that of a name
  numbered : (j : ℕ) → j < n → j < length seen
  numbered j l = omega (arith, g.count)

  kids-after : (b j : ℕ) → j < n → 0 < kid_of (get_or t' j 0) b → j < kid_of (get_or t' j 0) b
  kids-after b j l p = ⊎_elim (λ (e : kid_of (get_or t' j 0) b ≡ n). omega arith) (λ (e : kid_of (get_or t' j 0) b ≡ kid_of (get_or t j 0) b). rw e (g.hung.after j b (numbered j l) (rw e at p))) (kid-or b j l)

  kids-inside : (b j : ℕ) → j < n → kid_of (get_or t' j 0) b < length seen'
  kids-inside b j l =
      let c = length-append seen (k ∷ []) in
      ⊎_elim (λ (e : kid_of (get_or t' j 0) b ≡ n). omega (arith, g.count)) (λ (e : kid_of (get_or t' j 0) b ≡ kid_of (get_or t j 0) b). omega (arith, g.hung.inside j b (numbered j l))) (kid-or b j l)

  -- a kid is the new one, below its parent, or stands where it stood
  grown : (b j : ℕ) → b < 2 → j < n → ((kid_of (get_or t' j 0) b ≡ n) × (j ≡ i) × (b ≡ x % 2)) ⊎ (kid_of (get_or t' j 0) b ≡ kid_of (get_or t j 0) b)
  grown b j u l = by (ℕ_discrete j i)
    where
      new : ((kid_of (with_kid (get_or t i 0) (x % 2) n) b ≡ n) × (b ≡ x % 2)) ⊎ (kid_of (with_kid (get_or t i 0) (x % 2) n) b ≡ kid_of (get_or t i 0) b) → j ≡ i → ((kid_of (get_or t' j 0) b ≡ n) × (j ≡ i) × (b ≡ x % 2)) ⊎ (kid_of (get_or t' j 0) b ≡ kid_of (get_or t j 0) b)
      new (inl p) e = inl (ap (λ (a : ℕ). kid_of (get_or t' a 0) b) e ∙ ap (λ (c : ℕ). kid_of c b) at-parent ∙ p.0, e, p.1)
      new (inr p) e = inr (ap (λ (a : ℕ). kid_of (get_or t' a 0) b) e ∙ ap (λ (c : ℕ). kid_of c b) at-parent ∙ p ∙ ap (λ (a : ℕ). kid_of (get_or t a 0) b) (sym e))

      by : Dec (j ≡ i) → ((kid_of (get_or t' j 0) b ≡ n) × (j ≡ i) × (b ≡ x % 2)) ⊎ (kid_of (get_or t' j 0) b ≡ kid_of (get_or t j 0) b)
      by (yes e) = new (kid-where (get_or t i 0) n g.few (x % 2) b (omega arith) u) e
      by (no e) = inr (ap (λ (c : ℕ). kid_of c b) (at_other j l e))

  one_parent : (a j b c : ℕ) → a < n → j < n → b < 2 → c < 2 → 0 < kid_of (get_or t' a 0) b → kid_of (get_or t' a 0) b ≡ kid_of (get_or t' j 0) c → (a ≡ j) × (b ≡ c)
  one_parent a j b c l m u w p e = by (grown b a u l) (grown c j w m)
    where
      by : ((kid_of (get_or t' a 0) b ≡ n) × (a ≡ i) × (b ≡ x % 2)) ⊎ (kid_of (get_or t' a 0) b ≡ kid_of (get_or t a 0) b) → ((kid_of (get_or t' j 0) c ≡ n) × (j ≡ i) × (c ≡ x % 2)) ⊎ (kid_of (get_or t' j 0) c ≡ kid_of (get_or t j 0) c) → (a ≡ j) × (b ≡ c)
      by (inl y) (inl z) = (y.1 ∙ sym z.1, y.2 ∙ sym z.2)
      by (inl y) (inr z) = let o = g.hung.inside j c (numbered j m) in absurd (omega (arith, y.0, g.count))
      by (inr y) (inl z) = let o = g.hung.inside a b (numbered a l) in absurd (omega (arith, z.0, g.count))
      by (inr y) (inr z) = g.hung.parents a j b c (numbered a l) (numbered j m) u w (omega arith) (sym y ∙ e ∙ z)

  no_kids : (b : ℕ) → kid_of (get_or t' n 0) b ≡ 0
  no_kids b = rw at_new (alone-kid k g.small b)

  way-new : Way t' (bits_of low high k) 0 (x / 2) n
  way-new =
      let p : kid_of (get_or t' i 0) (x % 2) ≡ n = ap (λ (c : ℕ). kid_of c (x % 2)) at-parent ∙ kid-put (get_or t i 0) n g.few (x % 2) in
      let c = s.inside in
      subst (λ (m : ℕ). Way t' (bits_of low high k) 0 (x / 2) m) p (further (ways-kept (omega (arith, g.count)) s.came) (omega (arith, g.count)))

  pub hung-new : ((j : ℕ) → j < length seen → packed low high k ≡ packed low high (get_or seen j 0) → ⊥) → Hung low high t' seen'
  hung-new new =
      let c = length-append seen (k ∷ []) in
      record {
        names = of-all (λ j. token_of (get_or t' j 0) ≡ get_or seen' j 0) (λ j l. token-same j l ∙ g.hung.names j (numbered j l) ∙ sym (before j l)) (ap token_of at_new ∙ alone-token k g.small ∙ sym last);
        differ = λ a b l m.
            of-all (λ a. (b : ℕ) → b < length seen' → packed low high (get_or seen' a 0) ≡ packed low high (get_or seen' b 0) → a ≡ b)
            (λ a l. of-all (λ b. packed low high (get_or seen' a 0) ≡ packed low high (get_or seen' b 0) → a ≡ b)
            (λ b m e. g.hung.differ a b (numbered a l) (numbered b m) (rw (before a l, before b m) at e)) (λ e. absurd (new a (numbered a l) (sym (rw (before a l, last) at e)))))
            (of-all (λ b. packed low high (get_or seen' n 0) ≡ packed low high (get_or seen' b 0) → n ≡ b) (λ b m e. absurd (new b (numbered b m) (rw (last, before b m) at e))) (λ e. refl)) a l b m;
        after = λ j b. of-all (λ j. 0 < kid_of (get_or t' j 0) b → j < kid_of (get_or t' j 0) b) (kids-after b) (λ p. absurd (omega (arith, no_kids b))) j;
        inside = λ j b. of-all (λ j. kid_of (get_or t' j 0) b < length seen') (kids-inside b) (omega (arith, no_kids b)) j;
        parents = λ a j b c l m.
            of-all (λ a. (j : ℕ) → j < length seen' → b < 2 → c < 2 → 0 < kid_of (get_or t' a 0) b → kid_of (get_or t' a 0) b ≡ kid_of (get_or t' j 0) c → (a ≡ j) × (b ≡ c))
            (λ a l. of-all (λ j. b < 2 → c < 2 → 0 < kid_of (get_or t' a 0) b → kid_of (get_or t' a 0) b ≡ kid_of (get_or t' j 0) c → (a ≡ j) × (b ≡ c)) (λ j m. one_parent a j b c l m) (λ u w p e. absurd (omega (arith, no_kids c))))
            (λ j m u w p e. absurd (omega (arith, no_kids b))) a l j m;
        ways =
            of-all (λ j. (y : ℕ) × Way t' (bits_of low high (get_or seen' j 0)) 0 y j)
            (λ j l. let w = g.hung.ways j (numbered j l) in (w.0, rw (before j l) (ways-kept (omega arith) w.1))) (x / 2, rw last way-new);
      }

-- ---- the cases of `channel_place`

pub none-hung : (low high t : List ℕ) → Hung low high t []
none-hung low high t =
    record {
      names = λ i l. absurd (omega arith);
      differ = λ i j l m e. absurd (omega arith);
      after = λ i b l p. absurd (omega arith);
      inside = λ i b l. absurd (omega arith);
      parents = λ i j b c l m u w p e. absurd (omega arith);
      ways = λ i l. absurd (omega arith);
    }

one-hung : (low high t : List ℕ) (k : ℕ) → 0 < length t → k < field → Hung low high (set t 0 (alone k)) (k ∷ [])
one-hung low high t k room small =
    let e : get_or (set t 0 (alone k)) 0 0 ≡ alone k = get_or-set_same t 0 (alone k) 0 room in
    let kid : (i b : ℕ) → i < 1 → kid_of (get_or (set t 0 (alone k)) i 0) b ≡ 0 = λ i b l. let z : i ≡ 0 = omega arith in rw (z, e) (alone-kid k small b) in
    record {
      names = λ i l. let z : i ≡ 0 = omega arith in rw (z, e) (alone-token k small);
      differ = λ i j l m q. omega arith;
      after = λ i b l p. absurd (omega (arith, kid i b l));
      inside = λ i b l. omega (arith, kid i b l);
      parents = λ i j b c l m u w p e. absurd (omega (arith, kid i b l));
      ways = λ i l. let z : i ≡ 0 = omega arith in rw z (bits_of low high k, here);
    }

pub sought-first : {low high t seen : List ℕ} {n k : ℕ} → Heard low high t n k seen → n ≡ 0 → Sought low high t n k seen (set t 0 (alone k)) 1 0
unfolding place_in place_or heard_after
sought-first {low} {high} {t} {seen} {n} {k} g z = by seen g
  where
    by : (seen : List ℕ) → Heard low high t n k seen → Sought low high t n k seen (set t 0 (alone k)) 1 0
    by [] g = record { place_is = sym z; count = refl; hung = one-hung low high t k (omega (arith, g.room)) g.small; size = length-set t 0 (alone k) }
    by (x ∷ seen) g = absurd (omega (arith, g.count))

module _ {low high t seen : List ℕ} {n k x i : ℕ} (g : Heard low high t n k seen) (s : Seeking low high t seen k x i) where
  pub sought-here : same (packed low high) k (token_of (get_or t i 0)) ≡ true → Sought low high t n k seen t n i
  unfolding place_or heard_after
  sought-here e = let p = found_here g.hung k s e in record { place_is = rw p; count = rw p g.count; hung = rw p g.hung; size = refl }

  pub sought-new : same (packed low high) k (token_of (get_or t i 0)) ≡ false → kid_of (get_or t i 0) (x % 2) ≡ 0 → Sought low high t n k seen (hung_below t i (x % 2) n k) (n + 1) n
  unfolding place_or heard_after
  sought-new e z =
      let f = never_met g.hung k s e z in
      let p = not-placed (packed low high) k seen f in
      record {
        place_is = rw p;
        count = rw p (omega (arith, g.count, length-append seen (k ∷ [])));
        hung = rw p (hung-new g s z f);
        size = hung-size t i (x % 2) n k;
      }

-- where the loop stands: the three words left are the bits left, and the table is as it was
pub record Searching (low high t₀ : List ℕ) (n k : ℕ) (t : List ℕ) (bits first second i : ℕ) : Type 0 where
  pub same-table : t ≡ t₀
  pub fits : (bits < word_size) × (first < word_size)
  pub seeking : (seen : List ℕ) → Heard low high t₀ n k seen → Seeking low high t₀ seen k (bits + word_size * (first + word_size * second)) i

pub search-begins : (low high t : List ℕ) (n k bits first second : ℕ) → (n ≡ 0 → ⊥) → first ≡ get_or low k 0 → second ≡ get_or high k 0 → bits ≡ hash_of first second → first < word_size → Searching low high t n k t bits first second 0
unfolding bits_of hash_of
search-begins low high t n k bits first second z f g e l =
    rw (e, f, g) (record { same-table = refl; fits = (omega arith, omega arith); seeking = λ seen x. begins x.hung k (omega (arith, x.count)) })

module _ {low high t₀ t : List ℕ} {n k bits first second i : ℕ} (p : (seen : List ℕ) × Heard low high t₀ n k seen) (x : Searching low high t₀ n k t bits first second i) where
  pub node-inside : (i < n) × (i < length t)
  node-inside =
      let s = x.seeking p.0 p.1 in
      rw x.same-table (omega (arith, s.inside, p.1.count), omega (arith, s.inside, p.1.count, p.1.room))

  pub name-inside : (c : ℕ) → c ≡ token_of (get_or t i 0) → (k < length low) × (c < length low) × (k < length high) × (c < length high)
  name-inside c e =
      let s = x.seeking p.0 p.1 in
      let q : c ≡ get_or p.0 i 0 = e ∙ ap (λ (l : List ℕ). token_of (get_or l i 0)) x.same-table ∙ p.1.hung.names i s.inside in
      rw q (p.1.name-low, p.1.each-low i (omega (arith, s.inside, p.1.count)), p.1.name-high, p.1.each-high i (omega (arith, s.inside, p.1.count)))

  module _ (c : ℕ) (e : c ≡ token_of (get_or t i 0)) (b : Bool) (f : b ≡ same (packed low high) k c) where
    same-as : b ≡ same (packed low high) k (token_of (get_or t₀ i 0))
    same-as = f ∙ ap (same (packed low high) k) (e ∙ ap (λ (l : List ℕ). token_of (get_or l i 0)) x.same-table)

    pub case-found : b ≡ true → (seen : List ℕ) → Heard low high t₀ n k seen → Sought low high t₀ n k seen t n i
    case-found q seen g = rw x.same-table (sought-here g (x.seeking seen g) (sym same-as ∙ q))

    module _ (q : b ≡ false) {r : Found} (found : r ≡ kid_found (get_or t i 0) (bits % 2)) where
      kid-as : {m : ℕ} → m ≡ kid_of (get_or t i 0) (bits % 2) → m ≡ kid_of (get_or t₀ i 0) ((bits + word_size * (first + word_size * second)) % 2)
      kid-as z = rw (low_bit bits (first + word_size * second), ← x.same-table) z

      pub case-new : r ≡ None → (t' : List ℕ) → t' ≡ hung_below t i (bits % 2) n k → (seen : List ℕ) → Heard low high t₀ n k seen → Sought low high t₀ n k seen t' (n + 1) n
      case-new o t' w seen g =
          let r = sought-new g (x.seeking seen g) (sym same-as ∙ q) (sym (kid-as refl) ∙ kid-none _ _ found o) in
          rw (w, x.same-table) (rw (low_bit bits (first + word_size * second)) at r)

      pub case-on : {m : ℕ} → r ≡ Some m → Searching low high t₀ n k t (bits / 2 + top_bit * (first % 2)) (first / 2 + top_bit * (second % 2)) (second / 2) m
      case-on o =
          let s = kid-some _ _ found o in
          let e = kid-as s.0 in
          record {
            same-table = x.same-table;
            fits = (word_fits bits first x.fits.0, word_fits first second x.fits.1);
            seeking = λ seen g.
                let r = goes_on g.hung k (x.seeking seen g) (sym same-as ∙ q) (pos_of e s.1) in
                rw (e, ← bits-on bits first second) r;
          }

      pub case-less : {m : ℕ} → r ≡ Some m → i < m
      case-less o =
          let k = kid-some _ _ found o in
          let e = kid-as k.0 in
          let s = x.seeking p.0 p.1 in
          rw e (p.1.hung.after i ((bits + word_size * (first + word_size * second)) % 2) s.inside (pos_of e k.1))
