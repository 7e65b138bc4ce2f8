-- Questions 7, 8 and 9 of names that are bound: what each return, and each turn of the loop, needs. From the laws of look-ups and of scopes.
use mathlib.Core.Path.{◌≡◌, refl, sym, ap, ◌∙◌, subst}
use mathlib.Core.List.{List, [], ◌∷◌, ◌++◌, append-nil, append_assoc}
use mathlib.Core.Bool.{Bool, true, false, ◌||◌}
use Prim.Native.Nat.{ℕ, zero, suc, ◌+◌, ◌-◌, ◌*◌, ◌≤◌, ◌<◌}
use native.Mathlib.Omega.{arith}
use borrow.Author.Tests.{eq-eqb, ne_eqb}
use lib.ListN.{length, get_or, take, drop}
use Rattle.std.specs.Prelude.{None, Some, is_some}
use Rattle.std.specs.Bool.{then_some}
use Rattle.token.specs.Questions.{Found}
use Rattle.tree.specs.Node.{field}
use Rattle.model.specs.Lists.{any, when, earlier, least, every_other}
use Rattle.model.specs.Sites.{bound, variables, names}
use Rattle.model.specs.Words.{same}
use Rattle.model.specs.Limits.{local_limit, site_beyond}
use Rattle.model.specs.Fresh.{repeated, site_repeated}
use Rattle.model.specs.Given.{place_in, site_wrong}
use Rattle.names.specs.declared.Question.{Question}
use Rattle.names.specs.declared.Question.TheVariants.{Limits, Fresh, Given}
use Rattle.names.specs.declared.Lists.{Lists}
use Rattle.names.specs.declared.scope.Scope.{Scope}
use Rattle.names.specs.Faults.{earlier_of, asks_names, site_faults}
use Rattle.names.specs.Lists.{packed, found_of, is_found, names_down}
use Rattle.names.specs.Placed.{IsName, Named}
use Rattle.names.specs.Settings.{Extended, Setting, faults_at, known_in, Binding}
use Rattle.names.proofs.Earliest.{assoc, nothing_right, least-append, told}
use Rattle.names.proofs.Lookups.{found-some}
use Rattle.names.proofs.Namings.{any-placed}
use Rattle.names.proofs.Settled.{all-variables, place-locals}
use Rattle.names.proofs.Scopes.{every-length, every_more, every-next, named-every, every-inside, setting-more}

asks : asks_names Fresh ≡ true
unfolding asks_names
asks = refl

any_append : (p : ℕ → Bool) (xs ys : List ℕ) → any p (xs ++ ys) ≡ (any p xs || any p ys)
unfolding any
any_append p [] ys = refl
any_append p (x ∷ xs) ys = by (p x) (any_append p xs ys)
  where
    by : (b : Bool) → any p (xs ++ ys) ≡ (any p xs || any p ys) → (b || any p (xs ++ ys)) ≡ ((b || any p xs) || any p ys)
    by true h = refl
    by false h = h

-- ---- the cases of `taken_fault`
module _ {low high nodes : List ℕ} {lists : Lists} {scope : Scope} (h : Setting Fresh low high nodes lists scope) (k : ℕ) (e : IsName h.world.kinds k) where
  abbrev w : ℕ → List ℕ
  w = h.world.word

  module _ {f : Found} (is : f ≡ found_of (place_in (packed low high) k 0 (names_down nodes lists.root lists.variables))) where
    among-variables : any (same w k) (names (variables h.world.model)) ≡ is_found f
    among-variables =
        any-placed w k 0 (names (variables h.world.model)) ∙ ap is_found (ap found_of (sym (all-variables h.world asks k e)) ∙ sym is)

    module _ {g : Found} (js : g ≡ found_of (place_in (packed low high) k 0 (take scope.count scope.names))) where
      among-locals : any (same w k) h.locals ≡ is_found g
      among-locals = any-placed w k 0 h.locals ∙ ap is_found (ap found_of (sym (place-locals h asks k e)) ∙ sym js)

      pub taken : (b : Bool) → b ≡ (is_some f || is_some g) → then_some b k ≡ least (when (any (same w k) (known_in h)) k)
      unfolding known_in
      taken b q = told b k ∙ rw (q, any_append (same w k) (names (variables h.world.model)) h.locals, among-variables, among-locals, found-some f, found-some g)

-- ---- the loop of `repeated_fault`
pub named-fewer : (ts : List ℕ) (k j n : ℕ) → j ≤ n → Named ts (every_other k n) → Named ts (every_other k j)
unfolding every_other
named-fewer ts k zero n l h = tt
named-fewer ts k (suc j) zero l h = absurd (omega arith)
named-fewer ts k (suc j) (suc n) l h = (h.0, named-fewer ts (k + 2) j n (omega arith) h.1)

module _ (low high nodes : List ℕ) (lists : Lists) (scope : Scope) (first n : ℕ) where
  -- what was found and what is still to be judged give the answer for all the names
  abbrev pub Onward : Found → ℕ → Type 0
  Onward found j = (h : Setting Fresh low high nodes lists scope) → Named h.world.kinds (every_other first n) → earlier_of found (least (repeated h.world.word (known_in h ++ every_other first j) (every_other (first + 2 * j) (n - j)))) ≡ least (repeated h.world.word (known_in h) (every_other first n))

  pub repeated-none : Onward None 0
  unfolding earlier_of every_other
  repeated-none h m =
      let e : first + 2 * 0 ≡ first = omega arith in
      let f : n - 0 ≡ n = omega arith in
      rw (e, f, append-nil (known_in h))

  module _ {seen : Scope} {j : ℕ} (l : j < n) (more : Extended scope (every_other first j) seen) (room : scope.count + n ≤ local_limit) where
    -- the scope with the names before
    pub seen-setting : (h : Setting Fresh low high nodes lists scope) → Named h.world.kinds (every_other first n) → (s : Setting Fresh low high nodes lists seen) × IsName s.world.kinds (first + 2 * j)
    unfolding setting-more
    seen-setting h m =
        (setting-more h more (named-fewer h.world.kinds first j n (omega arith) m) (λ a. omega (arith, every-length first j)), named-every h.world.kinds first n m j l)

    known-seen : (h : Setting Fresh low high nodes lists scope) (m : Named h.world.kinds (every_other first n)) → known_in (seen-setting h m).0 ≡ known_in h ++ every_other first j
    unfolding known_in seen-setting setting-more
    known-seen h m = sym (append_assoc (names (variables h.world.model)) h.locals (every_other first j))

    -- one name on
    one_more : (v : ℕ → List ℕ) (known : List ℕ) (found r g : Found) → r ≡ least (when (any (same v (first + 2 * j)) (known ++ every_other first j)) (first + 2 * j)) → g ≡ earlier_of found r → earlier_of g (least (repeated v (known ++ every_other first (j + 1)) (every_other (first + 2 * (j + 1)) (n - (j + 1))))) ≡ earlier_of found (least (repeated v (known ++ every_other first j) (every_other (first + 2 * j) (n - j))))
    unfolding repeated
    one_more v known found r g e q =
        let k = first + 2 * j in
        let rest = every_other (first + 2 * (j + 1)) (n - (j + 1)) in
        let here = when (any (same v k) (known ++ every_other first j)) k in
        let d : known ++ every_other first (j + 1) ≡ (known ++ every_other first j) ++ (k ∷ []) = ap (λ (x : List ℕ). known ++ x) (every_more first j) ∙ sym (append_assoc known (every_other first j) (k ∷ [])) in
        rw (q, e, every-next first n j l, d)
        (assoc found (least here) (least (repeated v ((known ++ every_other first j) ++ (k ∷ [])) rest))
        ∙ ap (earlier_of found) (sym (least-append here (repeated v ((known ++ every_other first j) ++ (k ∷ [])) rest))))

    pub repeated-on : (found : Found) {r g : Found} → ((s : Setting Fresh low high nodes lists seen) → IsName s.world.kinds (first + 2 * j) → r ≡ least (when (any (same s.world.word (first + 2 * j)) (known_in s)) (first + 2 * j))) → g ≡ earlier_of found r → Onward found j → Onward g (j + 1)
    unfolding seen-setting setting-more
    repeated-on found {r} {g} f q o h m =
        let s = seen-setting h m in
        let e : r ≡ least (when (any (same h.world.word (first + 2 * j)) (known_in h ++ every_other first j)) (first + 2 * j)) = f s.0 s.1 ∙ ap (λ (x : List ℕ). least (when (any (same h.world.word (first + 2 * j)) x) (first + 2 * j))) (known-seen h m) in
        one_more h.world.word (known_in h) found r g e q ∙ o h m

  pub repeated-end : {found : Found} {j : ℕ} → n ≤ j → Onward found j → (h : Setting Fresh low high nodes lists scope) → Named h.world.kinds (every_other first n) → found ≡ least (repeated h.world.word (known_in h) (every_other first n))
  unfolding every_other repeated least
  repeated-end {found} {j} l o h m = let e : n - j ≡ 0 = omega arith in sym (nothing_right found) ∙ rw e at (o h m)

-- ---- the cases of `bound_fault`
module _ (low high nodes : List ℕ) (lists : Lists) (scope : Scope) (first n sets : ℕ) where
  abbrev BoundAnswer : Found → Question → Type 0
  BoundAnswer r q = (h : Binding q low high nodes lists scope first n) → r ≡ least (faults_at h.setting (bound (every_other first n) sets))

  in-limits : {r : Found} → r ≡ least (drop (local_limit - scope.count) (every_other first n)) → BoundAnswer r Limits
  unfolding faults_at site_faults site_beyond
  in-limits e h =
      let c : local_limit - scope.count ≡ local_limit - length h.setting.locals = omega (arith, h.setting.scoped.count) in
      rw c at e

  pub bound-limits : {q : Question} {r : Found} → q ≡ Limits → r ≡ least (drop (local_limit - scope.count) (every_other first n)) → BoundAnswer r q
  bound-limits {r = r} e f = subst (BoundAnswer r) (sym e) (in-limits f)

  in-fresh : {r : Found} → ((h : Setting Fresh low high nodes lists scope) → Named h.world.kinds (every_other first n) → r ≡ least (repeated h.world.word (known_in h) (every_other first n))) → BoundAnswer r Fresh
  unfolding faults_at site_faults site_repeated known_in
  in-fresh f h = f h.setting h.named

  pub bound-fresh : {q : Question} {r : Found} → q ≡ Fresh → ((h : Setting Fresh low high nodes lists scope) → Named h.world.kinds (every_other first n) → r ≡ least (repeated h.world.word (known_in h) (every_other first n))) → BoundAnswer r q
  bound-fresh {r = r} e f = subst (BoundAnswer r) (sym e) (in-fresh f)

  pub fresh-bound : {q : Question} → q ≡ Fresh → Binding q low high nodes lists scope first n → ((h : Setting Fresh low high nodes lists scope) × Named h.world.kinds (every_other first n)) × (scope.count + n ≤ local_limit)
  fresh-bound e h = let b = subst (λ (q : Question). Binding q low high nodes lists scope first n) e h in ((b.setting, b.named), b.room asks)

  pub bound-inside : {q : Question} → Binding q low high nodes lists scope first n → (scope.count ≤ local_limit) × (first + 2 * n ≤ field)
  bound-inside h =
      let w = h.setting.world in
      (omega (arith, h.setting.scoped.count), omega (arith, every-inside w.kinds first n h.named h.some, w.few))

  first-is : 0 < n → get_or (every_other first n) 0 0 ≡ first
  unfolding every_other
  first-is l = by n l
    where
      by : (m : ℕ) → 0 < m → get_or (every_other first m) 0 0 ≡ first
      by zero l = absurd (omega arith)
      by (suc m) l = refl

  even-given : n ≡ sets → BoundAnswer None Given
  unfolding faults_at site_faults site_wrong least when
  even-given e h = rw (every-length first n, eq-eqb n sets e)

  uneven-given : (n ≡ sets → ⊥) → BoundAnswer (Some (first - 1)) Given
  unfolding faults_at site_faults site_wrong least when earlier
  uneven-given e h = rw (every-length first n, ne_eqb n sets e, first-is h.some)

  pub bound-even : {q : Question} → q ≡ Given → n ≡ sets → BoundAnswer None q
  bound-even e f = subst (BoundAnswer None) (sym e) (even-given f)

  pub bound-uneven : {q : Question} → q ≡ Given → (n ≡ sets → ⊥) → BoundAnswer (Some (first - 1)) q
  bound-uneven e f = subst (BoundAnswer (Some (first - 1))) (sym e) (uneven-given f)
