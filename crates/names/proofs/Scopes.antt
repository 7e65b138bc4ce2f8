-- Scopes that grow, and names at every second token: what each turn of the loops over them needs. From laws of lists.
use mathlib.Core.Path.{◌≡◌, refl, sym, ap, ◌∙◌, subst}
use mathlib.Core.List.{List, [], ◌∷◌, ◌++◌, append-nil, append_assoc}
use mathlib.Core.Bool.{true}
use mathlib.Core.Logic.{◌⊎◌, inl, inr}
use Prim.Native.Nat.{ℕ, zero, suc, ◌+◌, ◌-◌, ◌*◌, ◌≤◌, ◌<◌}
use native.Mathlib.Numerals.{add-one}
use native.Mathlib.Omega.{arith}
use lib.ListN.{length, take, drop, set, length-append, length-set}
use lib.Seq.{take-suc-set}
use Rattle.std.specs.Prelude.{None, Some, leb}
use Rattle.std.specs.Bool.{then_some}
use Rattle.token.specs.Questions.{Found}
use Rattle.grammar.proofs.Follows.{inside}
use Rattle.model.specs.Lists.{every_other, least}
use Rattle.model.specs.Sites.{branch, Variable, Definition}
use Rattle.model.specs.Limits.{local_limit, branch_limit, site_beyond}
use Rattle.model.specs.Fresh.{site_repeated}
use Rattle.model.specs.Given.{site_wrong}
use Rattle.names.specs.declared.Question.{Question}
use Rattle.names.specs.declared.Question.TheVariants.{Limits, Fresh, Given}
use Rattle.names.specs.declared.Lists.{Lists}
use Rattle.names.specs.declared.scope.Scope.{Scope}
use Rattle.names.specs.Faults.{asks_names, site_faults}
use Rattle.names.specs.Placed.{IsName, Named}
use Rattle.names.specs.Settings.{Extended, Setting}
use Rattle.names.proofs.Earliest.{From, least-here, told}

-- ---- every second token
pub every-length : (k n : ℕ) → length (every_other k n) ≡ n
unfolding every_other
every-length k zero = refl
every-length k (suc n) = ap suc (every-length (k + 2) n)

pub every_more : (k n : ℕ) → every_other k (n + 1) ≡ every_other k n ++ ((k + 2 * n) ∷ [])
unfolding every_other
every_more k zero = let e : k + 2 * 0 ≡ k = omega arith in rw e
every_more k (suc n) =
    let e : suc n + 1 ≡ suc (n + 1) = omega arith in
    let f : k + 2 + 2 * n ≡ k + 2 * suc n = omega arith in
    rw e (ap (λ (l : List ℕ). k ∷ l) (every_more (k + 2) n ∙ ap (λ (x : ℕ). every_other (k + 2) n ++ (x ∷ [])) f))

pub every-next : (k n j : ℕ) → j < n → every_other (k + 2 * j) (n - j) ≡ (k + 2 * j) ∷ every_other (k + 2 * (j + 1)) (n - (j + 1))
unfolding every_other
every-next k n j l =
    let e : n - j ≡ suc (n - (j + 1)) = omega arith in
    let f : k + 2 * (j + 1) ≡ k + 2 * j + 2 = omega arith in
    rw (e, f)

pub named-every : (ts : List ℕ) (k n : ℕ) → Named ts (every_other k n) → (j : ℕ) → j < n → IsName ts (k + 2 * j)
unfolding every_other
named-every ts k zero h j l = absurd (omega arith)
named-every ts k (suc n) h zero l = let e : k + 2 * 0 ≡ k = omega arith in rw e h.0
named-every ts k (suc n) h (suc j) l = let e : k + 2 + 2 * j ≡ k + 2 * suc j = omega arith in rw e at (named-every ts (k + 2) n h.1 j (omega arith))

-- the last of them is a token
pub every-inside : (ts : List ℕ) (k n : ℕ) → Named ts (every_other k n) → 0 < n → k + 2 * n ≤ length ts + 1
every-inside ts k n h l = let e = named-every ts k n h (n - 1) (omega arith) in omega (arith, inside ts (k + 2 * (n - 1)) (omega arith))

-- the first of those past some
drop-every : (r k n : ℕ) → drop r (every_other k n) ≡ every_other (k + 2 * r) (n - r)
unfolding every_other
drop-every zero k n =
    let e : k + 2 * 0 ≡ k = omega arith in
    let f : n - 0 ≡ n = omega arith in
    rw (e, f)
drop-every (suc r) k zero = let e : 0 - suc r ≡ 0 = omega arith in rw e
drop-every (suc r) k (suc n) =
    let e : k + 2 + 2 * r ≡ k + 2 * suc r = omega arith in
    let f : suc n - suc r ≡ n - r = omega arith in
    rw (f, ← e) (drop-every r (k + 2) n)

from_less : (k m : ℕ) (f : Found) → k ≤ m → From m f → From k f
from_less k m None l h = tt
from_less k m (Some n) l h = omega arith

first-every : (k n : ℕ) → From (k + 2) (least (every_other (k + 2) n)) → least (every_other k (suc n)) ≡ Some k
unfolding every_other least
first-every k n h = least-here k (least (every_other (k + 2) n)) (from_less k (k + 2) (least (every_other (k + 2) n)) (omega arith) h)

every-from : (k n : ℕ) → From k (least (every_other k n))
unfolding every_other least
every-from k zero = tt
every-from k (suc n) = rw (first-every k n (every-from (k + 2) n)) (omega arith)

-- ---- the cases of `over_fault`
module _ (r k n : ℕ) where
  pub all_fit : n ≤ r → None ≡ least (drop r (every_other k n))
  unfolding every_other least
  all_fit l = let e : n - r ≡ 0 = omega arith in rw (drop-every r k n, e)

  pub one-over : r < n → Some (k + 2 * r) ≡ least (drop r (every_other k n))
  one-over l =
      let e : n - r ≡ suc (n - (r + 1)) = omega arith in
      rw (drop-every r k n, e) (sym (first-every (k + 2 * r) (n - (r + 1)) (every-from (k + 2 * r + 2) (n - (r + 1)))))

-- ---- scopes
pub extended_none : (s : Scope) → length s.names ≡ local_limit → Extended s [] s
extended_none s f = record { full = f; count = omega (arith, s.few); names-are = λ h. sym (append-nil (take s.count s.names)) }

pub extended-full : (s : Scope) (k : ℕ) → length s.names ≡ local_limit → s.count ≡ local_limit → Extended s (k ∷ []) s
extended-full s k f e = record { full = f; count = omega arith; names-are = λ h. absurd (omega arith) }

pub extended-one : (s : Scope) (k : ℕ) → length s.names ≡ local_limit → (few : s.count + 1 ≤ local_limit) → Extended s (k ∷ []) (record { names = set s.names s.count k; count = s.count + 1; few = few })
extended-one s k f l =
    record {
      full = length-set s.names s.count k ∙ f;
      count = omega arith;
      names-are = λ h. rw (add-one s.count) (take-suc-set s.names s.count k (omega arith));
    }

pub extended-more : {s r r' : Scope} {ks : List ℕ} {k : ℕ} → Extended s ks r → Extended r (k ∷ []) r' → Extended s (ks ++ (k ∷ [])) r'
extended-more {s} {r} {r'} {ks} {k} p q =
    let n = length-append ks (k ∷ []) in
    record {
      full = q.full;
      count = omega (arith, p.count, q.count);
      names-are = λ h.
          let a = q.names-are (omega (arith, p.count)) in
          let b = p.names-are (omega arith) in
          a ∙ ap (λ (l : List ℕ). l ++ (k ∷ [])) b ∙ append_assoc (take s.count s.names) ks (k ∷ []);
    }

-- names in two lists
pub named-append : (ts ks ls : List ℕ) → Named ts ks → Named ts ls → Named ts (ks ++ ls)
named-append ts [] ls h g = g
named-append ts (k ∷ ks) ls h g = (h.0, named-append ts ks ls h.1 g)

-- the locals with those that are bound
unfoldable pub setting-more : {question : Question} {low high nodes : List ℕ} {lists : Lists} {s r : Scope} {ks : List ℕ} (h : Setting question low high nodes lists s) → Extended s ks r → Named h.world.kinds ks → (asks_names question ≡ true → s.count + length ks ≤ local_limit) → Setting question low high nodes lists r
setting-more {ks = ks} h e n l =
    record {
      world = h.world;
      locals = h.locals ++ ks;
      scoped = record {
        full = e.full;
        count = omega (arith, e.count, h.scoped.count, length-append h.locals ks);
        locals_are = λ a. e.names-are (l a) ∙ ap (λ (x : List ℕ). x ++ ks) (h.scoped.locals_are a);
        named = named-append h.world.kinds h.locals ks h.scoped.named n;
      };
    }

-- ---- the cases of `branch_fault`
module _ (i k : ℕ) where
  abbrev BranchAnswer : Found → Question → Type 0
  BranchAnswer r q = (w : ℕ → List ℕ) (vs : List Variable) (ds : List Definition) (sc : List ℕ) → r ≡ least (site_faults q w vs ds sc (branch i k))

  in-fresh : BranchAnswer None Fresh
  unfolding site_faults site_repeated least
  in-fresh w vs ds sc = refl

  in-given : BranchAnswer None Given
  unfolding site_faults site_wrong least
  in-given w vs ds sc = refl

  in-limits : BranchAnswer (then_some (leb branch_limit i) k) Limits
  unfolding site_faults site_beyond
  in-limits w vs ds sc = told (leb branch_limit i) k

  module _ {q : Question} where
    pub branch-free : (q ≡ Fresh) ⊎ (q ≡ Given) → BranchAnswer None q
    branch-free (inl e) = subst (BranchAnswer None) (sym e) in-fresh
    branch-free (inr e) = subst (BranchAnswer None) (sym e) in-given

    pub branch-asked : {r : Found} → q ≡ Limits → r ≡ then_some (leb branch_limit i) k → BranchAnswer r q
    branch-asked e t = rw (t, e) in-limits
