-- Subtotals by owner add up to the total of the listing where every entry's owner is one of those counted: entry by entry. And every transition counts for a process.
use mathlib.Core.Path.{◌≡◌, refl, ap, ◌∙◌}
use mathlib.Core.List.Memᴰ.{head}
use mathlib.Core.List.Memᴰ.{tail}
use mathlib.Core.List.{List, [], ◌∷◌, Memᴰ as In}
use mathlib.Core.Bool.{Bool, true, false, cond}
use Prim.Native.Nat.{ℕ, zero, suc, ◌+◌, ◌≤◌, ◌<◌}
use native.Mathlib.Omega.{arith}
use borrow.Author.Tests.{eqb-true, eqb-false, ne_eqb}
use lib.Dec.{eqb}
use lib.ListN.{length, get_or}
use Rattle.rules.specs.Offers.{Branch, State}
use Rattle.rules.specs.Rules.{Nth, Change, Key, Moves, alone, together}
use Rattle.rules.specs.Listing.{Entry, weight_of}
use Rattle.rules.specs.Draw.{weights, total}
use Rattle.rules.specs.Subtotals.{actor, subtotal, subtotals}
use Rattle.rules.proofs.Places.{acting, meeting}

module _ (owner : Entry → ℕ) where
  pub as_many : (es : List Entry) (d n : ℕ) → length (subtotals owner es d n) ≡ n
  unfolding subtotals
  as_many es d zero = refl
  as_many es d (suc n) = let h = as_many es (suc d) n in omega (arith, h)

  -- the i-th of them
  pub nth-is : (es : List Entry) (d n i : ℕ) → i < n → get_or (subtotals owner es d n) i 0 ≡ subtotal owner es (d + i)
  unfolding subtotals
  nth-is es d zero i l = absurd (omega arith)
  nth-is es d (suc n) zero l = let z : d ≡ d + 0 = omega arith in ap (subtotal owner es) z
  nth-is es d (suc n) (suc i) l = let z : suc d + i ≡ d + suc i = omega arith in nth-is es (suc d) n i (omega arith) ∙ ap (subtotal owner es) z

  nothing : (d n : ℕ) → total (subtotals owner [] d n) ≡ 0
  unfolding subtotals subtotal total
  nothing d zero = refl
  nothing d (suc n) = let h = nothing (suc d) n in omega (arith, h)

  -- one entry's weight, for one owner
  abbrev part : Entry → ℕ → ℕ
  part e d = cond (eqb (owner e) d) (weight_of e) 0

  parts : Entry → ℕ → ℕ → ℕ
  parts e d zero = 0
  parts e d (suc n) = part e d + parts e (suc d) n

  more : (e : Entry) (es : List Entry) (d n : ℕ) → total (subtotals owner (e ∷ es) d n) ≡ parts e d n + total (subtotals owner es d n)
  unfolding subtotals subtotal total parts
  more e es d zero = refl
  more e es d (suc n) = let h = more e es (suc d) n in omega (arith, h)

  none_left : (e : Entry) (d n : ℕ) → owner e < d → parts e d n ≡ 0
  unfolding parts
  none_left e d zero l = refl
  none_left e d (suc n) l = let h = none_left e (suc d) n (omega arith) in rw (ne_eqb (owner e) d (λ q. omega arith)) (omega (arith, h))

  once : (e : Entry) (d n : ℕ) → d ≤ owner e → owner e < d + n → parts e d n ≡ weight_of e
  unfolding parts
  once e d zero l h = absurd (omega arith)
  once e d (suc n) l h = by (eqb (owner e) d) refl (none_left e (suc d) n) (once e (suc d) n)
    where
      by : (b : Bool) → eqb (owner e) d ≡ b → (owner e < suc d → parts e (suc d) n ≡ 0) → (suc d ≤ owner e → owner e < suc d + n → parts e (suc d) n ≡ weight_of e)
          → cond b (weight_of e) 0 + parts e (suc d) n ≡ weight_of e
      by true q f g = let z = f (omega (arith, eqb-true (owner e) d q)) in omega (arith, z)
      by false q f g = let z : owner e ≡ d → ⊥ = eqb-false (owner e) d q in let k : suc d ≤ owner e = above (owner e) d l z in let r = g k (omega arith) in omega (arith, r)
        where
          above : (o d : ℕ) → d ≤ o → (o ≡ d → ⊥) → suc d ≤ o
          above o d l z = omega (arith, z)

  -- 02, note 6: added in order they equal the total
  pub adds-up : (es : List Entry) (n : ℕ) → ((e : Entry) → In e es → owner e < n) → total (subtotals owner es 0 n) ≡ total (weights es)
  unfolding total weights
  adds-up [] n h = nothing 0 n
  adds-up (e ∷ es) n h =
      let k = adds-up es n (λ x i. h x (tail i)) in
      let l = h e (head refl) in
      let o : owner e < 0 + n = omega (arith, l) in
      let w = once e 0 n (omega arith) o in
      more e es 0 n ∙ omega (arith, k, w)

-- the process that a transition counts for stands at its place; a handshake's is its sender
pub counts-for : {Proc : Type 0} (branches : Proc → List (Branch Proc)) (s : State Proc) {k : Key} {w : ℕ} {n : Change} {ps : List Proc} → Moves branches s k w n ps → (p : Proc) × Nth s.processes (actor k) p
unfolding actor
counts-for branches s (alone a h) = let r = acting branches s.pairs h in (r.proc, r.at)
counts-for branches s (together h) = let r = meeting branches s.pairs h in (r.sender.proc, r.sender.at)
