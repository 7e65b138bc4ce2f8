-- Copies of a list of processes, one after the other, and that each has few locals. From their definitions.
use mathlib.Core.Path.{◌≡◌, sym, ap, ◌∙◌}
use mathlib.Core.List.{List, [], ◌∷◌, ◌++◌, append_assoc, append-nil}
use Prim.Native.Nat.{ℕ, zero, suc, ◌+◌, ◌-◌, ◌≤◌, ◌<◌}
use native.Mathlib.Omega.{arith}
use native.Mathlib.Numerals.{add-one}
use native.Mathlib.Nat.{suc-add, zero-add}
use lib.IntN.{ℤ}
use lib.ListN.{length}
use Rattle.model.specs.Limits.{local_limit}
use Rattle.model.specs.Good.{Every}
use Rattle.machine.specs.Offer.{Process}
use Rattle.machine.specs.Machine.{copies}
use Rattle.machine.proofs.Everys.{every_append}
use Rattle.eval.specs.Next.{known, entered}
use Rattle.eval.proofs.Rows.{Few}

pub copies-more : (i : ℕ) (xs : List Process) → copies (i + 1) xs ≡ copies i xs ++ xs
unfolding copies
copies-more i xs = ap (λ (n : ℕ). copies n xs) (add-one i) ∙ go i
  where
    go : (i : ℕ) → copies (suc i) xs ≡ copies i xs ++ xs
    go zero = append-nil xs
    go (suc i) = ap (λ (r : List Process). xs ++ r) (go i) ∙ sym (append_assoc xs (copies i xs) xs)

pub copies-left : (n i : ℕ) (xs : List Process) → i < n → copies n xs ≡ copies i xs ++ (xs ++ copies (n - i - 1) xs)
unfolding copies
copies-left n i xs l = let e : n ≡ i + suc (n - i - 1) = omega arith in ap (λ (m : ℕ). copies m xs) e ∙ go i (n - i - 1)
  where
    go : (i m : ℕ) → copies (i + suc m) xs ≡ copies i xs ++ (xs ++ copies m xs)
    go zero m = ap (λ (j : ℕ). copies j xs) (zero-add (suc m))
    go (suc i) m = ap (λ (j : ℕ). copies j xs) (suc-add i (suc m)) ∙ ap (λ (r : List Process). xs ++ r) (go i m) ∙ sym (append_assoc xs (copies i xs) (xs ++ copies m xs))

pub copies-few : (n : ℕ) (xs : List Process) → Few xs → Few (copies n xs)
unfolding copies Every
copies-few zero xs h = tt
copies-few (suc n) xs h = every_append (λ (p : Process). length p.locals ≤ local_limit) xs (copies n xs) h (copies-few n xs h)

pub entered-few : (scopes ns : List ℕ) (ls : List ℤ) → length ls ≤ local_limit → Few (entered scopes ns ls)
unfolding entered known Every
entered-few scopes [] ls h = tt
entered-few scopes (n ∷ ns) ls h = (h, entered-few scopes ns ls h)
