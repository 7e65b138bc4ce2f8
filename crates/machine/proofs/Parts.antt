-- What has a value has parts that have values: values and lists are taken apart. By cases.
use mathlib.Core.Path.{◌≡◌, refl, sym, ap}
use mathlib.Core.List.{List, [], ◌∷◌}
use mathlib.Core.Option.{Option, none, some}
use Prim.Native.Nat.{ℕ}
use native.Mathlib.Omega.{arith}
use lib.IntN.{ℤ}
use lib.ListN.{length}
use Rattle.std.specs.Prelude.{None, Some}
use Rattle.value.specs.Range.{Value}
use Rattle.machine.specs.Evaluate.{with_value, valued, given, eval_all}
use Rattle.machine.proofs.Branches.{none-not-some}

-- ---- parts that have values
missing-is : {B : Type 0} (v : Value) (z : ℤ) → v ≡ None → v ≡ Some z → B
missing-is v z e f = let n : ◌≡◌ {A = ℕ} 0 1 = cc in absurd (omega arith)

-- the part of a value
pub record ValuePart (v : Value) (f : ℤ → Value) (z : ℤ) : Type 0 where
  pub part : ℤ
  pub is : v ≡ Some part
  pub rest : f part ≡ Some z

pub with-is : (v : Value) (f : ℤ → Value) (z : ℤ) → with_value v f ≡ Some z → ValuePart v f z
unfolding with_value
with-is (Some x) f z e = record { part = x; is = refl; rest = e }
with-is None f z e = missing-is None z refl e

-- the part of something that a value leads to
pub record ValuedPart {A : Type 0} (v : Value) (f : ℤ → Option A) (y : A) : Type 0 where
  pub part : ℤ
  pub is : v ≡ Some part
  pub rest : f part ≡ some y

pub valued-is : {A : Type 0} (v : Value) (f : ℤ → Option A) (y : A) → valued v f ≡ some y → ValuedPart v f y
unfolding valued
valued-is (Some x) f y e = record { part = x; is = refl; rest = e }
valued-is None f y e = none-not-some none y refl e

-- the part of something
pub record GivenPart {A B : Type 0} (o : Option A) (f : A → Option B) (y : B) : Type 0 where
  pub part : A
  pub is : o ≡ some part
  pub rest : f part ≡ some y

pub given_is : {A B : Type 0} (o : Option A) (f : A → Option B) (y : B) → given o f ≡ some y → GivenPart o f y
unfolding given
given_is (some x) f y e = record { part = x; is = refl; rest = e }
given_is none f y e = none-not-some none y refl e

pub some_is : {A : Type 0} (x y : A) → some x ≡ some y → x ≡ y
some_is x y e = cc

-- ---- lists
module _ {A B : Type 0} (f : A → Option B) where
  pub all-length : (xs : List A) (ys : List B) → eval_all f xs ≡ some ys → length ys ≡ length xs
  unfolding eval_all
  all-length [] ys e = sym (ap length (some_is _ ys e))
  all-length (x ∷ xs) ys e =
      let v = given_is (f x) _ ys e in
      let u = given_is (eval_all f xs) _ ys v.rest in
      omega (arith, ap length (some_is _ ys u.rest), all-length xs u.part u.is)
