-- Values of an action as the answers of functions. Assumes nothing: these are definitions.
use Rattle.std.specs.Prelude.{List, [], ◌∷◌, ℤ, Some, None}
use Rattle.std.specs.Prelude.{Option as RustOption}
use Rattle.std.proofs.Math.Option.{Option, none, some}
use Rattle.value.specs.Range.{Value}
use Rattle.model.specs.Resolved
use Rattle.machine.specs.Evaluate.{valued, eval_all, eval_value}
use Rattle.eval.specs.declared.Values.{Values}
use Rattle.eval.specs.declared.Values.TheVariants.{One, Two}

-- one or two values; no action has another number of them
unfoldable pub values_of : Option (List ℤ) → RustOption Values
values_of (some []) = None
values_of (some (x ∷ [])) = Some (One x)
values_of (some (x ∷ y ∷ [])) = Some (Two x y)
values_of (some (x ∷ y ∷ z ∷ zs)) = None
values_of none = None

-- the same of values that are there or not
unfoldable pub values_given : List Value → RustOption Values
values_given vs = values_of (eval_all (λ v. valued v some) vs)

-- 01, Values: the values of an action
unfoldable pub values_answer : List ℤ → List Resolved.Expr → RustOption Values
values_answer ls es = values_of (eval_all (eval_value ls) es)
