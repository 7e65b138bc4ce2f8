-- Which rows fit.
use mathlib.Core.Path.{◌≡◌, refl}
use mathlib.Core.Bool.{Bool, true, false, ◌&&◌}
use Prim.Native.Nat.{ℕ}
use native.Mathlib.Omega.{arith}
use lib.Dec.{leb}
use Rattle.machine.specs.Machine.{Part}
use Rattle.script.specs.declared.Row.{Row}
use Rattle.script.specs.Rows.{open_kind, last_kind, is_kind, fits}

-- a row of no kind does not
pub no-kind : (r : Row) (t n w : ℕ) (parts : Part → ℕ) (o : ℕ) → is_kind r.kind ≡ false → fits r t n w parts o ≡ false
unfolding fits is_kind
no-kind r t n w parts o e = by (leb open_kind r.kind) (leb r.kind last_kind) _ e
  where
    by : (a b x : Bool) → (a && b) ≡ false → (a && (b && x)) ≡ false
    by true true x e = let z : ◌≡◌ {A = ℕ} 0 1 = cc in absurd (omega arith)
    by true false x e = refl
    by false b x e = refl
