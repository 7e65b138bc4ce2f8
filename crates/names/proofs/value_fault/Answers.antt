-- `names::value_fault` meets its contract: by what the look-ups find, first among locals, then among variables.
use mathlib.Core.Path.{refl, ap, sym, ◌∙◌}
use mathlib.Core.Bool.{false}
use Prim.Native.Nat.{ℕ}
use native.Mathlib.Omega.{arith}
use lib.ListN.{get_or}
use Rattle.tree.specs.Node.{kind_of}
use Rattle.names.specs.Faults.{asks_names}
use Rattle.token.proofs.Columns.{length-lows}
use Rattle.names.proofs.Settled.{name-inside, in_scope, reach-variables}
use Rattle.names.proofs.Lookups.{there, absent}
use Rattle.names.proofs.Uses.{local-used, not_listed, listed-inside, whole-variable}
use Rattle.names.proofs.value_fault.Goals as goal

pub local_named-requires : goal.local_named-requires
unfolding asks_names
local_named-requires c =
    in_scope c.requires.0 refl c.args.k c.requires.1

pub returns-then-is_some : goal.returns-then-is_some
returns-then-is_some c =
    λ h e. local-used h c.args.k e false c.local_named.ensures (there _ (sym c.is_some.ensures ∙ c.if-is_some.true)).1

pub variable_named-requires : goal.variable_named-requires
variable_named-requires c =
    record { reach = reach-variables c.requires.0.world c.args.parsed.now.lists.variables (omega arith); k_in_bounds = omega (arith, length-lows c.args.parsed.now.contents.now, (name-inside c.requires.0.world c.args.k c.requires.1).0) }

pub returns-in_default : goal.returns-in_default
returns-in_default c =
    λ h e. not_listed h c.args.k e false c.local_named.ensures (absent _ (sym c.is_some.ensures ∙ c.if-is_some.false)) c.variable_named.ensures c.in_default.is

pub overflow_sub-root : goal.overflow_sub-root
overflow_sub-root c =
    omega (arith, (listed-inside c.requires.0 c.args.k c.requires.1 false c.local_named.ensures (absent _ (sym c.is_some.ensures ∙ c.if-is_some.false)) c.variable_named.ensures c.in-Some.is).0)

pub offset_bounds-parsed-root : goal.offset_bounds-parsed-root
offset_bounds-parsed-root c =
    omega (arith, (listed-inside c.requires.0 c.args.k c.requires.1 false c.local_named.ensures (absent _ (sym c.is_some.ensures ∙ c.if-is_some.false)) c.variable_named.ensures c.in-Some.is).1)

pub bounds-parsed-root : goal.bounds-parsed-root
bounds-parsed-root c =
    (listed-inside c.requires.0 c.args.k c.requires.1 false c.local_named.ensures (absent _ (sym c.is_some.ensures ∙ c.if-is_some.false)) c.variable_named.ensures c.in-Some.is).1

pub offset_bounds-parsed-left_of : goal.offset_bounds-parsed-left_of
offset_bounds-parsed-left_of c =
    omega (arith, c.left_of.ensures, (listed-inside c.requires.0 c.args.k c.requires.1 false c.local_named.ensures (absent _ (sym c.is_some.ensures ∙ c.if-is_some.false)) c.variable_named.ensures c.in-Some.is).2)

pub bounds-parsed-left_of : goal.bounds-parsed-left_of
bounds-parsed-left_of c =
    rw c.left_of.ensures (listed-inside c.requires.0 c.args.k c.requires.1 false c.local_named.ensures (absent _ (sym c.is_some.ensures ∙ c.if-is_some.false)) c.variable_named.ensures c.in-Some.is).2

pub returns : goal.returns
returns c =
    λ h e. c.then_some.ensures ∙ whole-variable h c.args.k e false c.local_named.ensures (absent _ (sym c.is_some.ensures ∙ c.if-is_some.false)) c.variable_named.ensures c.in-Some.is refl c.kind_of.result (c.kind_of.ensures ∙ ap (λ (l : ℕ). kind_of (get_or c.args.parsed.now.nodes.now l 0)) c.left_of.ensures) _ c.is_whole-whole.ensures
