-- `NameList::name` meets its contract: by the kind of the node.
use mathlib.Core.Path.{ap, sym, ◌∙◌}
use Prim.Native.Nat.{ℕ, ◌-◌}
use borrow.Author.Tests.{eq-eqb, ne_eqb}
use lib.ListN.{get_or}
use Rattle.tree.specs.Node.{kind_of, token_of}
use Rattle.names.specs.Lists.{name_at}
use Rattle.names.proofs.list.NameList.name.Goals as goal

pub returns-then-kind_of-eq-VARIABLE : goal.returns-then-kind_of-eq-VARIABLE
unfolding name_at
returns-then-kind_of-eq-VARIABLE c =
    let l = c.args.self in
    simp (eq-eqb (kind_of (get_or l.nodes.now (l.first - c.args.j) 0)) 65 (sym c.kind_of.ensures ∙ c.if-kind_of-eq-VARIABLE.true)) c.token_of.ensures

pub returns : goal.returns
unfolding name_at
returns c =
    let l = c.args.self in
    simp (ne_eqb (kind_of (get_or l.nodes.now (l.first - c.args.j) 0)) 65 (λ e. c.if-kind_of-eq-VARIABLE.false (c.kind_of.ensures ∙ e))) (c.token_of-2.ensures ∙ ap (λ (k : ℕ). token_of (get_or l.nodes.now k 0)) c.left_of.ensures)
