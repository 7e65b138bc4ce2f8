-- `NameList::place_of` meets its contract: the search finds the first of the list with the name.
use mathlib.Core.Bool.{true, false}
use native.Mathlib.Omega.{arith}
use Rattle.std.proofs.Common.{rules, tests}
use Rattle.std.proofs.lemmas.Iterator.{serves_from_Range, first_from_Range}
use Rattle.token.proofs.Columns.{length-lows}
use Rattle.names.specs.Lists.{packed_in}
use Rattle.names.proofs.Lookups.{SameAt, place_ranged}
use Rattle.names.proofs.list.NameList.place_of.Goals as goal

pub find-requires-clause-callable : goal.find-requires-clause-callable
find-requires-clause-callable c =
    serves_from_Range (λ x q k. search (rules, tests)) (λ x low high y q.
    let there = rw (← q) at (c.args.self.reach.each x high) in (
      λ a p n w b f u v g h. omega (arith, q, high),
      λ a p n w b f u v g named m. (c.requires, omega (arith, named.ensures, there.in-low, length-lows c.args.self.contents.now)),
    ))

pub returns : goal.returns
returns c =
    let w = packed_in c.args.self.contents.now in
    place_ranged w c.args.k c.args.self.nodes.now c.args.self.first c.args.self.count c.find.result (first_from_Range _ _ _ _ (SameAt w c.args.k c.args.self.nodes.now c.args.self.first c.args.self.count true) (SameAt w c.args.k c.args.self.nodes.now c.args.self.first c.args.self.count false) c.find.ensures.ran (λ x q k. search (rules, tests)) (λ x q k. search (rules, tests)))
