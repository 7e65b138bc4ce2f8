-- `listing::pair_matches` meets its contract: the values stand in the pair's row. From the laws of pairs.
use Rattle.value.proofs.Kit.{back}
use Rattle.state.proofs.Read.{few-pairs}
use Rattle.offers.proofs.Places.{passed}
use Rattle.listing.proofs.Pairs.{some_pair, pair-at, count-cast}
use Prim.Native.Nat.{◌+◌}
use Rattle.machine.specs.State.{channel_width}
use native.Mathlib.Omega.{arith}
use borrow.Author.Rules.{rules}
use lib.IntN.{pos}
use lib.ListN.{length, get_or}
use Rattle.listing.proofs.pair_matches.Goals as goal

pub pair_row-row-requires : goal.pair_row-row-requires
pair_row-row-requires c =
    let w = c.requires.1.5 in let q = c.args.q in let y = some_pair w q c.requires.2 in
    ((passed w).long, omega (arith, few-pairs c.args.asking.state.now (passed w), c.requires.2))

pub bounds-row-7 : goal.bounds-row-7
bounds-row-7 c =
    let w = c.requires.1.5 in let q = c.args.q in let y = some_pair w q c.requires.2 in
    let P = pair-at w q y.0 y.1 _ c.pair_row-row.ensures in
    let l = P.wide in search rules

pub overflow_cast-count : goal.overflow_cast-count
overflow_cast-count c =
    let w = c.requires.1.5 in let q = c.args.q in let y = some_pair w q c.requires.2 in
    let P = pair-at w q y.0 y.1 _ c.pair_row-row.ensures in
    count-cast _ (length y.0.values) P.count-is P.few

pub bounds-row-8 : goal.bounds-row-8
bounds-row-8 c =
    let w = c.requires.1.5 in let q = c.args.q in let y = some_pair w q c.requires.2 in
    let P = pair-at w q y.0 y.1 _ c.pair_row-row.ensures in
    let l = P.wide in search rules

pub bounds-row : goal.bounds-row
bounds-row c =
    let w = c.requires.1.5 in let q = c.args.q in let y = some_pair w q c.requires.2 in
    let P = pair-at w q y.0 y.1 _ c.pair_row-row.ensures in
    let l = P.wide in search rules

pub values_match-requires : goal.values_match-requires
values_match-requires c =
    c.requires.0

pub returns : goal.returns
returns c =
    λ w t roots scopes m s x sq W at. let P = pair-at W c.args.q x at _ c.pair_row-row.ensures in
    let b₂ = back (get_or c.pair_row-row.result.now channel_width (pos 0)) c.count-1.given in let b₃ = back (get_or c.pair_row-row.result.now (channel_width + 1) (pos 0)) c.values_match-arg-3-1.given in let b₄ = back (get_or c.pair_row-row.result.now (channel_width + 2) (pos 0)) c.values_match-arg-4-1.given in
    c.values_match.ensures w x.values sq (rw (b₂, b₃, b₄) (rw P.count-is P.values))
