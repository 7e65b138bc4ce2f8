-- Each return is a case of `is_state`, from what the calls ensure of each part.
use mathlib.Core.Path.{sym, ap, ◌∙◌}
use Prim.Native.Nat.{ℕ}
use lib.IntN.{pos}
use lib.ListN.{get_or}
use Rattle.value.proofs.Kit.{back}
use Rattle.state.specs.Test.{process_part, pair_part, are_processes, are_pairs}
use Rattle.state.specs.Change.{pairs_from}
use Rattle.state.proofs.Part.{tail-part}
use Rattle.state.proofs.Tests.{state-processes, state-pairs, state-fails, state-rest}
use Rattle.state.proofs.is_state.Goals as goal

pub returns-then-not-is_below : goal.returns-then-not-is_below
returns-then-not-is_below c =
    let Z = c.args.state.now in
    let p = rw (back (get_or Z 0 (pos 0)) c.is_below-arg-1.given) at c.is_below.ensures in
    sym (state-processes c.args.shape.scopes.now c.args.shape.channels Z (sym p ∙ c.if-not-is_below.true))

pub returns-then-not-is_below-2 : goal.returns-then-not-is_below-2
returns-then-not-is_below-2 c =
    let Z = c.args.state.now in
    let p = rw (back (get_or Z 0 (pos 0)) c.is_below-arg-1.given) at c.is_below.ensures in
    let q = rw (back (get_or Z 1 (pos 0)) c.is_below-arg-2-1.given) at c.is_below-2.ensures in
    sym (state-pairs c.args.shape.scopes.now c.args.shape.channels Z (sym p ∙ c.if-not-is_below.false) (sym q ∙ c.if-not-is_below-2.true))

pub returns-then-not-are_processes : goal.returns-then-not-are_processes
returns-then-not-are_processes c =
    let S = c.args.shape.scopes.now in
    let Z = c.args.state.now in
    let p = rw (back (get_or Z 0 (pos 0)) c.is_below-arg-1.given) at c.is_below.ensures in
    let q = rw (back (get_or Z 1 (pos 0)) c.is_below-arg-2-1.given) at c.is_below-2.ensures in
    let e = ap (λ (n : ℕ). are_processes S n (process_part Z)) c.counted.ensures.0 in
    sym (state-fails S c.args.shape.channels Z (sym p ∙ c.if-not-is_below.false) (sym q ∙ c.if-not-is_below-2.false) (sym (c.are_processes.ensures ∙ e) ∙ c.if-not-are_processes.true))

pub returns : goal.returns
returns c =
    let S = c.args.shape.scopes.now in
    let C = c.args.shape.channels in
    let Z = c.args.state.now in
    let p = rw (back (get_or Z 0 (pos 0)) c.is_below-arg-1.given) at c.is_below.ensures in
    let q = rw (back (get_or Z 1 (pos 0)) c.is_below-arg-2-1.given) at c.is_below-2.ensures in
    let e = ap (λ (n : ℕ). are_processes S n (process_part Z)) c.counted.ensures.0 in
    let f = ap (λ (n : ℕ). are_pairs C n (pair_part Z)) c.counted-2.ensures.0 in
    c.are_pairs.ensures ∙ ap (are_pairs C c.counted-2.result) (tail-part pairs_from Z) ∙ f
    ∙ sym (state-rest S C Z (sym p ∙ c.if-not-is_below.false) (sym q ∙ c.if-not-is_below-2.false) (sym (c.are_processes.ensures ∙ e) ∙ c.if-not-are_processes.false))
