use Rattle.model.specs.Resolved
use Rattle.machine.specs.Offer.{Process}
use Rattle.state.specs.Read.{process_count}
use Rattle.offers.specs.declared.row.Row.{Row}
use Rattle.offers.specs.Collect.{Walked, Answers}
use Rattle.offers.proofs.Places.{passed, places-are, some-place, progress-none, next-rows, progress-more, progress-stops, progress-all}
use Prim.Native.Nat.{ℕ, ◌<◌}
use mathlib.Core.Path.{◌≡◌}
use mathlib.Core.List.{List}
use native.Mathlib.Omega.{arith}
use Rattle.std.proofs.lemmas.Result.{err_from_is_err_and}
use borrow.Author.Rules.{rules}
use Rattle.offers.proofs.collect.Goals as goal

-- what is answered of the rows as they are filled is so of those that were lent
lent : {t : List ℕ} {rs rs' : List Row} {m : Resolved.Model} {ps : List Process} {r : Walked} → rs' ≡ rs → Answers t rs m ps r → Answers t rs' m ps r
lent e h = rw e h

pub process_count-places-requires : goal.process_count-places-requires
process_count-places-requires c =
    passed c.requires.2

pub loop-place-init : goal.loop-place-init
loop-place-init c =
    (search rules, search rules, λ m s w. progress-none _ _ m s.processes)

pub collect_place-requires : goal.collect_place-requires
collect_place-requires c =
    (c.requires, omega (arith, c.process_count-places.ensures.0), c.loop-place.invariant.0)

pub returns-in_err-collect_place : goal.returns-in_err-collect_place
returns-in_err-collect_place c =
    λ m s w. let l : c.loop-place.place < process_count c.args.state.now = omega (arith, c.process_count-places.ensures.0) in
    let q = some-place w c.loop-place.place l in
    let p = err_from_is_err_and c.from_residual.result c.from_residual.ensures.1 in
    rw (p.1, p.2) (lent (search rules) (progress-stops w c.loop-place.place c.loop-place.filling.count q.0 q.1 _ _ _ _ (rw c.in_err-collect_place.was at (c.collect_place.ensures.collects m s q.0 w q.1)) (c.loop-place.invariant.2 m s w)))

pub loop-place-preserved : goal.loop-place-preserved
loop-place-preserved c =
    let l : c.loop-place.place < process_count c.args.state.now = omega (arith, c.process_count-places.ensures.0) in
    let w₀ = c.requires.2 in let q₀ = some-place w₀ c.loop-place.place l in
    let n = next-rows w₀ c.loop-place.place c.loop-place.filling.count q₀.0 q₀.1 _ _ _ (rw c.in_ok-collect_place.was at (c.collect_place.ensures.collects c.requires.0 c.requires.1 q₀.0 w₀ q₀.1)) in
    (omega (arith, n, c.loop-place.invariant.0), search rules, λ m s w. let q = some-place w c.loop-place.place l in progress-more w c.loop-place.place c.loop-place.filling.count q.0 q.1 _ _ _ (rw c.in_ok-collect_place.was at (c.collect_place.ensures.collects m s q.0 w q.1)) (c.loop-place.invariant.2 m s w))

pub returns : goal.returns
returns c =
    λ m s w. lent (search rules) (progress-all _ _ m s.processes c.loop-place.place c.loop-place.filling.count (omega (arith, places-are w, c.process_count-places.ensures.0)) c.loop-place.filling.room (c.loop-place.invariant.2 m s w))
