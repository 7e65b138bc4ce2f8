use Rattle.value.proofs.Kit.{back}
use Rattle.offers.proofs.Numbered.{up_none}
use Rattle.listing.proofs.Added.{adds_none, adds_then}
use Rattle.listing.proofs.Partners.{some-row, partners-lead, partners-next, partners-all}
use Rattle.offers.specs.Links.{Leads}
use mathlib.Core.Path.{refl, subst, ◌∙◌}
use Prim.Native.Nat.{ℕ, suc}
use native.Mathlib.Omega.{arith}
use lib.ListN.{get_or}
use Rattle.listing.proofs.list_partners.Goals as goal

pub loop-row-init : goal.loop-row-init
loop-row-init c =
    let E = simp (back c.args.sender.offer.channel.first (omega arith), back c.args.sender.offer.channel.second (omega arith), back c.args.sender.offer.channel.third (omega arith)) at c.bucket_of-bucket.ensures.0 in
    let F = c.args.from.offered.linked.first c.bucket_of-bucket.result c.bucket_of-bucket.ensures.1 in
    (F.high, F.here, refl, λ roots m s x R sp. rw (partners-lead R c.args.sender.offer x sp c.args.sender.place c.args.sender.branch 0 _ (subst (λ (h : ℕ). Leads c.args.from.offered.rows.now h 0 (get_or c.args.from.offered.firsts.now c.bucket_of-bucket.result 0)) E F) ∙ up_none _) (adds_none _ _ c.args.filling.now.room.1))

pub list_partner-requires : goal.list_partner-requires
list_partner-requires c =
    (c.requires, (c.loop-row.invariant.1 (omega arith)).receives, omega arith)

pub loop-row-smaller : goal.loop-row-smaller
loop-row-smaller c =
    let N = c.args.from.offered.linked.next c.loop-row.row c.bucket_of-bucket.result (omega arith) (omega arith) (c.loop-row.invariant.1 (omega arith)) in
    omega (arith, N.low, N.high)

pub loop-row-preserved : goal.loop-row-preserved
loop-row-preserved c =
    let E = simp (back c.args.sender.offer.channel.first (omega arith), back c.args.sender.offer.channel.second (omega arith), back c.args.sender.offer.channel.third (omega arith)) at c.bucket_of-bucket.ensures.0 in
    let N = c.args.from.offered.linked.next c.loop-row.row c.bucket_of-bucket.result (omega arith) (omega arith) (c.loop-row.invariant.1 (omega arith)) in
    (N.high, N.here, c.list_partner.ensures.same ∙ c.loop-row.invariant.2, λ roots m s x R sp. let y = some-row R c.loop-row.row (omega arith) in rw (partners-lead R c.args.sender.offer x sp c.args.sender.place c.args.sender.branch (suc c.loop-row.row) _ (rw E at N) ∙ partners-next R c.args.sender.offer x sp c.args.sender.place c.args.sender.branch c.loop-row.row y.0 y.1) (adds_then (c.loop-row.invariant.3 roots m s x R sp) (c.list_partner.ensures.added roots m s y.0 x R y.1 sp)))

pub returns-clause-added : goal.returns-clause-added
returns-clause-added c =
    λ roots m s x R sp. rw (← partners-all R c.args.sender.offer x sp c.args.sender.place c.args.sender.branch c.loop-row.row (omega arith)) (c.loop-row.invariant.3 roots m s x R sp)
