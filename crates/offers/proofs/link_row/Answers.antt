-- One row more is linked. From the laws of links.
use mathlib.Core.Path.{sym}
use native.Mathlib.Omega.{arith}
use Rattle.value.proofs.Kit.{back}
use Rattle.offers.specs.Links.{row_at, InBucket}
use Rattle.offers.proofs.Links.{linked-other, linked-more}
use Rattle.offers.proofs.link_row.Goals as goal

pub returns-then-kind_in-lt-HAND_RECEIVE : goal.returns-then-kind_in-lt-HAND_RECEIVE
returns-then-kind_in-lt-HAND_RECEIVE c =
    λ k. linked-other c.args.rows.now c.args.row c.args.firsts.now c.args.nexts.now (omega arith) k

pub returns : goal.returns
returns c =
    λ k.
    let r = row_at c.args.rows.now c.args.row in
    let i : InBucket c.args.rows.now c.bucket_of-bucket.result c.args.row = record { receives = omega arith; bucket = sym (simp (back r.channel c.struct_told-1.given.1.0.1, back r.channel2 c.struct_told-1.given.1.1.1.1.1.1.0.1, back r.channel3 c.struct_told-1.given.1.1.1.1.1.1.1.0.1) at c.bucket_of-bucket.ensures.0) } in
    linked-more c.args.rows.now c.args.row c.bucket_of-bucket.result c.args.firsts.now c.args.nexts.now (omega arith) (omega arith) (omega arith) i k (omega arith)
