-- `listing::list_row` meets its contract: by the kind of the row's action. From the laws of rows.
use mathlib.Core.Path.{◌∙◌}
use native.Mathlib.Omega.{arith}
use Rattle.offers.proofs.Offered.{action-kinds}
use Rattle.listing.proofs.Added.{adds_none}
use Rattle.listing.proofs.AllRows.{alone-at, high-of, sends, slot_of, acts, some-acts}
use Rattle.listing.proofs.list_row.Goals as goal

pub invariant_of-a : goal.invariant_of-a
invariant_of-a c = record { small = (some-acts c.requires.0.3 c.args.row _ _ _ c.place_in.ensures c.branch_in.ensures c.offer_in.ensures c.requires.1).1.fits }

pub returns-in-36-clause-added : goal.returns-in-36-clause-added
returns-in-36-clause-added c =
    λ roots m s y R at.
    let A = acts R c.args.row _ _ _ c.place_in.ensures c.branch_in.ensures c.offer_in.ensures y at in
    rw (slot_of m s y _ _ _ A.place-is A.branch-is A.rate-is ∙ alone-at 36 c.in-36.is (omega arith) A.shows m s _ _ _) c.list_alone.ensures.added

pub invariant_of-a-in-37 : goal.invariant_of-a-in-37
invariant_of-a-in-37 c = record { small = (some-acts c.requires.0.3 c.args.row _ _ _ c.place_in.ensures c.branch_in.ensures c.offer_in.ensures c.requires.1).1.fits }

pub returns-in-37-clause-added : goal.returns-in-37-clause-added
returns-in-37-clause-added c =
    λ roots m s y R at.
    let A = acts R c.args.row _ _ _ c.place_in.ensures c.branch_in.ensures c.offer_in.ensures y at in
    rw (slot_of m s y _ _ _ A.place-is A.branch-is A.rate-is ∙ alone-at 37 c.in-37.is (omega arith) A.shows m s _ _ _) c.list_alone-in-37.ensures.added

pub invariant_of-a-in-38 : goal.invariant_of-a-in-38
invariant_of-a-in-38 c = record { small = (some-acts c.requires.0.3 c.args.row _ _ _ c.place_in.ensures c.branch_in.ensures c.offer_in.ensures c.requires.1).1.fits }

pub returns-in-38-clause-added : goal.returns-in-38-clause-added
returns-in-38-clause-added c =
    λ roots m s y R at.
    let A = acts R c.args.row _ _ _ c.place_in.ensures c.branch_in.ensures c.offer_in.ensures y at in
    rw (slot_of m s y _ _ _ A.place-is A.branch-is A.rate-is ∙ alone-at 38 c.in-38.is (omega arith) A.shows m s _ _ _) c.list_alone-in-38.ensures.added

pub invariant_of-a-in-42 : goal.invariant_of-a-in-42
invariant_of-a-in-42 c = record { small = (some-acts c.requires.0.3 c.args.row _ _ _ c.place_in.ensures c.branch_in.ensures c.offer_in.ensures c.requires.1).1.fits }

pub list_partners-requires : goal.list_partners-requires
list_partners-requires c =
    c.requires.0

pub returns-in-42-clause-added : goal.returns-in-42-clause-added
returns-in-42-clause-added c =
    λ roots m s y R at.
    let A = acts R c.args.row _ _ _ c.place_in.ensures c.branch_in.ensures c.offer_in.ensures y at in
    let T = sends c.in-42.is A.shows in
    rw (slot_of m s y _ _ _ A.place-is A.branch-is A.rate-is ∙ T.send-is m s _ _ _) (c.list_partners.ensures.added roots m s T.pair R T.shows)

pub invariant_of-a-in-39 : goal.invariant_of-a-in-39
invariant_of-a-in-39 c = record { small = (some-acts c.requires.0.3 c.args.row _ _ _ c.place_in.ensures c.branch_in.ensures c.offer_in.ensures c.requires.1).1.fits }

pub list_query-requires : goal.list_query-requires
list_query-requires c =
    let R = c.requires.0.3 in
    let A = some-acts c.requires.0.3 c.args.row _ _ _ c.place_in.ensures c.branch_in.ensures c.offer_in.ensures c.requires.1 in
    ((c.requires.0.0, c.requires.0.1, c.requires.0.2, A.0.action, R.world, A.1.shows), grind arith, grind arith, A.2)

pub returns-in-39-clause-added : goal.returns-in-39-clause-added
returns-in-39-clause-added c =
    λ roots m s y R at.
    let A = acts R c.args.row _ _ _ c.place_in.ensures c.branch_in.ensures c.offer_in.ensures y at in
    rw (slot_of m s y _ _ _ A.place-is A.branch-is A.rate-is) (c.list_query.ensures.added roots m s y.action R.world A.shows)

pub returns-then-a-lt36-clause-added : goal.returns-then-a-lt36-clause-added
returns-then-a-lt36-clause-added c =
    λ roots m s y R at.
    let A = acts R c.args.row _ _ _ c.place_in.ensures c.branch_in.ensures c.offer_in.ensures y at in
    let k = (action-kinds A.shows).low in
    rw (slot_of m s y _ _ _ A.place-is A.branch-is A.rate-is ∙ high-of (grind (arith, k)) A.shows m s _ _ _) (adds_none _ _ c.args.filling.now.room.1)

pub returns-else-a-lt42-clause-added : goal.returns-else-a-lt42-clause-added
returns-else-a-lt42-clause-added c =
    λ roots m s y R at.
    let A = acts R c.args.row _ _ _ c.place_in.ensures c.branch_in.ensures c.offer_in.ensures y at in
    let k = (action-kinds A.shows).low in
    rw (slot_of m s y _ _ _ A.place-is A.branch-is A.rate-is ∙ high-of (grind (arith, k)) A.shows m s _ _ _) (adds_none _ _ c.args.filling.now.room.1)
