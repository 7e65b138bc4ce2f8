use Rattle.walk.proofs.Walking.{world-of, seek-filled, stands-tail, lists_filled, both-is}
use Rattle.pieces.proofs.Following.{room-behind, room-again, replay-none, replay-unlisted, replay-past, replay-taken, follow-leads, follow-idle, follow-refused}
use mathlib.Core.Bool.{◌&&◌}
use native.Mathlib.Omega.{arith}
use lib.ListN.{length-set}
use Rattle.pieces.proofs.+replay_follow.Goals as goal

pub follow-take_at-taken-requires : goal.follow-take_at-taken-requires
follow-take_at-taken-requires t c =
    let p = c.requires.1.states in ((c.requires.0.0, c.requires.0.1, c.requires.0.2, c.requires.0.3, c.requires.0.4, c.requires.0.5, c.requires.0.6), omega arith)

pub follow-returns-in_default : goal.follow-returns-in_default
follow-returns-in_default t c =
    λ m s es k h st l i. follow-refused (c.take_at-taken.ensures m s es h st l i) c.args.sought.named k _ c.in_default.is

pub follow-returns-in_default-moved : goal.follow-returns-in_default-moved
follow-returns-in_default-moved t c =
    λ m s es k h st l i. follow-idle (c.take_at-taken.ensures m s es h st l i) c.args.sought.named k _ (both-is c.in-Ok.is c.in_default-moved.is)

pub follow-replay-requires : goal.follow-replay-requires
follow-replay-requires t c =
    let p = c.requires.1.states in
    let q = c.requires.1.listings in
    let r = c.requires.1.entries in
    let u = c.take_at-taken.ensures c.requires.0.0 c.requires.0.1 c.requires.0.2 c.requires.0.3 c.requires.0.4 c.requires.0.5 c.requires.0.6 in
    (omega arith, ((c.requires.0.0, u.after, c.requires.0.3, stands-tail u _ (both-is c.in-Ok.is c.in-Some.is)), room-behind c.args.more c.args.states.now c.args.listings.now c.args.run.now c.take_at-taken.new.states (omega arith) c.requires.1))

pub follow-returns : goal.follow-returns
follow-returns t c =
    λ m s es k h st l i.
    let u = c.take_at-taken.ensures m s es h st l i in
    let q = both-is c.in-Ok.is c.in-Some.is in
    follow-leads u c.args.sought.named k _ _ c.args.more c.args.run.now q (c.replay.ensures m u.after (c.args.sought.named && _) h (stands-tail u _ q))

pub replay-returns-then-n-eq0 : goal.replay-returns-then-n-eq0
replay-returns-then-n-eq0 t c =
    λ m s k h st. replay-none m c.args.sought.search.name.now s c.args.sought.named k c.args.n c.args.run.now c.if-n-eq0.true

pub replay-list_here-listed-requires : goal.replay-list_here-listed-requires
replay-list_here-listed-requires t c =
    let q = c.requires.1.listings in ((c.requires.0.0, c.requires.0.1, world-of c.requires.0.2 c.requires.0.3), c.told-listings 0 (omega arith))

pub replay-returns-in_default : goal.replay-returns-in_default
replay-returns-in_default t c =
    let r = c.requires.1.entries in
    λ m s k h st. replay-unlisted m c.args.sought.search.name.now s c.args.sought.named k c.args.n c.args.run.now (omega arith) r _ _ _ (c.list_here-listed.ensures m s (world-of h st)) c.in_default.is

pub replay-returns-then-e-l : goal.replay-returns-then-e-l
replay-returns-then-e-l t c =
    let r = c.requires.1.entries in
    λ m s k h st.
    let f = seek-filled m s _ _ _ (c.list_here-listed.ensures m s (world-of h st)) c.in-Ok.is in
    let j = f.count-is in
    replay-past m c.args.sought.search.name.now s c.args.sought.named k c.args.n c.args.run.now (omega arith) r f.entries c.from-e.result f.listed c.from-e.ensures (omega arith)

pub replay-follow-requires : goal.replay-follow-requires
replay-follow-requires t c =
    let q = c.requires.1.listings in
    let f = seek-filled c.requires.0.0 c.requires.0.1 _ _ _ (c.list_here-listed.ensures c.requires.0.0 c.requires.0.1 (world-of c.requires.0.2 c.requires.0.3)) c.in-Ok.is in
    let j = f.count-is in
    (omega arith, ((c.requires.0.0, c.requires.0.1, f.entries, c.requires.0.2, c.requires.0.3, lists_filled c.args.listings.now (omega arith) f, omega arith), room-again c.args.n (omega arith) (simp length-set) c.requires.1))

pub replay-returns : goal.replay-returns
replay-returns t c =
    let r = c.requires.1.entries in
    let q = c.requires.1.listings in
    λ m s k h st.
    let f = seek-filled m s _ _ _ (c.list_here-listed.ensures m s (world-of h st)) c.in-Ok.is in
    let j = f.count-is in
    replay-taken m c.args.sought.search.name.now s c.args.sought.named k c.args.n c.args.run.now (omega arith) r c.from-e.result _ c.from-e.ensures (c.follow.ensures m s f.entries k h st (lists_filled c.args.listings.now (omega arith) f) (omega arith))
