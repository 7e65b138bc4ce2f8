-- The walk of n states ends the search, or stops at a run after which there is another or none.
use Rattle.walk.proofs.Walking.{stands-kept, room-kept}
use Rattle.pieces.specs.Walked.{ways_of}
use Rattle.pieces.proofs.Carrying.{reaches-so, ends-is, waits-is, through-within, hit-within, carry-over, carry-found, there-stands, there-sound, carry-settles}
use mathlib.Core.Path.{refl}
use Prim.Native.Nat.{◌-◌}
use native.Mathlib.Omega.{arith}
use borrow.Author.Rules.{rules}
use Rattle.pieces.proofs.carry_in.Goals as goal

pub walk_on-walked-requires : goal.walk_on-walked-requires
walk_on-walked-requires c =
    (c.requires.0, c.requires.1, refl, c.requires.2.short)

pub overflow_sub-result-in-Ok : goal.overflow_sub-result-in-Ok
overflow_sub-result-in-Ok c =
    let f = reaches-so c.in-Ok.is (c.walk_on-walked.ensures.0 c.requires.0.0 c.requires.0.1 c.requires.0.2 c.requires.0.3 c.requires.0.4) in
    let o = through-within (c.args.n - 1) c.in-Ok.b.further c.args.position.met c.in-Ok.b.met _ (ends-is f) in
    let p = c.requires.3 in
    omega arith

pub overflow_sub-result-in-Wait : goal.overflow_sub-result-in-Wait
overflow_sub-result-in-Wait c =
    let f = reaches-so c.in-Err.is (c.walk_on-walked.ensures.0 c.requires.0.0 c.requires.0.1 c.requires.0.2 c.requires.0.3 c.requires.0.4) in
    let o = hit-within (c.args.n - 1) c.in-Wait.further c.args.position.met _ _ (waits-is f c.in-Wait.is) in
    let p = c.requires.3 in
    omega arith

pub settle-requires : goal.settle-requires
settle-requires c =
    let m = c.requires.0.0 in
    let s = c.requires.0.1 in
    let f = reaches-so c.in-Err.is (c.walk_on-walked.ensures.0 m s c.requires.0.2 c.requires.0.3 c.requires.0.4) in
    ((m, s, c.requires.0.2, stands-kept c.walk_on-walked.ensures.1 c.requires.0.3, there-stands (ways_of c.args.sought m) s c.args.depth c.args.position c.args.n c.requires.3 c.requires.0.4 _ c.in-Err.reached c.in-Spent.met f c.in-Spent.is), room-kept (search rules) (search rules) (search rules) c.requires.1, there-sound (ways_of c.args.sought m) s c.args.depth c.args.position c.args.n c.requires.3 c.requires.0.4 _ c.in-Err.reached c.in-Spent.met f c.in-Spent.is (let a = c.walk_on-walked.auto.run in let b = c.requires.2.room in omega (arith, a, b)))

pub returns-in-Ok : goal.returns-in-Ok
returns-in-Ok c =
    λ m s h st e. carry-over (ways_of c.args.sought m) s c.args.depth c.args.position c.args.n c.requires.3 e _ c.in-Ok.b c.missed.result (reaches-so c.in-Ok.is (c.walk_on-walked.ensures.0 m s h st e)) c.missed.ensures

pub returns-in-Wait : goal.returns-in-Wait
returns-in-Wait c =
    λ m s h st e. carry-found (ways_of c.args.sought m) s c.args.depth c.args.position c.args.n c.requires.3 e _ c.in-Err.reached c.in-Wait.further (reaches-so c.in-Err.is (c.walk_on-walked.ensures.0 m s h st e)) c.in-Wait.is

pub returns-in-Spent : goal.returns-in-Spent
returns-in-Spent c =
    λ m s h st e.
    let f = reaches-so c.in-Err.is (c.walk_on-walked.ensures.0 m s h st e) in
    carry-settles (ways_of c.args.sought m) s c.args.depth c.args.position c.args.n c.requires.3 e _ c.in-Err.reached c.in-Spent.met f c.in-Spent.is
    (c.settle.ensures m s h (stands-kept c.walk_on-walked.ensures.1 st) (there-stands (ways_of c.args.sought m) s c.args.depth c.args.position c.args.n c.requires.3 e _ c.in-Err.reached c.in-Spent.met f c.in-Spent.is))
