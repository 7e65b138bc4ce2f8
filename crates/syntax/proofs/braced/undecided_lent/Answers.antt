-- `undecided_lent` meets its contract: each return is a law of Lone.antt.
use mathlib.Core.Path.{refl}
use native.Mathlib.Omega.{arith}
use Rattle.grammar.proofs.Follows.{same, isnt}
use Rattle.tree.specs.Node.{op_kind}
use Rattle.syntax.proofs.Answers.{raised}
use Rattle.syntax.proofs.Lone.{bare, multiplied, alone, over, undecided-atom, undecided-waits, undecided-stops, undecided-ends}
use Rattle.syntax.proofs.braced.undecided_lent.Goals as goal
use Rattle.syntax.proofs.braced.undecided_lent.Goals.{then-peek-eq42+in_ok-m, else-peek-eq42, then-waits, else-waits, then-left-root, else-left-root}

pub returns-in_err-m : goal.returns-in_err-m
returns-in_err-m c =
    rw (raised c.from_residual.ensures.1) (let r = undecided-atom c.args.named.now.spot.toks.now c.args.nodes.now c.args.named.now.spot.at c.args.named.now.spot.used c.args.digits c.args.rate c.args.item (c.args.named.now.name, c.args.named.now.sign) c.requires.either _ (same c.peek.ensures c.if-peek-eq42.true) (c.atom.ensures.follows, c.atom.ensures.parsed) c.in_err-m.was in record { follows = r.0; inside = r.1 })

pub returns-then-waits-2 : goal.returns-then-waits-2
returns-then-waits-2 c = elim c.if-waits.branch [ then-waits s ↦ let r = undecided-waits c.args.named.now.spot.toks.now c.args.nodes.now c.args.named.now.spot.at c.args.named.now.spot.used c.args.digits c.args.rate c.args.item (c.args.named.now.name, c.args.named.now.sign) c.requires.either (elim c.if-peek-eq42.branch [ then-peek-eq42+in_ok-m w ↦ rw (w.n-is, w.nodes-is) (multiplied (same c.peek.ensures w.if-peek-eq42.true) _ _ (w.atom.ensures.follows, w.atom.ensures.parsed) w.in_ok-m.was refl) | else-peek-eq42 w ↦ rw (w.n-is, w.nodes-is) (bare (isnt c.peek.ensures w.if-peek-eq42.false) refl refl refl) ]) (same c.peek-waits.ensures c.if-waits-2.true) (record { written = rw s.first-is at c.leaf.ensures; token-fits = omega (arith, c.args.named.now.spot.ready.room, c.args.named.now.spot.ready.few, c.args.named.now.spot.ready.inside, c.requires.either.within, c.requires.either.onward); left-fits = omega arith; third-fits = omega arith }) (record { written = rw s.first-is at c.leaf-2.ensures; token-fits = omega (arith, c.args.named.now.spot.ready.room, c.args.named.now.spot.ready.few, c.args.named.now.spot.ready.inside, c.requires.either.within, c.requires.either.onward); left-fits = omega arith; third-fits = omega arith }) (elim c.if-left-root.branch [ then-left-root v ↦ rw v.nodes-is (over v.if-left-root.true (record { written = rw s.first-is at v.pair.ensures; token-fits = omega arith; left-fits = omega (arith, c.args.named.now.spot.ready.room, c.args.named.now.spot.ready.few, c.args.named.now.spot.ready.inside, c.requires.either.within, c.requires.either.onward); third-fits = omega arith })) | else-left-root v ↦ rw v.nodes-is (alone (λ l. omega (arith, v.if-left-root.false)) refl) ]) in record { follows = r.0; inside = r.1 } | else-waits s ↦ absurd (omega (arith, c.if-waits-2.true, s.if-waits.false)) ]

pub returns-in_err-m-2 : goal.returns-in_err-m-2
unfolding op_kind
returns-in_err-m-2 c =
    rw (raised c.from_residual-in_err-m-2.ensures.1) (elim c.if-waits.branch [ then-waits s ↦ absurd (omega (arith, c.if-waits-2.false, s.if-waits.true)) | else-waits s ↦ let r = undecided-stops c.args.named.now.spot.toks.now c.args.nodes.now c.args.named.now.spot.at c.args.named.now.spot.used c.args.digits c.args.rate c.args.item (c.args.named.now.name, c.args.named.now.sign) c.requires.either _ (elim c.if-peek-eq42.branch [ then-peek-eq42+in_ok-m w ↦ rw (w.n-is, w.nodes-is) (multiplied (same c.peek.ensures w.if-peek-eq42.true) _ _ (w.atom.ensures.follows, w.atom.ensures.parsed) w.in_ok-m.was refl) | else-peek-eq42 w ↦ rw (w.n-is, w.nodes-is) (bare (isnt c.peek.ensures w.if-peek-eq42.false) refl refl refl) ]) (isnt c.peek-waits.ensures c.if-waits-2.false) (record { written = rw s.first-is at c.leaf.ensures; token-fits = omega (arith, c.args.named.now.spot.ready.room, c.args.named.now.spot.ready.few, c.args.named.now.spot.ready.inside, c.requires.either.within, c.requires.either.onward); left-fits = omega arith; third-fits = omega arith }) (record { written = rw s.first-is at c.leaf-2.ensures; token-fits = omega (arith, c.args.named.now.spot.ready.room, c.args.named.now.spot.ready.few, c.args.named.now.spot.ready.inside, c.requires.either.within, c.requires.either.onward); left-fits = omega arith; third-fits = omega arith }) (elim c.if-left-root.branch [ then-left-root v ↦ rw v.nodes-is (over v.if-left-root.true (record { written = rw s.first-is at v.pair.ensures; token-fits = omega arith; left-fits = omega (arith, c.args.named.now.spot.ready.room, c.args.named.now.spot.ready.few, c.args.named.now.spot.ready.inside, c.requires.either.within, c.requires.either.onward); third-fits = omega arith })) | else-left-root v ↦ rw v.nodes-is (alone (λ l. omega (arith, v.if-left-root.false)) refl) ]) (rw c.after.ensures.1 at c.rest_lent.ensures.follows, rw c.after.ensures.1 at c.rest_lent.ensures.extended) c.in_err-m-2.was in record { follows = r.0; inside = r.1 } ])

pub returns : goal.returns
unfolding op_kind
returns c = elim c.if-waits.branch [ then-waits s ↦ absurd (omega (arith, c.if-waits-2.false, s.if-waits.true)) | else-waits s ↦ let r = undecided-ends c.args.named.now.spot.toks.now c.args.nodes.now c.args.named.now.spot.at c.args.named.now.spot.used c.args.digits c.args.rate c.args.item (c.args.named.now.name, c.args.named.now.sign) c.requires.either _ _ _ (elim c.if-peek-eq42.branch [ then-peek-eq42+in_ok-m w ↦ rw (w.n-is, w.nodes-is) (multiplied (same c.peek.ensures w.if-peek-eq42.true) _ _ (w.atom.ensures.follows, w.atom.ensures.parsed) w.in_ok-m.was refl) | else-peek-eq42 w ↦ rw (w.n-is, w.nodes-is) (bare (isnt c.peek.ensures w.if-peek-eq42.false) refl refl refl) ]) (isnt c.peek-waits.ensures c.if-waits-2.false) (record { written = rw s.first-is at c.leaf.ensures; token-fits = omega (arith, c.args.named.now.spot.ready.room, c.args.named.now.spot.ready.few, c.args.named.now.spot.ready.inside, c.requires.either.within, c.requires.either.onward); left-fits = omega arith; third-fits = omega arith }) (record { written = rw s.first-is at c.leaf-2.ensures; token-fits = omega (arith, c.args.named.now.spot.ready.room, c.args.named.now.spot.ready.few, c.args.named.now.spot.ready.inside, c.requires.either.within, c.requires.either.onward); left-fits = omega arith; third-fits = omega arith }) (elim c.if-left-root.branch [ then-left-root v ↦ rw v.nodes-is (over v.if-left-root.true (record { written = rw s.first-is at v.pair.ensures; token-fits = omega arith; left-fits = omega (arith, c.args.named.now.spot.ready.room, c.args.named.now.spot.ready.few, c.args.named.now.spot.ready.inside, c.requires.either.within, c.requires.either.onward); third-fits = omega arith })) | else-left-root v ↦ rw v.nodes-is (alone (λ l. omega (arith, v.if-left-root.false)) refl) ]) (rw c.after.ensures.1 at c.rest_lent.ensures.follows, rw c.after.ensures.1 at c.rest_lent.ensures.extended) c.in_ok-m-2.was (rw c.after-2.ensures.1 at c.second_lent.ensures.follows, rw c.after-2.ensures.1 at c.second_lent.ensures.seconds) in record { follows = r.0; inside = r.1 } ]
