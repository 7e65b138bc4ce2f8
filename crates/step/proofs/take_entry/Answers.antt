-- A listed entry has its processes: the kind tells how many act.
use mathlib.Core.Path.{◌≡◌, subst}
use mathlib.Core.Bool.{Bool}
use mathlib.Core.List.{List}
use lib.IntN.{ℤ}
use borrow.Author.Rules.{rules}
use Prim.Native.Nat.{ℕ}
use mathlib.Core.List.{Memᴰ as In}
use Rattle.rules.specs.Rules.{key}
use Rattle.rules.specs.Listing.{entry, entries}
use Rattle.machine.specs.Offer.{branches}
use Rattle.machine.specs.State.{State}
use Rattle.step.specs.Enter.{Taken, Answers}
use Rattle.step.proofs.Listed.{alone-listed, hand-listed, alone-answered, hand-answered}
use Rattle.step.proofs.take_entry.Goals as goal

-- what is answered of the state as it moves is so of the one that was lent
lent : {given : Bool} {s s' : State} {r : Taken} {zs zs' : List ℤ} → zs' ≡ zs → Answers given s s' r zs → Answers given s s' r zs'
lent e h = rw e h

pub take_handshake-requires : goal.take_handshake-requires
take_handshake-requires c =
    let m = c.requires.0 in
    let s = c.requires.1 in
    let w = c.requires.2 in
    let l = c.requires.3 in
    let h = c.requires.4 in
    let e = hand-listed _ l c.args.entry.place c.args.entry.branch c.args.entry.partner c.args.entry.pbranch c.args.entry.pair w (subst (λ (k : ℕ). In (entry (key k c.args.entry.place c.args.entry.branch c.args.entry.partner c.args.entry.pbranch c.args.entry.pair) w) (entries (branches m) s)) c.if-entry-eq-HANDSHAKE.true h) in
    (m, s, e.sender, e.receiver, e.entry)

pub returns-then-entry-eq-HANDSHAKE : goal.returns-then-entry-eq-HANDSHAKE
returns-then-entry-eq-HANDSHAKE c =
    λ m s w l h.
    let e = hand-listed _ l c.args.entry.place c.args.entry.branch c.args.entry.partner c.args.entry.pbranch c.args.entry.pair w (subst (λ (k : ℕ). In (entry (key k c.args.entry.place c.args.entry.branch c.args.entry.partner c.args.entry.pbranch c.args.entry.pair) w) (entries (branches m) s)) c.if-entry-eq-HANDSHAKE.true h) in
    lent (search rules) (hand-answered _ l c.args.entry.kind c.args.entry.place c.args.entry.branch c.args.entry.partner c.args.entry.pbranch c.args.entry.pair c.if-entry-eq-HANDSHAKE.true e _ _ (c.take_handshake.ensures.answers m s e.sender e.receiver e.entry))

pub take_alone-requires : goal.take_alone-requires
take_alone-requires c =
    let m = c.requires.0 in
    let s = c.requires.1 in
    let w = c.requires.2 in
    let l = c.requires.3 in
    let h = c.requires.4 in
    let e = alone-listed _ l c.args.entry.kind c.args.entry.place c.args.entry.branch c.args.entry.partner c.args.entry.pbranch c.args.entry.pair w c.if-entry-eq-HANDSHAKE.false h in
    (m, s, e.process, e.branch, e.guard, e.entry)

pub returns : goal.returns
returns c =
    λ m s w l h.
    let e = alone-listed _ l c.args.entry.kind c.args.entry.place c.args.entry.branch c.args.entry.partner c.args.entry.pbranch c.args.entry.pair w c.if-entry-eq-HANDSHAKE.false h in
    lent (search rules) (alone-answered _ l c.args.entry.kind c.args.entry.place c.args.entry.branch c.args.entry.partner c.args.entry.pbranch c.args.entry.pair c.if-entry-eq-HANDSHAKE.false e _ _ (c.take_alone.ensures.answers m s e.process e.branch e.guard e.entry))
