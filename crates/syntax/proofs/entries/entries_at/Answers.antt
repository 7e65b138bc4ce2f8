-- `entries_at` meets its contract: each return is a law of Enclosed.antt.
use Rattle.grammar.proofs.Follows.{same, isnt}
use Rattle.syntax.proofs.Answers.{raised}
use Rattle.syntax.proofs.Enclosed.{brackets-stray, brackets-fault, brackets-one, brackets-open, brackets-ready, brackets-fault-second, brackets-open-second, brackets-two}
use native.Mathlib.Omega.{arith}
use Rattle.syntax.proofs.entries.entries_at.Goals as goal

pub returns-then-peek-ne91 : goal.returns-then-peek-ne91
returns-then-peek-ne91 g c =
    let r = brackets-stray g.E.EntryAt.which c.args.toks.now c.args.nodes.now c.args.at c.args.used c.requires.inside (isnt c.peek.ensures c.if-peek-ne91.true) in record { follows = r.0; parsed = r.1 }

pub returns-then-t-eq93 : goal.returns-then-t-eq93
returns-then-t-eq93 g c =
    let r = brackets-one g.E.EntryAt.which c.args.toks.now c.args.nodes.now c.args.at c.args.used (same c.peek.ensures c.if-peek-ne91.false) _ (c.read_at.ensures.follows, c.read_at.ensures.parsed) c.in_ok-n.was (same c.peek-t.ensures c.if-t-eq93.true) in record { follows = r.0; parsed = r.1 }

pub returns-then-t-ne44 : goal.returns-then-t-ne44
returns-then-t-ne44 g c =
    let r = brackets-open g.E.EntryAt.which c.args.toks.now c.args.nodes.now c.args.at c.args.used (same c.peek.ensures c.if-peek-ne91.false) _ (c.read_at.ensures.follows, c.read_at.ensures.parsed) c.in_ok-n.was (isnt c.peek-t.ensures c.if-t-eq93.false) (isnt c.peek-t.ensures c.if-t-ne44.true) in record { follows = r.0; parsed = r.1 }

pub returns-then-peek-ne93 : goal.returns-then-peek-ne93
returns-then-peek-ne93 g c =
    let r = brackets-open-second g.E.EntryAt.which c.args.toks.now c.args.nodes.now c.args.at c.args.used (same c.peek.ensures c.if-peek-ne91.false) _ (c.read_at.ensures.follows, c.read_at.ensures.parsed) c.in_ok-n.was (same c.peek-t.ensures c.if-t-ne44.false) _ (c.read_at-2.ensures.follows, c.read_at-2.ensures.parsed) c.in_ok-m.was (isnt c.peek-2.ensures c.if-peek-ne93.true) in record { follows = r.0; parsed = r.1 }

pub returns-in_err-n : goal.returns-in_err-n
returns-in_err-n g c =
    rw (raised c.from_residual.ensures.1) (let r = brackets-fault g.E.EntryAt.which c.args.toks.now c.args.nodes.now c.args.at c.args.used (same c.peek.ensures c.if-peek-ne91.false) _ (c.read_at.ensures.follows, c.read_at.ensures.parsed) c.in_err-n.was in record { follows = r.0; parsed = r.1 })

pub returns-in_err-m : goal.returns-in_err-m
returns-in_err-m g c =
    rw (raised c.from_residual-in_err-m.ensures.1) (let r = brackets-fault-second g.E.EntryAt.which c.args.toks.now c.args.nodes.now c.args.at c.args.used (same c.peek.ensures c.if-peek-ne91.false) _ (c.read_at.ensures.follows, c.read_at.ensures.parsed) c.in_ok-n.was (same c.peek-t.ensures c.if-t-ne44.false) _ (c.read_at-2.ensures.follows, c.read_at-2.ensures.parsed) c.in_err-m.was in record { follows = r.0; parsed = r.1 })

pub returns : goal.returns
returns g c =
    let ready = brackets-ready g.E.EntryAt.which c.args.toks.now c.args.nodes.now c.args.at c.args.used (same c.peek.ensures c.if-peek-ne91.false) _ (c.read_at.ensures.follows, c.read_at.ensures.parsed) c.in_ok-n.was c.requires (same c.peek-t.ensures c.if-t-ne44.false) in let r = brackets-two g.E.EntryAt.which c.args.toks.now c.args.nodes.now c.args.at c.args.used (same c.peek.ensures c.if-peek-ne91.false) _ (c.read_at.ensures.follows, c.read_at.ensures.parsed) c.in_ok-n.was (same c.peek-t.ensures c.if-t-ne44.false) _ (c.read_at-2.ensures.follows, c.read_at-2.ensures.parsed) c.in_ok-m.was (same c.peek-2.ensures c.if-peek-ne93.false) (record { written = c.pair.ensures; token-fits = omega arith; left-fits = omega (arith, ready.room, ready.inside, ready.few); third-fits = omega arith }) in record { follows = r.0; parsed = r.1 }
