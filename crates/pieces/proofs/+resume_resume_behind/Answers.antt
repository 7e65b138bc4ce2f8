use Rattle.std.proofs.lemmas.Result.{err_from_is_err_and}
use Rattle.walk.proofs.Rows.{before_tail}
use Rattle.walk.proofs.Walking.{world-of, seek-filled, stands-kept, lists-kept, room-kept, room-tail, stands-tail, lists_filled}
use Rattle.pieces.proofs.Resuming.{never-refused, retaken, run-below, behind-over, behind-follows, behind-again, resume-follows, resume-stops, resume-passes, spends-as, spends-so}
use Prim.Native.Nat.{◌+◌, ◌≤◌}
use mathlib.Core.Path.{refl, ◌∙◌}
use native.Mathlib.Omega.{arith}
use borrow.Author.Rules.{rules}
use lib.ListN.{length, length-set}
use Rattle.pieces.proofs.+resume_resume_behind.Goals as goal

pub resume-list_here-listed-requires : goal.resume-list_here-listed-requires
resume-list_here-listed-requires t c =
    let q = c.requires.1.listings in ((c.requires.0.0, c.requires.0.1, world-of c.requires.0.2 c.requires.0.3), c.told-listings 0 (omega arith))

pub resume-returns-in_default : goal.resume-returns-in_default
resume-returns-in_default t c =
    let r = c.requires.1.entries in
    (λ m s h st f. absurd (never-refused m c.args.sought.search.name.now s c.args.sought.named c.args.more c.args.run.now _ _ _ (omega arith) (c.list_here-listed.ensures m s (world-of h st)) c.in_default.is f), refl)

pub resume-resume_behind-requires : goal.resume-resume_behind-requires
resume-resume_behind-requires t c =
    let q = c.requires.1.listings in
    let r = c.requires.1.entries in
    let f = seek-filled c.requires.0.0 c.requires.0.1 _ _ _ (c.list_here-listed.ensures c.requires.0.0 c.requires.0.1 (world-of c.requires.0.2 c.requires.0.3)) c.in-Ok.is in
    (omega arith, ((c.requires.0.0, c.requires.0.1, f.entries, c.requires.0.2, c.requires.0.3, lists_filled c.args.listings.now (omega arith) f, resume-follows c.requires.0.0 c.args.sought.search.name.now c.requires.0.1 c.args.sought.named c.args.left c.args.more c.args.run.now (omega arith) c.from-e.result c.from-e.ensures c.requires.0.4), room-kept refl (simp length-set) refl c.requires.1, c.from-e.ensures))

pub resume-returns-in_err-budget : goal.resume-returns-in_err-budget
resume-returns-in_err-budget t c =
    let p = err_from_is_err_and c.from_residual.result c.from_residual.ensures.1 in
    let q = c.requires.1.listings in
    let r = c.requires.1.entries in (
      λ m s h st f.
          let g = seek-filled m s _ _ _ (c.list_here-listed.ensures m s (world-of h st)) c.in-Ok.is in
          let o : c.args.more + 1 ≤ length c.args.run.now = omega arith in
          let u = c.resume_behind.ensures.0 m s g.entries h st (lists_filled c.args.listings.now (omega arith) g) (resume-follows m c.args.sought.search.name.now s c.args.sought.named c.args.left c.args.more c.args.run.now o c.from-e.result c.from-e.ensures f) in
          rw (p.1, p.2) (resume-stops m c.args.sought.search.name.now s c.args.sought.named c.args.left c.args.more c.args.run.now o c.from-e.result c.from-e.ensures _ _ _ (spends-so c.in_err-budget.was u)),
      c.resume_behind.ensures.1,
    )

pub resume-try_rest-requires : goal.resume-try_rest-requires
resume-try_rest-requires t c =
    let q = c.requires.1.listings in
    let f = seek-filled c.requires.0.0 c.requires.0.1 _ _ _ (c.list_here-listed.ensures c.requires.0.0 c.requires.0.1 (world-of c.requires.0.2 c.requires.0.3)) c.in-Ok.is in
    ((c.requires.0.0, c.requires.0.1, f.entries, c.requires.0.2, stands-kept c.resume_behind.ensures.1 c.requires.0.3, lists-kept c.resume_behind.ensures.2 (lists_filled c.args.listings.now (omega arith) f), f.count-is), room-kept (search rules) (search rules) (search rules) c.requires.1)

pub resume-returns : goal.resume-returns
resume-returns t c =
    let q = c.requires.1.listings in
    let r = c.requires.1.entries in (
      λ m s h st f.
          let g = seek-filled m s _ _ _ (c.list_here-listed.ensures m s (world-of h st)) c.in-Ok.is in
          let k = lists_filled c.args.listings.now (omega arith) g in
          let o : c.args.more + 1 ≤ length c.args.run.now = omega arith in
          let u = c.resume_behind.ensures.0 m s g.entries h st k (resume-follows m c.args.sought.search.name.now s c.args.sought.named c.args.left c.args.more c.args.run.now o c.from-e.result c.from-e.ensures f) in
          spends-as (resume-passes m c.args.sought.search.name.now s c.args.sought.named c.args.left c.args.more c.args.run.now o c.from-e.result c.from-e.ensures _ _ _ (spends-so c.in_ok-budget.was u))
          (c.try_rest.ensures.0 m s g.entries h (stands-kept c.resume_behind.ensures.1 st) (lists-kept c.resume_behind.ensures.2 k) g.count-is),
      c.try_rest.ensures.1 ∙ c.resume_behind.ensures.1,
    )

pub resume_behind-returns-then-more-eq0 : goal.resume_behind-returns-then-more-eq0
resume_behind-returns-then-more-eq0 t c =
    (λ m s es h st l f. behind-over m c.args.sought.search.name.now s c.args.sought.named c.args.left c.args.e c.args.more c.args.run.now c.if-more-eq0.true, refl, refl)

pub resume_behind-take_at-requires : goal.resume_behind-take_at-requires
resume_behind-take_at-requires t c =
    let p = c.requires.1.states in
    ((c.requires.0.0, c.requires.0.1, c.requires.0.2, c.requires.0.3, c.requires.0.4, c.requires.0.5, run-below c.requires.0.0 c.args.sought.search.name.now c.requires.0.1 c.requires.0.2 c.requires.0.5.listed c.args.sought.named c.args.e _ c.requires.0.6), omega arith)

pub resume_behind-resume-requires : goal.resume_behind-resume-requires
resume_behind-resume-requires t c =
    let p = c.requires.1.states in
    let q = c.requires.1.listings in
    let r = c.requires.1.entries in
    let o : 1 ≤ c.args.more = omega arith in
    let b = run-below c.requires.0.0 c.args.sought.search.name.now c.requires.0.1 c.requires.0.2 c.requires.0.5.listed c.args.sought.named c.args.e _ c.requires.0.6 in
    let u = c.take_at.ensures c.requires.0.0 c.requires.0.1 c.requires.0.2 c.requires.0.3 c.requires.0.4 c.requires.0.5 b in
    let k = retaken c.args.sought.named _ u c.requires.0.6 in
    (omega arith, ((c.requires.0.0, u.after, c.requires.0.3, stands-tail u k.0 k.1, behind-follows u c.args.sought.named k.0 k.1 c.args.more c.args.run.now o c.requires.0.6), room-tail c.args.more c.args.states.now c.args.listings.now c.args.run.now c.take_at.new.states c.args.run.now (omega arith) refl o c.requires.1))

pub resume_behind-returns : goal.resume_behind-returns
resume_behind-returns t c =
    let p = c.requires.1.states in
    let q = c.requires.1.listings in
    let r = c.requires.1.entries in
    let o : 1 ≤ c.args.more = omega arith in
    let below = run-below c.requires.0.0 c.args.sought.search.name.now c.requires.0.1 c.requires.0.2 c.requires.0.5.listed c.args.sought.named c.args.e _ c.requires.0.6 in (
      λ m s es h st l f.
          let b = run-below m c.args.sought.search.name.now s es l.listed c.args.sought.named c.args.e _ f in
          let u = c.take_at.ensures m s es h st l b in
          let k = retaken c.args.sought.named _ u f in
          behind-again u c.args.sought.named k.0 k.1 c.args.more c.args.run.now o c.args.left _ _ (omega arith) c.requires.2 (c.resume.ensures.0 m u.after h (stands-tail u k.0 k.1) (behind-follows u c.args.sought.named k.0 k.1 c.args.more c.args.run.now o f)),
      before_tail c.take_at.new.states c.resume.new.states (omega arith) ∙ (c.take_at.ensures c.requires.0.0 c.requires.0.1 c.requires.0.2 c.requires.0.3 c.requires.0.4 c.requires.0.5 below).stays,
      before_tail c.args.listings.now c.resume.new.listings (omega arith),
    )
