use Rattle.std.proofs.lemmas.Result.{err_from_is_err_and}
use Rattle.walk.proofs.Rows.{before_tail}
use Rattle.walk.proofs.Walking.{both-is, world-of, seek-filled, few-entries, stands-kept, lists-kept, room-kept, room-tail, stands-tail, lists_filled}
use Rattle.pieces.proofs.Resuming.{both-true, both-false, walks-as, entry-idle, entry-refused, entry_one, entry_more, rest-passes, rest-stops, rest_over, seek-refused, spends-as, spends-so}
use Prim.Native.Nat.{◌≤◌, ◌<◌}
use mathlib.Core.Path.{refl, ◌∙◌}
use native.Mathlib.Omega.{arith}
use borrow.Author.Rules.{rules}
use lib.ListN.{length, set, length-set}
use Rattle.pieces.proofs.+seek_try_rest_try_entry.Goals as goal
use Rattle.pieces.proofs.+seek_try_rest_try_entry.Goals.{try_entry-then-sought, try_entry-else-sought}

pub seek-list_here-requires : goal.seek-list_here-requires
seek-list_here-requires t c =
    let p = c.requires.1.states in let q = c.requires.1.listings in let r = c.requires.1.entries in ((c.requires.0.0, c.requires.0.1, world-of c.requires.0.2 c.requires.0.3), c.told-listings 0 (omega arith))

pub seek-try_rest-requires : goal.seek-try_rest-requires
seek-try_rest-requires t c =
    let p = c.requires.1.states in
    let q = c.requires.1.listings in
    let r = c.requires.1.entries in
    let f = seek-filled c.requires.0.0 c.requires.0.1 _ _ _ (c.list_here.ensures c.requires.0.0 c.requires.0.1 (world-of c.requires.0.2 c.requires.0.3)) c.in-Ok.is in
    (omega arith, ((c.requires.0.0, c.requires.0.1, f.entries, c.requires.0.2, c.requires.0.3, lists_filled c.args.listings.now (omega arith) f, f.count-is), room-kept refl (simp length-set) refl c.requires.1))

pub seek-returns-in-Err : goal.seek-returns-in-Err
seek-returns-in-Err t c =
    (λ m s h st. seek-refused m c.args.sought.search.name.now s c.args.sought.named c.args.left c.args.more _ _ _ _ (c.list_here.ensures m s (world-of h st)) c.in-Err.is, refl)

pub seek-returns-in-Ok : goal.seek-returns-in-Ok
seek-returns-in-Ok t c = (
  λ m s h st.
      let f = seek-filled m s _ _ _ (c.list_here.ensures m s (world-of h st)) c.in-Ok.is in
      c.try_rest.ensures.0 m s f.entries h st (lists_filled c.args.listings.now (let q = c.requires.1.listings in omega arith) f) f.count-is,
  c.try_rest.ensures.1,
)

pub try_entry-returns-in_default : goal.try_entry-returns-in_default
try_entry-returns-in_default t c =
    (λ m s es h st l i. entry-refused (c.take_at-taken.ensures m s es h st l i) c.args.sought.named c.args.left c.args.more _ c.in_default.is, (c.take_at-taken.ensures c.requires.0.0 c.requires.0.1 c.requires.0.2 c.requires.0.3 c.requires.0.4 c.requires.0.5 c.requires.0.6).stays, refl)

pub try_entry-returns-in_default-moved : goal.try_entry-returns-in_default-moved
try_entry-returns-in_default-moved t c =
    (λ m s es h st l i. entry-idle (c.take_at-taken.ensures m s es h st l i) c.args.sought.named c.args.left c.args.more _ (both-is c.in-Ok.is c.in_default-moved.is), (c.take_at-taken.ensures c.requires.0.0 c.requires.0.1 c.requires.0.2 c.requires.0.3 c.requires.0.4 c.requires.0.5 c.requires.0.6).stays, refl)

pub try_entry-overflow_cast-run : goal.try_entry-overflow_cast-run
try_entry-overflow_cast-run t c =
    let a = few-entries c.requires.0.5 in let b = c.requires.0.6 in omega arith

pub try_entry-returns-then-more-eq0 : goal.try_entry-returns-then-more-eq0
try_entry-returns-then-more-eq0 t c = (
  λ m s es h st l i.
      entry_one (c.take_at-taken.ensures m s es h st l i) c.args.sought.named _ (both-is c.in-Ok.is c.in-Some.is) c.args.left c.args.more c.args.run.now _ (omega arith) (let r = c.requires.1.entries in omega arith) (walks-as c.args.left (elim c.if-sought.branch [ try_entry-then-sought w ↦ both-true w.if-sought.true w.walk_run-is | try_entry-else-sought w ↦ both-false c.in-Some.wait w.if-sought.false w.walk_run-is ]) c.walk_run.ensures),
  (c.take_at-taken.ensures c.requires.0.0 c.requires.0.1 c.requires.0.2 c.requires.0.3 c.requires.0.4 c.requires.0.5 c.requires.0.6).stays,
  refl,
)

pub try_entry-seek-requires : goal.try_entry-seek-requires
try_entry-seek-requires t c =
    let p = c.requires.1.states in
    let q = c.requires.1.listings in
    let r = c.requires.1.entries in
    let o : 1 ≤ c.args.more = omega arith in
    let t = c.take_at-taken.ensures c.requires.0.0 c.requires.0.1 c.requires.0.2 c.requires.0.3 c.requires.0.4 c.requires.0.5 c.requires.0.6 in
    (omega arith, ((c.requires.0.0, t.after, c.requires.0.3, stands-tail t _ (both-is c.in-Ok.is c.in-Some.is)), room-tail c.args.more c.args.states.now c.args.listings.now c.args.run.now c.take_at-taken.new.states (set c.args.run.now 0 c.args.e) (omega arith) (simp length-set) o c.requires.1))

pub try_entry-returns : goal.try_entry-returns
try_entry-returns t c = (
  λ m s es h st l i.
      let t = c.take_at-taken.ensures m s es h st l i in
      let r = c.requires.1.entries in
      let q = both-is c.in-Ok.is c.in-Some.is in
      entry_more t c.args.sought.named _ q c.args.left c.args.more c.args.run.now _ _ (omega arith) (omega arith) (c.seek.ensures.0 m t.after h (stands-tail t _ q)),
  before_tail c.take_at-taken.new.states c.seek.new.states (let p = c.requires.1.states in omega arith) ∙ (c.take_at-taken.ensures c.requires.0.0 c.requires.0.1 c.requires.0.2 c.requires.0.3 c.requires.0.4 c.requires.0.5 c.requires.0.6).stays,
  before_tail c.args.listings.now c.seek.new.listings (let p = c.requires.1.listings in omega arith),
)

pub try_rest-loop-e-init : goal.try_rest-loop-e-init
try_rest-loop-e-init t c =
    (refl, refl, refl, refl, refl, λ m s es h st l i. refl)

pub try_rest-try_entry-requires : goal.try_rest-try_entry-requires
try_rest-try_entry-requires t c =
    let a = c.requires.0.6 in
    (omega arith, ((c.requires.0.0, c.requires.0.1, c.requires.0.2, c.requires.0.3, stands-kept c.loop-e.invariant.0 c.requires.0.4, lists-kept c.loop-e.invariant.1 c.requires.0.5, omega arith), room-kept c.loop-e.invariant.2 c.loop-e.invariant.3 c.loop-e.invariant.4 c.requires.1))

pub try_rest-returns-in_err-budget : goal.try_rest-returns-in_err-budget
try_rest-returns-in_err-budget t c =
    let p = err_from_is_err_and c.from_residual.result c.from_residual.ensures.1 in (
      λ m s es h st l i.
          let j : c.loop-e.e < length es = omega arith in
          let u = c.try_entry.ensures.0 m s es h (stands-kept c.loop-e.invariant.0 st) (lists-kept c.loop-e.invariant.1 l) j in
          rw (p.1, p.2) (spends-as (c.loop-e.invariant.5 m s es h st l i) (rest-stops m c.args.sought.search.name.now s es l.listed c.args.sought.named c.args.more c.loop-e.e c.loop-e.budget _ _ _ j (spends-so c.in_err-budget.was u))),
      c.try_entry.ensures.1 ∙ c.loop-e.invariant.0,
    )

pub try_rest-loop-e-preserved : goal.try_rest-loop-e-preserved
try_rest-loop-e-preserved t c = (
  c.try_entry.ensures.1 ∙ c.loop-e.invariant.0,
  c.try_entry.ensures.2 ∙ c.loop-e.invariant.1,
  search rules,
  search rules,
  search rules,
  λ m s es h st l i.
      let j : c.loop-e.e < length es = omega arith in
      let u = c.try_entry.ensures.0 m s es h (stands-kept c.loop-e.invariant.0 st) (lists-kept c.loop-e.invariant.1 l) j in
      c.loop-e.invariant.5 m s es h st l i ∙ rest-passes m c.args.sought.search.name.now s es l.listed c.args.sought.named c.args.more c.loop-e.e c.loop-e.budget _ _ _ j (spends-so c.in_ok-budget.was u),
)

pub try_rest-returns : goal.try_rest-returns
try_rest-returns t c = (
  λ m s es h st l i.
      let j : length es ≤ c.loop-e.e = omega arith in
      spends-as (c.loop-e.invariant.5 m s es h st l i) (rest_over m c.args.sought.search.name.now s es l.listed c.args.sought.named c.args.more c.loop-e.e c.loop-e.budget _ _ j),
  c.loop-e.invariant.0,
)
