use Rattle.std.proofs.lemmas.Result.{err_from_is_err_and}
use Rattle.walk.proofs.Rows.{before_tail}
use Rattle.walk.proofs.Walking.{both-is, none-of, some-of, entry-idle, entry-refused, entry-wait, entry_other, entry_more, all_start, all-lost, all_found, all-over, world-of, seek-refused, seek-filled, few-entries, stands-kept, lists-kept, room-kept, room-tail, stands-tail, lists_filled}
use Prim.Native.Nat.{◌<◌}
use mathlib.Core.Path.{◌≡◌, refl, sym, ◌∙◌}
use Prim.Native.Nat.{◌≤◌, ◌<◌}
use native.Mathlib.Omega.{arith}
use borrow.Author.Rules.{rules}
use lib.ListN.{length, set, length-set}
use Rattle.walk.proofs.+seek_try_all_try_entry.Goals as goal

pub seek-list_here-requires : goal.seek-list_here-requires
seek-list_here-requires t c =
    let p = c.requires.1.states in let q = c.requires.1.listings in let r = c.requires.1.entries in ((c.requires.0.0, c.requires.0.1, world-of c.requires.0.2 c.requires.0.3), c.told-listings 0 (omega arith))

pub seek-try_all-requires : goal.seek-try_all-requires
seek-try_all-requires t c =
    let p = c.requires.1.states in let q = c.requires.1.listings in let r = c.requires.1.entries in let f = seek-filled c.requires.0.0 c.requires.0.1 _ _ _ (c.list_here.ensures c.requires.0.0 c.requires.0.1 (world-of c.requires.0.2 c.requires.0.3)) c.in-Ok.is in (omega arith, ((c.requires.0.0, c.requires.0.1, f.entries, c.requires.0.2, c.requires.0.3, lists_filled c.args.listings.now (omega arith) f, f.count-is), room-kept refl (simp length-set) refl c.requires.1))

pub seek-returns-in-Err : goal.seek-returns-in-Err
seek-returns-in-Err t c =
    (λ m s h st. seek-refused m c.args.search.name.now s c.args.more _ _ _ _ (c.list_here.ensures m s (world-of h st)) c.in-Err.is, refl)

pub seek-returns-in-Ok : goal.seek-returns-in-Ok
seek-returns-in-Ok t c = (
  λ m s h st.
      let f = seek-filled m s _ _ _ (c.list_here.ensures m s (world-of h st)) c.in-Ok.is in
      c.try_all.ensures.0 m s f.entries h st (lists_filled c.args.listings.now (let q = c.requires.1.listings in omega arith) f) f.count-is,
  c.try_all.ensures.1,
)

pub try_all-loop-e-init : goal.try_all-loop-e-init
try_all-loop-e-init t c =
    (refl, refl, refl, refl, refl, λ m s es h st l i. all_start m c.args.search.name.now s c.args.more)

pub try_all-try_entry-tried-requires : goal.try_all-try_entry-tried-requires
try_all-try_entry-tried-requires t c =
    let a = c.requires.0.6 in
    (omega arith, ((c.requires.0.0, c.requires.0.1, c.requires.0.2, c.requires.0.3, stands-kept c.loop-e.invariant.0 c.requires.0.4, lists-kept c.loop-e.invariant.1 c.requires.0.5, omega arith), room-kept c.loop-e.invariant.2 c.loop-e.invariant.3 c.loop-e.invariant.4 c.requires.1))

pub try_all-returns-in-Ok : goal.try_all-returns-in-Ok
try_all-returns-in-Ok t c = (
  λ m s es h st l i.
      let j : c.loop-e.e < length es = omega arith in
      let u = c.try_entry-tried.ensures.0 m s es h (stands-kept c.loop-e.invariant.0 st) (lists-kept c.loop-e.invariant.1 l) j in
      all_found m c.args.search.name.now s es l.listed c.args.more c.loop-e.e c.loop-e.missed (c.loop-e.invariant.5 m s es h st l i) _ _ _ j u c.in-Ok.is,
  c.try_entry-tried.ensures.1 ∙ c.loop-e.invariant.0,
)

pub try_all-loop-e-preserved : goal.try_all-loop-e-preserved
try_all-loop-e-preserved t c = (
  c.try_entry-tried.ensures.1 ∙ c.loop-e.invariant.0,
  c.try_entry-tried.ensures.2 ∙ c.loop-e.invariant.1,
  search rules,
  search rules,
  search rules,
  λ m s es h st l i.
      let j : c.loop-e.e < length es = omega arith in
      let u = c.try_entry-tried.ensures.0 m s es h (stands-kept c.loop-e.invariant.0 st) (lists-kept c.loop-e.invariant.1 l) j in
      all-lost m c.args.search.name.now s es l.listed c.args.more c.loop-e.e c.loop-e.missed (c.loop-e.invariant.5 m s es h st l i) _ _ _ _ _ j u c.in-Err.is c.and-missed.ensures,
)

pub try_all-returns : goal.try_all-returns
try_all-returns t c = (
  λ m s es h st l i.
      let j : length es ≤ c.loop-e.e = omega arith in
      all-over m c.args.search.name.now s es l.listed c.args.more c.loop-e.e c.loop-e.missed (c.loop-e.invariant.5 m s es h st l i) _ _ j,
  c.loop-e.invariant.0,
)

pub try_entry-take_at-taken-requires : goal.try_entry-take_at-taken-requires
try_entry-take_at-taken-requires t c =
    let p = c.requires.1.states in let q = c.requires.1.listings in let r = c.requires.1.entries in ((c.requires.0.0, c.requires.0.1, c.requires.0.2, c.requires.0.3, c.requires.0.4, c.requires.0.5, c.requires.0.6), omega arith)

pub try_entry-overflow_cast-run : goal.try_entry-overflow_cast-run
try_entry-overflow_cast-run t c =
    let a = few-entries c.requires.0.5 in let b = c.requires.0.6 in omega arith

pub try_entry-bounds-run-0 : goal.try_entry-bounds-run-0
try_entry-bounds-run-0 t c =
    let p = c.requires.1.states in let q = c.requires.1.listings in let r = c.requires.1.entries in omega arith

pub try_entry-returns-then-wait : goal.try_entry-returns-then-wait
try_entry-returns-then-wait t c =
    (λ m s es h st l i. let t = c.take_at-taken.ensures m s es h st l i in let o : c.args.more ≡ 0 = omega arith in let p = c.requires.1.states in let q = c.requires.1.listings in let r = c.requires.1.entries in entry-wait c.args.more c.args.run.now t _ (both-is c.in-Ok.is (some-of _ _ _ (sym c.ok_or.ensures.value ∙ c.in_ok-wait.was))) o c.if-wait.true (omega arith), (c.take_at-taken.ensures c.requires.0.0 c.requires.0.1 c.requires.0.2 c.requires.0.3 c.requires.0.4 c.requires.0.5 c.requires.0.6).stays, refl)

pub try_entry-returns-then-more-eq0 : goal.try_entry-returns-then-more-eq0
try_entry-returns-then-more-eq0 t c =
    (λ m s es h st l i. let t = c.take_at-taken.ensures m s es h st l i in let o : c.args.more ≡ 0 = omega arith in entry_other c.args.more c.args.run.now t _ (both-is c.in-Ok.is (some-of _ _ _ (sym c.ok_or.ensures.value ∙ c.in_ok-wait.was))) o c.if-wait.false, (c.take_at-taken.ensures c.requires.0.0 c.requires.0.1 c.requires.0.2 c.requires.0.3 c.requires.0.4 c.requires.0.5 c.requires.0.6).stays, refl)

pub try_entry-slice_bounds-seek-count : goal.try_entry-slice_bounds-seek-count
try_entry-slice_bounds-seek-count t c =
    let p = c.requires.1.states in let q = c.requires.1.listings in let r = c.requires.1.entries in omega arith

pub try_entry-slice_bounds-seek-start : goal.try_entry-slice_bounds-seek-start
try_entry-slice_bounds-seek-start t c =
    let p = c.requires.1.states in let q = c.requires.1.listings in let r = c.requires.1.entries in omega arith

pub try_entry-slice_bounds-seek-end : goal.try_entry-slice_bounds-seek-end
try_entry-slice_bounds-seek-end t c =
    let p = c.requires.1.states in let q = c.requires.1.listings in let r = c.requires.1.entries in omega arith

pub try_entry-seek-requires : goal.try_entry-seek-requires
try_entry-seek-requires t c =
    let p = c.requires.1.states in let q = c.requires.1.listings in let r = c.requires.1.entries in let t = c.take_at-taken.ensures c.requires.0.0 c.requires.0.1 c.requires.0.2 c.requires.0.3 c.requires.0.4 c.requires.0.5 c.requires.0.6 in
    let o : 1 ≤ c.args.more = omega arith in
    (omega arith, ((c.requires.0.0, t.after, c.requires.0.3, stands-tail t _ (both-is c.in-Ok.is (some-of _ _ _ (sym c.ok_or.ensures.value ∙ c.in_ok-wait.was)))), room-tail c.args.more c.args.states.now c.args.listings.now c.args.run.now c.take_at-taken.new.states (set c.args.run.now 0 c.args.e) (omega arith) (simp length-set) o c.requires.1))

pub try_entry-returns-in_err-wait : goal.try_entry-returns-in_err-wait
try_entry-returns-in_err-wait t c =
    let p = err_from_is_err_and c.from_residual.result c.from_residual.ensures.1 in
    let q = none-of _ _ _ (sym c.ok_or.ensures.value ∙ c.in_err-wait.was) in
    (λ m s es h st l i. let t = c.take_at-taken.ensures m s es h st l i in rw (p.1, p.2, q.1) (entry-idle c.args.more c.args.run.now t (both-is c.in-Ok.is q.0)), (c.take_at-taken.ensures c.requires.0.0 c.requires.0.1 c.requires.0.2 c.requires.0.3 c.requires.0.4 c.requires.0.5 c.requires.0.6).stays, refl)

pub try_entry-returns-in_default : goal.try_entry-returns-in_default
try_entry-returns-in_default t c =
    (λ m s es h st l i. let t = c.take_at-taken.ensures m s es h st l i in entry-refused c.args.more c.args.run.now t c.in_default.is, (c.take_at-taken.ensures c.requires.0.0 c.requires.0.1 c.requires.0.2 c.requires.0.3 c.requires.0.4 c.requires.0.5 c.requires.0.6).stays, refl)

pub try_entry-shape_of-states : goal.try_entry-shape_of-states
try_entry-shape_of-states t c =
    omega arith

pub try_entry-shape_of-run : goal.try_entry-shape_of-run
try_entry-shape_of-run t c =
    let b : length (set c.args.run.now 0 c.args.e) ≡ length c.args.run.now = simp length-set in omega arith

pub try_entry-returns : goal.try_entry-returns
try_entry-returns t c = (
  λ m s es h st l i. let t = c.take_at-taken.ensures m s es h st l i in let p = c.requires.1.states in let q = c.requires.1.listings in let r = c.requires.1.entries in let o : 1 ≤ c.args.more = omega arith in
      entry_more c.args.more c.args.run.now t _ (both-is c.in-Ok.is (some-of _ _ _ (sym c.ok_or.ensures.value ∙ c.in_ok-wait.was))) _ _ o (omega arith) (c.seek.ensures.0 m t.after h (stands-tail t _ (both-is c.in-Ok.is (some-of _ _ _ (sym c.ok_or.ensures.value ∙ c.in_ok-wait.was))))),
  before_tail c.take_at-taken.new.states c.seek.new.states (let p = c.requires.1.states in omega arith) ∙ (c.take_at-taken.ensures c.requires.0.0 c.requires.0.1 c.requires.0.2 c.requires.0.3 c.requires.0.4 c.requires.0.5 c.requires.0.6).stays,
  before_tail c.args.listings.now c.seek.new.listings (let p = c.requires.1.listings in omega arith),
)
