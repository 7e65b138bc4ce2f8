-- A listed entry has processes that act, with continuations that fit, and its arguments and state are theirs. From the rules that derive it.
use mathlib.Core.Path.{◌≡◌, refl, subst}
use mathlib.Core.List.{List, [], ◌++◌, Memᴰ as In}
use mathlib.Core.Bool.{◌&&◌}
use mathlib.Core.Option.{some, Option-elim}
use Prim.Native.Nat.{ℕ, ◌+◌}
use native.Mathlib.Omega.{arith}
use borrow.Author.Tests.{ne_eqb}
use lib.IntN.{ℤ}
use lib.ListN.{length, length-append}
use Rattle.value.specs.Range.{InRange}
use Rattle.model.specs.Resolved
use Rattle.model.specs.Good.{Every, GoodPart, names_bound}
use Rattle.rules.specs.Offers as offers
use Rattle.rules.specs.Rules.{Change, unchanged, label, Alone as Lone, Offered, rule8, rule9, rule10, rule11, rule12, rule13, sends, takes, takes_bind, rule18, key, Moves, alone, together, Derivable}
use Rattle.rules.specs.Listing.{entry, entries}
use Rattle.rules.specs.Pairs.{pairs_after}
use Rattle.rules.specs.Step.{values_at, bound_by, sent_by, on_action, change_of, step, at_branch, one_acts, both_act, state_after}
use Rattle.rules.proofs.Places.{acting, meeting, branching}
use Rattle.rules.proofs.Moved.{offered-bound, offered-sent, offered-received}
use Rattle.rules.proofs.Listed.{listed}
use Rattle.machine.specs.Evaluate.{eval_action, eval_branch}
use Rattle.machine.specs.Offer.{Process, arguments_given, branches, offered}
use Rattle.machine.specs.State.{State, GoodProcess}
use Rattle.machine.specs.Machine.{branch_arguments, on_guard, entry_arguments, entry_state}
use Rattle.machine.specs.Questions.{BranchAt}
use Rattle.machine.proofs.Branches.{nth-map, nth-get, guard-is, writes}
use Rattle.machine.proofs.Everys.{every-nth, every_append}
use Rattle.machine.proofs.Offering.{comes}
use Rattle.machine.proofs.Ranges.{GoodOffer, action-good}
use Rattle.machine.proofs.Bound.{names-bound, label-action, BoundGood, alone-bound, accepted-bound}
use Rattle.machine.proofs.Continues.{at-good}
use Rattle.step.specs.declared.Moving.{Moving}
use Rattle.step.specs.Enter.{Lent, Fit, GoodNew, locals_of, changed, entering, AloneEntry, both_entering, Side, sent, received, HandEntry, Answers, Taken}

offered-change : {lit : List offers.Pair} {g : offers.Guard} {a : offers.Action} {r q : ℕ} {n : Change} {vs : List ℤ} → Offered lit g (label a r q n vs) → on_action unchanged change_of g ≡ change_of a
unfolding on_action
offered-change rule8 = refl
offered-change rule9 = refl
offered-change rule10 = refl
offered-change (rule11 x h m) = refl
offered-change (rule12 h m) = refl
offered-change (rule13 f) = refl
offered-change sends = refl
offered-change takes = refl
offered-change (takes_bind x h e) = refl
offered-change (rule18 f) = offered-change f

new-good : (m : Resolved.Model) (a : offers.Action) → GoodOffer m a → GoodNew m (change_of a)
unfolding GoodOffer GoodNew change_of
new-good m offers.wait h = tt
new-good m (offers.launch x) h = h
new-good m (offers.kill x) h = h
new-good m (offers.receive w) h = tt
new-good m (offers.bind w) h = tt
new-good m (offers.check w) h = tt
new-good m (offers.send x) h = tt
new-good m (offers.take w) h = tt
new-good m (offers.take_bind w) h = tt

action-none : (a : offers.Action) → bound_by [] a ≡ []
unfolding bound_by
action-none offers.wait = refl
action-none (offers.launch x) = refl
action-none (offers.kill x) = refl
action-none (offers.receive w) = refl
action-none (offers.bind w) = refl
action-none (offers.check w) = refl
action-none (offers.send x) = refl
action-none (offers.take w) = refl
action-none (offers.take_bind w) = refl

-- no value, no name bound
none-bound : (g : offers.Guard) → on_action [] (bound_by []) g ≡ []
unfolding on_action
none-bound (offers.bare a r) = action-none a
none-bound (offers.opened a r) = action-none a
none-bound offers.shut = refl

module _ (m : Resolved.Model) (s : State) where
  branch-arguments : {i j : ℕ} {p : Process} {b : Resolved.Branch} (vs : List ℤ) → BranchAt m s.processes i j p b → branch_arguments m s i j vs ≡ arguments_given (p.locals ++ vs) b.next
  unfolding branch_arguments Option-elim
  branch-arguments vs h = rw (nth-get h.place, nth-get h.branch)

  on-guard : {i j : ℕ} {p : Process} {b : Resolved.Branch} {g : offers.Guard} (f : offers.Action → List ℤ) → BranchAt m s.processes i j p b → eval_branch p.locals b ≡ some g → on_guard m s i j f ≡ on_action [] f g
  unfolding on_guard branches Option-elim
  on-guard {p = p} {b = b} f h e = rw (nth-get h.place, nth-get (nth-map (offered m p.locals) h.branch), guard-is m p.locals b e)

  -- ---- one process
  module _ (c i j k n q : ℕ) (p : Process) (b : Resolved.Branch) (g : offers.Guard) (d : c ≡ 7 → ⊥) (h : BranchAt m s.processes i j p b) (e : eval_branch p.locals b ≡ some g) where
    pub alone-arguments : entry_arguments m s (key c i j k n q) ≡ arguments_given (locals_of p (values_at s.pairs q) g) b.next
    unfolding entry_arguments locals_of
    alone-arguments = rw (ne_eqb c 7 d, on-guard (bound_by (values_at s.pairs q)) h e) (branch-arguments (on_action [] (bound_by (values_at s.pairs q)) g) h)

    pub alone-state : entry_state m s (key c i j k n q) ≡ changed (entering m s i (locals_of p (values_at s.pairs q) g) b.next) (on_action unchanged change_of g)
    unfolding entry_state step at_branch one_acts state_after branches offered Option-elim changed entering locals_of
    alone-state = rw (nth-get h.place, nth-get (nth-map (offered m p.locals) h.branch), ne_eqb c 7 d, guard-is m p.locals b e) refl

  -- ---- a handshake
  module _ (i j k n q : ℕ) (x y : Side) (h : BranchAt m s.processes i j x.process x.branch) (e : eval_branch x.process.locals x.branch ≡ some x.guard)
      (h' : BranchAt m s.processes k n y.process y.branch) (e' : eval_branch y.process.locals y.branch ≡ some y.guard) where
    pub hand-arguments : entry_arguments m s (key 7 i j k n q) ≡ arguments_given (sent x) x.branch.next && arguments_given (received x y) y.branch.next
    unfolding entry_arguments locals_of sent received
    hand-arguments = rw (none-bound x.guard, on-guard sent_by h e, on-guard (bound_by (on_action [] sent_by x.guard)) h' e', branch-arguments [] h, branch-arguments (on_action [] (bound_by (on_action [] sent_by x.guard)) y.guard) h') refl

    pub hand-state : entry_state m s (key 7 i j k n q) ≡ both_entering m s i (sent x) x.branch.next k (received x y) y.branch.next
    unfolding entry_state step at_branch both_act state_after pairs_after branches offered Option-elim both_entering locals_of sent received
    hand-state =
        rw (none-bound x.guard, nth-get h.place, nth-get (nth-map (offered m x.process.locals) h.branch), nth-get h'.place, nth-get (nth-map (offered m y.process.locals) h'.branch), guard-is m x.process.locals x.branch e, guard-is m y.process.locals y.branch e') refl

-- ---- listed entries
module _ (d : Moving) {m : Resolved.Model} {s : State} (lent : Lent d.tables.nodes.now d.tables.roots.now d.tables.scopes.now d.tables.root d.tables.variables d.state.now m s) where
  fit_of : {i j : ℕ} {p : Process} {b : Resolved.Branch} (a : offers.Action) (vs : List ℤ) → BranchAt m s.processes i j p b → eval_action p.locals b.action ≡ some a → BoundGood a vs → Fit m (p.locals ++ vs) b.next
  fit_of {p = p} {b = b} a vs h e g =
      let process = every-nth (GoodProcess m) lent.stands.state.processes h.place in
      let branch = at-good m lent.stands.good process h in
      let k = names-bound p.locals a b.action e in
      let l : length p.locals + names_bound b.action ≡ length (p.locals ++ vs) = omega (arith, k, g.number, length-append p.locals vs) in
      record { values = every_append InRange p.locals vs process.values g.values; parts = subst (λ (k : ℕ). Every (GoodPart m k) b.next) l branch.next }

  offer-good : {i j : ℕ} {p : Process} {b : Resolved.Branch} (a : offers.Action) → BranchAt m s.processes i j p b → eval_action p.locals b.action ≡ some a → GoodOffer m a
  offer-good {p = p} {b = b} a h e =
      let process = every-nth (GoodProcess m) lent.stands.state.processes h.place in
      action-good m p.locals process.values (length p.locals) b.action a (at-good m lent.stands.good process h).action e

  pub record AloneListed (i j q : ℕ) : Type 0 where
    pub process : Process
    pub branch : Resolved.Branch
    pub guard : offers.Guard
    pub entry : AloneEntry d i j q m s process branch guard

  pub record HandListed (i j k n : ℕ) : Type 0 where
    pub sender : Side
    pub receiver : Side
    pub entry : HandEntry d i j k n m s sender receiver

  alone-moves : {c i j k n q w : ℕ} {d : Change} {ps : List Process} → (c ≡ 7 → ⊥) → Moves (branches m) s (key c i j k n q) w d ps → AloneListed i j q
  unfolding locals_of
  alone-moves f (together h) = absurd (f refl)
  alone-moves {q = q} f (alone {a = a} {vs = vs} al act) =
      let t = acting (branches m) s.pairs act in
      let b = branching t.chooses in
      let w = writes m t.at b.at b.offered in
      let e = label-action w.offered (comes t.proc.locals w.branch w.guard w.evaluates) in
      let v : on_action [] (bound_by (values_at s.pairs q)) w.guard ≡ vs = offered-bound w.offered al in
      record {
        process = t.proc;
        branch = w.branch;
        guard = w.guard;
        entry = record {
          lent = lent;
          at = w.at;
          evaluates = w.evaluates;
          fit = rw v (fit_of a vs w.at e (alone-bound m lent.stands.state.pairs al w.offered));
          good = rw (offered-change w.offered) (new-good m a (offer-good a w.at e));
        };
      }

  hand-moves : {i j k n q w : ℕ} {d : Change} {ps : List Process} → Moves (branches m) s (key 7 i j k n q) w d ps → HandListed i j k n
  unfolding locals_of sent received GoodOffer Every
  hand-moves (alone al act) = absurd (no-hand al)
    where
      no-hand : {a : offers.Action} → Lone a 7 → ⊥
      no-hand l = elim l [ ]
  hand-moves (together {i = i} {j = j} {k = k} {m = n} h) =
      let t = meeting (branches m) s.pairs h in
      let b = branching t.sender.chooses in
      let b' = branching t.receiver.chooses in
      let v = writes m t.sender.at b.at b.offered in
      let w = writes m t.receiver.at b'.at b'.offered in
      let e = label-action v.offered (comes t.sender.proc.locals v.branch v.guard v.evaluates) in
      let e' = label-action w.offered (comes t.receiver.proc.locals w.branch w.guard w.evaluates) in
      let x : Side = record { process = t.sender.proc; branch = v.branch; guard = v.guard } in
      let y : Side = record { process = t.receiver.proc; branch = w.branch; guard = w.guard } in
      let o : on_action [] sent_by v.guard ≡ t.pair.values = offered-sent v.offered in
      let u : on_action [] (bound_by t.pair.values) w.guard ≡ t.values = offered-received w.offered t.accepts in
      record {
        sender = x;
        receiver = y;
        entry = record {
          sender = record { root = d.tables.root; variables = d.tables.variables; lent = lent; at = v.at; evaluates = v.evaluates };
          receiver = record { root = d.tables.root; variables = d.tables.variables; lent = lent; at = w.at; evaluates = w.evaluates };
          defines = lent.represents.definition;
          apart = t.apart;
          sender-fit = rw (none-bound v.guard) (fit_of (offers.send t.pair) [] v.at e (record { number = refl; values = tt }));
          receiver-fit = rw (o, u) (fit_of t.action t.values w.at e' (accepted-bound m (offer-good (offers.send t.pair) v.at e) t.accepts));
        };
      }

  pub alone-listed : (c i j k n q w : ℕ) → (c ≡ 7 → ⊥) → In (entry (key c i j k n q) w) (entries (branches m) s) → AloneListed i j q
  unfolding Derivable
  alone-listed c i j k n q w f h = alone-moves f ((listed (branches m) s (key c i j k n q) w).0 h).2

  pub hand-listed : (i j k n q w : ℕ) → In (entry (key 7 i j k n q) w) (entries (branches m) s) → HandListed i j k n
  unfolding Derivable
  hand-listed i j k n q w h = hand-moves ((listed (branches m) s (key 7 i j k n q) w).0 h).2

  -- the answer for the entry is that for its processes
  pub alone-answered : (c i j k n q : ℕ) → (c ≡ 7 → ⊥) → (l : AloneListed i j q) (a : Taken) (zs' : List ℤ)
      → Answers (arguments_given (locals_of l.process (values_at s.pairs q) l.guard) l.branch.next) s (changed (entering m s i (locals_of l.process (values_at s.pairs q) l.guard) l.branch.next) (on_action unchanged change_of l.guard)) a zs'
      → Answers (entry_arguments m s (key c i j k n q)) s (entry_state m s (key c i j k n q)) a zs'
  alone-answered c i j k n q f l a zs' x =
      rw (alone-arguments m s c i j k n q l.process l.branch l.guard f l.entry.at l.entry.evaluates, alone-state m s c i j k n q l.process l.branch l.guard f l.entry.at l.entry.evaluates) x

  pub hand-answered : (c i j k n q : ℕ) → c ≡ 7 → (l : HandListed i j k n) (a : Taken) (zs' : List ℤ)
      → Answers (arguments_given (sent l.sender) l.sender.branch.next && arguments_given (received l.sender l.receiver) l.receiver.branch.next) s (both_entering m s i (sent l.sender) l.sender.branch.next k (received l.sender l.receiver) l.receiver.branch.next) a zs'
      → Answers (entry_arguments m s (key c i j k n q)) s (entry_state m s (key c i j k n q)) a zs'
  hand-answered c i j k n q f l a zs' x =
      rw (f, hand-arguments m s i j k n q l.sender l.receiver l.entry.sender.at l.entry.sender.evaluates l.entry.receiver.at l.entry.receiver.evaluates, hand-state m s i j k n q l.sender l.receiver l.entry.sender.at l.entry.sender.evaluates l.entry.receiver.at l.entry.receiver.evaluates) x
