-- Over every list of calls, carrying a search on answers as note 10 says: of the beginning in force, with counts that add up, and at the end as one call at the state where it began. By induction on the
-- calls, from the laws of walking in pieces.
use mathlib.Core.Path.{◌≡◌, refl, sym, ap, ap₂, ◌∙◌, subst}
use mathlib.Core.List.Memᴰ.{head}
use mathlib.Core.List.{List, [], ◌∷◌, map, Memᴰ as In}
use mathlib.Core.Bool.{Bool, true, false, cond, ◌&&◌, ◌||◌}
use mathlib.Core.Option.{Option, none, some, Option-elim}
use Prim.Native.Nat.{ℕ, zero, suc, ◌+◌, ◌≤◌, ◌<◌}
use native.Mathlib.Omega.{arith}
use borrow.Author.Tests.{leb-true, leb-false, ne_eqb}
use lib.Dec.{eqb, leb}
use lib.ListN.{get_or, get_elem?}
use Rattle.token.specs.Token.{same_bytes}
use Rattle.token.proofs.Words.{same-is}
use Rattle.model.specs.Resolved
use Rattle.model.specs.Opening.{Opening, refused, opened, opening}
use Rattle.model.proofs.Members.{each_in, got_in}
use Rattle.profile.specs.Opening.{opening_steady}
use Rattle.rules.specs.Kind as kind
use Rattle.rules.specs.Rules.{Key, key}
use Rattle.rules.specs.Listing.{Entry, entry}
use Rattle.waitnames.specs.Names.{wait_token, branch_waits, sum_waits, all_waits, wait_names, wait_number}
use Rattle.waitnames.proofs.Names.{name-is}
use Rattle.waitnames.proofs.Numbered.{numbered, known_so}
use Rattle.runs.specs.Tree as tree
use Rattle.runs.specs.Walk as walk
use Rattle.runs.specs.Steps.{states}
use Rattle.runs.specs.Marks.{Mark, unmarked, going, carry_on}
use Rattle.runs.proofs.Marks.{Standing, standing-unmarked, Pieces, pieces}
use Rattle.machine.specs.Offer.{Process, branches_of}
use Rattle.machine.specs.State.{State}
use Rattle.machine.specs.Machine.{as_lent, Answer, no, found_as, Listed, entries_are, refused_with, listing, Turn, turn, taken, is_wait, is_sought, way_taken, way_of, moves_of, moves_to, is_depth, searched_as, searches, Search, search_from, moves_by, count_limit, progress_as, ended_as, carried_as, begins, carries_by}
use Rattle.machine.specs.Machine.{Held, Machine, closed, holding, on_state, on_clock, on_saves, on_search, Request, list', step', report', search', timed', run', save', return', forget', begin', carry', Ask, open', open_steady', on', acts, has_lengths, Call, opens, on_machine, asked_of_machine, calls, after}
use Rattle.machine.specs.Results.{Lent}
use Rattle.machine.specs.Pieces.{Beginning, carried_by, further, beginning_at, noted, heard, in_force, states_of, as_one_call, Told, none_begun, has_ended, too_far, goes_on, ends}
use Rattle.rules.proofs.Decides.{passes}
use Rattle.machine.proofs.Lent.{lent-so}
use Rattle.machine.proofs.Carries.{asked-not-1}

-- ---- the wait by its number is the wait by its name

got-is : {A : Type 0} (xs : List A) (n : ℕ) (d x : A) → get_elem? xs n ≡ some x → get_or xs n d ≡ x
got-is [] n d x e = let z : ◌≡◌ {A = ℕ} 0 1 = cc in absurd (omega arith)
got-is (y ∷ ys) zero d x e = cc
got-is (y ∷ ys) (suc n) d x e = got-is ys n d x e

module _ (m : Resolved.Model) (x : List ℕ) where
  -- a wait of a process is one of the model's
  wait-in : (p : Process) (j k : ℕ) (b : Resolved.Branch) → get_elem? (branches_of m p) j ≡ some b → b.action ≡ Resolved.wait k → In k (all_waits m)
  unfolding all_waits sum_waits branch_waits wait_token branches_of Option-elim
  wait-in p j k b e w = by (get_elem? m.sums p.sum) refl e
    where
      by : (o : Option Resolved.Sum) → get_elem? m.sums p.sum ≡ o → get_elem? (Option-elim o [] (λ s. s.branches)) j ≡ some b → In k (all_waits m)
      by none f g = let z : ◌≡◌ {A = ℕ} 0 1 = cc in absurd (omega arith)
      by (some s) f g =
          let h : In k (branch_waits b) = rw w (head refl) in
          each_in sum_waits m.sums (got_in m.sums p.sum f) (each_in branch_waits s.branches (got_in s.branches j g) h)

  module _ (none-such : (k : ℕ) → In k (all_waits m) → m.words k ≡ x → ⊥) where
    not-wait : (p : Process) (j : ℕ) (b : Resolved.Branch) → get_elem? (branches_of m p) j ≡ some b → (a : Resolved.Action) → b.action ≡ a → is_wait m x a ≡ false
    unfolding is_wait
    not-wait p j b e (Resolved.wait k) w = by (same_bytes (m.words k) x) refl
      where
        by : (c : Bool) → same_bytes (m.words k) x ≡ c → c ≡ false
        by true q = absurd (none-such k (wait-in p j k b e w) (same-is (m.words k) x q))
        by false q = refl
    not-wait p j b e (Resolved.launch c v) w = refl
    not-wait p j b e (Resolved.kill c v) w = refl
    not-wait p j b e (Resolved.receive c q) w = refl
    not-wait p j b e (Resolved.bind c q) w = refl
    not-wait p j b e (Resolved.check c q) w = refl
    not-wait p j b e (Resolved.hand_send c v) w = refl
    not-wait p j b e (Resolved.hand_receive c q) w = refl
    not-wait p j b e (Resolved.hand_bind c q) w = refl

    not-sought : (s : State) (k : Key) → is_sought m x s k ≡ false
    unfolding is_sought Option-elim
    not-sought s (key c i j k n q) = and-false (eqb c kind.wait) (process (get_elem? s.processes i))
      where
        and-false : (a : Bool) {b : Bool} → b ≡ false → (a && b) ≡ false
        and-false true e = e
        and-false false e = refl

        branch : (p : Process) (o : Option Resolved.Branch) → get_elem? (branches_of m p) j ≡ o → Option-elim o false (λ b. is_wait m x b.action) ≡ false
        branch p none e = refl
        branch p (some b) e = not-wait p j b e b.action refl

        process : (o : Option Process) → Option-elim o false (λ p. Option-elim (get_elem? (branches_of m p) j) false (λ b. is_wait m x b.action)) ≡ false
        process none = refl
        process (some p) = branch p (get_elem? (branches_of m p) j) refl

    way-unsought : (s : State) (es : List Entry) (e : Entry) → tree.way_unsought (way_of m [] s es e) ≡ way_of m x s es e
    unfolding way_of way_taken tree.way_unsought
    way-unsought s es (entry k w) = rw (not-sought s k) (by (eqb w 0) (eqb (taken m s es 0 k).answer.number 0))
      where
        t : Turn State
        t = taken m s es 0 k

        by : (a b : Bool) → tree.way_unsought (cond a tree.idle (cond b (tree.leads (is_sought m [] s k) t.machine) tree.refused)) ≡ cond a tree.idle (cond b (tree.leads false t.machine) tree.refused)
        by true b = refl
        by false true = refl
        by false false = refl

    all-unsought : (s : State) (es fs : List Entry) → map tree.way_unsought (map (way_of m [] s es) fs) ≡ map (way_of m x s es) fs
    all-unsought s es [] = refl
    all-unsought s es (f ∷ fs) = ap₂ (λ (a : tree.Way State) (b : List (tree.Way State)). a ∷ b) (way-unsought s es f) (all-unsought s es fs)

    moves-unsought : (s : State) → tree.unsought (moves_to m [] s) ≡ moves_to m x s
    unfolding moves_to moves_of tree.unsought
    moves-unsought s = by (listing m s)
      where
        by : (l : Listed) → tree.unsought (moves_of m [] s l) ≡ moves_of m x s l
        by (entries_are es) = ap (λ (ws : List (tree.Way State)). tree.lists ws) (all-unsought s es es)
        by (refused_with a) = refl

  moves-at : (s : State) → moves_by m (wait_number m x) s ≡ moves_to m x s
  unfolding moves_by
  moves-at s = by (wait_number m x) refl
    where
      by : (o : Option ℕ) → wait_number m x ≡ o → moves_by m o s ≡ moves_to m x s
      by none e = moves-unsought (λ k i w. (numbered m).unknown x e (k, i, w)) s
      by (some n) e =
          let k = known_so m x n e in
          let g : get_elem? (wait_names m) n ≡ some (m.words k.0) = ap (get_elem? (wait_names m)) (sym k.3) ∙ name-is m k.0 k.1 in
          ap (λ (y : List ℕ). moves_to m y s) (got-is (wait_names m) n [] (m.words k.0) g ∙ k.2)

  -- 02, note 10: what a search in pieces goes over is what one in one call does
  pub moves-same : moves_by m (wait_number m x) ≡ moves_to m x
  moves-same = λ i s. moves-at s i

-- ---- a beginning in force, and the search under way

abbrev ways_of : Beginning → State → tree.Listed State
ways_of b = moves_to b.model b.name

-- the search under way of a beginning that was carried on by all its pieces
abbrev search_of : Beginning → Mark → Search
search_of b p = record { start = b.state; wait = wait_number b.model b.name; depth = b.depth; count = b.pieces; mark = p }

-- not all states are walked, and the search stands where so many lead; or all are, and there is none
data Under (b : Beginning) : Option Search → Type 0 where
  on-way : (p : Mark) → b.pieces < states_of b → Standing (ways_of b) b.state b.depth b.pieces p → Under b (some (search_of b p))
  at-end : states_of b ≤ b.pieces → Under b none

-- the machine's search is that of the beginning in force
data Has : Option Beginning → Machine → Type 0 where
  shut : {o : Option Beginning} → o ≡ none → Has o closed
  idle : {h : Held} → h.search ≡ none → Has none (holding h)
  begun : {b : Beginning} {h : Held} → h.model ≡ b.model → is_depth b.depth ≡ true → Under b h.search → Has (some b) (holding h)

-- ---- the turn of carrying on

data Carried (b : Beginning) (n : ℕ) (o : Option Search) : Turn (Option Search) → Type 0 where
  no_more : states_of b ≤ b.pieces → Carried b n o (turn o (no 28 0 0 as_lent))
  far : count_limit < b.pieces + n → Carried b n o (turn o (no 28 0 0 as_lent))
  onward : {x : Option Search} → b.pieces + n ≤ count_limit → b.pieces + n < states_of b → Under (carried_by b n) x → Carried b n o (turn x (progress_as 0 (b.pieces + n) 0 []))
  over : b.pieces + n ≤ count_limit → b.pieces < states_of b → states_of b ≤ b.pieces + n → Carried b n o (turn none (ended_as (states_of b) (walk.search (ways_of b) b.state b.depth)))

carried-by : (b : Beginning) (n : ℕ) (p : Mark) → b.pieces + n ≤ count_limit → b.pieces < states_of b → Standing (ways_of b) b.state b.depth b.pieces p
    → Carried b n (some (search_of b p)) (carried_as (search_of b p) (carry_on (ways_of b) b.state b.depth n (going b.pieces p)))
unfolding carried_as states_of
carried-by b n p m l f = by (leb (states_of b) (b.pieces + n)) refl
  where
    g : Pieces (ways_of b) b.state b.depth b.pieces n (carry_on (ways_of b) b.state b.depth n (going b.pieces p))
    g = pieces (ways_of b) b.state b.depth b.pieces n p f

    by : (c : Bool) → leb (states_of b) (b.pieces + n) ≡ c → Carried b n (some (search_of b p)) (carried_as (search_of b p) (carry_on (ways_of b) b.state b.depth n (going b.pieces p)))
    by true e = let o : states_of b ≤ b.pieces + n = leb-true (states_of b) (b.pieces + n) e in rw (g.long o) (over m l o)
    by false e =
        let o : b.pieces + n < states_of b = leb-false (states_of b) (b.pieces + n) e in
        let w = g.short o in
        rw w.1 (onward m o (on-way w.0 o w.2))

carried-so : (b : Beginning) (n : ℕ) (o : Option Search) → Under b o → Carried b n o (carries_by n b.model o)
unfolding carries_by
carried-so b n none (at-end l) = no_more l
carried-so b n (some x) (on-way p l f) = rw (moves-same b.model b.name) (by (leb (b.pieces + n) count_limit) refl)
  where
    by : (c : Bool) → leb (b.pieces + n) count_limit ≡ c
        → Carried b n (some (search_of b p)) (cond c (carried_as (search_of b p) (carry_on (ways_of b) b.state b.depth n (going b.pieces p))) (turn (some (search_of b p)) (no 28 0 0 as_lent)))
    by true e = carried-by b n p (leb-true (b.pieces + n) count_limit e) l f
    by false e = far (leb-false (b.pieces + n) count_limit e)

-- ---- one call

-- numbers by which nothing is noted
unnoted : (y : Machine) (r : Request) (a : ℕ) (o : Option Beginning) → (a ≡ 0 → ⊥) → (a ≡ 27 → ⊥) → noted y r a o ≡ o
unfolding noted
unnoted y list' a o f g = refl
unnoted y (step' d) a o f g = refl
unnoted y report' a o f g = refl
unnoted y (search' x d) a o f g = refl
unnoted y (timed' ds d) a o f g = refl
unnoted y (run' ws vs n l) a o f g = refl
unnoted y (save' n) a o f g = refl
unnoted y (return' n) a o f g = refl
unnoted y (forget' n) a o f g = refl
unnoted y (begin' x d) a o f g = rw (ne_eqb a 0 f) refl
unnoted y (carry' n) a o f g = rw (ne_eqb a 0 f, ne_eqb a 27 g) refl

-- what is held afterwards has the same model, and this search
has-search : {o : Option Beginning} {h k : Held} → k.model ≡ h.model → k.search ≡ h.search → Has o (holding h) → Has o (holding k)
has-search e f (idle g) = idle (f ∙ g)
has-search e f (begun {b = b} g d u) = begun (e ∙ g) d (subst (λ (x : Option Search). Under b x) (sym f) u)

first-state : (b : Beginning) → 0 < states_of b
unfolding states_of walk.walk walk.levels walk.events states
first-state b = omega arith

begun-has : (x : List ℕ) (d : ℕ) (h : Held) (o : Option Beginning) → Has o (holding h)
    → let t = begins x d h.model h.state h.search in Has (noted (holding h) (begin' x d) t.answer.number o) (holding (on_search (begins x d) h).machine)
unfolding begins noted on_search beginning_at no
begun-has x d h o f = by (is_depth d) refl
  where
    b : Beginning
    b = record { model = h.model; state = h.state; name = x; depth = d; pieces = 0 }

    by : (c : Bool) → is_depth d ≡ c
        → let t = cond c (turn (some (search_from h.state (wait_number h.model x) d)) (no 0 0 0 as_lent)) (turn h.search (no 26 0 0 as_lent)) in
        Has (cond (eqb t.answer.number 0) (some b) o) (holding (record { model = h.model; state = h.state; saves = h.saves; clock = h.clock; search = t.machine }))
    by true e = begun refl e (on-way unmarked (first-state b) (standing-unmarked (ways_of b) b.state b.depth))
    by false e = has-search refl refl f

same-states : (b : Beginning) (n : ℕ) → states_of (carried_by b n) ≡ states_of b
unfolding states_of
same-states b n = refl

ended-noted : (c : ℕ) (w : tree.Answer) (n : ℕ) (b : Beginning) → cond (eqb (ended_as c w).number 0 || eqb (ended_as c w).number 27) (further n (some b)) (some b) ≡ some (carried_by b n)
unfolding ended_as progress_as further
ended-noted c (tree.found r) n b = refl
ended-noted c tree.nothing n b = refl
ended-noted c tree.unsure n b = refl

carried-has : (n : ℕ) (h : Held) (o : Option Beginning) → Has o (holding h)
    → let t = carries_by n h.model h.search in Has (noted (holding h) (carry' n) t.answer.number o) (holding (on_search (λ m s. carries_by n m) h).machine)
unfolding noted on_search
carried-has n h o (idle e) = rw e (unfold carries_by no in idle refl)
carried-has n h o (begun {b = b} e d u) = rw e (by (carries_by n b.model h.search) (carried-so b n h.search u))
  where
    by : (t : Turn (Option Search)) → Carried b n h.search t
        → Has (cond (eqb t.answer.number 0 || eqb t.answer.number 27) (further n (some b)) (some b)) (holding (record { model = b.model; state = h.state; saves = h.saves; clock = h.clock; search = t.machine }))
    by t (no_more l) = unfold no in begun refl d u
    by t (far l) = unfold no in begun refl d u
    by t (onward m l v) = unfold progress_as further in begun refl d v
    by t (over m l k) = rw (ended-noted (states_of b) (walk.search (ways_of b) b.state b.depth) n b) (begun {b = carried_by b n} refl d (at-end (rw (same-states b n) k)))

acts-has : (r : Request) (h : Held) (o : Option Beginning) → Has o (holding h) → Has (noted (holding h) r (acts r h).answer.number o) (holding (acts r h).machine)
unfolding acts
acts-has list' h o f = unfold noted on_state in has-search refl refl f
acts-has (step' d) h o f = unfold noted on_state in has-search refl refl f
acts-has report' h o f = unfold noted on_state in has-search refl refl f
acts-has (search' x d) h o f = unfold noted on_state in has-search refl refl f
acts-has (timed' ds d) h o f = unfold noted on_clock in has-search refl refl f
acts-has (run' ws vs n l) h o f = unfold noted on_clock in has-search refl refl f
acts-has (save' n) h o f = unfold noted on_saves in has-search refl refl f
acts-has (return' n) h o f = unfold noted on_saves in has-search refl refl f
acts-has (forget' n) h o f = unfold noted on_saves in has-search refl refl f
acts-has (begin' x d) h o f = unfold on_search in begun-has x d h o f
acts-has (carry' n) h o f = unfold on_search in carried-has n h o f

opened-has : (o : Opening) → Has none (opens o).machine
unfolding opens
opened-has (refused n p) = shut refl
opened-has (opened m) = idle refl

asked-has : (y : Machine) (k : Ask) (o : Option Beginning) → Has o y → Has (heard y k (asked_of_machine y k).answer.number o) (asked_of_machine y k).machine
unfolding asked_of_machine on_machine heard no
asked-has y (open' text) o f = rw (ne_eqb _ 1 (asked-not-1 y (open' text))) (opened-has (opening text))
asked-has y (open_steady' text) o f = rw (ne_eqb _ 1 (asked-not-1 y (open_steady' text))) (opened-has (opening_steady text))
asked-has closed (on' r) o f = rw (unnoted closed r 11 o (λ e. omega arith) (λ e. omega arith)) f
asked-has (holding h) (on' r) o f = acts-has r h o f

unasked-has : (y : Machine) (k : Ask) (o : Option Beginning) → Has o y → Has (heard y k 1 o) y
unfolding heard
unasked-has y (open' text) o f = f
unasked-has y (open_steady' text) o f = f
unasked-has y (on' r) o f = rw (unnoted y r 1 o (λ e. omega arith) (λ e. omega arith)) f

call-has : (y : Machine) (c : Call) (o : Option Beginning) → Has o y → Has (heard y c.ask (calls y c).answer.number o) (calls y c).machine
unfolding calls
call-has y c o f = by (has_lengths c.ask c.lengths c.output)
  where
    by : (b : Bool) → let t = cond b (asked_of_machine y c.ask) (turn y (no 1 0 0 as_lent)) in Has (heard y c.ask t.answer.number o) t.machine
    by true = asked-has y c.ask o f
    by false = unfold no in unasked-has y c.ask o f

after-has : (cs : List Call) (y : Machine) (o : Option Beginning) → Has o y → Has (in_force o y cs) (after y cs)
unfolding after in_force
after-has [] y o f = f
after-has (c ∷ cs) y o f = after-has cs (calls y c).machine (heard y c.ask (calls y c).answer.number o) (call-has y c o f)

-- ---- what is told

-- 02, note 10: the answer at the end is that of one call
ends_as : (c : ℕ) (w : tree.Answer) → ended_as c w ≡ progress_as (searched_as w).number c 1 (searched_as w).run
unfolding ended_as searched_as found_as no
ends_as c (tree.found r) = refl
ends_as c tree.nothing = refl
ends_as c tree.unsure = refl

one-call : (b : Beginning) → is_depth b.depth ≡ true → ended_as (states_of b) (walk.search (ways_of b) b.state b.depth) ≡ as_one_call b
unfolding as_one_call
one-call b d =
    let w = walk.search (ways_of b) b.state b.depth in
    let s : (searches b.name b.depth b.model b.state).answer ≡ searched_as w = unfold searches in rw d refl in
    ends_as (states_of b) w ∙ ap (λ (a : Answer). progress_as a.number (states_of b) 1 a.run) (sym s)

told-by : (n : ℕ) (h : Held) (o : Option Beginning) → Has o (holding h) → Told n (carries_by n h.model h.search).answer o
told-by n h o (idle e) = rw e (unfold carries_by in none_begun refl)
told-by n h o (begun {b = b} e d u) = rw e (by (carries_by n b.model h.search) (carried-so b n h.search u))
  where
    by : (t : Turn (Option Search)) → Carried b n h.search t → Told n t.answer (some b)
    by t (no_more l) = has_ended l refl
    by t (far l) = too_far l refl
    by t (onward m l v) = goes_on m l refl
    by t (over m l k) = ends m l k (one-call b d)

-- 02, note 10: after every list of calls on the fresh machine, a call that carries on and is lent what it needs
pub told : (cs : List Call) (c : Call) (n : ℕ) (h : Held) → c.ask ≡ on' (carry' n) → Lent c → after closed cs ≡ holding h → Told n (calls (after closed cs) c).answer (in_force none closed cs)
unfolding calls asked_of_machine on_machine acts on_search
told cs c n h k l e =
    let f : Has (in_force none closed cs) (after closed cs) = after-has cs closed none (shut refl) in
    let g : Has (in_force none closed cs) (holding h) = subst (λ (y : Machine). Has (in_force none closed cs) y) e f in
    rw (passes (lent-so c) l, k, e) (told-by n h (in_force none closed cs) g)
