-- The state and the clock found after an accepted return are those of the latest accepted save under that name, over every list of calls; and where such a save stands, a return is accepted. Each
-- call saves under the name, forgets it or leaves what is under it (one lemma for each request), then by induction on the calls.
use mathlib.Core.Path.{◌≡◌, refl, sym, ap, ap₂, ◌∙◌}
use mathlib.Core.List.{List, [], ◌∷◌, ◌++◌}
use mathlib.Core.Bool.{Bool, true, false, cond, not, ◌&&◌, ◌||◌}
use mathlib.Core.Option.{Option, none, some, Option-elim}
use mathlib.Core.Logic.{◌⊎◌, inl, inr}
use Prim.Native.Nat.{ℕ, ◌<◌}
use native.Mathlib.Omega.{arith}
use lib.Dec.{eqb, ltb}
use lib.ListN.{get_or}
use borrow.Author.Tests.{eqb-true, ltb-true}
use Rattle.model.specs.Opening.{Opening, refused, opened, opening}
use Rattle.profile.specs.Opening.{opening_steady}
use Rattle.model.proofs.Opened as opened
use Rattle.rules.proofs.Decides.{passes}
use Rattle.machine.specs.Timed.{Timed, GoodTimed}
use Rattle.machine.specs.Saves.{is_name, same, saved, save_limit, Saves, no_saves, named, place_of, place_for, kept_under, GoodSaves, Stored, stored, replaced, removed, saving, returning, forgetting}
use Rattle.machine.specs.Machine.{as_lent, no, turn, Held, timed_of, stored_in, Machine, closed, holding, on_state, on_clock, on_saves, Request, list', step', report', search', timed', run', save', return', forget', Ask, open', open_steady', on', acts, Call, has_lengths, opens, on_machine, asked_of_machine, calls, after, on_search, begin', carry'}
use Rattle.machine.specs.Results.{Lent}
use Rattle.machine.specs.Latest.{kept_in, saves_name, forgets_name, saves_under, forgets, alters, Without, done, more, Saved, Latest, Known, Finds}
use Rattle.machine.proofs.Lent.{lent-so}
use Rattle.machine.proofs.Carries.{asked-not-1}
use Rattle.machine.proofs.Reached as reached
use Rattle.machine.proofs.Reached.{GoodMachine}
use Rattle.machine.proofs.Saves.{not-both, same-eq, same_refl, named-is, first_passes, place_other, replaced-under, removed-unknown, under_none, under-other, under-name, none-unknown}

-- ---- Bools and options

never : {A B : Type 0} {x : A} → ◌≡◌ {A = Option A} none (some x) → B
never e = absurd (let z : ◌≡◌ {A = ℕ} 0 1 = cc in omega arith)

and-false : {A : Type 0} (a : Bool) → (a && false) ≡ true → A
and-false true e = not-both true refl (sym e)
and-false false e = not-both true refl (sym e)

and_first : (a : Bool) → (a && true) ≡ true → a ≡ true
and_first true e = refl
and_first false e = e

not-and : (a : Bool) → (a && true) ≡ false → a ≡ false
not-and true e = e
not-and false e = refl

-- ---- one call

-- what a call with answer a that leads from y to z is to a name
record Met (n : List ℕ) (y : Machine) (k : Ask) (a : ℕ) (z : Machine) : Type 0 where
  saves : saves_under n k a ≡ true → (h : Held) × (y ≡ holding h) × (kept_in n z ≡ some (timed_of h))
  undone : forgets n k a ≡ true → kept_in n z ≡ none
  else : saves_under n k a ≡ false → forgets n k a ≡ false → kept_in n z ≡ kept_in n y

module _ (n : List ℕ) where
  -- a request that neither saves nor forgets under the name, or is refused
  left : (h h' : Held) (r : Request) (a : ℕ) → (saves_name n r && eqb a 0) ≡ false → (forgets_name n r && eqb a 0) ≡ false → kept_under n h'.saves ≡ kept_under n h.saves
      → Met n (holding h) (on' r) a (holding h')
  unfolding saves_under forgets kept_in
  left h h' r a s f e = record { saves = λ t. not-both _ t s; undone = λ t. not-both _ t f; else = λ t u. e }

  and_no : (b : Bool) → (b && false) ≡ false
  and_no true = refl
  and_no false = refl

  refused-left : (h : Held) (r : Request) (a : ℕ) → eqb a 0 ≡ false → Met n (holding h) (on' r) a (holding h)
  refused-left h r a e = left h h r a (ap (λ (t : Bool). saves_name n r && t) e ∙ and_no (saves_name n r)) (ap (λ (t : Bool). forgets_name n r && t) e ∙ and_no (forgets_name n r)) refl

  module _ (h : Held) (g : GoodSaves h.model h.saves) where
    abbrev ss : Saves
    ss = h.saves

    make : Stored → Held
    make x = stored_in h x

    -- a save under a name k that is accepted
    save-met : (k : List ℕ) → place_for k ss < save_limit → Met n (holding h) (on' (save' k)) 0 (holding (make (stored 0 (timed_of h) (replaced k (timed_of h) ss))))
    unfolding saves_under saves_name forgets forgets_name kept_in named make
    save-met k i = record {
      saves = λ t. (h, refl, ap (λ (c : List ℕ). kept_under c (replaced k (timed_of h) ss)) (sym (same-eq k n (and_first _ t))) ∙ replaced-under k (timed_of h) ss g.long g.apart i);
      undone = λ t. not-both true refl (sym t);
      else = λ t u. unfold replaced in under-other n ss (place_for k ss) (saved k (timed_of h)) (place_other k n ss g.long i (not-and _ t)) (not-and _ t);
    }

    save-step : (k : List ℕ) → Met n (holding h) (on' (save' k)) (saving k (timed_of h) ss).number (holding (make (saving k (timed_of h) ss)))
    unfolding saving make
    save-step k = by (is_name k) (ltb (place_for k ss) save_limit) refl
      where
        T : Bool → Bool → Stored
        T b c = cond b (cond c (stored 0 (timed_of h) (replaced k (timed_of h) ss)) (stored 22 (timed_of h) ss)) (stored 20 (timed_of h) ss)

        by : (b c : Bool) → ltb (place_for k ss) save_limit ≡ c → Met n (holding h) (on' (save' k)) (T b c).number (holding (make (T b c)))
        by true true l = save-met k (ltb-true (place_for k ss) save_limit l)
        by true false l = refused-left h (save' k) 22 refl
        by false c l = refused-left h (save' k) 20 refl

    return-step : (k : List ℕ) → Met n (holding h) (on' (return' k)) (returning k (timed_of h) ss).number (holding (make (returning k (timed_of h) ss)))
    unfolding returning make saves_name forgets_name Option-elim
    return-step k = by (is_name k) (kept_under k ss)
      where
        T : Bool → Option Timed → Stored
        T b o = cond b (Option-elim o (stored 21 (timed_of h) ss) (λ t. stored 0 t ss)) (stored 20 (timed_of h) ss)

        by : (b : Bool) (o : Option Timed) → Met n (holding h) (on' (return' k)) (T b o).number (holding (make (T b o)))
        by true none = refused-left h (return' k) 21 refl
        by true (some t) = left h (make (stored 0 t ss)) (return' k) 0 refl refl refl
        by false o = refused-left h (return' k) 20 refl

    -- a forget of a name k that is accepted
    forget-met : (k : List ℕ) → place_of k ss < save_limit → Met n (holding h) (on' (forget' k)) 0 (holding (make (stored 0 (timed_of h) (removed k ss))))
    unfolding saves_under saves_name forgets forgets_name kept_in named make
    forget-met k i = record {
      saves = λ t. not-both true refl (sym t);
      undone = λ t. ap (λ (c : List ℕ). kept_under c (removed k ss)) (sym (same-eq k n (and_first _ t))) ∙ under_none k _ (removed-unknown k ss g.apart);
      else = λ t u. unfold removed in under-other n ss (place_of k ss) none (named-is k n (get_or ss (place_of k ss) none) (first_passes (named k) ss none (omega (arith, g.long))) ∙ not-and _ u) refl;
    }

    forget-step : (k : List ℕ) → Met n (holding h) (on' (forget' k)) (forgetting k (timed_of h) ss).number (holding (make (forgetting k (timed_of h) ss)))
    unfolding forgetting make
    forget-step k = by (is_name k) (ltb (place_of k ss) save_limit) refl
      where
        T : Bool → Bool → Stored
        T b c = cond b (cond c (stored 0 (timed_of h) (removed k ss)) (stored 21 (timed_of h) ss)) (stored 20 (timed_of h) ss)

        by : (b c : Bool) → ltb (place_of k ss) save_limit ≡ c → Met n (holding h) (on' (forget' k)) (T b c).number (holding (make (T b c)))
        by true true l = forget-met k (ltb-true (place_of k ss) save_limit l)
        by true false l = refused-left h (forget' k) 21 refl
        by false c l = refused-left h (forget' k) 20 refl

    acts-met : (r : Request) → Met n (holding h) (on' r) (acts r h).answer.number (holding (acts r h).machine)
    unfolding acts on_state on_clock on_saves on_search no make saves_name forgets_name
    acts-met list' = left h _ list' _ refl refl refl
    acts-met (step' d) = left h _ (step' d) _ refl refl refl
    acts-met report' = left h _ report' _ refl refl refl
    acts-met (search' x d) = left h _ (search' x d) _ refl refl refl
    acts-met (timed' ds d) = left h _ (timed' ds d) _ refl refl refl
    acts-met (run' ws vs k l) = left h _ (run' ws vs k l) _ refl refl refl
    acts-met (save' k) = save-step k
    acts-met (return' k) = return-step k
    acts-met (forget' k) = forget-step k
    acts-met (begin' x d) = left h _ (begin' x d) _ refl refl refl
    acts-met (carry' k) = left h _ (carry' k) _ refl refl refl

  -- ---- openings, closed machines, and 1

  opened-none : (o : Opening) → kept_in n (opens o).machine ≡ none
  unfolding opens kept_in
  opened-none (refused k p) = refl
  opened-none (opened m) = under_none n no_saves (none-unknown n)

  opened-met : (y z : Machine) (k : Ask) (a : ℕ) → saves_under n k a ≡ false → forgets n k a ≡ not (eqb a 1) → (a ≡ 1 → ⊥) → kept_in n z ≡ none → Met n y k a z
  opened-met y z k a s f h e = record { saves = λ t. not-both _ t s; undone = λ t. e; else = λ t u. absurd (h (eqb-true a 1 (turned (eqb a 1) (sym f ∙ u)))) }
    where
      turned : (b : Bool) → not b ≡ false → b ≡ true
      turned true e = refl
      turned false e = sym e

  closed-met : (r : Request) → Met n closed (on' r) 11 closed
  unfolding saves_under forgets kept_in
  closed-met r = record { saves = λ t. and-false (saves_name n r) t; undone = λ t. refl; else = λ t u. refl }

  unasked-met : (y : Machine) (k : Ask) → Met n y k 1 y
  unfolding saves_under forgets
  unasked-met y (open' text) = record { saves = λ t. not-both true refl (sym t); undone = λ t. not-both true refl (sym t); else = λ t u. refl }
  unasked-met y (open_steady' text) = record { saves = λ t. not-both true refl (sym t); undone = λ t. not-both true refl (sym t); else = λ t u. refl }
  unasked-met y (on' r) = record { saves = λ t. and-false (saves_name n r) t; undone = λ t. and-false (forgets_name n r) t; else = λ t u. refl }

  asked-met : (y : Machine) (k : Ask) → GoodMachine y → Met n y k (asked_of_machine y k).answer.number (asked_of_machine y k).machine
  unfolding asked_of_machine on_machine GoodMachine no saves_under forgets
  asked-met y (open' text) g = opened-met y _ (open' text) _ refl refl (asked-not-1 y (open' text)) (opened-none (opening text))
  asked-met y (open_steady' text) g = opened-met y _ (open_steady' text) _ refl refl (asked-not-1 y (open_steady' text)) (opened-none (opening_steady text))
  asked-met closed (on' r) g = closed-met r
  asked-met (holding h) (on' r) g = acts-met h g.good.saves r

  call_met : (y : Machine) (c : Call) → GoodMachine y → Met n y c.ask (calls y c).answer.number (calls y c).machine
  unfolding calls no
  call_met y c g = by (has_lengths c.ask c.lengths c.output)
    where
      by : (b : Bool) → Met n y c.ask (cond b (asked_of_machine y c.ask) (turn y (no 1 0 0 as_lent))).answer.number (cond b (asked_of_machine y c.ask) (turn y (no 1 0 0 as_lent))).machine
      by true = asked-met y c.ask g
      by false = unasked-met y c.ask

-- ---- every list

call-good : (y : Machine) (c : Call) → GoodMachine y → GoodMachine (calls y c).machine
call-good y c g = reached.call-good (λ text m e. (opened.opened-good text m e, opened.opened-few text m e)) y c g

after-good : (cs : List Call) → GoodMachine (after closed cs)
after-good cs = reached.reached (λ text m e. (opened.opened-good text m e, opened.opened-few text m e)) cs

after-append : (y : Machine) (xs ys : List Call) → after y (xs ++ ys) ≡ after (after y xs) ys
unfolding after
after-append y [] ys = refl
after-append y (c ∷ xs) ys = after-append (calls y c).machine xs ys

-- what was asked, where a call saves under a name
saved-is : (n : List ℕ) (k : Ask) (a : ℕ) → saves_under n k a ≡ true → (k ≡ on' (save' n)) × (a ≡ 0)
unfolding saves_under saves_name
saved-is n (open' text) a t = not-both true refl (sym t)
saved-is n (open_steady' text) a t = not-both true refl (sym t)
saved-is n (on' list') a t = not-both true refl (sym t)
saved-is n (on' (step' d)) a t = not-both true refl (sym t)
saved-is n (on' report') a t = not-both true refl (sym t)
saved-is n (on' (search' x d)) a t = not-both true refl (sym t)
saved-is n (on' (timed' ds d)) a t = not-both true refl (sym t)
saved-is n (on' (run' ws vs k l)) a t = not-both true refl (sym t)
saved-is n (on' (save' k)) a t = by (same k n) (eqb a 0) refl refl t
  where
    by : (b c : Bool) → same k n ≡ b → eqb a 0 ≡ c → (b && c) ≡ true → (on' (save' k) ≡ on' (save' n)) × (a ≡ 0)
    by true true e f t = (ap (λ (m : List ℕ). on' (save' m)) (same-eq k n e), eqb-true a 0 f)
    by true false e f t = not-both true refl (sym t)
    by false c e f t = not-both true refl (sym t)
saved-is n (on' (return' k)) a t = not-both true refl (sym t)
saved-is n (on' (forget' k)) a t = not-both true refl (sym t)
saved-is n (on' (begin' x d)) a t = not-both true refl (sym t)
saved-is n (on' (carry' k)) a t = not-both true refl (sym t)

is-save : (n : List ℕ) (k : Ask) (a : ℕ) → k ≡ on' (save' n) → a ≡ 0 → saves_under n k a ≡ true
unfolding saves_under saves_name
is-save n k a p q = ap₂ (saves_under n) p q ∙ ap (λ (b : Bool). b && true) (same_refl n)

module _ (n : List ℕ) where
  module _ (s : Timed) where
    -- one call more in front
    longer : (t : Ask → ℕ → Bool) (y : Machine) (c : Call) (cs : List Call) → Saved n t (calls y c).machine cs s → Saved n t y (c ∷ cs) s
    unfolding after
    longer t y c cs l = record {
      before = c ∷ l.before;
      call = l.call;
      since = l.since;
      split = ap (λ (ks : List Call). c ∷ ks) l.split;
      save = l.save;
      accepted = l.accepted;
      then-held = l.then-held;
      machine = l.machine;
      kept_then = l.kept_then;
      kept = l.kept;
    }

    -- the state found was saved by the latest save, or was there before
    found : (cs : List Call) (y : Machine) → GoodMachine y → kept_in n (after y cs) ≡ some s → Latest n y cs s ⊎ ((kept_in n y ≡ some s) × Without (alters n) y cs)
    unfolding after alters
    found [] y g e = inr (e, done)
    found (c ∷ cs) y g e = by (found cs (calls y c).machine (call-good y c g) e)
      where
        by : Latest n (calls y c).machine cs s ⊎ ((kept_in n (calls y c).machine ≡ some s) × Without (alters n) (calls y c).machine cs)
            → Latest n y (c ∷ cs) s ⊎ ((kept_in n y ≡ some s) × Without (alters n) y (c ∷ cs))
        by (inl l) = inl (longer (alters n) y c cs l)
        by (inr (f, k)) = now (saves_under n c.ask (calls y c).answer.number) (forgets n c.ask (calls y c).answer.number) refl refl
          where
            m : Met n y c.ask (calls y c).answer.number (calls y c).machine
            m = call_met n y c g

            now : (a b : Bool) → saves_under n c.ask (calls y c).answer.number ≡ a → forgets n c.ask (calls y c).answer.number ≡ b
                → Latest n y (c ∷ cs) s ⊎ ((kept_in n y ≡ some s) × Without (alters n) y (c ∷ cs))
            now true b p q =
                let w = m.saves p in
                let u = saved-is n c.ask (calls y c).answer.number p in
                let e : timed_of w.0 ≡ s = some_is (sym w.2 ∙ f) in
                inl (record { before = []; call = c; since = cs; split = refl; save = u.0; accepted = u.1; then-held = w.0; machine = w.1; kept_then = e; kept = k })
              where
                some_is : {a b : Timed} → ◌≡◌ {A = Option Timed} (some a) (some b) → a ≡ b
                some_is e = cc
            now false true p q = never (sym (m.undone q) ∙ f)
            now false false p q = inr (sym (m.else p q) ∙ f, more {y = y} {c = c} (rw (p, q)) k)

  -- a save that no call has undone is found
  remains : (cs : List Call) (y : Machine) → GoodMachine y → Without (forgets n) y cs → (s : Timed) → kept_in n y ≡ some s → (t : Timed) × (kept_in n (after y cs) ≡ some t)
  unfolding after
  remains [] y g k s e = (s, e)
  remains (c ∷ cs) y g (more p k) s e = by (λ t f. remains cs (calls y c).machine (call-good y c g) k t f) (saves_under n c.ask (calls y c).answer.number) refl
    where
      m : Met n y c.ask (calls y c).answer.number (calls y c).machine
      m = call_met n y c g

      by : ((t : Timed) → kept_in n (calls y c).machine ≡ some t → (t : Timed) × (kept_in n (after (calls y c).machine cs) ≡ some t)) → (a : Bool) → saves_under n c.ask (calls y c).answer.number ≡ a
          → (t : Timed) × (kept_in n (after (calls y c).machine cs) ≡ some t)
      by go true q = go (timed_of (m.saves q).0) (m.saves q).2
      by go false q = go s (m.else q p ∙ e)

-- ---- returns

-- an accepted return has found a state under the name
return-found : (n : List ℕ) (h : Held) → (acts (return' n) h).answer.number ≡ 0 → (s : Timed) × (kept_under n h.saves ≡ some s) × (timed_of (acts (return' n) h).machine ≡ s)
unfolding acts on_saves returning Option-elim no
return-found n h e = by (is_name n) (kept_under n h.saves) refl e
  where
    T : Bool → Option Timed → Stored
    T b o = cond b (Option-elim o (stored 21 (timed_of h) h.saves) (λ t. stored 0 t h.saves)) (stored 20 (timed_of h) h.saves)

    by : (b : Bool) (o : Option Timed) → kept_under n h.saves ≡ o → (T b o).number ≡ 0 → (s : Timed) × (kept_under n h.saves ≡ some s) × ((T b o).kept ≡ s)
    by true none f e = absurd (omega arith)
    by true (some t) f e = (t, f, refl)
    by false o f e = absurd (omega arith)

-- and one that can find a state is accepted
return-finding : (n : List ℕ) (h : Held) (s : Timed) → is_name n ≡ true → kept_under n h.saves ≡ some s → (acts (return' n) h).answer.number ≡ 0
unfolding acts on_saves returning Option-elim no
return-finding n h s e f = rw (e, f)

-- nothing was there before the first call
from-closed : (n : List ℕ) (cs : List Call) (s : Timed) → Latest n closed cs s ⊎ ((kept_in n closed ≡ some s) × Without (alters n) closed cs) → Latest n closed cs s
unfolding kept_in
from-closed n cs s (inl l) = l
from-closed n cs s (inr (w, k)) = never w

module _ (n : List ℕ) (cs : List Call) (c : Call) (a : c.ask ≡ on' (return' n)) where
  returned : (y : Machine) → after closed cs ≡ y → (calls y c).answer.number ≡ 0 → Finds n cs (calls y c).machine
  unfolding calls asked_of_machine on_machine no kept_in GoodMachine
  returned y q e =
      by (has_lengths c.ask c.lengths c.output) y q (ap (λ (k : Ask). (cond (has_lengths c.ask c.lengths c.output) (asked_of_machine y k) (turn y (no 1 0 0 as_lent))).answer.number) (sym a) ∙ e)
    where
      by : (b : Bool) (y : Machine) → after closed cs ≡ y → (cond b (asked_of_machine y (on' (return' n))) (turn y (no 1 0 0 as_lent))).answer.number ≡ 0 → Finds n cs (cond b (asked_of_machine y c.ask) (turn y (no 1 0 0 as_lent))).machine
      by true closed q e = absurd (omega arith)
      by true (holding h) q e =
          let r = return-found n h e in
          let f = found n r.0 cs closed tt (rw q r.1) in
          rw a (record { kept = r.0; latest = from-closed n cs r.0 f; then-held = (acts (return' n) h).machine; machine = refl; is = r.2 })
      by false y q e = absurd (omega arith)

  -- 02, note 2: whatever calls were made before, a return that is accepted leaves the state and the clock of the latest accepted save under its name
  pub return-finds : (calls (after closed cs) c).answer.number ≡ 0 → Finds n cs (calls (after closed cs) c).machine
  return-finds e = returned (after closed cs) refl e

  answered : (y : Machine) → GoodMachine y → Lent c → (s : Timed) → kept_in n y ≡ some s → (calls y c).answer.number ≡ 0
  unfolding calls asked_of_machine on_machine kept_in GoodMachine
  answered closed g l s e = never e
  answered (holding h) g l s e = rw (passes (lent-so c) l, a) (return-finding n h s (under-name (GoodTimed h.model) n h.saves s g.good.saves.places e) e)

  -- 02, note 2: and it is accepted wherever a save under its name was accepted since the last opening and the last accepted forget of it
  pub return-known : (s : Timed) → Known n closed cs s → Lent c → (calls (after closed cs) c).answer.number ≡ 0
  unfolding after
  return-known s k l =
      let y : Machine = after closed k.before in
      let g = after-good k.before in
      let t = is-save n k.call.ask (calls y k.call).answer.number k.save k.accepted in
      let w = (call_met n y k.call g).saves t in
      let r = remains n k.since (calls y k.call).machine (call-good y k.call g) k.kept (timed_of w.0) w.2 in
      let q : after closed cs ≡ after (calls y k.call).machine k.since = ap (after closed) k.split ∙ after-append closed k.before (k.call ∷ k.since) in
      answered (after closed cs) (after-good cs) l r.0 (ap (kept_in n) q ∙ r.1)

-- 02, note 2: after any list of calls, a call that neither saves under the name nor forgets it leaves the state under it: lists, steps, reports, returns and refused calls do
pub survives : (n : List ℕ) (cs : List Call) (c : Call) → alters n c.ask (calls (after closed cs) c).answer.number ≡ false
    → kept_in n (calls (after closed cs) c).machine ≡ kept_in n (after closed cs)
unfolding alters
survives n cs c e =
    let p = neither (saves_under n c.ask (calls (after closed cs) c).answer.number) _ e in
    (call_met n (after closed cs) c (after-good cs)).else p.0 p.1
  where
    neither : (a b : Bool) → (a || b) ≡ false → (a ≡ false) × (b ≡ false)
    neither true b e = not-both true refl e
    neither false b e = (refl, e)
