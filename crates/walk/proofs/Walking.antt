-- What each arm of the walk gives: an entry, the entries of a listing in turn, a state that is still to be listed, and one length after the other. From what is hunted for, over plain lists.
use mathlib.Core.Path.{◌≡◌, refl, sym, ap, ◌∙◌}
use mathlib.Core.List.{List, [], ◌∷◌, ◌++◌, map}
use mathlib.Core.Bool.{Bool, true, false}
use Prim.Native.Nat.{ℕ, suc, ◌+◌, ◌-◌, ◌≤◌, ◌<◌}
use native.Mathlib.Omega.{arith}
use lib.IntN.{ℤ}
use lib.ListN.{length, set, take, length-map, length-drop}
use borrow.Rule.Slice.PartMut.{put_mid, mid_of}
use Rattle.std.specs.Prelude.{Option, None, Some, Err, Ok, ok_or}
use Rattle.model.specs.Resolved
use Rattle.model.specs.Limits.{branch_limit}
use Rattle.model.specs.Good.{GoodSum}
use Rattle.rules.specs.Listing.{Entry}
use Rattle.runs.specs.Tree.{Answer, leads, unlisted, lists, way_in}
use Rattle.runs.specs.Walk.{search, ending}
use Rattle.search.specs.Walks.{Answered, a-run, no_run, not_known, met_in, joined}
use Rattle.search.specs.declared.Missed.{Missed}
use Rattle.search.specs.declared.Missed.TheVariants.{Nothing, Unsure}
use Rattle.search.proofs.Part.{tail-put, tail-mid}
use Rattle.search.proofs.Missing.{met-joined}
use Rattle.step.specs.declared.Refusal.{Refusal}
use Rattle.machine.specs.State.{State, state_length}
use Rattle.machine.specs.Machine as machine
use Rattle.machine.specs.Machine.{listing, entry_limit, entries_are, refused_with, way_of, moves_of, moves_to}
use Rattle.machine.proofs.Everys.{every_in, in-every}
use Rattle.machine.proofs.Listing.{accepted}
use Rattle.machine.proofs.Numbers.{state-length}
use Rattle.offers.specs.Collect.{FewBranches, World}
use Rattle.listing.specs.Buffer as buffer
use Rattle.listing.specs.declared.Listed.{Listed}
use Rattle.listing.specs.declared.Refusal as listing_refusal
use Rattle.listing.specs.Buffer.{filled_numbers, listing_numbers, Outcome}
use Rattle.step.specs.Enter as enter
use Rattle.walk.specs.Hunted.{Hit, Hunted, gone, hits, or_else, behind_hunted, hunt_answer, hunt_at, hunt_from, hunt_longer, Hunts, none, one}
use Rattle.walk.specs.Held.{Held, first, Stands, Lists, Room, Move, way_found, Takes}
use Rattle.walk.proofs.Rows.{first_is, next_row}
use Rattle.walk.proofs.Hunting.{search_is, at-idle, at-refused, at-wait, at_other, at_more, from_step, from-none, from-unlisted, longer-step, longer-none, pass-start, pass-lost, pass-found, pass-over}

-- ---- what was found, taken apart

lost-is : {run : List ℕ} {n : ℕ} {x : Hunted} {r : Hit} {m : Missed} → Hunts run n x r → r ≡ Err m → x ≡ gone (met_in m)
lost-is {m = n} (none {m = k} p) e = let i : k ≡ n = cc in p ∙ ap (λ (j : Missed). gone (met_in j)) i
lost-is (one p) e = let z : ◌≡◌ {A = ℕ} 0 1 = cc in absurd (omega arith)

found-is : {run : List ℕ} {n : ℕ} {x : Hunted} {r : Hit} → Hunts run n x r → r ≡ Ok tt → x ≡ hits (take n run)
found-is (none p) e = let z : ◌≡◌ {A = ℕ} 0 1 = cc in absurd (omega arith)
found-is (one p) e = p

-- ---- one entry

pub both-is : {r : Move} {o p : Option Bool} → r ≡ Ok o → o ≡ p → r ≡ Ok p
both-is e f = e ∙ ap Ok f

pub none-of : (o : Option Bool) (d e : Missed) → ok_or o d ≡ Err e → (o ≡ None) × (e ≡ d)
none-of None d e h = (refl, cc)
none-of (Some b) d e h = let z : ◌≡◌ {A = ℕ} 0 1 = cc in absurd (omega arith)

pub some-of : (o : Option Bool) (d : Missed) (b : Bool) → ok_or o d ≡ Ok b → o ≡ Some b
some-of None d b h = let z : ◌≡◌ {A = ℕ} 0 1 = cc in absurd (omega arith)
some-of (Some a) d b h = cc

module _ {m : Resolved.Model} {x : List ℕ} {s : State} {e : ℕ} {zs zs' : List (List ℤ)} (more : ℕ) (run : List ℕ) where
  pub entry-idle : {r : Move} → Takes m x s e zs zs' r → r ≡ Ok None → Hunts run (more + 1) (hunt_at (moves_to m x) s more e) (Err Nothing)
  unfolding way_found
  entry-idle {r} t q = none (at-idle (moves_to m x) s more e (ap (λ (u : Move). way_found u t.after) (sym q) ∙ t.way))

  pub entry-refused : {r : Move} {f : Refusal} → Takes m x s e zs zs' r → r ≡ Err f → Hunts run (more + 1) (hunt_at (moves_to m x) s more e) (Err Unsure)
  unfolding way_found
  entry-refused {r} t q = none (at-refused (moves_to m x) s more e (ap (λ (u : Move). way_found u t.after) (sym q) ∙ t.way))

  module _ {r : Move} (t : Takes m x s e zs zs' r) (h : Bool) (q : r ≡ Ok (Some h)) where
    leads-to : leads h t.after ≡ way_in (moves_to m x s) e
    unfolding way_found
    leads-to = ap (λ (u : Move). way_found u t.after) (sym q) ∙ t.way

    pub entry-wait : more ≡ 0 → h ≡ true → 1 ≤ length run → Hunts (set run 0 e) (more + 1) (hunt_at (moves_to m x) s more e) (Ok tt)
    entry-wait o w l = by run l
      where
        by : (l : List ℕ) → 1 ≤ length l → Hunts (set l 0 e) (more + 1) (hunt_at (moves_to m x) s more e) (Ok tt)
        by [] k = absurd (omega arith)
        by (y ∷ l) k = rw o (one (at-wait (moves_to m x) s e t.after (rw w at leads-to)))

    pub entry_other : more ≡ 0 → h ≡ false → Hunts (set run 0 e) (more + 1) (hunt_at (moves_to m x) s more e) (Err Nothing)
    entry_other o w = rw o (none (at_other (moves_to m x) s e t.after (rw w at leads-to)))

    behind-is : 1 ≤ more → hunt_at (moves_to m x) s more e ≡ behind_hunted e (hunt_from (moves_to m x) t.after (more - 1) 0)
    behind-is l = let a : suc (more - 1) ≡ more = omega arith in ap (λ (n : ℕ). hunt_at (moves_to m x) s n e) (sym a) ∙ at_more (moves_to m x) s (more - 1) e h t.after leads-to

    deeper : (y : ℕ) (tail ys : List ℕ) (u : Hit) → 1 ≤ more → Hunts ys (more - 1 + 1) (hunt_from (moves_to m x) t.after (more - 1) 0) u
        → Hunts (e ∷ ys) (more + 1) (hunt_at (moves_to m x) s more e) u
    unfolding behind_hunted
    deeper y tail ys u l (none p) = none (behind-is l ∙ ap (behind_hunted e) p)
    deeper y tail ys u l (one p) =
        let a : more - 1 + 1 ≡ more = omega arith in
        let b : more + 1 ≡ suc more = omega arith in
        one (behind-is l ∙ ap (behind_hunted e) p ∙ rw (a, b) refl)

    pub entry_more : (ys : List ℕ) (u : Hit) → 1 ≤ more → 1 ≤ length run → Hunts ys (more - 1 + 1) (hunt_from (moves_to m x) t.after (more - 1) 0) u
        → Hunts (put_mid 1 (length (set run 0 e) - 1) (set run 0 e) ys) (more + 1) (hunt_at (moves_to m x) s more e) u
    entry_more ys u l k f = rw (tail-put 1 (set run 0 e) ys) (by run k)
      where
        by : (l : List ℕ) → 1 ≤ length l → Hunts (take 1 (set l 0 e) ++ ys) (more + 1) (hunt_at (moves_to m x) s more e) u
        by [] k = absurd (omega arith)
        by (y ∷ tail) k = deeper y tail ys u l f

-- ---- the entries of a listing in turn

moves-are : (m : Resolved.Model) (x : List ℕ) (s : State) (es : List Entry) → listing m s ≡ entries_are es → moves_to m x s ≡ lists (map (way_of m x s es) es)
unfolding moves_to moves_of
moves-are m x s es l = rw l refl

module _ (m : Resolved.Model) (x : List ℕ) (s : State) (es : List Entry) (l : listing m s ≡ entries_are es) (more e : ℕ) (met : Missed)
    (i : hunt_from (moves_to m x) s more 0 ≡ or_else (gone (met_in met)) (hunt_from (moves_to m x) s more e)) where
  step_of : e < length es → hunt_from (moves_to m x) s more e ≡ or_else (hunt_at (moves_to m x) s more e) (hunt_from (moves_to m x) s more (e + 1))
  step_of k = from_step (moves_to m x) s more e (map (way_of m x s es) es) (moves-are m x s es l) (simp length-map k)

  pub all-lost : (run : List ℕ) (n : ℕ) (r : Hit) (k b : Missed) → e < length es → Hunts run n (hunt_at (moves_to m x) s more e) r → r ≡ Err k → b ≡ joined met k
      → hunt_from (moves_to m x) s more 0 ≡ or_else (gone (met_in b)) (hunt_from (moves_to m x) s more (e + 1))
  all-lost run n r k b j h q o = pass-lost _ _ _ _ (met_in met) (met_in k) (met_in b) i (step_of j) (lost-is h q) (ap met_in o ∙ met-joined met k)

  pub all_found : (run : List ℕ) (n : ℕ) (r : Hit) → e < length es → Hunts run n (hunt_at (moves_to m x) s more e) r → r ≡ Ok tt → Hunts run n (hunt_from (moves_to m x) s more 0) (Ok tt)
  all_found run n r j h q = one (pass-found _ _ _ _ (met_in met) (take n run) i (step_of j) (found-is h q))

  pub all-over : (run : List ℕ) (n : ℕ) → length es ≤ e → Hunts run n (hunt_from (moves_to m x) s more 0) (Err met)
  all-over run n j = none (pass-over _ _ (met_in met) i (from-none (moves_to m x) s more e (map (way_of m x s es) es) (moves-are m x s es l) (simp length-map j)))

pub all_start : (m : Resolved.Model) (x : List ℕ) (s : State) (more : ℕ) → hunt_from (moves_to m x) s more 0 ≡ or_else (gone false) (hunt_from (moves_to m x) s more 0)
all_start m x s more = pass-start (hunt_from (moves_to m x) s more 0)

-- ---- a state that is still to be listed

pub world-of : {t roots scopes : List ℕ} {root variables : ℕ} {text places sizes : List ℕ} {zs : List ℤ} {m : Resolved.Model} {s : State}
    → Held t roots scopes root variables text places sizes m → Stands zs m s → World t roots scopes zs m s
unfolding FewBranches
world-of {root = root} {variables = variables} {m = m} h s = record {
  root = root;
  variables = variables;
  definitions = h.definitions;
  sums = h.sums;
  channels = h.channels;
  represents = h.represents;
  good = h.good;
  few = in-every (λ (s : Resolved.Sum). length s.branches ≤ branch_limit) m.sums (λ s i. (every_in (GoodSum m) m.sums h.good.sums s i).few-branches);
  state = s.good;
  numbers = s.numbers;
}

pub seek-refused : (m : Resolved.Model) (x : List ℕ) (s : State) (more : ℕ) (run : List ℕ) (b : List ℕ) (r : Outcome) (e : listing_refusal.Refusal) → buffer.Lists (listing m s) r b → r ≡ Err e
    → Hunts run (more + 1) (hunt_from (moves_to m x) s more 0) (Err Unsure)
unfolding moves_to moves_of
seek-refused m x s more run b r e h q = none (from-unlisted (moves_to m x) s more 0 (by (rw q at h.answer)))
  where
    by : {l : machine.Listed} → buffer.Answers l (Err e) → moves_of m x s l ≡ unlisted
    by (buffer.Answers.refuses a) = refl

-- the entries that were listed
pub record Filling (b : List ℕ) (m : Resolved.Model) (s : State) (count : ℕ) : Type 0 where
  pub entries : List Entry
  pub listed : listing m s ≡ entries_are entries
  pub numbers : b ≡ filled_numbers entries
  pub count-is : count ≡ length entries

pub seek-filled : (m : Resolved.Model) (s : State) (b : List ℕ) (r : Outcome) (x : Listed) → buffer.Lists (listing m s) r b → r ≡ Ok x → Filling b m s x.count
unfolding listing_numbers
seek-filled m s b r x h q = by (listing m s) refl (rw q at h.answer) h.numbers
  where
    by : (l : machine.Listed) → listing m s ≡ l → buffer.Answers l (Ok x) → b ≡ listing_numbers l → Filling b m s x.count
    by (entries_are es) k (buffer.Answers.counts n t) f = record { entries = es; listed = k; numbers = f; count-is = n }
    by (refused_with a) k y f = elim y [ ]

-- there are few entries
pub few-entries : {l : List ℕ} {m : Resolved.Model} {s : State} {es : List Entry} → Lists l m s es → length es ≤ entry_limit
few-entries {m = m} {s = s} {es = es} h = ((accepted m s es).0 h.listed).2

-- ---- one length after the other

-- no run: none, or 27
ended : (m : Missed) (a : Answer) (run : List ℕ) → a ≡ ending (met_in m) → Answered a (Err m) run
unfolding ending
ended Nothing a run e = no_run e
ended Unsure a run e = not_known e

module _ (m : Resolved.Model) (x : List ℕ) (s : State) (d more : ℕ) (met : Missed) (i : hunt_longer (moves_to m x) s d 0 ≡ or_else (gone (met_in met)) (hunt_longer (moves_to m x) s d more)) where
  pub longer-lost : (run : List ℕ) (n : ℕ) (r : Hit) (k b : Missed) → more < d → Hunts run n (hunt_from (moves_to m x) s more 0) r → r ≡ Err k → b ≡ joined met k
      → hunt_longer (moves_to m x) s d 0 ≡ or_else (gone (met_in b)) (hunt_longer (moves_to m x) s d (more + 1))
  longer-lost run n r k b l h q o = pass-lost _ _ _ _ (met_in met) (met_in k) (met_in b) i (longer-step (moves_to m x) s d more l) (lost-is h q) (ap met_in o ∙ met-joined met k)

  pub longer-found : (run : List ℕ) (r : Hit) → more + 1 ≤ length run → more < d → Hunts run (more + 1) (hunt_from (moves_to m x) s more 0) r → r ≡ Ok tt → Answered (search (moves_to m x) s d) (Ok (more + 1)) run
  unfolding hunt_answer
  longer-found run r w l h q =
      a-run w (search_is (moves_to m x) s d ∙ ap hunt_answer (pass-found _ _ _ _ (met_in met) (take (more + 1) run) i (longer-step (moves_to m x) s d more l) (found-is h q)))

  pub longer-over : (run : List ℕ) → d ≤ more → Answered (search (moves_to m x) s d) (Err met) run
  unfolding hunt_answer
  longer-over run l = ended met _ run (search_is (moves_to m x) s d ∙ ap hunt_answer (pass-over _ _ (met_in met) i (longer-none (moves_to m x) s d more l)))

pub longer-start : (m : Resolved.Model) (x : List ℕ) (s : State) (d : ℕ) → hunt_longer (moves_to m x) s d 0 ≡ or_else (gone false) (hunt_longer (moves_to m x) s d 0)
longer-start m x s d = pass-start (hunt_longer (moves_to m x) s d 0)

-- ---- tables of rows

pub stands-kept : {zs zs' : List ℤ} {m : Resolved.Model} {s : State} → zs' ≡ zs → Stands zs m s → Stands zs' m s
stands-kept e h = record { good = h.good; numbers = e ∙ h.numbers }

pub lists-kept : {l l' : List ℕ} {m : Resolved.Model} {s : State} {es : List Entry} → l' ≡ l → Lists l m s es → Lists l' m s es
lists-kept e h = record { listed = h.listed; numbers = e ∙ h.numbers }

pub room-kept : {n : ℕ} {zs zs' : List (List ℤ)} {l l' : List (List ℕ)} {run run' : List ℕ} → length zs' ≡ length zs → length l' ≡ length l → length run' ≡ length run → Room n zs l run → Room n zs' l' run'
room-kept a b c h = let p = h.states in let q = h.listings in let r = h.entries in record { states = omega arith; listings = omega arith; entries = omega arith }

-- room for one entry less behind the first rows
pub room-tail : (more : ℕ) (zs : List (List ℤ)) (l : List (List ℕ)) (run : List ℕ) (zs' : List (List ℤ)) (run' : List ℕ) → length zs' ≡ length zs → length run' ≡ length run → 1 ≤ more → Room (more + 1) zs l run
    → Room (more - 1 + 1) (mid_of 1 (length zs' - 1) zs') (mid_of 1 (length l - 1) l) (mid_of 1 (length run' - 1) run')
room-tail more zs l run zs' run' a b k h =
    let p = h.states in
    let q = h.listings in
    let r = h.entries in
    rw (tail-mid 1 zs', tail-mid 1 l, tail-mid 1 run') (record { states = simp length-drop (omega arith); listings = simp length-drop (omega arith); entries = simp length-drop (omega arith) })

-- the second row stands first in the rows behind the first
pub stands-tail : {m : Resolved.Model} {x : List ℕ} {s : State} {e : ℕ} {zs zs' : List (List ℤ)} {r : Move} (t : Takes m x s e zs zs' r) (h : Bool) → r ≡ Ok (Some h)
    → Stands (first (mid_of 1 (length zs' - 1) zs')) m t.after
stands-tail {zs' = zs'} t h q = rw (tail-mid 1 zs', next_row zs') (t.goes h q)

-- a listing that was filled
pub lists_filled : {b : List ℕ} {m : Resolved.Model} {s : State} {count : ℕ} (l : List (List ℕ)) → 1 ≤ length l → (f : Filling b m s count) → Lists (first (set l 0 b)) m s f.entries
lists_filled {b = b} l n f = record { listed = f.listed; numbers = first_is l b n ∙ f.numbers }

-- ---- the state that is lent stands first

pub start-stands : {state : List ℤ} {m : Resolved.Model} {s : State} (rows : List (List ℤ)) → 1 ≤ length rows → enter.Stands state m s → Stands (first (set rows 0 state)) m s
start-stands {state} rows l h = record { good = h.state; numbers = first_is rows state l ∙ h.numbers }

pub start-length : {state : List ℤ} {m : Resolved.Model} {s : State} → enter.Stands state m s → length state ≡ state_length
start-length {m = m} {s = s} h = ap length h.numbers ∙ state-length m h.good s h.state

-- room in the tables of a search
pub start-room : (depth : ℕ) (zs : List (List ℤ)) (l : List (List ℕ)) (run : List ℕ) → depth ≤ 8 → length zs ≡ 9 → length l ≡ 8 → length run ≡ 8 → Room depth zs l run
start-room depth zs l run a b c d = record { states = omega arith; listings = omega arith; entries = omega arith }
