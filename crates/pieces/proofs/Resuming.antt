-- What each arm of the bounded walk gives: an entry, the entries of a listing in turn, a state that is still to be listed, the same after a run (02, note 10). From what is spent, over plain lists.
use mathlib.Core.Path.{◌≡◌, refl, sym, ap, ap₂, ◌∙◌, subst}
use mathlib.Core.List.{List, [], ◌∷◌, ◌++◌, map}
use mathlib.Core.Bool.{Bool, true, false, ◌&&◌}
use Prim.Native.Nat.{ℕ, zero, suc, ◌+◌, ◌-◌, ◌≤◌, ◌<◌}
use native.Mathlib.Omega.{arith}
use lib.IntN.{ℤ}
use lib.ListN.{length, get_or, set, take, drop, length-map, length-take, length-drop, length-set}
use borrow.Rule.Slice.PartMut.{put_mid, mid_of}
use Rattle.std.specs.Prelude.{None, Some, Result, Ok, Err}
use Rattle.model.specs.Resolved
use Rattle.rules.specs.Listing.{Entry}
use Rattle.runs.specs.Tree.{Way, idle, refused, leads, Listed, unlisted, lists, way_in, way_unsought, unsought}
use Rattle.runs.specs.Walk.{Event, reaches, events_from, later_same}
use Rattle.search.proofs.Part.{tail-put, tail-mid}
use Rattle.step.specs.declared.Refusal.{Refusal}
use Rattle.machine.specs.State.{State}
use Rattle.machine.specs.Machine as machine
use Rattle.machine.specs.Machine.{listing, entries_are, refused_with, way_of, moves_of, moves_to}
use Rattle.listing.specs.Buffer as buffer
use Rattle.listing.specs.Buffer.{Outcome}
use Rattle.listing.specs.declared.Refusal as listing_refusal
use Rattle.spend.specs.Spend as spec
use Rattle.spend.specs.Spend.{spend, and_then, behind_spent, through, hit, stop}
use Rattle.walk.specs.Held.{Move, way_found, Takes}
use Rattle.pieces.specs.declared.Budget.{Budget}
use Rattle.pieces.specs.declared.Stop.{Stop}
use Rattle.pieces.specs.declared.Stop.TheVariants.{Wait, Spent}
use Rattle.pieces.specs.Walked.{events_at, events_behind, IsRun, moves_as, Spends, passes, waits, stops}
use Rattle.pieces.proofs.Events.{unsought-in, run_hit, run-stop, run-through, run-leads, run_tail, at-idle, at-refused, at_one, at_more, behind-none, behind_more, from_step, from-none, from-unlisted, same-parts}

-- ---- what was spent

pub spends-as : {run : List ℕ} {n : ℕ} {x y : spec.Spent} {r : Result Budget Stop} → y ≡ x → Spends run n x r → Spends run n y r
spends-as {run} {n} {r = r} e f = subst (λ (z : spec.Spent). Spends run n z r) (sym e) f

pub spends-so : {run : List ℕ} {n : ℕ} {x : spec.Spent} {r q : Result Budget Stop} → r ≡ q → Spends run n x r → Spends run n x q
spends-so {run} {n} {x} e f = subst (Spends run n x) e f

pub pass-is : {run : List ℕ} {n : ℕ} {x : spec.Spent} {l : Budget} → Spends run n x (Ok l) → x ≡ through (suc l.further) l.met
pass-is (passes p) = p

-- two parts of a walk: the first stops it, or the second goes on
pub part-stops : {run : List ℕ} {n : ℕ} {x y : spec.Spent} {f : Stop} (a : List Event) → y ≡ and_then x a → Spends run n x (Err f) → Spends run n y (Err f)
unfolding and_then
part-stops a e (waits p) = waits (e ∙ rw p refl)
part-stops a e (stops p) = stops (e ∙ rw p refl)

pub part-passes : {run : List ℕ} {n : ℕ} {x y : spec.Spent} {l : Budget} (a : List Event) → y ≡ and_then x a → Spends run n x (Ok l) → y ≡ spend l.further l.met a
unfolding and_then
part-passes a e (passes p) = e ∙ rw p refl

-- ---- one run

pub walked-hit : (l : Budget) (wait : Bool) (n : ℕ) (run : List ℕ) → wait ≡ true → Spends run n (spend l.further l.met (reaches wait (take n run) ∷ [])) (Err (Wait l.further))
walked-hit l wait n run w = rw w (waits (run_hit l.further l.met (take n run)))

pub walked_stop : (l : Budget) (wait : Bool) (n : ℕ) (run : List ℕ) → wait ≡ false → l.further ≡ 0 → Spends run n (spend l.further l.met (reaches wait (take n run) ∷ [])) (Err (Spent l.met))
walked_stop l wait n run w o = rw (w, o) (stops (run-stop l.met (take n run)))

pub walked-through : (l : Budget) (wait : Bool) (n : ℕ) (run : List ℕ) → wait ≡ false → (l.further ≡ 0 → ⊥) → Spends run n (spend l.further l.met (reaches wait (take n run) ∷ [])) (Ok (record { further = l.further - 1; met = l.met }))
walked-through l wait n run w z =
    let o : l.further ≡ suc (l.further - 1) = omega (arith, z) in
    passes (ap (λ (b : ℕ). spend b l.met (reaches wait (take n run) ∷ [])) o ∙ rw w (run-through (l.further - 1) l.met (take n run)))

-- the wait, where one is sought
pub both-true : {n h k : Bool} → n ≡ true → k ≡ h → k ≡ (n && h)
both-true e f = rw (e, f) refl

pub both-false : {n k : Bool} (h : Bool) → n ≡ false → k ≡ n → k ≡ (n && h)
both-false h e f = rw e (f ∙ e)

-- a run is walked
abbrev pub Walks : Budget → Bool → Result Budget Stop → Type 0
Walks l h u = (n : ℕ) (run : List ℕ) → Spends run n (spend l.further l.met (reaches h (take n run) ∷ [])) u

pub walks-as : (l : Budget) {h k : Bool} {u : Result Budget Stop} → k ≡ h → Walks l k u → Walks l h u
walks-as l {u = u} p f n run = spends-as (ap (λ (k : Bool). spend l.further l.met (reaches k (take n run) ∷ [])) (sym p)) (f n run)

-- ---- to the wait, or to none

module _ (m : Resolved.Model) (x : List ℕ) (s : State) where
  pub as-idle : (named : Bool) (e : ℕ) → idle ≡ way_in (moves_to m x s) e → idle ≡ way_in (moves_as m named x s) e
  unfolding moves_as way_unsought
  as-idle true e w = w
  as-idle false e w = sym (unsought-in (moves_to m x s) e ∙ ap way_unsought (sym w))

  pub as-refused : (named : Bool) (e : ℕ) → refused ≡ way_in (moves_to m x s) e → refused ≡ way_in (moves_as m named x s) e
  unfolding moves_as way_unsought
  as-refused true e w = w
  as-refused false e w = sym (unsought-in (moves_to m x s) e ∙ ap way_unsought (sym w))

  as-leads : (named : Bool) (e : ℕ) (h : Bool) (t : State) → leads h t ≡ way_in (moves_to m x s) e → leads (named && h) t ≡ way_in (moves_as m named x s) e
  unfolding moves_as way_unsought
  as-leads true e h t w = w
  as-leads false e h t w = sym (unsought-in (moves_to m x s) e ∙ ap way_unsought (sym w))

  pub as-unlisted : (named : Bool) → moves_to m x s ≡ unlisted → moves_as m named x s ≡ unlisted
  unfolding moves_as unsought
  as-unlisted true e = e
  as-unlisted false e = rw e refl

  pub as-lists : (named : Bool) (ws : List (Way State)) → moves_to m x s ≡ lists ws → (vs : List (Way State)) × (moves_as m named x s ≡ lists vs) × (length vs ≡ length ws)
  unfolding moves_as unsought
  as-lists true ws e = (ws, e, refl)
  as-lists false ws e = (map way_unsought ws, rw e refl, length-map ws way_unsought)

-- ---- one entry

module _ {m : Resolved.Model} {x : List ℕ} {s : State} {e : ℕ} {zs zs' : List (List ℤ)} {r : Move} (t : Takes m x s e zs zs' r) (named : Bool) where
  pub way-so : {q : Move} → r ≡ q → way_found q t.after ≡ way_in (moves_to m x s) e
  way-so p = ap (λ (u : Move). way_found u t.after) (sym p) ∙ t.way

  pub entry-idle : (l : Budget) (more : ℕ) (run : List ℕ) → r ≡ Ok None → Spends run (more + 1) (spend l.further l.met (events_at (moves_as m named x) s more e)) (Ok l)
  unfolding way_found
  entry-idle l more run q = passes (at-idle (moves_as m named x) s more e l.further l.met (as-idle m x s named e (way-so q)))

  pub entry-refused : {f : Refusal} (l : Budget) (more : ℕ) (run : List ℕ) → r ≡ Err f → Spends run (more + 1) (spend l.further l.met (events_at (moves_as m named x) s more e)) (Ok (record { further = l.further; met = true }))
  unfolding way_found
  entry-refused l more run q = passes (at-refused (moves_as m named x) s more e l.further l.met (as-refused m x s named e (way-so q)))

  module _ (h : Bool) (q : r ≡ Ok (Some h)) where
    pub leads-to : leads (named && h) t.after ≡ way_in (moves_as m named x s) e
    unfolding way_found
    leads-to = as-leads m x s named e h t.after (way-so q)

    pub entry_one : (l : Budget) (more : ℕ) (run : List ℕ) (u : Result Budget Stop) → more ≡ 0 → 1 ≤ length run → Walks l (named && h) u
        → Spends (set run 0 e) (more + 1) (spend l.further l.met (events_at (moves_as m named x) s more e)) u
    entry_one l more run u o k f = by run k
      where
        by : (run : List ℕ) → 1 ≤ length run → Spends (set run 0 e) (more + 1) (spend l.further l.met (events_at (moves_as m named x) s more e)) u
        by [] k = absurd (omega (arith, k))
        by (y ∷ run) k = rw (o, at_one (moves_as m named x) s t.after e (named && h) leads-to) (f 1 (e ∷ run))

-- what is spent behind an entry, the entry standing first
behind-so : {ys : List ℕ} {n k : ℕ} {x y : spec.Spent} {u : Result Budget Stop} (e : ℕ) → k ≡ suc n → y ≡ behind_spent e x → Spends ys n x u → Spends (e ∷ ys) k y u
unfolding behind_spent
behind-so e o g (passes p) = passes (g ∙ rw p refl)
behind-so e o g (waits p) = waits (g ∙ rw (p, o) refl)
behind-so e o g (stops p) = stops (g ∙ rw (p, o) refl)

-- the same where the runs behind it stand in the table's tail
pub behind_table : {n k : ℕ} {x y : spec.Spent} {u : Result Budget Stop} (run ys : List ℕ) → 1 ≤ length run → k ≡ suc n → y ≡ behind_spent (get_or run 0 0) x → Spends ys n x u
    → Spends (put_mid 1 (length run - 1) run ys) k y u
behind_table {n} {k} {x} {y} {u} run ys l o g f = rw (tail-put 1 run ys) (by run l g)
  where
    by : (run : List ℕ) → 1 ≤ length run → y ≡ behind_spent (get_or run 0 0) x → Spends (take 1 run ++ ys) k y u
    by [] l g = absurd (omega (arith, l))
    by (e ∷ run) l g = behind-so e o g f

module _ {m : Resolved.Model} {x : List ℕ} {s : State} {e : ℕ} {zs zs' : List (List ℤ)} {r : Move} (t : Takes m x s e zs zs' r) (named : Bool) (h : Bool) (q : r ≡ Ok (Some h)) where
  pub entry_more : (l : Budget) (more : ℕ) (run ys : List ℕ) (u : Result Budget Stop) → 1 ≤ more → 1 ≤ length run → Spends ys (more - 1 + 1) (spend l.further l.met (events_from (moves_as m named x) 0 (more - 1) t.after)) u
      → Spends (put_mid 1 (length (set run 0 e) - 1) (set run 0 e) ys) (more + 1) (spend l.further l.met (events_at (moves_as m named x) s more e)) u
  entry_more l more run ys u k o f = behind_table (set run 0 e) ys (simp length-set o) (omega (arith, k)) (by run o) f
    where
      d : suc (more - 1) ≡ more
      d = omega (arith, k)

      a : spend l.further l.met (events_at (moves_as m named x) s more e) ≡ behind_spent e (spend l.further l.met (events_from (moves_as m named x) 0 (more - 1) t.after))
      a = ap (λ (n : ℕ). spend l.further l.met (events_at (moves_as m named x) s n e)) (sym d) ∙ at_more (moves_as m named x) s t.after (more - 1) e l.further l.met (named && h) (leads-to t named h q)

      by : (run : List ℕ) → 1 ≤ length run → spend l.further l.met (events_at (moves_as m named x) s more e) ≡ behind_spent (get_or (set run 0 e) 0 0) (spend l.further l.met (events_from (moves_as m named x) 0 (more - 1) t.after))
      by [] o = absurd (omega (arith, o))
      by (y ∷ run) o = a

-- ---- the entries of a listing in turn

pub moves-are : (m : Resolved.Model) (x : List ℕ) (s : State) (es : List Entry) → listing m s ≡ entries_are es → moves_to m x s ≡ lists (map (way_of m x s es) es)
unfolding moves_to moves_of
moves-are m x s es l = rw l refl

led-below : (vs : List (Way State)) (e : ℕ) (h : Bool) (t : State) → get_or vs e idle ≡ leads h t → e < length vs
led-below [] e h t q = let z : ◌≡◌ {A = ℕ} 0 1 = cc in absurd (omega arith)
led-below (v ∷ vs) zero h t q = omega arith
led-below (v ∷ vs) (suc e) h t q = let l = led-below vs e h t q in omega (arith, l)

module _ (m : Resolved.Model) (x : List ℕ) (s : State) (es : List Entry) (l : listing m s ≡ entries_are es) (named : Bool) where
  listed : (vs : List (Way State)) × (moves_as m named x s ≡ lists vs) × (length vs ≡ length es)
  listed = let g = as-lists m x s named (map (way_of m x s es) es) (moves-are m x s es l) in (g.0, g.1, g.2 ∙ length-map es (way_of m x s es))

  module _ (more e : ℕ) (b : Budget) where
    step_of : e < length es → spend b.further b.met (events_from (moves_as m named x) e more s) ≡ and_then (spend b.further b.met (events_at (moves_as m named x) s more e)) (events_from (moves_as m named x) (e + 1) more s)
    step_of j = let g = listed in let n = g.2 in from_step (moves_as m named x) s more e b.further b.met g.0 g.1 (omega (arith, n, j))

    pub rest-passes : (run : List ℕ) (n : ℕ) (c : Budget) → e < length es → Spends run n (spend b.further b.met (events_at (moves_as m named x) s more e)) (Ok c)
        → spend b.further b.met (events_from (moves_as m named x) e more s) ≡ spend c.further c.met (events_from (moves_as m named x) (e + 1) more s)
    rest-passes run n c j h = part-passes _ (step_of j) h

    pub rest-stops : (run : List ℕ) (n : ℕ) (f : Stop) → e < length es → Spends run n (spend b.further b.met (events_at (moves_as m named x) s more e)) (Err f) → Spends run n (spend b.further b.met (events_from (moves_as m named x) e more s)) (Err f)
    rest-stops run n f j h = part-stops _ (step_of j) h

    pub rest_over : (run : List ℕ) (n : ℕ) → length es ≤ e → Spends run n (spend b.further b.met (events_from (moves_as m named x) e more s)) (Ok b)
    rest_over run n j = let g = listed in let d = g.2 in passes (from-none (moves_as m named x) s more e b.further b.met g.0 g.1 (omega (arith, d, j)))

  pub run-below : (e : ℕ) (r : List ℕ) → IsRun (moves_as m named x) s (e ∷ r) → e < length es
  unfolding way_in
  run-below e r f =
      let g = run-leads (moves_as m named x) f in
      let v = listed in
      let n = v.2 in
      let o : e < length v.0 = led-below v.0 e g.0 g.1 (sym (ap (λ (u : Listed State). way_in u e) v.1) ∙ g.2) in
      omega (arith, n, o)

-- ---- a state that is still to be listed

pub refused-unlisted : (m : Resolved.Model) (x : List ℕ) (s : State) (b : List ℕ) (r : Outcome) (f : listing_refusal.Refusal) → buffer.Lists (listing m s) r b → r ≡ Err f → moves_to m x s ≡ unlisted
unfolding moves_to moves_of
refused-unlisted m x s b r f h q = by (rw q at h.answer)
  where
    by : {l : machine.Listed} → buffer.Answers l (Err f) → moves_of m x s l ≡ unlisted
    by (buffer.Answers.refuses a) = refl

pub seek-refused : (m : Resolved.Model) (x : List ℕ) (s : State) (named : Bool) (l : Budget) (more : ℕ) (run b : List ℕ) (r : Outcome) (f : listing_refusal.Refusal) → buffer.Lists (listing m s) r b → r ≡ Err f
    → Spends run (more + 1) (spend l.further l.met (events_from (moves_as m named x) 0 more s)) (Ok (record { further = l.further; met = true }))
seek-refused m x s named l more run b r f h q = passes (from-unlisted (moves_as m named x) s more 0 l.further l.met (as-unlisted m x s named (refused-unlisted m x s b r f h q)))

-- ---- after a run

pub first_of : (n : ℕ) (run : List ℕ) → 1 ≤ length run → take (n + 1) run ≡ get_or run 0 0 ∷ take n (drop 1 run)
first_of n [] o = absurd (omega (arith, o))
first_of n (e ∷ r) o = let a : n + 1 ≡ suc n = omega arith in rw a refl

-- a state from which a run goes has a listing
pub never-refused : (m : Resolved.Model) (x : List ℕ) (s : State) (named : Bool) (n : ℕ) (run b : List ℕ) (r : Outcome) (f : listing_refusal.Refusal) → 1 ≤ length run → buffer.Lists (listing m s) r b → r ≡ Err f
    → IsRun (moves_as m named x) s (take (n + 1) run) → ⊥
unfolding way_in
never-refused m x s named n run b r f o h q g =
    let k = run-leads (moves_as m named x) (subst (IsRun (moves_as m named x) s) (first_of n run o) g) in
    let w : moves_as m named x s ≡ unlisted = as-unlisted m x s named (refused-unlisted m x s b r f h q) in
    let p : idle ≡ leads k.0 k.1 = sym (ap (λ (u : Listed State). way_in u (get_or run 0 0)) w) ∙ k.2 in
    let z : ◌≡◌ {A = ℕ} 0 1 = cc in
    omega arith

-- its first entry is taken as before
pub retaken : {m : Resolved.Model} {x : List ℕ} {s : State} {e : ℕ} {zs zs' : List (List ℤ)} {r : Move} (named : Bool) (l : List ℕ) → Takes m x s e zs zs' r → IsRun (moves_as m named x) s (e ∷ l) → (h : Bool) × (r ≡ Ok (Some h))
unfolding way_found
retaken {m} {x} {s} {e} {zs} {zs'} {r} named l t f = by r refl
  where
    k : (h : Bool) × (u : State) × (way_in (moves_as m named x s) e ≡ leads h u) × IsRun (moves_as m named x) u l
    k = run-leads (moves_as m named x) f

    by : (q : Move) → r ≡ q → (h : Bool) × (q ≡ Ok (Some h))
    by (Ok None) p = let w : idle ≡ leads k.0 k.1 = as-idle m x s named e (way-so t named p) ∙ k.2 in let z : ◌≡◌ {A = ℕ} 0 1 = cc in absurd (omega arith)
    by (Ok (Some h)) p = (h, refl)
    by (Err g) p = let w : refused ≡ leads k.0 k.1 = as-refused m x s named e (way-so t named p) ∙ k.2 in let z : ◌≡◌ {A = ℕ} 0 1 = cc in absurd (omega arith)

pub behind-over : (m : Resolved.Model) (x : List ℕ) (s : State) (named : Bool) (l : Budget) (e more : ℕ) (run : List ℕ) → more ≡ 0
    → Spends run (more + 1) (spend l.further l.met (events_behind (moves_as m named x) s e (take more (drop 1 run)))) (Ok l)
behind-over m x s named l e more run o = rw o (passes (behind-none (moves_as m named x) s e l.further l.met))

module _ {m : Resolved.Model} {x : List ℕ} {s : State} {e : ℕ} {zs zs' : List (List ℤ)} {r : Move} (t : Takes m x s e zs zs' r) (named : Bool) (h : Bool) (q : r ≡ Ok (Some h)) (more : ℕ) (run : List ℕ) (some : 1 ≤ more) where
  d : more - 1 + 1 ≡ more
  d = omega (arith, some)

  tail-is : take (more - 1 + 1) (mid_of 1 (length run - 1) run) ≡ take more (drop 1 run)
  tail-is = rw (tail-mid 1 run, d) refl

  pub behind-follows : IsRun (moves_as m named x) s (e ∷ take more (drop 1 run)) → IsRun (moves_as m named x) t.after (take (more - 1 + 1) (mid_of 1 (length run - 1) run))
  behind-follows f = subst (IsRun (moves_as m named x) t.after) (sym tail-is) (run_tail (moves_as m named x) f (leads-to t named h q))

  pub behind-again : (l : Budget) (ys : List ℕ) (u : Result Budget Stop) → 1 ≤ length run → e ≡ get_or run 0 0
      → Spends ys (more - 1 + 1) (spend l.further l.met (later_same (moves_as m named x) t.after (take (more - 1 + 1) (mid_of 1 (length run - 1) run)))) u
      → Spends (put_mid 1 (length run - 1) run ys) (more + 1) (spend l.further l.met (events_behind (moves_as m named x) s e (take more (drop 1 run)))) u
  behind-again l ys u o i f = behind_table run ys o (let k : more + 1 ≡ suc (more - 1 + 1) = omega (arith, some) in k) a f
    where
      a : spend l.further l.met (events_behind (moves_as m named x) s e (take more (drop 1 run))) ≡ behind_spent (get_or run 0 0) (spend l.further l.met (later_same (moves_as m named x) t.after (take (more - 1 + 1) (mid_of 1 (length run - 1) run))))
      a = behind_more (moves_as m named x) s t.after e l.further l.met (named && h) (take more (drop 1 run)) (leads-to t named h q)
          ∙ ap₂ (λ (k : ℕ) (z : List ℕ). behind_spent k (spend l.further l.met (later_same (moves_as m named x) t.after z))) i (sym tail-is)

module _ (m : Resolved.Model) (x : List ℕ) (s : State) (named : Bool) (l : Budget) (more : ℕ) (run : List ℕ) (room : more + 1 ≤ length run) (e : ℕ) (i : e ≡ get_or run 0 0) where
  run-is : take (more + 1) run ≡ e ∷ take more (drop 1 run)
  run-is = first_of more run (omega (arith, room)) ∙ ap (λ (k : ℕ). k ∷ take more (drop 1 run)) (sym i)

  pub resume-follows : IsRun (moves_as m named x) s (take (more + 1) run) → IsRun (moves_as m named x) s (e ∷ take more (drop 1 run))
  resume-follows f = subst (IsRun (moves_as m named x) s) run-is f

  long : length (take more (drop 1 run)) ≡ more
  long = length-take more (drop 1 run) ∙ (let a : length (drop 1 run) ≡ length run - 1 = length-drop 1 run in omega (arith, a, room))

  resume-parts : spend l.further l.met (later_same (moves_as m named x) s (take (more + 1) run)) ≡ and_then (spend l.further l.met (events_behind (moves_as m named x) s e (take more (drop 1 run)))) (events_from (moves_as m named x) (e + 1) more s)
  resume-parts =
      ap (λ (r : List ℕ). spend l.further l.met (later_same (moves_as m named x) s r)) run-is ∙ same-parts (moves_as m named x) s e l.further l.met (take more (drop 1 run))
      ∙ ap (λ (k : ℕ). and_then (spend l.further l.met (events_behind (moves_as m named x) s e (take more (drop 1 run)))) (events_from (moves_as m named x) (e + 1) k s)) long

  pub resume-stops : (run' : List ℕ) (n : ℕ) (f : Stop) → Spends run' n (spend l.further l.met (events_behind (moves_as m named x) s e (take more (drop 1 run)))) (Err f)
      → Spends run' n (spend l.further l.met (later_same (moves_as m named x) s (take (more + 1) run))) (Err f)
  resume-stops run' n f h = part-stops _ resume-parts h

  pub resume-passes : (run' : List ℕ) (n : ℕ) (c : Budget) → Spends run' n (spend l.further l.met (events_behind (moves_as m named x) s e (take more (drop 1 run)))) (Ok c)
      → spend l.further l.met (later_same (moves_as m named x) s (take (more + 1) run)) ≡ spend c.further c.met (events_from (moves_as m named x) (e + 1) more s)
  resume-passes run' n c h = part-passes _ resume-parts h
