-- What is spent on one entry, on the entries in turn, and after a run (02, note 10). Assumes nothing.
use mathlib.Core.Path.{◌≡◌, refl, sym, ◌∙◌, subst}
use mathlib.Core.List.{List, [], ◌∷◌, map}
use mathlib.Core.Bool.{Bool, true, false}
use mathlib.Core.Option.{Option, some}
use Prim.Native.Nat.{ℕ, zero, suc, ◌+◌, ◌-◌, ◌≤◌, ◌<◌}
use native.Mathlib.Omega.{arith}
use native.Mathlib.Numerals.{add-one}
use lib.ListN.{length, get_or, drop, drop_of_length-le}
use lib.Seq.{drop-cons}
use Rattle.runs.specs.Tree.{Way, idle, refused, leads, Listed, unlisted, lists, way_in, way_unsought, unsought}
use Rattle.runs.specs.Walk.{reaches, behind, end_of, of_way, of_ways, of_listed, events, events_from, levels, walk, next, later_same, later, led, follows}
use Rattle.spend.specs.Spend.{through, hit, stop, spend, and_then, behind_spent}
use Rattle.spend.proofs.Spend.{spend-join, spend-behind}
use Rattle.pieces.specs.Walked.{events_at, events_behind, IsRun}

-- ---- where no entry is the wait

unsought_at : {S : Type 0} (ws : List (Way S)) (e : ℕ) → get_or (map way_unsought ws) e idle ≡ way_unsought (get_or ws e idle)
unfolding way_unsought
unsought_at [] e = refl
unsought_at (w ∷ ws) zero = refl
unsought_at (w ∷ ws) (suc e) = unsought_at ws e

pub unsought-in : {S : Type 0} (l : Listed S) (e : ℕ) → way_in (unsought l) e ≡ way_unsought (way_in l e)
unfolding unsought way_in way_unsought
unsought-in unlisted e = refl
unsought-in (lists ws) e = unsought_at ws e

-- ---- one run

pub run_hit : (b : ℕ) (m : Bool) (r : List ℕ) → spend b m (reaches true r ∷ []) ≡ hit b r
unfolding spend
run_hit b m r = refl

pub run-stop : (m : Bool) (r : List ℕ) → spend 0 m (reaches false r ∷ []) ≡ stop m r
unfolding spend
run-stop m r = refl

pub run-through : (b : ℕ) (m : Bool) (r : List ℕ) → spend (suc b) m (reaches false r ∷ []) ≡ through (suc b) m
unfolding spend
run-through b m r = refl

module _ {S : Type 0} (ways : S → Listed S) where
  -- ---- a run

  led-leads : (w : Way S) (f : Bool → S → Option Bool) (g : Bool) → led f w ≡ some g → (h : Bool) × (t : S) × (w ≡ leads h t) × (f h t ≡ some g)
  unfolding led
  led-leads idle f g e = let z : ◌≡◌ {A = ℕ} 0 1 = cc in absurd (omega arith)
  led-leads refused f g e = let z : ◌≡◌ {A = ℕ} 0 1 = cc in absurd (omega arith)
  led-leads (leads h t) f g e = (h, t, refl, e)

  -- its first entry leads on
  pub run-leads : {s : S} {e : ℕ} {r : List ℕ} → IsRun ways s (e ∷ r) → (h : Bool) × (t : S) × (way_in (ways s) e ≡ leads h t) × IsRun ways t r
  unfolding follows
  run-leads {s} {e} {r} f =
      let w = led-leads (way_in (ways s) e) (λ k t. follows ways k t r) f.wait f.follows in
      (w.0, w.1, w.2, record { before = w.0; wait = f.wait; follows = w.3 })

  pub run_tail : {s t : S} {e : ℕ} {h : Bool} {r : List ℕ} → IsRun ways s (e ∷ r) → leads h t ≡ way_in (ways s) e → IsRun ways t r
  run_tail {s} {t} {e} {h} {r} f q =
      let w = run-leads f in
      let p : leads w.0 w.1 ≡ leads h t = sym w.2 ∙ sym q in
      let a : w.1 ≡ t = cc in
      subst (λ (u : S). IsRun ways u r) a w.3

  -- ---- one entry

  pub at-idle : (s : S) (n e b : ℕ) (m : Bool) → idle ≡ way_in (ways s) e → spend b m (events_at ways s n e) ≡ through (suc b) m
  unfolding events_at of_way spend
  at-idle s n e b m w = rw (← w) refl

  pub at-refused : (s : S) (n e b : ℕ) (m : Bool) → refused ≡ way_in (ways s) e → spend b m (events_at ways s n e) ≡ through (suc b) true
  unfolding events_at of_way spend
  at-refused s n e b m w = rw (← w) refl

  -- no more entries are asked
  pub at_one : (s t : S) (e : ℕ) (h : Bool) → leads h t ≡ way_in (ways s) e → events_at ways s 0 e ≡ reaches h (e ∷ []) ∷ []
  unfolding events_at of_way events behind
  at_one s t e h w = rw (← w) refl

  -- those behind it
  pub at_more : (s t : S) (n e b : ℕ) (m h : Bool) → leads h t ≡ way_in (ways s) e → spend b m (events_at ways s (suc n) e) ≡ behind_spent e (spend b m (events_from ways 0 n t))
  unfolding events_at of_way events events_from
  at_more s t n e b m h w = rw (← w) (spend-behind e b m (events ways (suc n) h t))

  -- after a run of one entry none begins with it
  pub behind-none : (s : S) (e b : ℕ) (m : Bool) → spend b m (events_behind ways s e []) ≡ through (suc b) m
  unfolding events_behind later_same spend
  behind-none s e b m = refl

  pub behind_more : (s t : S) (e b : ℕ) (m h : Bool) (r : List ℕ) → leads h t ≡ way_in (ways s) e → spend b m (events_behind ways s e r) ≡ behind_spent e (spend b m (later_same ways t r))
  unfolding events_behind next end_of
  behind_more s t e b m h r w = rw (← w) (spend-behind e b m (later_same ways t r))

  -- ---- entries in turn

  pub from_step : (s : S) (n e b : ℕ) (m : Bool) (ws : List (Way S)) → ways s ≡ lists ws → e < length ws
      → spend b m (events_from ways e n s) ≡ and_then (spend b m (events_at ways s n e)) (events_from ways (e + 1) n s)
  unfolding events_at events_from of_listed way_in of_ways
  from_step s n e b m ws p l =
      rw (p, drop-cons ws e idle l, add-one e) (spend-join b m (of_way (events ways n) e (get_or ws e idle)) (of_ways (events ways n) (suc e) (drop (suc e) ws)))

  pub from-none : (s : S) (n e b : ℕ) (m : Bool) (ws : List (Way S)) → ways s ≡ lists ws → length ws ≤ e → spend b m (events_from ways e n s) ≡ through (suc b) m
  unfolding events_from of_listed of_ways spend
  from-none s n e b m ws p l = rw (p, drop_of_length-le ws {i = e} l) refl

  pub from-unlisted : (s : S) (n e b : ℕ) (m : Bool) → ways s ≡ unlisted → spend b m (events_from ways e n s) ≡ through (suc b) true
  unfolding events_from of_listed spend
  from-unlisted s n e b m p = rw p refl

  -- after a run: behind its first entry, then the entries after that
  pub same-parts : (s : S) (e b : ℕ) (m : Bool) (r : List ℕ) → spend b m (later_same ways s (e ∷ r)) ≡ and_then (spend b m (events_behind ways s e r)) (events_from ways (e + 1) (length r) s)
  unfolding events_behind later_same
  same-parts s e b m r = rw (add-one e) (spend-join b m (map (behind e) (later_same ways (next ways s e) r)) (events_from ways (suc e) (length r) s))

  -- ---- lengths in turn

  pub level-step : (s : S) (n d b : ℕ) (m : Bool) → n < d → spend b m (levels ways s (n + 1) (d - n)) ≡ and_then (spend b m (events_from ways 0 n s)) (levels ways s (n + 1 + 1) (d - (n + 1)))
  unfolding levels events events_from
  level-step s n d b m l =
      let a : d - n ≡ suc (d - (n + 1)) = omega (arith, l) in
      let e : n + 1 ≡ suc n = omega arith in
      let g : suc n + 1 ≡ suc (suc n) = omega arith in
      rw (a, e, g) (spend-join b m (events ways (suc n) false s) (levels ways s (suc (suc n)) (d - suc n)))

  pub level-none : (s : S) (n d b : ℕ) (m : Bool) → d ≤ n → spend b m (levels ways s (n + 1) (d - n)) ≡ through (suc b) m
  unfolding levels spend
  level-none s n d b m l = let a : d - n ≡ 0 = omega (arith, l) in rw a refl

  -- the empty run, then the others by length
  pub all-parts : (s : S) (d b : ℕ) (m : Bool) → spend b m (walk ways s d) ≡ and_then (spend b m (reaches false [] ∷ [])) (levels ways s (0 + 1) (d - 0))
  unfolding walk levels events
  all-parts s d b m = let a : d - 0 ≡ d = omega arith in rw a (spend-join b m (reaches false [] ∷ []) (levels ways s 1 d))

  pub after_none : (s : S) (d b : ℕ) (m : Bool) → spend b m (later ways s d []) ≡ spend b m (levels ways s (0 + 1) (d - 0))
  unfolding later later_same
  after_none s d b m = refl

  pub after-parts : (s : S) (d b : ℕ) (m : Bool) (r : List ℕ) (n : ℕ) → length r ≡ n → spend b m (later ways s d r) ≡ and_then (spend b m (later_same ways s r)) (levels ways s (n + 1) (d - n))
  unfolding later
  after-parts s d b m r n e = rw (e, add-one n) (spend-join b m (later_same ways s r) (levels ways s (suc n) (d - n)))
