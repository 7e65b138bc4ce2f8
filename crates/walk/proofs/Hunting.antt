-- What is hunted for joins over the parts of a walk, entry by entry and length by length, and is what a search answers. By cases of what the walk comes upon.
use mathlib.Core.Path.{◌≡◌, refl, sym, ap, ◌∙◌}
use mathlib.Core.List.{List, [], ◌∷◌, ◌++◌, map}
use mathlib.Core.Bool.{Bool, true, false, ◌||◌}
use Prim.Native.Nat.{ℕ, suc, ◌+◌, ◌-◌, ◌≤◌, ◌<◌}
use native.Mathlib.Omega.{arith}
use native.Mathlib.Numerals.{add-one}
use lib.ListN.{length, get_or, drop, drop_of_length-le}
use lib.Seq.{drop-cons}
use Rattle.runs.specs.Tree.{Way, idle, refused, leads, Listed, unlisted, lists, way_in}
use Rattle.runs.specs.Walk.{Event, meets, reaches, behind, of_way, of_ways, of_listed, events, events_from, levels, walk, judge, search}
use Rattle.walk.specs.Hunted.{Hunted, gone, hits, or_else, behind_hunted, hunted, hunt_answer, hunt_at, hunt_from, hunt_longer}

-- ---- parts joined

or-gone : (x : Hunted) → or_else (gone false) x ≡ x
unfolding or_else
or-gone (gone m) = refl
or-gone (hits r) = refl

or-or : (x y z : Hunted) → or_else (or_else x y) z ≡ or_else x (or_else y z)
unfolding or_else
or-or (hits r) y z = refl
or-or (gone m) (hits r) z = refl
or-or (gone m) (gone n) (hits r) = refl
or-or (gone true) (gone n) (gone k) = refl
or-or (gone false) (gone n) (gone k) = refl

join : (a b : List Event) → hunted (a ++ b) ≡ or_else (hunted a) (hunted b)
unfolding hunted or_else
join [] b = sym (or-gone (hunted b))
join (meets ∷ a) b = ap (or_else (gone true)) (join a b) ∙ sym (or-or (gone true) (hunted a) (hunted b))
join (reaches true r ∷ a) b = refl
join (reaches false r ∷ a) b = join a b

behind-met : (e : ℕ) (x : Hunted) → or_else (gone true) (behind_hunted e x) ≡ behind_hunted e (or_else (gone true) x)
unfolding or_else behind_hunted
behind-met e (gone m) = refl
behind-met e (hits r) = refl

behind-all : (e : ℕ) (a : List Event) → hunted (map (behind e) a) ≡ behind_hunted e (hunted a)
unfolding hunted behind behind_hunted
behind-all e [] = refl
behind-all e (meets ∷ a) = ap (or_else (gone true)) (behind-all e a) ∙ behind-met e (hunted a)
behind-all e (reaches true r ∷ a) = refl
behind-all e (reaches false r ∷ a) = behind-all e a

-- ---- what is answered

or-met : (m : Bool) (x : Hunted) → or_else (gone true) x ≡ or_else (gone m) (or_else (gone true) x)
unfolding or_else
or-met m (hits r) = refl
or-met true (gone n) = refl
or-met false (gone n) = refl

judged : (m : Bool) (a : List Event) → judge m a ≡ hunt_answer (or_else (gone m) (hunted a))
unfolding judge hunted hunt_answer or_else
judged true [] = refl
judged false [] = refl
judged m (meets ∷ a) = judged true a ∙ ap hunt_answer (or-met m (hunted a))
judged m (reaches true r ∷ a) = refl
judged m (reaches false r ∷ a) = judged m a

module _ {S : Type 0} (ways : S → Listed S) (s : S) where
  -- the run of no entry is never the wait's
  pub search_is : (d : ℕ) → search ways s d ≡ hunt_answer (hunt_longer ways s d 0)
  unfolding search walk levels events hunt_longer hunted
  search_is d = let a : d - 0 ≡ d = omega arith in rw a (judged false (walk ways s d) ∙ ap hunt_answer (or-gone (hunted (walk ways s d))))

  -- ---- one entry

  pub at-idle : (n e : ℕ) → idle ≡ way_in (ways s) e → hunt_at ways s n e ≡ gone false
  unfolding hunt_at of_way hunted
  at-idle n e w = rw (← w) refl

  pub at-refused : (n e : ℕ) → refused ≡ way_in (ways s) e → hunt_at ways s n e ≡ gone true
  unfolding hunt_at of_way hunted or_else
  at-refused n e w = rw (← w) refl

  -- no more entries are asked
  pub at-wait : (e : ℕ) (t : S) → leads true t ≡ way_in (ways s) e → hunt_at ways s 0 e ≡ hits (e ∷ [])
  unfolding hunt_at of_way events hunted behind
  at-wait e t w = rw (← w) refl

  pub at_other : (e : ℕ) (t : S) → leads false t ≡ way_in (ways s) e → hunt_at ways s 0 e ≡ gone false
  unfolding hunt_at of_way events hunted behind
  at_other e t w = rw (← w) refl

  -- those behind it
  pub at_more : (n e : ℕ) (h : Bool) (t : S) → leads h t ≡ way_in (ways s) e → hunt_at ways s (suc n) e ≡ behind_hunted e (hunt_from ways t n 0)
  unfolding hunt_at of_way events hunt_from events_from
  at_more n e h t w = rw (← w) (behind-all e (events ways (suc n) h t))

  -- ---- entries in turn

  pub from_step : (n e : ℕ) (ws : List (Way S)) → ways s ≡ lists ws → e < length ws → hunt_from ways s n e ≡ or_else (hunt_at ways s n e) (hunt_from ways s n (e + 1))
  unfolding hunt_from hunt_at events_from of_listed way_in of_ways
  from_step n e ws p l =
      rw (p, drop-cons ws e idle l, add-one e) (join (of_way (events ways n) e (get_or ws e idle)) (of_ways (events ways n) (suc e) (drop (suc e) ws)))

  pub from-none : (n e : ℕ) (ws : List (Way S)) → ways s ≡ lists ws → length ws ≤ e → hunt_from ways s n e ≡ gone false
  unfolding hunt_from events_from of_listed of_ways hunted
  from-none n e ws p l = rw (p, drop_of_length-le ws {i = e} l) refl

  pub from-unlisted : (n e : ℕ) → ways s ≡ unlisted → hunt_from ways s n e ≡ gone true
  unfolding hunt_from events_from of_listed hunted or_else
  from-unlisted n e p = rw p refl

  -- ---- lengths in turn

  pub longer-step : (d n : ℕ) → n < d → hunt_longer ways s d n ≡ or_else (hunt_from ways s n 0) (hunt_longer ways s d (n + 1))
  unfolding hunt_longer hunt_from levels events events_from
  longer-step d n l =
      let a : d - n ≡ suc (d - suc n) = omega arith in
      rw (a, add-one n) (join (events ways (suc n) false s) (levels ways s (suc (suc n)) (d - suc n)))

  pub longer-none : (d n : ℕ) → d ≤ n → hunt_longer ways s d n ≡ gone false
  unfolding hunt_longer levels hunted
  longer-none d n l = let a : d - n ≡ 0 = omega arith in rw a refl

-- ---- a loop that hunts for a: what is left is x, of which t comes first and y after it

pub pass-start : (x : Hunted) → x ≡ or_else (gone false) x
pass-start x = sym (or-gone x)

pub pass-lost : (a x t y : Hunted) (met m b : Bool) → a ≡ or_else (gone met) x → x ≡ or_else t y → t ≡ gone m → b ≡ (met || m) → a ≡ or_else (gone b) y
unfolding or_else
pass-lost a x t y met m b i p q o =
    i ∙ ap (or_else (gone met)) (p ∙ ap (λ (z : Hunted). or_else z y) q) ∙ sym (or-or (gone met) (gone m) y) ∙ ap (λ (k : Bool). or_else (gone k) y) (sym o)

pub pass-found : (a x t y : Hunted) (met : Bool) (r : List ℕ) → a ≡ or_else (gone met) x → x ≡ or_else t y → t ≡ hits r → a ≡ hits r
unfolding or_else
pass-found a x t y met r i p q = i ∙ ap (or_else (gone met)) (p ∙ ap (λ (z : Hunted). or_else z y) q)

pub pass-over : (a x : Hunted) (met : Bool) → a ≡ or_else (gone met) x → x ≡ gone false → a ≡ gone met
unfolding or_else
pass-over a x true i p = i ∙ ap (or_else (gone true)) p
pass-over a x false i p = i ∙ ap (or_else (gone false)) p
