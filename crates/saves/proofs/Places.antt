-- The saves as numbers and back, and the exact test of their buffer: from the laws of names, of a state's numbers and of rows.
use mathlib.Core.Path.{◌≡◌, refl, sym, ap, ap₂, ◌∙◌}
use mathlib.Core.List.{List, [], ◌∷◌, ◌++◌, map, append-nil}
use mathlib.Core.Bool.{Bool, true, false, cond, not, ◌&&◌}
use mathlib.Core.Logic.{◌↔◌}
use mathlib.Core.Option.{Option, none, some}
use Prim.Native.Nat.{ℕ, zero, suc, ◌+◌, ◌*◌}
use native.Mathlib.Nat.{suc-mul, zero-mul}
use native.Mathlib.Omega.{arith}
use lib.Dec.{eqb}
use lib.IntN.{ℤ, pos, negsuc, nat_abs}
use lib.ListN.{length, replicate, length-map, length-replicate, replicate-append-replicate}
use lib.Seq.{take_all}
use borrow.Author.Tests.{eqb-true, ne_eqb, eq-eqb}
use Rattle.model.specs.Good.{Every}
use Rattle.machine.specs.State.{flatten}
use Rattle.machine.specs.Timed.{Timed}
use Rattle.machine.specs.Saves.{is_name, same, Save, Saves, no_saves, save_limit, timed_length, place_width, saves_length, named, is_unknown, is_apart, are_apart, PlaceOf, SavesOf}
use Rattle.machine.proofs.Saves.{not-both, same-eq, same_refl}
use Rattle.state.specs.Fits.{FewLocals}
use Rattle.state.specs.Test.{every, rows, at, is_zero}
use Rattle.state.proofs.Tests.{both}
use Rattle.state.proofs.Rows.{zeros, zero-every, rows-flatten, flatten-length, map_back, Row, rows-wide, join-rows, rows-length}
use Rattle.saves.specs.Kept.{kept_numbers, is_kept, kept_in, FitsKept}
use Rattle.saves.proofs.Kept.{kept-length, kept-passes, kept_back, kept-fits, kept-numbers}
use Rattle.saves.specs.Keys.{name_in, low_of, high_of, key_numbers, is_key_of}
use Rattle.saves.specs.Places.{place_numbers, saves_numbers, kept_part, is_place, has_key, is_once, are_once, places_of, is_saves, place_in, saves_in}
use Rattle.saves.proofs.Names.{and-true, name_back, name-passes, low-positive, Key, key-is}

-- empty places, one after the other, are zeros
joined-zeros : (f : Option Save → List ℤ) (w : ℕ) → f none ≡ replicate w (pos 0) → (k : ℕ) → flatten f (replicate k none) ≡ replicate (k * w) (pos 0)
unfolding flatten
joined-zeros f w e zero = rw (zero-mul w)
joined-zeros f w e (suc k) =
    let n : w + k * w ≡ suc k * w = omega (arith, suc-mul k w) in
    ap₂ (λ (a b : List ℤ). a ++ b) e (joined-zeros f w e k) ∙ replicate-append-replicate w (k * w) (pos 0) ∙ ap (λ (j : ℕ). replicate j (pos 0)) n

pub no-saves-numbers : saves_numbers no_saves ≡ replicate saves_length (pos 0)
unfolding saves_numbers no_saves place_numbers
no-saves-numbers = joined-zeros place_numbers place_width refl save_limit

full-place : (n : List ℕ) → is_name n ≡ true → is_zero (pos (low_of n)) ≡ false
unfolding is_zero
full-place n e = ne_eqb (low_of n) 0 (λ (q : low_of n ≡ 0). omega (arith, low-positive n e))

-- the numbers of a state and a clock fill a place after its name
pub whole_part : (y z : ℤ) (zs : List ℤ) → length zs ≡ timed_length → kept_part (y ∷ z ∷ zs) ≡ zs
whole_part y z zs l = take_all timed_length zs (omega arith)

module _ (scopes : List ℕ) (few : FewLocals scopes) (channels : ℕ) where
  abbrev Good : Option Save → Type 0
  Good = PlaceOf (FitsKept scopes channels)

  -- ---- places

  pub place-length : (x : Option Save) → Good x → length (place_numbers x) ≡ place_width
  unfolding place_numbers PlaceOf
  place-length none g = length-replicate place_width (pos 0)
  place-length (some x) g = ap (λ (k : ℕ). suc (suc k)) (kept-length scopes few channels x.kept g.kept)

  zeros-pass : (r : List ℤ) → at r 0 ≡ pos 0 → every is_zero r ≡ true → is_place scopes channels r ≡ true
  unfolding is_place is_zero
  zeros-pass r e f = rw e f

  pub place-passes : (x : Option Save) → Good x → is_place scopes channels (place_numbers x) ≡ true
  unfolding place_numbers PlaceOf is_place is_key_of
  place-passes none g = zeros-pass (replicate place_width (pos 0)) refl (zero-every place_width)
  place-passes (some x) g =
      rw (full-place x.name g.name)
      (and-true (name-passes x.name g.name)
      (ap (is_kept scopes channels) (whole_part (pos (low_of x.name)) (pos (high_of x.name)) (kept_numbers x.kept) (kept-length scopes few channels x.kept g.kept))
      ∙ kept-passes scopes few channels x.kept g.kept))

  pub place-back : (x : Option Save) → Good x → place_in scopes (place_numbers x) ≡ x
  unfolding place_numbers PlaceOf place_in is_zero
  place-back none g = refl
  place-back (some x) g =
      rw (full-place x.name g.name)
      (ap₂ (λ (n : List ℕ) (t : Timed). some (record { name = n; kept = t })) (name_back x.name g.name)
      (ap (kept_in scopes) (whole_part (pos (low_of x.name)) (pos (high_of x.name)) (kept_numbers x.kept) (kept-length scopes few channels x.kept g.kept))
      ∙ kept_back scopes few channels x.kept g.kept))

  -- what a row that passes is
  pub record Place (r : List ℤ) : Type 0 where
    pub good : Good (place_in scopes r)
    pub numbers : place_numbers (place_in scopes r) ≡ r

  key_of : (y z : ℤ) → is_key_of y z ≡ true → Key (nat_abs y) (nat_abs z) × (y ≡ pos (nat_abs y)) × (z ≡ pos (nat_abs z))
  unfolding is_key_of
  key_of (pos a) (pos b) e = (key-is a b e, refl, refl)
  key_of (pos a) (negsuc b) e = not-both true refl (sym e)
  key_of (negsuc a) z e = not-both true refl (sym e)

  pub place_is : (r : List ℤ) → length r ≡ place_width → is_place scopes channels r ≡ true → Place r
  unfolding is_place place_in place_numbers PlaceOf
  place_is [] l e = absurd (omega arith)
  place_is (y ∷ []) l e = absurd (omega arith)
  place_is (y ∷ z ∷ zs) l e = by (is_zero y) refl e
    where
      by : (b : Bool) → is_zero y ≡ b → cond b (every is_zero (y ∷ z ∷ zs)) (is_key_of y z && is_kept scopes channels (kept_part (y ∷ z ∷ zs))) ≡ true → Place (y ∷ z ∷ zs)
      by true f e = record { good = rw f tt; numbers = rw f (sym (zeros (y ∷ z ∷ zs) e ∙ ap (λ (k : ℕ). replicate k (pos 0)) l)) }
      by false f e =
          let q = both (is_key_of y z) _ e in
          let k = key_of y z q.0 in
          let w = whole_part y z zs (omega arith) in
          let n : length (kept_part (y ∷ z ∷ zs)) ≡ timed_length = ap length w ∙ omega arith in
          record {
            good = rw f (record { name = k.0.name; kept = kept-fits scopes few channels (kept_part (y ∷ z ∷ zs)) n q.1 });
            numbers = rw f (λ i. sym (k.1 ∙ ap pos (sym k.0.low)) i ∷ sym (k.2 ∙ ap pos (sym k.0.high)) i ∷ (kept-numbers scopes few channels (kept_part (y ∷ z ∷ zs)) n q.1 ∙ w) i);
          }

  -- ---- names stand once

  -- the row of a place has a name's numbers exactly where the place has the name
  pub key-named : (n : List ℕ) → is_name n ≡ true → (x : Option Save) → Good x → has_key (key_numbers n) (place_numbers x) ≡ named n x
  unfolding has_key place_numbers PlaceOf named
  key-named n e none g = rw (ne_eqb 0 (low_of n) (λ (q : 0 ≡ low_of n). omega (arith, low-positive n e)))
  key-named n e (some x) g = by (same x.name n) refl
    where
      by : (b : Bool) → same x.name n ≡ b → (eqb (low_of x.name) (low_of n) && eqb (high_of x.name) (high_of n)) ≡ b
      by true f = let q = same-eq x.name n f in and-true (eq-eqb _ _ (ap low_of q)) (eq-eqb _ _ (ap high_of q))
      by false f = other (eqb (low_of x.name) (low_of n) && eqb (high_of x.name) (high_of n)) refl
        where
          other : (t : Bool) → (eqb (low_of x.name) (low_of n) && eqb (high_of x.name) (high_of n)) ≡ t → t ≡ false
          other true w =
              let k = both _ _ w in
              let q : x.name ≡ n = sym (name_back x.name g.name) ∙ ap₂ name_in (eqb-true _ _ k.0) (eqb-true _ _ k.1) ∙ name_back n e in
              not-both (same x.name n) (ap (λ (c : List ℕ). same c n) q ∙ same_refl n) f
          other false w = refl

  unknown-keys : (x : Save) → is_name x.name ≡ true → (ss : Saves) → Every Good ss
      → every (λ (q : List ℤ). not (has_key (place_numbers (some x)) q)) (map place_numbers ss) ≡ is_unknown x.name ss
  unfolding every Every is_unknown
  unknown-keys x e [] g = refl
  unknown-keys x e (y ∷ ys) g = ap₂ (λ (a b : Bool). a && b) (ap not (key-of-name y g.0)) (unknown-keys x e ys g.1)
    where
      key-of-name : (y : Option Save) → Good y → has_key (place_numbers (some x)) (place_numbers y) ≡ named x.name y
      key-of-name y h = unfold has_key place_numbers in (key-named x.name e y h)

  once-apart : (x : Option Save) → Good x → (ss : Saves) → Every Good ss → is_once (place_numbers x) (map place_numbers ss) ≡ is_apart x ss
  unfolding is_once is_apart place_numbers PlaceOf is_zero
  once-apart none k ss g = refl
  once-apart (some x) k ss g = rw (full-place x.name k.name) (unknown-keys x k.name ss g)

  pub once-all : (ss : Saves) → Every Good ss → are_once (map place_numbers ss) ≡ are_apart ss
  unfolding are_once are_apart Every
  once-all [] g = refl
  once-all (x ∷ xs) g = ap₂ (λ (a b : Bool). a && b) (once-apart x g.0 xs g.1) (once-all xs g.1)

  -- ---- the buffer

  every-passes : (ss : Saves) → Every Good ss → every (is_place scopes channels) (map place_numbers ss) ≡ true
  unfolding every Every
  every-passes [] g = refl
  every-passes (x ∷ xs) g = and-true (place-passes x g.0) (every-passes xs g.1)

  module _ (ss : Saves) (g : SavesOf (FitsKept scopes channels) ss) where
    pub saves-length : length (saves_numbers ss) ≡ saves_length
    unfolding saves_numbers
    saves-length = flatten-length place_numbers place_width Good place-length ss g.places ∙ ap (λ (k : ℕ). k * place_width) g.long

    pub saves-rows : places_of (saves_numbers ss) ≡ map place_numbers ss
    unfolding saves_numbers
    saves-rows =
        ap (λ (l : List ℤ). rows place_width save_limit l) (sym (append-nil (flatten place_numbers ss)))
        ∙ ap (λ (k : ℕ). rows place_width k (flatten place_numbers ss ++ [])) (sym g.long)
        ∙ rows-flatten place_numbers place_width Good place-length ss [] g.places

    pub saves-pass : is_saves scopes channels (saves_numbers ss) ≡ true
    unfolding is_saves
    saves-pass = rw saves-rows (and-true (every-passes ss g.places) (once-all ss g.places ∙ g.apart))

    pub saves-back : saves_in scopes (saves_numbers ss) ≡ ss
    unfolding saves_in
    saves-back = ap (map (place_in scopes)) saves-rows ∙ map_back place_numbers (place_in scopes) Good place-back ss g.places

  places-are : (rs : List (List ℤ)) → Every (Row (is_place scopes channels) place_width) rs → Every Good (map (place_in scopes) rs) × (map place_numbers (map (place_in scopes) rs) ≡ rs)
  unfolding Every
  places-are [] h = (tt, refl)
  places-are (r ∷ rs) h =
      let x = place_is r h.0.wide h.0.passes in
      let y = places-are rs h.1 in
      ((x.good, y.0), ap₂ (λ (a : List ℤ) (b : List (List ℤ)). a ∷ b) x.numbers y.1)

  -- numbers that pass are those of the saves that they hold
  module _ (zs : List ℤ) (l : length zs ≡ saves_length) (e : is_saves scopes channels zs ≡ true) where
    rows_are : Every Good (map (place_in scopes) (places_of zs)) × (map place_numbers (map (place_in scopes) (places_of zs)) ≡ places_of zs)
    unfolding is_saves
    rows_are = places-are (places_of zs) (rows-wide (is_place scopes channels) place_width save_limit zs (omega arith) (both (every (is_place scopes channels) (places_of zs)) _ e).0)

    pub saves-good : SavesOf (FitsKept scopes channels) (saves_in scopes zs)
    unfolding is_saves saves_in
    saves-good = record {
      long = length-map (places_of zs) (place_in scopes) ∙ rows-length place_width save_limit zs;
      places = rows_are.0;
      apart = sym (once-all (map (place_in scopes) (places_of zs)) rows_are.0) ∙ ap are_once rows_are.1 ∙ (both (every (is_place scopes channels) (places_of zs)) _ e).1;
    }

    pub saves-numbers : saves_numbers (saves_in scopes zs) ≡ zs
    unfolding saves_in saves_numbers
    saves-numbers = join-rows place_numbers place_width save_limit zs (map (place_in scopes) (places_of zs)) rows_are.1 ∙ take_all (save_limit * place_width) zs (omega arith)

  -- 02, note 2, 11: the test is exact
  pub is-saves : (zs : List ℤ) → length zs ≡ saves_length → (is_saves scopes channels zs ≡ true) ↔ ((ss : Saves) × SavesOf (FitsKept scopes channels) ss × (saves_numbers ss ≡ zs))
  is-saves zs l = (
    λ e. (saves_in scopes zs, saves-good zs l e, saves-numbers zs l e),
    λ w. rw w.2 at (saves-pass w.0 w.1),
  )
