-- What taking an entry comes to is what the machine's search goes over. From the contract of the step, by cases of its answer.
use mathlib.Core.Path.{◌≡◌, refl, sym, ap, ◌∙◌}
use mathlib.Core.List.{List, [], map}
use mathlib.Core.Bool.{Bool}
use mathlib.Core.Option.{some}
use Prim.Native.Nat.{ℕ, ◌+◌, ◌-◌, ◌*◌, ◌≤◌, ◌<◌}
use native.Mathlib.Omega.{arith}
use borrow.Author.Tests.{ne_eqb}
use lib.IntN.{ℤ}
use lib.ListN.{length, get_or, get_elem?, set, replicate}
use Rattle.std.specs.Prelude.{None, Some, Err, Ok}
use Rattle.model.specs.Resolved
use Rattle.model.specs.Good.{GoodModel}
use Rattle.rules.specs.Rules.{Key, key, Nth, first, later}
use Rattle.rules.specs.Listing.{Entry, entry, key_of}
use Rattle.runs.specs.Tree.{idle, refused, leads, way_in}
use Rattle.machine.specs.State.{State, GoodState, state_numbers}
use Rattle.machine.specs.Machine.{listing, listing_length, entries_are, entry_arguments, entry_state, taken, is_sought, way_taken, way_of, moves_of, moves_to}
use Rattle.machine.proofs.Branches.{get_nth, nth-get, nth-below}
use Rattle.machine.proofs.Searching.{takes-so}
use Rattle.machine.proofs.Stays.{moves-good}
use Rattle.listing.specs.declared.Entry as listed
use Rattle.listing.specs.Buffer.{entry_of, entry_in, filled_numbers}
use Rattle.step.specs.declared.Refusal.{Refusal}
use Rattle.step.specs.declared.Refusal.TheVariants.{Arguments, Processes, Pairs}
use Rattle.step.specs.Enter.{Lent, Answers, refusal_number, number_of, Taken}
use Rattle.step.proofs.Answered.{taken-number, taken-state}
use Rattle.step.specs.Entries.{Listing, Row}
use Rattle.step.proofs.Rows.{row_is, row_in, row_fits}
use Rattle.walk.specs.Held.{Held, Seen, Stands, Lists, way_found, Takes}
use Rattle.walk.proofs.Rows.{first_stays, last_is}

nth-way : {A B : Type 0} {xs : List A} {n : ℕ} {x : A} (f : A → B) (d : B) → Nth xs n x → get_or (map f xs) n d ≡ f x
nth-way f d first = refl
nth-way f d (later h) = nth-way f d h

-- 17 to 19 are no 0
refusal : (r : Refusal) → refusal_number r ≡ 0 → ⊥
refusal Arguments e = omega (arith, e)
refusal Processes e = omega (arith, e)
refusal Pairs e = omega (arith, e)

-- ---- entry e of a listing
module _ (m : Resolved.Model) (x : List ℕ) (s : State) (es : List Entry) (l : listing m s ≡ entries_are es) (e w : ℕ) (k : Key) (at : get_elem? es e ≡ some (entry k w)) where
  way_at : way_in (moves_to m x s) e ≡ way_of m x s es (entry k w)
  unfolding moves_to moves_of way_in
  way_at = rw l (nth-way (way_of m x s es) idle (get_nth es e at))

  pub way-idle : w ≡ 0 → idle ≡ way_in (moves_to m x s) e
  unfolding way_of
  way-idle z = sym (way_at ∙ rw z refl)

  way_above : (w ≡ 0 → ⊥) → way_in (moves_to m x s) e ≡ way_taken (is_sought m x s k) (taken m s es 0 k)
  unfolding way_of
  way_above n = way_at ∙ rw (ne_eqb w 0 n) refl

  module _ (n : w ≡ 0 → ⊥) (r : Taken) (ys : List ℤ) (a : Answers (entry_arguments m s k) s (entry_state m s k) r ys) where
    pub way-accepted : r ≡ Ok tt → leads (is_sought m x s k) (taken m s es 0 k).machine ≡ way_in (moves_to m x s) e
    unfolding way_taken number_of
    way-accepted q = sym (way_above n ∙ rw (taken-number m s es 0 k r ys a, q) refl)

    pub way-refused : (c : Refusal) → r ≡ Err c → refused ≡ way_in (moves_to m x s) e
    unfolding way_taken number_of
    way-refused c q =
        sym (way_above n ∙ rw (taken-number m s es 0 k r ys a, q, ne_eqb (refusal_number c) 0 (refusal c)) refl)

-- a state over the model leads to another
pub after-good : (m : Resolved.Model) (x : List ℕ) (s : State) (e : ℕ) (h : Bool) (t : State) → GoodModel m → GoodState m s → leads h t ≡ way_in (moves_to m x s) e → GoodState m t
after-good m x s e h t g f q = let k = (takes-so m x s e h t).0 (sym q) in rw k.leads-to (moves-good m g s f k.ready.moves k.few k.few-pairs)

-- ---- what is lent
module _ {t roots scopes : List ℕ} {root variables : ℕ} {text places sizes : List ℕ} {m : Resolved.Model} {s : State} (held : Held t roots scopes root variables text places sizes m) where
  pub lent_of : {zs : List ℤ} → GoodState m s → zs ≡ state_numbers s → Lent t roots scopes root variables zs m s
  lent_of g e = record {
    definitions = held.definitions;
    sums = held.sums;
    channels = held.channels;
    represents = held.represents;
    stands = record { good = held.good; state = g; numbers = e };
  }

  module _ {z : List ℤ} {l : List ℕ} {es : List Entry} (stands : Stands z m s) (lists : Lists l m s es) (e : ℕ) (inside : e < length es) where
    listing-of : {zs : List ℤ} → zs ≡ z → Listing t roots scopes root variables zs l m s es
    unfolding filled_numbers
    listing-of q = record { lent = lent_of stands.good (q ∙ stands.numbers); listed = lists.listed; rest = replicate (listing_length - length es * 7) 0; numbers = lists.numbers }

    some-row : {zs : List ℤ} → zs ≡ z → (y : Entry) × Row t roots scopes root variables zs l e m s es y
    some-row q = let y = nth-below es e inside in (y.0, record { listing = listing-of q; at = nth-get y.1 })

    pub entry-fits : e * 7 + 7 ≤ length l
    entry-fits = row_fits (some-row {zs = z} refl).1

    module _ (y : listed.Entry) (is : entry_of y ≡ entry_in l e) where
      pub read : get_elem? es e ≡ some (entry_of y)
      read = let r = some-row {zs = z} refl in r.1.at ∙ ap some (sym (is ∙ row_is r.1))

      pub row_of : {zs : List ℤ} → zs ≡ z → Row t roots scopes root variables zs l e m s es (entry_of y)
      row_of q = record { listing = listing-of q; at = read }

      pub seen : Seen t roots scopes text places sizes z y.kind y.place y.branch m s y.partner y.pbranch y.pair y.weight
      unfolding entry_of
      seen = record { root = root; variables = variables; lent = lent_of stands.good stands.numbers; spells = held.spells; listed = row_in (row_of {zs = z} refl) }

      -- ---- the three answers
      module _ (x : List ℕ) (rows : List (List ℤ)) where
        pub takes-idle : y.weight ≡ 0 → Takes m x s e rows rows (Ok None)
        unfolding entry_of way_found
        takes-idle w = record {
          after = s;
          way = way-idle m x s es lists.listed e y.weight (key y.kind y.place y.branch y.partner y.pbranch y.pair) read w;
          stays = refl;
          goes = λ h q. absurd (let c : ◌≡◌ {A = ℕ} 0 1 = cc in omega arith);
        }

        module _ (n : y.weight ≡ 0 → ⊥) (ys : List ℤ) (r : Taken) (deep : 2 ≤ length rows)
            (a : Answers (entry_arguments m s (key_of (entry_of y))) s (entry_state m s (key_of (entry_of y))) r ys) where
          abbrev after_rows : List (List ℤ)
          after_rows = set (set rows 1 (get_or rows 0 [])) 1 ys

          pub takes-refused : (c : Refusal) → r ≡ Err c → Takes m x s e rows after_rows (Err c)
          unfolding entry_of key_of way_found
          takes-refused c q = record {
            after = s;
            way = way-refused m x s es lists.listed e y.weight (key y.kind y.place y.branch y.partner y.pbranch y.pair) read n r ys a c q;
            stays = first_stays rows _ ys;
            goes = λ h p. absurd (let c : ◌≡◌ {A = ℕ} 0 1 = cc in omega arith);
          }

          pub takes-accepted : (h : Bool) → h ≡ is_sought m x s (key y.kind y.place y.branch y.partner y.pbranch y.pair) → r ≡ Ok tt
              → Takes m x s e rows after_rows (Ok (Some h))
          unfolding entry_of key_of way_found
          takes-accepted h o q =
              let k = key y.kind y.place y.branch y.partner y.pbranch y.pair in
              let u : State = (taken m s es 0 k).machine in
              let v : leads h u ≡ way_in (moves_to m x s) e = rw o (way-accepted m x s es lists.listed e y.weight k read n r ys a q) in
              let g : GoodState m u = after-good m x s e h u held.good stands.good v in
              let f : ys ≡ state_numbers u = taken-state m s es 0 k r ys a in
              record { after = u; way = v; stays = first_stays rows _ ys; goes = λ h' p. record { good = g; numbers = last_is rows _ ys deep ∙ f } }
