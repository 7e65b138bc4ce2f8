-- One turn of the sharing loop: entry i counts for the definition that its process's numbers have, and no sum passes the listing's total.
use mathlib.Core.Path.{◌≡◌, refl, sym, ap, ◌∙◌}
use mathlib.Core.List.Memᴰ.{head}
use mathlib.Core.List.Memᴰ.{tail}
use mathlib.Core.List.{List, [], ◌∷◌, ◌++◌, Memᴰ as In}
use Prim.Native.Nat.{ℕ, zero, suc, ◌+◌, ◌-◌, ◌*◌, ◌≤◌, ◌<◌}
use native.Mathlib.Omega.{arith}
use native.Mathlib.Numerals.{add-one}
use lib.IntN.{ℤ}
use lib.ListN.{length, get_or, set, take, replicate}
use lib.Seq.{take-suc, take_all, get_or-set_same}
use Rattle.model.specs.Resolved
use Rattle.rules.specs.Rules.{Nth, first, later}
use Rattle.rules.specs.Listing.{Entry, entry, key_of, weight_of}
use Rattle.rules.specs.Subtotals.{actor, subtotals}
use Rattle.rules.proofs.Subtotals.{as_many}
use Rattle.machine.specs.Offer.{Process}
use Rattle.machine.specs.State.{State, state_numbers, GoodProcess}
use Rattle.machine.specs.Machine.{entry_width, listing_length, total_limit}
use Rattle.machine.specs.Questions.{IsListing}
use Rattle.machine.specs.Report.{report_length, definition_at, report_of}
use Rattle.machine.proofs.Branches.{nth-get}
use Rattle.machine.proofs.Everys.{every-nth}
use Rattle.machine.proofs.Listing.{accepted}
use Rattle.machine.proofs.Report.{definition-below, counted-for}
use Rattle.state.specs.Read.{Passed, process_count, definition_number}
use Rattle.state.specs.Fits.{scopes_of}
use Rattle.state.proofs.Over.{good-fits, few-scopes}
use Rattle.state.proofs.Read.{good-passed, count-numbers, definition-numbers}
use Rattle.std.specs.Simd.{first_chunks}
use Rattle.listing.specs.declared.Entry as listed
use Rattle.listing.specs.Buffer.{filled_numbers, entry_of, entry_in}
use Rattle.listing.proofs.Chunks.{chunks-length, chunk-at}
use Rattle.shares.specs.Shared.{Shared}
use Rattle.shares.proofs.Sums.{set_more, within, nothing_yet, then-zeros}
use Rattle.shares.proofs.Rows.{nil, place_in, weight-in, rows_long}

member : (es : List Entry) (i : ℕ) → i < length es → In (get_or es i nil) es
member [] i l = absurd (omega arith)
member (e ∷ es) zero l = head refl
member (e ∷ es) (suc i) l = tail (member es i (omega arith))

nth-below : {A : Type 0} {xs : List A} {n : ℕ} {x : A} → Nth xs n x → n < length xs
nth-below first = omega arith
nth-below (later h) = omega (arith, nth-below h)

-- an entry made of a row
module _ (x : listed.Entry) (row : List ℕ) (h : entry_of x ≡ entry_in row 0) where
  row-place : x.place ≡ get_or row 1 0
  unfolding entry_of entry_in
  row-place = cc

  row-weight : x.weight ≡ get_or row 6 0
  unfolding entry_of entry_in
  row-weight = cc

-- the rows of a listing, count of them
module _ (l : List ℕ) (count : ℕ) (rs : List (List ℕ)) (is : rs ≡ first_chunks entry_width count l) where
  pub rows-count : length rs ≡ count
  rows-count = ap length is ∙ chunks-length count l

  pub row-at : (i : ℕ) → i < count → (j : ℕ) → j < 7 → get_or (get_or rs i []) j 0 ≡ get_or l (i * entry_width + j) 0
  row-at i k j h = ap (λ (xs : List (List ℕ)). get_or (get_or xs i []) j 0) is ∙ chunk-at count l i j k h

-- the sums of the first i entries
abbrev pub sums : State → List Entry → ℕ → List ℕ
sums s es i = subtotals (definition_at s) (take i es) 0 report_length

module _ {zs : List ℤ} {l : List ℕ} {count : ℕ} {m : Resolved.Model} {s : State} {es : List Entry} (h : Shared zs l count m s es) where
  pub passed : Passed zs
  passed = rw h.numbers (good-passed m s h.good h.state)

  is-listing : IsListing m s es
  is-listing = ((accepted m s es).0 h.listed).1

  -- the process that acts, and its definition
  acts : (x : Entry) → In x es → (p : Process) × Nth s.processes (actor (key_of x)) p × (definition_at s x ≡ p.definition)
  unfolding key_of
  acts (entry k w) j = counted-for m h.good s h.state es is-listing k w j

  owner-below : (x : Entry) → In x es → definition_at s x < length m.definitions
  owner-below x j =
      let a = acts x j in
      omega (arith, definition-below m h.good s h.state a.0 (every-nth (GoodProcess m) h.state.processes a.1), a.2)

  pub starts : sums s es 0 ≡ replicate report_length 0
  starts = nothing_yet (definition_at s) report_length

  pub ends : (i : ℕ) → count ≤ i → sums s es i ≡ report_of m s es
  unfolding report_of
  ends i k =
      ap (λ (xs : List Entry). subtotals (definition_at s) xs 0 report_length) (take_all i es (omega (arith, h.count-is)))
      ∙ then-zeros (definition_at s) es (length m.definitions) report_length h.good.few-definitions owner-below

  pub all-fit : count * entry_width ≤ length l
  unfolding filled_numbers
  all-fit = rw h.filled (omega (arith, rows_long es (replicate (listing_length - length es * entry_width) 0), h.count-is))

  module _ (i : ℕ) (k : i < count) where
    here : i < length es
    here = omega (arith, h.count-is)

    abbrev e : Entry
    e = get_or es i nil

    place_is : get_or l (i * entry_width + 1) 0 ≡ actor (key_of e)
    unfolding filled_numbers
    place_is = rw h.filled (place_in es (replicate (listing_length - length es * entry_width) 0) i here)

    weight_is : get_or l (i * entry_width + 6) 0 ≡ weight_of e
    unfolding filled_numbers
    weight_is = rw h.filled (weight-in es (replicate (listing_length - length es * entry_width) 0) i here)

    abbrev place : ℕ
    place = get_or l (i * entry_width + 1) 0

    pub inside : place < process_count zs
    inside =
        let a = acts e (member es i here) in
        omega (arith, place_is, nth-below a.1, ap process_count h.numbers, (count-numbers (scopes_of m) (few-scopes m h.good) m.channels s (good-fits m s h.good h.state)).0)

    definition-is : definition_number zs place ≡ definition_at s e
    definition-is =
        let a = acts e (member es i here) in
        ap (λ (y : List ℤ). definition_number y place) h.numbers ∙ ap (definition_number (state_numbers s)) place_is
        ∙ definition-numbers (scopes_of m) (few-scopes m h.good) m.channels s (good-fits m s h.good h.state) (actor (key_of e)) a.0 (nth-get a.1) ∙ sym a.2

    pub below : definition_number zs place < report_length
    below = omega (arith, definition-is, owner-below e (member es i here), h.good.few-definitions)

    next : take (i + 1) es ≡ take i es ++ e ∷ []
    next = ap (λ (n : ℕ). take n es) (add-one i) ∙ take-suc es i nil here

    turn : set (sums s es i) (definition_number zs place) (get_or (sums s es i) (definition_number zs place) 0 + get_or l (i * entry_width + 6) 0) ≡ sums s es (i + 1)
    turn =
        let o : definition_at s e < report_length = omega (arith, definition-is, below) in
        rw (definition-is, weight_is) (set_more (definition_at s) (take i es) e report_length o ∙ ap (λ (xs : List Entry). subtotals (definition_at s) xs 0 report_length) (sym next))

    -- a sum fits
    few : get_or (sums s es i) (definition_number zs place) 0 + get_or l (i * entry_width + 6) 0 ≤ total_limit
    few =
        let d = definition_number zs place in
        let g = get_or-set_same (sums s es i) d (get_or (sums s es i) d 0 + get_or l (i * entry_width + 6) 0) 0 (omega (arith, below, as_many (definition_at s) (take i es) 0 report_length)) in
        omega (arith, sym g ∙ ap (λ (ns : List ℕ). get_or ns d 0) turn, within (definition_at s) (i + 1) es d report_length below, ((accepted m s es).0 h.listed).3)

    -- where the numbers are the sums, and the definition is the one of the row's entry
    module _ (x : listed.Entry) (row : List ℕ) (r : entry_of x ≡ entry_in row 0) (at : (j : ℕ) → j < 7 → get_or row j 0 ≡ get_or l (i * entry_width + j) 0) where
      x-place : x.place ≡ place
      x-place = row-place x row r ∙ at 1 (omega arith)

      x-weight : x.weight ≡ get_or l (i * entry_width + 6) 0
      x-weight = row-weight x row r ∙ at 6 (omega arith)

      pub x-inside : x.place < process_count zs
      x-inside = omega (arith, x-place, inside)

      module _ (ns : List ℕ) (d : ℕ) (e : ns ≡ sums s es i) (f : d ≡ definition_number zs x.place) where
        d-is : d ≡ definition_number zs place
        d-is = f ∙ ap (definition_number zs) x-place

        pub x-below : d < report_length
        x-below = omega (arith, d-is, below)

        pub turned : set ns d (get_or ns d 0 + x.weight) ≡ sums s es (i + 1)
        turned = rw (e, d-is, x-weight) turn

        pub sum_fits : get_or ns d 0 + x.weight ≤ total_limit
        sum_fits = rw (e, d-is, x-weight) few
