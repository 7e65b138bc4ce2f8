-- A listing buffer has 7,168 numbers, and with the count of entries it tells them: by induction on the entries, seven numbers each.
use mathlib.Core.Path.{◌≡◌, refl, ap₂}
use mathlib.Core.List.{List, [], ◌∷◌, ◌++◌, append_assoc}
use Prim.Native.Nat.{ℕ, ◌-◌, ◌*◌, ◌≤◌}
use native.Mathlib.Omega.{arith}
use lib.ListN.{length, replicate, length-append, length-replicate}
use Rattle.rules.specs.Kind as kind
use Rattle.rules.specs.Rules.{key}
use Rattle.rules.specs.Listing.{Entry, entry}
use Rattle.machine.specs.Machine.{entry_limit, entry_width, listing_length}
use Rattle.buffers.specs.Listing.{entry_numbers, entries_numbers, listing_numbers}

entry_length : (e : Entry) → length (entry_numbers e) ≡ entry_width
unfolding entry_numbers
entry_length (entry (key c i j k m q) w) = refl

pub entries-length : (es : List Entry) → length (entries_numbers es) ≡ length es * entry_width
unfolding entries_numbers
entries-length [] = omega arith
entries-length (e ∷ es) = omega (arith, length-append (entry_numbers e) (entries_numbers es), entry_length e, entries-length es)

-- 01, Transitions: the listing buffer's length
pub listing-length : (es : List Entry) → length es ≤ entry_limit → length (listing_numbers es) ≡ listing_length
unfolding listing_numbers
listing-length es h =
    let n : ℕ = listing_length - length (entries_numbers es) in
    omega (arith, entries-length es, length-append (entries_numbers es) (replicate n 0), length-replicate {A = ℕ} n 0)

entry-told : (d e : Entry) (ds es : List ℕ) → entry_numbers d ++ ds ≡ entry_numbers e ++ es → (d ≡ e) × (ds ≡ es)
unfolding entry_numbers
entry-told (entry (key c i j k m q) w) (entry (key c' i' j' k' m' q') w') ds es h = (cc, cc)

entries-told : (ds es : List Entry) (u v : List ℕ) → length ds ≡ length es → entries_numbers ds ++ u ≡ entries_numbers es ++ v → ds ≡ es
unfolding entries_numbers
entries-told [] [] u v l h = refl
entries-told [] (e ∷ es) u v l h = absurd (omega arith)
entries-told (d ∷ ds) [] u v l h = absurd (omega arith)
entries-told (d ∷ ds) (e ∷ es) u v l h =
    let r = entry-told d e (entries_numbers ds ++ u) (entries_numbers es ++ v) (rw (append_assoc (entry_numbers d) (entries_numbers ds) u, append_assoc (entry_numbers e) (entries_numbers es) v) at h) in
    ap₂ (λ (f : Entry) (fs : List Entry). f ∷ fs) r.0 (entries-told ds es u v (omega arith) r.1)

-- two listings of as many entries with the same numbers are one
pub listing-told : (ds es : List Entry) → length ds ≡ length es → listing_numbers ds ≡ listing_numbers es → ds ≡ es
unfolding listing_numbers
listing-told ds es l h = entries-told ds es _ _ l h

-- 01, A bench sheet in full: its two rows, in the buffer's order
pub sheet-rows :
    entries_numbers (entry (key kind.handshake 0 0 2 0 0) 300000000 ∷ entry (key kind.wait 0 1 0 0 0) 25000000 ∷ [])
    ≡ 7 ∷ 0 ∷ 0 ∷ 2 ∷ 0 ∷ 0 ∷ 300000000 ∷ 1 ∷ 0 ∷ 1 ∷ 0 ∷ 0 ∷ 0 ∷ 25000000 ∷ []
unfolding entries_numbers entry_numbers
sheet-rows = refl
