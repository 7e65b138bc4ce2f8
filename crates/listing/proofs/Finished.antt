-- Questions 13 and 14 of a listing whose entries stand in the buffer: answer and buffer in each case. From the laws of the buffer.
use Prim.Native.Nat.{ℕ, ◌+◌, ◌-◌, ◌*◌, ◌≤◌, ◌<◌}
use mathlib.Core.Path.{◌≡◌, refl, sym, ap, ◌∙◌}
use mathlib.Core.Bool.{Bool, true, false}
use mathlib.Core.List.{List, [], ◌∷◌, ◌++◌, append-nil}
use native.Mathlib.Omega.{arith}
use borrow.Author.Tests.{le-leb, lt-leb}
use lib.Dec.{leb}
use lib.ListN.{length, take, drop, replicate, length-drop, drop_of_length-le}
use borrow.Rule.Slice.PartMut.{put_mid, mid_of}
use lib.Seq.{take_all}
use Rattle.std.specs.Prelude.{Err, Ok, None, Some, ok_or}
use Rattle.std.specs.Prelude.{Option as RustOption}
use Rattle.rules.specs.Rules.{key}
use Rattle.rules.specs.Listing.{Entry, entry}
use Rattle.rules.specs.Draw.{weights, total}
use Rattle.machine.specs.Machine.{entry_limit, entry_width, listing_length, total_limit, no, zeroed, counted}
use Rattle.machine.specs.Machine as machine
use Rattle.listing.specs.Buffer
use Rattle.listing.specs.declared.Refusal.{Refusal}
use Rattle.listing.specs.declared.Refusal.TheVariants.{Entries, Total}
use Rattle.listing.specs.declared.Listed.{Listed}
use Rattle.listing.specs.declared.Stop.TheVariants.{Full}
use Rattle.listing.specs.Buffer.{rows, image, cut, filled_numbers, listing_numbers, refusal_number, refusal_place, refusal_branch, Outcome, Says, Answers, counts, refuses, Lists, Leading, leading, nothing, Leads, Tried, as_tried, TriesOver, Tries, weights_in, totalled}
use Rattle.offers.specs.Links.{row_limit}
use Rattle.listing.proofs.Added.{take-rows}
use Rattle.listing.proofs.Weights.{rows-weights}

-- the rows of entries that all have room
image-rows : (z : List ℕ) (es : List Entry) → length es ≤ entry_limit → image z es ≡ rows es (drop (length es * entry_width) z)
unfolding image
image-rows z es l = ap (λ (y : List Entry). rows y (drop (length y * entry_width) z)) (take_all entry_limit es l)

-- ---- a total, or its refusal
pub none-of : (o : RustOption ℕ) (d e : Refusal) → ok_or o d ≡ Err e → (o ≡ None) × (e ≡ d)
none-of None d e h = (refl, cc)
none-of (Some n) d e h = let z : ◌≡◌ {A = ℕ} 0 1 = cc in absurd (omega arith)

pub some-of : (o : RustOption ℕ) (d : Refusal) (n : ℕ) → ok_or o d ≡ Ok n → o ≡ Some n
some-of None d n h = let z : ◌≡◌ {A = ℕ} 0 1 = cc in absurd (omega arith)
some-of (Some k) d n h = cc

-- ---- what leads

-- a refusal
pub refused : (l : machine.Listed) (b : List ℕ) (r : Refusal) → l ≡ machine.refused_with (no (refusal_number r) (refusal_place r) (refusal_branch r) zeroed) → Leads l (Err r) b
unfolding no
refused l b r h = rw h (record { answer = refuses (record { number = refl; place = refl; branch = refl }); entries = nothing })

-- an accepted listing
accepted : (l : machine.Listed) (es : List Entry) (x : Listed) (b rest : List ℕ) → l ≡ machine.entries_are es → x.count ≡ length es → x.total ≡ total (weights es) → b ≡ rows es rest → Leads l (Ok x) b
accepted l es x b rest h e f g = rw h (record { answer = counts e f; entries = leading rest g })

module _ (z b : List ℕ) (es : List Entry) (count : ℕ) (is : b ≡ image z es) (cuts : count ≡ cut es) where
  -- 13
  pub many : entry_limit < count → Leads (counted es) (Err Entries) b
  unfolding counted cut
  many l = refused (counted es) b Entries (rw (lt-leb (length es) entry_limit (omega arith)))

  module _ (few : count ≤ entry_limit) where
    all_there : count ≡ length es
    unfolding cut
    all_there = omega arith

    room : length es ≤ entry_limit
    room = omega (arith, all_there)

    weights-are : weights_in b count ≡ weights es
    weights-are =
        ap (weights_in b) all_there ∙ ap (λ (y : List ℕ). weights_in y (length es)) (is ∙ image-rows z es room) ∙ rows-weights es (drop (length es * entry_width) z)

    -- 14
    pub heavy : totalled (weights_in b count) ≡ None → Leads (counted es) (Err Total) b
    unfolding counted totalled
    heavy e = go (leb (total (weights es)) total_limit) refl
      where
        go : (p : Bool) → leb (total (weights es)) total_limit ≡ p → Leads (counted es) (Err Total) b
        go true q = let h : Some (total (weights es)) ≡ None = (sym (rw (weights-are, q))) ∙ e in absurd (apart h)
          where
            apart : {n : ℕ} → Some n ≡ None → ⊥
            apart h = let y : ◌≡◌ {A = ℕ} 0 1 = cc in omega arith
        go false q = refused (counted es) b Total (rw (le-leb (length es) entry_limit room, q))

    -- accepted
    pub fine : (x : Listed) → x.count ≡ count → totalled (weights_in b count) ≡ Some x.total → Leads (counted es) (Ok x) b
    unfolding counted totalled
    fine x n e = go (leb (total (weights es)) total_limit) refl
      where
        go : (p : Bool) → leb (total (weights es)) total_limit ≡ p → Leads (counted es) (Ok x) b
        go true q =
            let h : Some (total (weights es)) ≡ Some x.total = (sym (rw (weights-are, q))) ∙ e in
            let s : total (weights es) ≡ x.total = cc in
            let c : counted es ≡ machine.entries_are es = rw (le-leb (length es) entry_limit room, q) in
            accepted (counted es) es x b (drop (length es * entry_width) z) c (n ∙ all_there) (sym s) (is ∙ image-rows z es room)
        go false q = let h : None ≡ Some x.total = (sym (rw (weights-are, q))) ∙ e in let y : ◌≡◌ {A = ℕ} 0 1 = cc in absurd (omega arith)

-- ---- zeros after the entries

pub rows-length : (es : List Entry) (rest : List ℕ) → length (rows es rest) ≡ length es * 7 + length rest
unfolding rows
rows-length [] rest = omega arith
rows-length (entry (key c i j k m q) w ∷ es) rest = omega (arith, rows-length es rest)

pub tail-zeros : (a : ℕ) (s ys : List ℕ) → ys ≡ replicate (length (mid_of a (length s - a) s)) 0 → put_mid a (length s - a) s ys ≡ take a s ++ replicate (length s - a) 0
tail-zeros a s ys e =
    ap (λ (l : List ℕ). take a s ++ (ys ++ l)) (drop_of_length-le (drop a s) {i = length s - a} (simp length-drop (omega arith)))
    ∙ ap (λ (l : List ℕ). take a s ++ l) (append-nil ys ∙ e ∙ ap (λ (l : List ℕ). replicate (length l) 0) (take_all (length s - a) (drop a s) (simp length-drop (omega arith))) ∙ ap (λ (n : ℕ). replicate n 0) (length-drop a s))

-- of a listing that was filled: its entries are within the buffer, and zeros after them are its numbers
pub filled-fits : {l : machine.Listed} {x : Listed} {b : List ℕ} → Leads l (Ok x) b → x.count * 7 ≤ length b
filled-fits {x = x} {b = b} h = by h.answer h.entries
  where
    by : {l : machine.Listed} → Answers l (Ok x) → Leading b l → x.count * 7 ≤ length b
    by (counts {es = es} n t) (leading rest e) = omega (arith, n, ap length e, rows-length es rest)

pub clears : {l : machine.Listed} {x : Listed} {b : List ℕ} → length b ≡ listing_length → Leads l (Ok x) b → Lists l (Ok x) (take (x.count * 7) b ++ replicate (length b - x.count * 7) 0)
unfolding listing_numbers filled_numbers
clears {x = x} {b = b} long h = by h.answer h.entries
  where
    by : {l : machine.Listed} → Answers l (Ok x) → Leading b l → Lists l (Ok x) (take (x.count * 7) b ++ replicate (length b - x.count * 7) 0)
    by (counts {es = es} n t) (leading rest e) = record {
      answer = counts n t;
      numbers = rw (long, n, e) (take-rows es rest (replicate (listing_length - length es * 7) 0));
    }

-- a refused listing is all zeros
pub clears-all : {l : machine.Listed} {r : Refusal} {b : List ℕ} → length b ≡ listing_length → Leads l (Err r) b → Lists l (Err r) (replicate (length b) 0)
unfolding listing_numbers
clears-all {r = r} {b = b} long h = by h.answer
  where
    by : {l : machine.Listed} → Answers l (Err r) → Lists l (Err r) (replicate (length b) 0)
    by (refuses q) = record { answer = refuses q; numbers = rw long refl }

-- ---- where the table has rows enough
same-outcome : (r q : Outcome) → as_tried r ≡ as_tried q → q ≡ r
same-outcome (Ok x) (Ok y) e = cc
same-outcome (Ok x) (Err y) e = let z : ◌≡◌ {A = ℕ} 0 1 = cc in absurd (omega arith)
same-outcome (Err x) (Ok y) e = let z : ◌≡◌ {A = ℕ} 0 1 = cc in absurd (omega arith)
same-outcome (Err x) (Err y) e = cc

pub no-outcome : (r : Outcome) → as_tried r ≡ Err Full → ⊥
no-outcome (Ok x) e = let z : ◌≡◌ {A = ℕ} 0 1 = cc in omega arith
no-outcome (Err x) e = let z : ◌≡◌ {A = ℕ} 0 1 = cc in omega arith

pub all-led : {l : machine.Listed} {b : List ℕ} {n : ℕ} {t : Tried} (r : Outcome) → t ≡ as_tried r → TriesOver n l b t → Leads l r b
all-led r e (Buffer.TriesOver.led q f h) = rw (same-outcome r q (sym e ∙ f)) at h
all-led r e (Buffer.TriesOver.short f h) = absurd (no-outcome r (sym e ∙ f))

pub not_short : {l : machine.Listed} {b : List ℕ} {n : ℕ} {t : Tried} → t ≡ Err Full → TriesOver n l b t → n < row_limit
not_short e (Buffer.TriesOver.led q f h) = absurd (no-outcome q (sym f ∙ e))
not_short e (Buffer.TriesOver.short f h) = h

pub as-led : {l : machine.Listed} {b : List ℕ} (n : ℕ) (r : Outcome) (t : Tried) → t ≡ as_tried r → Leads l r b → TriesOver n l b t
as-led n r t e h = Buffer.TriesOver.led r e h

-- the same of a lent buffer, where it holds those numbers at the end
pub led-at : {l : machine.Listed} {r : Outcome} {b : List ℕ} (b' : List ℕ) → b ≡ b' → Leads l r b' → Leads l r b
led-at b' e h = rw e h

pub never_short : {l : machine.Listed} {b : List ℕ} {n : ℕ} {t : Tried} → n ≡ row_limit → TriesOver n l b t → t ≡ Err Full → ⊥
never_short q h e = omega (arith, q, not_short e h)

pub all_done : {l : machine.Listed} {b : List ℕ} {n : ℕ} {t : Tried} (r : Outcome) → t ≡ as_tried r → Tries n l b t → Lists l r b
all_done r e (Buffer.Tries.done q f h) = rw (same-outcome r q (sym e ∙ f)) at h
all_done r e (Buffer.Tries.full f h) = absurd (no-outcome r (sym e ∙ f))

pub never_full : {l : machine.Listed} {b : List ℕ} {n : ℕ} {t : Tried} → n ≡ row_limit → Tries n l b t → t ≡ Err Full → ⊥
never_full q (Buffer.Tries.done r f h) e = no-outcome r (sym f ∙ e)
never_full q (Buffer.Tries.full f h) e = omega (arith, q, h)
