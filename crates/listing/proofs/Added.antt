-- What the listing buffer holds after entries are added to it. By induction on the entries that it held.
use Prim.Native.Nat.{ℕ, suc, ◌+◌, ◌*◌, ◌-◌, ◌≤◌, ◌<◌}
use mathlib.Core.Path.{◌≡◌, refl, sym, ap, ◌∙◌}
use mathlib.Core.List.{List, [], ◌∷◌, ◌++◌, append_assoc}
use native.Mathlib.Omega.{arith}
use lib.ListN.{length, take, drop, length-append, length-drop}
use lib.Seq.{length-take-le, take_all, take-append-le, drop-drop}
use borrow.Rule.Slice.PartMut.{put_mid, same_len_mid}
use Rattle.rules.specs.Rules.{key}
use Rattle.rules.specs.Listing.{Entry, entry}
use Rattle.listing.specs.Buffer.{rows, image, cut, Adds}

append-nil : {A : Type 0} (xs : List A) → xs ++ [] ≡ xs
append-nil [] = refl
append-nil (x ∷ xs) = ap (λ t. x ∷ t) (append-nil xs)

pub adds_none : (b : List ℕ) (n : ℕ) → n ≤ 1025 → Adds [] b n b n
adds_none b n l = record { adds = λ z acc h e f. (rw (append-nil acc) e, rw (append-nil acc) f); size = refl; most = l }

pub adds_then : {es fs : List Entry} {b c d : List ℕ} {l m n : ℕ} → Adds es b l c m → Adds fs c m d n → Adds (es ++ fs) b l d n
adds_then {es} {fs} p q =
    record {
      adds = λ z acc h e f. let r = p.adds z acc h e f in let t = q.adds z (acc ++ es) h r.0 r.1 in (rw (← append_assoc acc es fs) t.0, rw (← append_assoc acc es fs) t.1);
      size = q.size ∙ p.size;
      most = q.most;
    }

-- what stands before and after the rows of the entries
pub take-rows : (es : List Entry) (rest zs : List ℕ) → take (length es * 7) (rows es rest) ++ zs ≡ rows es zs
unfolding rows
take-rows [] rest zs = refl
take-rows (entry (key c i j k m q) w ∷ es) rest zs =
    let e : suc (length es) * 7 ≡ suc (suc (suc (suc (suc (suc (suc (length es * 7))))))) = omega arith in
    ap (λ n. take n (c ∷ i ∷ j ∷ k ∷ m ∷ q ∷ w ∷ rows es rest) ++ zs) e ∙ ap (λ t. c ∷ i ∷ j ∷ k ∷ m ∷ q ∷ w ∷ t) (take-rows es rest zs)

drop-rows : (es : List Entry) (rest : List ℕ) → drop (length es * 7) (rows es rest) ≡ rest
unfolding rows
drop-rows [] rest = refl
drop-rows (entry (key c i j k m q) w ∷ es) rest =
    let e : suc (length es) * 7 ≡ suc (suc (suc (suc (suc (suc (suc (length es * 7))))))) = omega arith in
    ap (λ n. drop n (c ∷ i ∷ j ∷ k ∷ m ∷ q ∷ w ∷ rows es rest)) e ∙ drop-rows es rest

rows_more : (es : List Entry) (e : Entry) (rest : List ℕ) → rows (es ++ (e ∷ [])) rest ≡ rows es (rows (e ∷ []) rest)
unfolding rows
rows_more [] e rest = refl
rows_more (entry (key c i j k m q) w ∷ es) e rest = ap (λ t. c ∷ i ∷ j ∷ k ∷ m ∷ q ∷ w ∷ t) (rows_more es e rest)

-- the buffer after a row written at 7 n
abbrev pub written : List ℕ → ℕ → List ℕ → List ℕ
written s n row = put_mid (n * 7) (n * 7 + 7 - n * 7) s row

rows_written : (es : List Entry) (rest : List ℕ) (e : Entry) (row : List ℕ) → row ≡ rows (e ∷ []) [] → written (rows es rest) (length es) row ≡ rows (es ++ (e ∷ [])) (drop 7 rest)
unfolding rows
rows_written es rest (entry (key c i j k m q) w) row is =
    let d : length es * 7 + 7 - length es * 7 ≡ 7 = omega arith in
    take-rows es rest _ ∙ ap (rows es) (rw (is, d, drop-rows es rest) refl) ∙ sym (rows_more es (entry (key c i j k m q) w) (drop 7 rest))

length-of : (x : Entry) → length (rows (x ∷ []) []) ≡ 7
unfolding rows
length-of (entry (key c i j k m q) w) = refl

-- an entry that is written
pub adds-written : (s : List ℕ) (n : ℕ) (e : Entry) (row : List ℕ) → length s ≡ 7168 → n < 1024 → row ≡ rows (e ∷ []) [] → Adds (e ∷ []) s n (written s n row) (n + 1)
unfolding image cut
adds-written s n x row h l is =
    record {
      adds = λ z acc hz es ns. go z acc hz es ns;
      size = same_len_mid (n * 7) (n * 7 + 7 - n * 7) s row (omega (arith, ap length is, length-of x, length-take-le (n * 7 + 7 - n * 7) (drop (n * 7) s) (omega (arith, length-drop (n * 7) s))));
      most = omega arith;
    }
  where
    go : (z : List ℕ) (acc : List Entry) → length z ≡ 7168 → s ≡ image z acc → n ≡ cut acc → (written s n row ≡ image z (acc ++ (x ∷ []))) × (n + 1 ≡ cut (acc ++ (x ∷ [])))
    go z acc hz es ns =
        let k : length acc ≡ n = omega arith in
        let t : take 1024 acc ≡ acc = take_all 1024 acc (omega arith) in
        let q : length (acc ++ (x ∷ [])) ≡ length acc + 1 = length-append acc (x ∷ []) in
        let t' : take 1024 (acc ++ (x ∷ [])) ≡ acc ++ (x ∷ []) = take_all 1024 (acc ++ (x ∷ [])) (omega arith) in
        let u : s ≡ rows acc (drop (length acc * 7) z) = (es ∙ ap (λ y. rows y (drop (length y * 7) z)) t) in
        let i : length acc * 7 + 7 ≡ length (acc ++ (x ∷ [])) * 7 = omega arith in
        let v : drop 7 (drop (length acc * 7) z) ≡ drop (length (acc ++ (x ∷ [])) * 7) z = (drop-drop 7 (length acc * 7) z ∙ ap (λ i. drop i z) i) in (
          ap (λ y. written y n row) u ∙ ap (λ m. written (rows acc (drop (length acc * 7) z)) m row) (sym k)
              ∙ rows_written acc (drop (length acc * 7) z) x row is ∙ ap (rows (acc ++ (x ∷ []))) v ∙ sym (ap (λ y. rows y (drop (length y * 7) z)) t'),
          omega arith,
        )

-- an entry past the last that the buffer has room for
pub adds-over : (s : List ℕ) (n : ℕ) (x : Entry) → 1024 ≤ n → n ≤ 1025 → Adds (x ∷ []) s n s 1025
unfolding image cut
adds-over s n x l m =
    record {
      adds = λ z acc hz es ns.
          let q : length (acc ++ (x ∷ [])) ≡ length acc + 1 = length-append acc (x ∷ []) in
          let t : take 1024 (acc ++ (x ∷ [])) ≡ take 1024 acc = take-append-le 1024 acc (x ∷ []) (omega arith) in
          (es ∙ sym (ap (λ y. rows y (drop (length y * 7) z)) t), omega arith);
      size = refl;
      most = omega arith;
    }

-- from an empty listing on
pub adds-all : {es : List Entry} {b b' : List ℕ} {n : ℕ} → length b ≡ 7168 → Adds es b 0 b' n → (b' ≡ image b es) × (n ≡ cut es)
adds-all {b = b} l a = a.adds b [] l (unfold image rows in refl) (unfold cut in refl)
