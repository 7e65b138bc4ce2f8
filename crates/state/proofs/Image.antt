-- Numbers pass the test exactly when they are those of a state that fits, which is the one they decode to: from the same of processes and pairs, row by row.
use mathlib.Core.Path.{◌≡◌, refl, sym, ap, ap₂, ◌∙◌}
use mathlib.Core.Bool.{Bool, true}
use mathlib.Core.List.{List, [], ◌∷◌, ◌++◌, map}
use mathlib.Core.Logic.{◌↔◌}
use Prim.Native.Nat.{ℕ, ◌*◌, ◌≤◌, ◌<◌}
use native.Mathlib.Omega.{arith}
use borrow.Author.Tests.{lt-ltb}
use lib.IntN.{ℤ, pos, nat_abs}
use lib.ListN.{length, drop, length-append, length-take, length-drop, length-map, take-append-drop}
use lib.Seq.{take_at, drop_at}
use Rattle.rules.specs.Offers as offers
use Rattle.model.specs.Good.{Every}
use Rattle.machine.specs.Offer.{Process}
use Rattle.machine.specs.State.{State, padded, flatten, process_numbers, pair_numbers, state_numbers, state_length, pair_room, pair_width, process_room, process_width}
use Rattle.machine.proofs.Everys.{every_map}
use Rattle.state.specs.Fits.{FewLocals, FitsPair, FitsProcess, Fits}
use Rattle.state.specs.Test.{every, rows, is_zero, is_below, at, is_process, is_pair, ascends, are_processes, are_pairs, process_part, pair_part, is_state}
use Rattle.state.specs.Decode.{process_of, pair_of, decode}
use Rattle.state.proofs.Tests.{both, below-natural, below-bound}
use Rattle.state.proofs.Rows.{says-every, padded-back, padded-end, padded-length, flatten-length, rows-flatten, map_back, Row, rows-wide, join-rows, rows-length}
use Rattle.state.proofs.Entries.{process-row, row-process, process-back, process-wide, pair_row_lem, row-pair, pair-back, pair-wide}
use Rattle.state.proofs.Climbs.{climbs, climbing}

-- ---- a table of rows of one width, with zeros after them
module _ {A : Type 0} (f : A → List ℤ) (g : List ℤ → A) (w : ℕ) (t : List ℤ → Bool) (P : A → Type 0) where
  -- rows that pass are the numbers of members that hold P
  module _ (reads : (r : List ℤ) → length r ≡ w → t r ≡ true → P (g r) × (f (g r) ≡ r))
      (n total : ℕ) (l : List ℤ) (long : length l ≡ total) (room : n * w ≤ total) (e : every t (rows w n l) ≡ true) where
    good-rows : Every (Row t w) (rows w n l)
    good-rows = rows-wide t w n l (omega arith) e

    pub table-members : Every P (map g (rows w n l))
    table-members = every_map (Row t w) P g (λ r h. (reads r h.wide h.passes).0) (rows w n l) good-rows

    pub table-rows : map f (map g (rows w n l)) ≡ rows w n l
    table-rows = map_back g f (Row t w) (λ r h. (reads r h.wide h.passes).1) (rows w n l) good-rows

    pub table-count : length (map g (rows w n l)) ≡ n
    table-count = length-map (rows w n l) g ∙ rows-length w n l

    pub table-numbers : every is_zero (drop (n * w) l) ≡ true → padded total (flatten f (map g (rows w n l))) ≡ l
    table-numbers z = ap (padded total) (join-rows f w n l (map g (rows w n l)) table-rows) ∙ padded-back total (n * w) l long room z

  -- and the other way round
  module _ (wide : (x : A) → P x → length (f x) ≡ w) (total : ℕ) (xs : List A) (h : Every P xs) where
    pub rows_back : rows w (length xs) (padded total (flatten f xs)) ≡ map f xs
    unfolding padded
    rows_back = rows-flatten f w P wide xs _ h

    pub table-passes : ((x : A) → P x → t (f x) ≡ true) → every t (rows w (length xs) (padded total (flatten f xs))) ≡ true
    table-passes k = ap (every t) rows_back ∙ says-every t (Row' t) (λ r p. p) (map f xs) (every_map P (Row' t) f k xs h)
      where
        Row' : (List ℤ → Bool) → List ℤ → Type 0
        Row' t r = t r ≡ true

    pub table-back : ((x : A) → P x → g (f x) ≡ x) → map g (rows w (length xs) (padded total (flatten f xs))) ≡ xs
    table-back k = ap (map g) rows_back ∙ map_back f g P k xs h

make : List Process → List offers.Pair → State
make ps xs = record { processes = ps; pairs = xs }

-- ---- numbers that pass
module _ (scopes : List ℕ) (few : FewLocals scopes) (channels : ℕ) where
  module _ (zs : List ℤ) (long : length zs ≡ state_length) (passes : is_state scopes channels zs ≡ true) where
    pub record Parts : Type 0 where
      pub processes : is_below 257 (at zs 0) ≡ true
      pub pairs : is_below 257 (at zs 1) ≡ true
      pub process-rows : every (is_process scopes) (rows process_width (nat_abs (at zs 0)) (process_part zs)) ≡ true
      pub process-rest : every is_zero (drop (nat_abs (at zs 0) * process_width) (process_part zs)) ≡ true
      pub pair-rows : every (is_pair channels) (rows pair_width (nat_abs (at zs 1)) (pair_part zs)) ≡ true
      pub pair-order : ascends (rows pair_width (nat_abs (at zs 1)) (pair_part zs)) ≡ true
      pub pair-rest : every is_zero (drop (nat_abs (at zs 1) * pair_width) (pair_part zs)) ≡ true

    pub parts : Parts
    unfolding is_state are_processes are_pairs
    parts =
        let a = both (is_below 257 (at zs 0)) _ passes in
        let b = both (is_below 257 (at zs 1)) _ a.1 in
        let c = both (are_processes scopes (nat_abs (at zs 0)) (process_part zs)) _ b.1 in
        let d = both (every (is_process scopes) (rows process_width (nat_abs (at zs 0)) (process_part zs))) _ c.0 in
        let e = both (every (is_pair channels) (rows pair_width (nat_abs (at zs 1)) (pair_part zs))) _ c.1 in
        let f = both (ascends (rows pair_width (nat_abs (at zs 1)) (pair_part zs))) _ e.1 in
        record { processes = a.0; pairs = b.0; process-rows = d.0; process-rest = d.1; pair-rows = e.0; pair-order = f.0; pair-rest = f.1 }

    process-long : length (process_part zs) ≡ process_room
    process-long = simp (length-take, length-drop) (omega arith)

    pair-long : length (pair_part zs) ≡ pair_room
    pair-long = simp length-drop (omega arith)

    process-room : nat_abs (at zs 0) * process_width ≤ process_room
    process-room = omega (arith, below-bound 257 (at zs 0) parts.processes)

    pair-room : nat_abs (at zs 1) * pair_width ≤ pair_room
    pair-room = omega (arith, below-bound 257 (at zs 1) parts.pairs)

    pub decode-fits : Fits scopes channels (decode scopes zs)
    unfolding decode
    decode-fits =
        let ps = table-count process_numbers (process_of scopes) process_width (is_process scopes) (FitsProcess scopes) (process-row scopes few) (nat_abs (at zs 0)) process_room (process_part zs) process-long process-room parts.process-rows in
        let xs = table-count pair_numbers pair_of pair_width (is_pair channels) (FitsPair channels) (pair_row_lem channels) (nat_abs (at zs 1)) pair_room (pair_part zs) pair-long pair-room parts.pair-rows in
        let rs = table-rows pair_numbers pair_of pair_width (is_pair channels) (FitsPair channels) (pair_row_lem channels) (nat_abs (at zs 1)) pair_room (pair_part zs) pair-long pair-room parts.pair-rows in
        record {
          few-processes = omega (arith, ps, below-bound 257 (at zs 0) parts.processes);
          processes = table-members process_numbers (process_of scopes) process_width (is_process scopes) (FitsProcess scopes) (process-row scopes few) (nat_abs (at zs 0)) process_room (process_part zs) process-long process-room parts.process-rows;
          few-pairs = omega (arith, xs, below-bound 257 (at zs 1) parts.pairs);
          pairs = table-members pair_numbers pair_of pair_width (is_pair channels) (FitsPair channels) (pair_row_lem channels) (nat_abs (at zs 1)) pair_room (pair_part zs) pair-long pair-room parts.pair-rows;
          ascending = climbs (map pair_of (rows pair_width (nat_abs (at zs 1)) (pair_part zs))) (ap ascends rs ∙ parts.pair-order);
        }

    pub decode-numbers : state_numbers (decode scopes zs) ≡ zs
    unfolding decode state_numbers
    decode-numbers =
        let n : ℕ = nat_abs (at zs 0) in
        let k : ℕ = nat_abs (at zs 1) in
        let pc = table-count process_numbers (process_of scopes) process_width (is_process scopes) (FitsProcess scopes) (process-row scopes few) n process_room (process_part zs) process-long process-room parts.process-rows in
        let xc = table-count pair_numbers pair_of pair_width (is_pair channels) (FitsPair channels) (pair_row_lem channels) k pair_room (pair_part zs) pair-long pair-room parts.pair-rows in
        let pn = table-numbers process_numbers (process_of scopes) process_width (is_process scopes) (FitsProcess scopes) (process-row scopes few) n process_room (process_part zs) process-long process-room parts.process-rows parts.process-rest in
        let xn = table-numbers pair_numbers pair_of pair_width (is_pair channels) (FitsPair channels) (pair_row_lem channels) k pair_room (pair_part zs) pair-long pair-room parts.pair-rows parts.pair-rest in
        joined (ap pos pc ∙ sym (below-natural 257 (at zs 0) parts.processes)) (ap pos xc ∙ sym (below-natural 257 (at zs 1) parts.pairs)) pn xn ∙ whole zs (omega arith)
      where
        joined : {a b c d : ℤ} {u v p q : List ℤ} → a ≡ b → c ≡ d → u ≡ v → p ≡ q → a ∷ c ∷ (u ++ p) ≡ b ∷ d ∷ (v ++ q)
        joined e f g h = λ i. e i ∷ f i ∷ (g i ++ h i)

        whole : (l : List ℤ) → 2 ≤ length l → at l 0 ∷ at l 1 ∷ (process_part l ++ pair_part l) ≡ l
        whole [] h = absurd (omega arith)
        whole (x ∷ []) h = absurd (omega arith)
        whole (x ∷ y ∷ l) h = ap (λ (r : List ℤ). x ∷ y ∷ r) (take-append-drop process_room l)

  -- ---- and numbers of a state that fits
  module _ (s : State) (fits : Fits scopes channels s) where
    abbrev process_table : List ℤ
    process_table = padded process_room (flatten process_numbers s.processes)

    abbrev pair_table : List ℤ
    pair_table = padded pair_room (flatten pair_numbers s.pairs)

    process-numbers : length (flatten process_numbers s.processes) ≡ length s.processes * process_width
    process-numbers = flatten-length process_numbers process_width (FitsProcess scopes) (process-wide scopes few) s.processes fits.processes

    pair-numbers : length (flatten pair_numbers s.pairs) ≡ length s.pairs * pair_width
    pair-numbers = flatten-length pair_numbers pair_width (FitsPair channels) (pair-wide channels) s.pairs fits.pairs

    process-table : length process_table ≡ process_room
    process-table = padded-length process_room _ (omega (arith, process-numbers, fits.few-processes))

    pair-table : length pair_table ≡ pair_room
    pair-table = padded-length pair_room _ (omega (arith, pair-numbers, fits.few-pairs))

    pub numbers-length : length (state_numbers s) ≡ state_length
    unfolding state_numbers
    numbers-length = omega (arith, process-table, pair-table, length-append process_table pair_table)

    pub process-part : process_part (state_numbers s) ≡ process_table
    unfolding state_numbers
    process-part = take_at process_table pair_table process_room process-table

    pub pair-part : pair_part (state_numbers s) ≡ pair_table
    unfolding state_numbers
    pair-part = drop_at process_table pair_table process_room process-table

    processes-pass : are_processes scopes (length s.processes) process_table ≡ true
    unfolding are_processes
    processes-pass = rw (
      table-passes process_numbers (process_of scopes) process_width (is_process scopes) (FitsProcess scopes) (process-wide scopes few) process_room s.processes fits.processes (row-process scopes few),
      padded-end process_room (length s.processes * process_width) (flatten process_numbers s.processes) process-numbers,
    )

    pairs-pass : are_pairs channels (length s.pairs) pair_table ≡ true
    unfolding are_pairs
    pairs-pass =
        let r = rows_back pair_numbers pair_of pair_width (is_pair channels) (FitsPair channels) (pair-wide channels) pair_room s.pairs fits.pairs in
        rw (
          table-passes pair_numbers pair_of pair_width (is_pair channels) (FitsPair channels) (pair-wide channels) pair_room s.pairs fits.pairs (row-pair channels),
          ap ascends r ∙ climbing s.pairs fits.ascending,
          padded-end pair_room (length s.pairs * pair_width) (flatten pair_numbers s.pairs) pair-numbers,
        )

    state-cases : (p q : ℕ) (zs : List ℤ) → at zs 0 ≡ pos p → at zs 1 ≡ pos q → p < 257 → q < 257
        → are_processes scopes p (process_part zs) ≡ true → are_pairs channels q (pair_part zs) ≡ true → is_state scopes channels zs ≡ true
    unfolding is_state is_below
    state-cases p q zs e f a b c d = rw (e, f, lt-ltb p 257 a, lt-ltb q 257 b, c, d)

    first : at (state_numbers s) 0 ≡ pos (length s.processes)
    unfolding state_numbers
    first = refl

    second : at (state_numbers s) 1 ≡ pos (length s.pairs)
    unfolding state_numbers
    second = refl

    -- the rows of the pairs are the pairs' numbers, and ascend
    pub pair-rows : rows pair_width (length s.pairs) (pair_part (state_numbers s)) ≡ map pair_numbers s.pairs
    pair-rows =
        ap (rows pair_width (length s.pairs)) pair-part
        ∙ rows_back pair_numbers pair_of pair_width (is_pair channels) (FitsPair channels) (pair-wide channels) pair_room s.pairs fits.pairs

    pub pairs-ascend : ascends (rows pair_width (length s.pairs) (pair_part (state_numbers s))) ≡ true
    pairs-ascend = ap ascends pair-rows ∙ climbing s.pairs fits.ascending

    pub numbers-pass : is_state scopes channels (state_numbers s) ≡ true
    numbers-pass =
        state-cases (length s.processes) (length s.pairs) (state_numbers s) first second (omega (arith, fits.few-processes)) (omega (arith, fits.few-pairs))
        (ap (are_processes scopes (length s.processes)) process-part ∙ processes-pass)
        (ap (are_pairs channels (length s.pairs)) pair-part ∙ pairs-pass)

    pub decode-back : decode scopes (state_numbers s) ≡ s
    unfolding decode state_numbers make
    decode-back =
        ap₂ make
        (ap (λ (l : List ℤ). map (process_of scopes) (rows process_width (length s.processes) l)) process-part
        ∙ table-back process_numbers (process_of scopes) process_width (is_process scopes) (FitsProcess scopes) (process-wide scopes few) process_room s.processes fits.processes (process-back scopes few))
        (ap (λ (l : List ℤ). map pair_of (rows pair_width (length s.pairs) l)) pair-part
        ∙ table-back pair_numbers pair_of pair_width (is_pair channels) (FitsPair channels) (pair-wide channels) pair_room s.pairs fits.pairs (λ x f. pair-back x))

  -- 01, Listing, 11: the test is exact
  pub is_state_lem : (zs : List ℤ) → length zs ≡ state_length → (is_state scopes channels zs ≡ true) ↔ ((s : State) × Fits scopes channels s × (state_numbers s ≡ zs))
  is_state_lem zs l = (
    λ e. (decode scopes zs, decode-fits zs l e, decode-numbers zs l e),
    λ w. rw w.2 at (numbers-pass w.0 w.1),
  )
