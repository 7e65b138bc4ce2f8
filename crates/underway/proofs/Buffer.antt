-- The exact test of the search's buffer: the numbers of a search over the model pass, and give it back; and numbers that pass are those of the search that they hold (02, note 10). From the laws of a state's
-- numbers.
use mathlib.Core.Path.{◌≡◌, refl, sym, ap, ap₂, ◌∙◌}
use mathlib.Core.List.{List, [], ◌∷◌, ◌++◌, map}
use mathlib.Core.Bool.{Bool, true, false, cond, not, ◌&&◌, ◌||◌}
use mathlib.Core.Option.{Option, none, some, Option-elim}
use Prim.Native.Nat.{ℕ, zero, suc, ◌+◌, ◌≤◌, ◌<◌}
use native.Mathlib.Omega.{arith}
use borrow.Author.Tests.{leb-true, le-leb, ltb-true, lt-ltb, ne_eqb}
use lib.Dec.{leb}
use lib.IntN.{ℤ, pos, negsuc, nat_abs}
use lib.ListN.{length, take, drop, replicate, length-append, length-take, length-drop, length-map, length-replicate, take-append-drop}
use lib.Seq.{take_at, drop_at}
use Rattle.model.specs.Resolved
use Rattle.model.specs.Good.{GoodModel}
use Rattle.waitnames.specs.Names.{wait_names}
use Rattle.runs.specs.Walk.{follows}
use Rattle.runs.specs.Marks.{mark}
use Rattle.runs.proofs.Marks.{Marks, absent, stood, marked, marks}
use Rattle.runs.proofs.Walk.{follows-goes}
use Rattle.machine.specs.State.{State, padded, state_numbers, state_length}
use Rattle.machine.specs.Machine.{depth_limit, is_depth, Search, moves_by, count_limit, search_length, is_wait_number, GoodSearch, GoodSearching}
use Rattle.state.specs.Fits.{scopes_of}
use Rattle.state.specs.Test.{every, at, is_zero, is_below, is_state}
use Rattle.state.specs.Decode.{decode}
use Rattle.state.proofs.Tests.{both, below-natural, below-bound}
use Rattle.state.proofs.Rows.{zeros, zero-every, padded-length, padded-back, padded-front, padded-end}
use Rattle.state.proofs.Over.{good-fits, fits-good, few-scopes}
use Rattle.state.proofs.Image.{numbers-length, numbers-pass, decode-back, decode-fits, decode-numbers}
use Rattle.underway.specs.Buffer.{wait_code, flag_code, entries_of, run_numbers, under_numbers, search_numbers, run_part, start_part, wait_of, last_of, run_in, wait_in, start_in, under_in, search_in, is_natural, is_entries, is_head, is_walked, is_under, is_search}

-- ---- single numbers

and-true : {a b : Bool} → a ≡ true → b ≡ true → (a && b) ≡ true
and-true {a} {b} e f = rw (e, f) refl

below-pos : (n k : ℕ) → k < n → is_below n (pos k) ≡ true
unfolding is_below
below-pos n k l = lt-ltb k n l

full_is : (n : ℕ) → is_zero (pos (suc n)) ≡ false
unfolding is_zero
full_is n = ne_eqb (suc n) 0 (λ (q : suc n ≡ 0). omega arith)

code-back : (o : Option ℕ) → wait_of (wait_code o) ≡ o
unfolding wait_of wait_code
code-back none = refl
code-back (some n) = refl

back-code : (n : ℕ) → wait_code (wait_of n) ≡ n
unfolding wait_of wait_code
back-code zero = refl
back-code (suc n) = refl

flag-back : (b : Bool) → not (is_zero (pos (flag_code b))) ≡ b
unfolding flag_code is_zero
flag-back true = refl
flag-back false = refl

back-flag : (z : ℤ) → is_below 2 z ≡ true → pos (flag_code (not (is_zero z))) ≡ z
unfolding flag_code is_zero is_below
back-flag (pos zero) e = refl
back-flag (pos (suc zero)) e = refl
back-flag (pos (suc (suc n))) e = let l = ltb-true (suc (suc n)) 2 e in absurd (omega arith)
back-flag (negsuc n) e = let z : ◌≡◌ {A = ℕ} 0 1 = cc in absurd (omega arith)

zeros-first : (n : ℕ) → is_zero (at (replicate n (pos 0)) 0) ≡ true
unfolding is_zero
zeros-first zero = refl
zeros-first (suc n) = refl

-- ---- entries

natural-every : (r : List ℕ) → every is_natural (map pos r) ≡ true
unfolding every is_natural
natural-every [] = refl
natural-every (e ∷ es) = natural-every es

back-every : (r : List ℕ) → map nat_abs (map pos r) ≡ r
back-every [] = refl
back-every (e ∷ es) = ap (λ (l : List ℕ). e ∷ l) (back-every es)

every_back : (l : List ℤ) → every is_natural l ≡ true → map pos (map nat_abs l) ≡ l
unfolding every is_natural
every_back [] e = refl
every_back (pos n ∷ l) e = ap (λ (k : List ℤ). pos n ∷ k) (every_back l e)
every_back (negsuc n ∷ l) e = let z : ◌≡◌ {A = ℕ} 0 1 = cc in absurd (omega arith)

-- ---- where it stands

-- nothing was walked, and there is no entry; or a run was
data Position : ℕ → List ℕ → Type 0 where
  nothing : Position 0 []
  something : {c : ℕ} {r : List ℕ} → Position (suc c) r

position-of : (k n : ℕ) (y z : ℤ) (r : List ℕ) → is_below k y ≡ true → is_below n z ≡ true → (not (is_zero y) || is_zero z) ≡ true → length r ≡ nat_abs z → Position (nat_abs y) r
unfolding is_zero is_below
position-of k n (pos zero) (pos zero) [] b c e l = nothing
position-of k n (pos zero) (pos zero) (q ∷ r) b c e l = absurd (omega arith)
position-of k n (pos zero) (pos (suc j)) r b c e l = let f = full_is j in let y : ◌≡◌ {A = ℕ} 0 1 = cc in absurd (omega arith)
position-of k n (pos zero) (negsuc j) r b c e l = let y : ◌≡◌ {A = ℕ} 0 1 = cc in absurd (omega arith)
position-of k n (pos (suc i)) z r b c e l = something
position-of k n (negsuc i) z r b c e l = let y : ◌≡◌ {A = ℕ} 0 1 = cc in absurd (omega arith)

entries-last : (c : ℕ) (r : List ℕ) → Position c r → entries_of (last_of c r) ≡ r
unfolding entries_of last_of
entries-last c r nothing = refl
entries-last c r something = refl

is_some : (o : Option Bool) → Option-elim o false (λ h. true) ≡ true → (g : Bool) × (o ≡ some g)
unfolding Option-elim
is_some none e = let z : ◌≡◌ {A = ℕ} 0 1 = cc in absurd (omega arith)
is_some (some g) e = (g, refl)

wait-good : (m : Resolved.Model) (n : ℕ) → n < suc (length (wait_names m)) → is_wait_number m (wait_of n) ≡ true
unfolding is_wait_number wait_of
wait-good m zero l = refl
wait-good m (suc n) l = lt-ltb n (length (wait_names m)) (omega (arith, l))

six : {A : Type 0} {a b c d e a' b' c' d' e' : A} {r r' : List A} → a ≡ a' → b ≡ b' → c ≡ c' → d ≡ d' → e ≡ e' → r ≡ r' → a ∷ b ∷ c ∷ d ∷ e ∷ r ≡ a' ∷ b' ∷ c' ∷ d' ∷ e' ∷ r'
six p q u v w x = rw (p, q, u, v, w, x) refl

module _ (m : Resolved.Model) (fine : GoodModel m) where
  -- ---- the numbers of a search over the model

  module _ (x : Search) (g : GoodSearch m x) where
    abbrev run : List ℕ
    run = entries_of x.mark.last

    depth-so : (1 ≤ x.depth) × (x.depth ≤ depth_limit)
    unfolding is_depth
    depth-so = let q = both (leb 1 x.depth) (leb x.depth depth_limit) g.depth in (leb-true 1 x.depth q.0, leb-true x.depth depth_limit q.1)

    place : Marks (moves_by m x.wait) x.start x.depth x.count x.mark.last
    place = marked (moves_by m x.wait) x.start x.depth x.count x.mark.last g.stands

    run_short : length run ≤ x.depth
    unfolding entries_of
    run_short = by x.mark.last place
      where
        by : (o : Option (List ℕ)) → Marks (moves_by m x.wait) x.start x.depth x.count o → length (entries_of o) ≤ x.depth
        by none p = omega arith
        by (some r) (stood h z l k) = l

    run-wide : length (run_numbers run) ≡ depth_limit
    unfolding run_numbers
    run-wide =
        let a = run_short in
        let b = depth-so.1 in
        let c : length (map pos run) ≡ length run = length-map run pos in
        padded-length depth_limit (map pos run) (omega (arith, a, b, c))

    state-long : length (state_numbers x.start) ≡ state_length
    state-long = numbers-length (scopes_of m) (few-scopes m fine) m.channels x.start (good-fits m x.start fine g.start)

    pub under-length : length (under_numbers x) ≡ search_length
    unfolding under_numbers
    under-length =
        let a = length-append (run_numbers run) (state_numbers x.start) in
        let b = run-wide in
        let c = state-long in
        omega (arith, a, b, c)

    run-part : run_part (under_numbers x) ≡ run_numbers run
    unfolding under_numbers
    run-part = take_at (run_numbers run) (state_numbers x.start) depth_limit run-wide

    pub start-part : start_part (under_numbers x) ≡ state_numbers x.start
    unfolding under_numbers
    start-part = drop_at (run_numbers run) (state_numbers x.start) depth_limit run-wide

    start_back : start_in m (under_numbers x) ≡ x.start
    start_back = ap (decode (scopes_of m)) start-part ∙ decode-back (scopes_of m) (few-scopes m fine) m.channels x.start (good-fits m x.start fine g.start)

    front : (r : List ℕ) → take (length r) (run_numbers r) ≡ map pos r
    unfolding run_numbers
    front r = ap (λ (n : ℕ). take n (padded depth_limit (map pos r))) (sym (length-map r pos)) ∙ padded-front depth_limit (map pos r)

    length_at : nat_abs (at (under_numbers x) 4) ≡ length run
    unfolding under_numbers
    length_at = refl

    run-back : run_in (under_numbers x) ≡ run
    unfolding run_in
    run-back = ap₂ (λ (n : ℕ) (l : List ℤ). map nat_abs (take n l)) length_at run-part ∙ ap (map nat_abs) (front run) ∙ back-every run

    last-back : last_of x.count run ≡ x.mark.last
    unfolding last_of entries_of
    last-back = by x.count x.mark.last place
      where
        by : (c : ℕ) (o : Option (List ℕ)) → Marks (moves_by m x.wait) x.start x.depth c o → last_of c (entries_of o) ≡ o
        by zero none p = refl
        by zero (some r) (stood h z l k) = absurd (z refl)
        by (suc c) none (absent e) = absurd (omega arith)
        by (suc c) (some r) p = refl

    wait-at : wait_in (under_numbers x) ≡ x.wait
    unfolding under_numbers
    wait-at = code-back x.wait

    abbrev make : State → Option ℕ → Option (List ℕ) → Bool → Search
    make s w o b = record { start = s; wait = w; depth = x.depth; count = x.count; mark = mark o b }

    under-shape : under_in m (under_numbers x) ≡ make (start_in m (under_numbers x)) (wait_in (under_numbers x)) (last_of x.count (run_in (under_numbers x))) (not (is_zero (pos (flag_code x.mark.met))))
    unfolding under_in under_numbers
    under-shape = refl

    pub under_back : under_in m (under_numbers x) ≡ x
    under_back =
        under-shape
        ∙ ap (λ (s : State). make s (wait_in (under_numbers x)) (last_of x.count (run_in (under_numbers x))) (not (is_zero (pos (flag_code x.mark.met))))) start_back
        ∙ ap (λ (w : Option ℕ). make x.start w (last_of x.count (run_in (under_numbers x))) (not (is_zero (pos (flag_code x.mark.met))))) wait-at
        ∙ ap (λ (o : Option (List ℕ)). make x.start x.wait o (not (is_zero (pos (flag_code x.mark.met))))) (ap (last_of x.count) run-back ∙ last-back)
        ∙ ap (λ (b : Bool). make x.start x.wait x.mark.last b) (flag-back x.mark.met)

    code_below : wait_code x.wait < suc (length (wait_names m))
    unfolding wait_code is_wait_number
    code_below = by x.wait g.wait
      where
        by : (o : Option ℕ) → is_wait_number m o ≡ true → wait_code o < suc (length (wait_names m))
        by none e = omega arith
        by (some n) e = let l = ltb-true n (length (wait_names m)) e in omega (arith, l)

    flag-below : (b : Bool) → flag_code b < 2
    unfolding flag_code
    flag-below true = omega arith
    flag-below false = omega arith

    empty-first : (not (is_zero (pos x.count)) || is_zero (pos (length run))) ≡ true
    unfolding is_zero entries_of
    empty-first = by x.count x.mark.last place
      where
        by : (c : ℕ) (o : Option (List ℕ)) → Marks (moves_by m x.wait) x.start x.depth c o → (not (is_zero (pos c)) || is_zero (pos (length (entries_of o)))) ≡ true
        by zero none p = refl
        by zero (some r) (stood h z l k) = absurd (z refl)
        by (suc c) o p = rw (full_is c) refl

    entries-pass : is_entries (length run) (run_part (under_numbers x)) ≡ true
    unfolding is_entries
    entries-pass =
        ap (λ (l : List ℤ). every is_natural (take (length run) l) && every is_zero (drop (length run) l)) run-part
        ∙ and-true (ap (every is_natural) (front run) ∙ natural-every run) (unfold run_numbers in padded-end depth_limit (length run) (map pos run) (length-map run pos))

    head-passes : is_head (length (wait_names m)) (under_numbers x) ≡ true
    unfolding is_head under_numbers
    head-passes =
        let a = depth-so.1 in
        let b = g.count in
        let c = run_short in
        and-true (below-pos (suc depth_limit) x.depth (omega (arith, a)))
        (and-true (below-pos (suc (length (wait_names m))) (wait_code x.wait) code_below)
        (and-true (below-pos (suc count_limit) x.count (omega (arith, b)))
        (and-true (below-pos 2 (flag_code x.mark.met) (flag-below x.mark.met))
        (and-true (below-pos (suc x.depth) (length run) (omega (arith, c))) (and-true empty-first entries-pass)))))

    walked-passes : is_walked m (under_numbers x) ≡ true
    unfolding is_walked Option-elim
    walked-passes = passes _
      where
        by : (b : Bool) (o : Option (List ℕ)) → Marks (moves_by m x.wait) x.start x.depth x.count o → Option-elim (follows (moves_by m x.wait) false x.start (entries_of o)) b (λ h. true) ≡ true
        by b none p = unfold follows entries_of in refl
        by b (some r) (stood h z l k) = unfold entries_of in rw ((follows-goes (moves_by m x.wait) false x.start r h).1 k) refl

        -- whatever is said of what is no run
        passes : (b : Bool) → Option-elim (follows (moves_by m (wait_in (under_numbers x))) false (start_in m (under_numbers x)) (run_in (under_numbers x))) b (λ h. true) ≡ true
        passes b =
            ap (λ (w : Option ℕ). Option-elim (follows (moves_by m w) false (start_in m (under_numbers x)) (run_in (under_numbers x))) b (λ h. true)) wait-at
            ∙ ap₂ (λ (s : State) (r : List ℕ). Option-elim (follows (moves_by m x.wait) false s r) b (λ h. true)) start_back run-back
            ∙ by b x.mark.last place

    pub under-passes : is_under m (under_numbers x) ≡ true
    unfolding is_under
    under-passes =
        and-true head-passes
        (and-true (ap (is_state (scopes_of m) m.channels) start-part ∙ numbers-pass (scopes_of m) (few-scopes m fine) m.channels x.start (good-fits m x.start fine g.start)) walked-passes)

    first-full : is_zero (at (under_numbers x) 0) ≡ false
    unfolding under_numbers is_zero
    first-full = let a = depth-so.0 in ne_eqb x.depth 0 (λ (q : x.depth ≡ 0). omega (arith, a, q))

  -- ---- one under way or none

  pub search-length : (o : Option Search) → GoodSearching m o → length (search_numbers o) ≡ search_length
  unfolding search_numbers GoodSearching
  search-length none g = length-replicate search_length (pos 0)
  search-length (some x) g = under-length x g

  pub search-pass : (o : Option Search) → GoodSearching m o → is_search m (search_numbers o) ≡ true
  unfolding search_numbers GoodSearching is_search
  search-pass none g = rw (zeros-first search_length) (zero-every search_length)
  search-pass (some x) g = rw (first-full x g) (under-passes x g)

  pub search-back : (o : Option Search) → GoodSearching m o → search_in m (search_numbers o) ≡ o
  unfolding search_numbers GoodSearching search_in
  search-back none g = rw (zeros-first search_length) refl
  search-back (some x) g = rw (first-full x g) (ap some (under_back x g))

  -- ---- numbers that pass

  module _ (z₀ z₁ z₂ z₃ z₄ : ℤ) (rest : List ℤ) (long : length rest ≡ depth_limit + state_length) (passes : is_under m (z₀ ∷ z₁ ∷ z₂ ∷ z₃ ∷ z₄ ∷ rest) ≡ true) (full : is_zero z₀ ≡ false) where
    abbrev L : List ℤ
    L = z₀ ∷ z₁ ∷ z₂ ∷ z₃ ∷ z₄ ∷ rest

    record Fields : Type 0 where
      depth : is_below (suc depth_limit) z₀ ≡ true
      wait : is_below (suc (length (wait_names m))) z₁ ≡ true
      count : is_below (suc count_limit) z₂ ≡ true
      flag : is_below 2 z₃ ≡ true
      short : is_below (suc (nat_abs z₀)) z₄ ≡ true
      first : (not (is_zero z₂) || is_zero z₄) ≡ true
      natural : every is_natural (take (nat_abs z₄) (take depth_limit rest)) ≡ true
      unused : every is_zero (drop (nat_abs z₄) (take depth_limit rest)) ≡ true
      state : is_state (scopes_of m) m.channels (drop depth_limit rest) ≡ true
      walked : is_walked m L ≡ true

    fields : Fields
    unfolding is_under is_head is_entries
    fields =
        let a = both (is_head (length (wait_names m)) L) (is_state (scopes_of m) m.channels (start_part L) && is_walked m L) passes in
        let s = both (is_state (scopes_of m) m.channels (start_part L)) (is_walked m L) a.1 in
        let b = both (is_below (suc depth_limit) z₀) _ a.0 in
        let c = both (is_below (suc (length (wait_names m))) z₁) _ b.1 in
        let d = both (is_below (suc count_limit) z₂) _ c.1 in
        let e = both (is_below 2 z₃) _ d.1 in
        let f = both (is_below (suc (nat_abs z₀)) z₄) _ e.1 in
        let h = both (not (is_zero z₂) || is_zero z₄) _ f.1 in
        let k = both (every is_natural (take (nat_abs z₄) (take depth_limit rest))) _ h.1 in
        record { depth = b.0; wait = c.0; count = d.0; flag = e.0; short = f.0; first = h.0; natural = k.0; unused = k.1; state = s.0; walked = s.1 }

    depth-bound : nat_abs z₀ < suc depth_limit
    depth-bound = below-bound (suc depth_limit) z₀ fields.depth

    short-bound : nat_abs z₄ < suc (nat_abs z₀)
    short-bound = below-bound (suc (nat_abs z₀)) z₄ fields.short

    part-long : length (take depth_limit rest) ≡ depth_limit
    part-long = length-take depth_limit rest ∙ omega (arith, long)

    start-long : length (drop depth_limit rest) ≡ state_length
    start-long = length-drop depth_limit rest ∙ omega (arith, long)

    entries-is : map pos (run_in L) ≡ take (nat_abs z₄) (take depth_limit rest)
    unfolding run_in
    entries-is = every_back (take (nat_abs z₄) (take depth_limit rest)) fields.natural

    entries-long : length (run_in L) ≡ nat_abs z₄
    unfolding run_in
    entries-long =
        let a = length-map (take (nat_abs z₄) (take depth_limit rest)) nat_abs in
        let b = length-take (nat_abs z₄) (take depth_limit rest) in
        let c = part-long in
        let d = depth-bound in
        let e = short-bound in
        omega (arith, a, b, c, d, e)

    run_is : run_numbers (run_in L) ≡ take depth_limit rest
    unfolding run_numbers
    run_is =
        let d = depth-bound in
        let e = short-bound in
        ap (padded depth_limit) entries-is ∙ padded-back depth_limit (nat_abs z₄) (take depth_limit rest) part-long (omega (arith, d, e)) fields.unused

    start_is : state_numbers (start_in m L) ≡ drop depth_limit rest
    start_is = decode-numbers (scopes_of m) (few-scopes m fine) m.channels (drop depth_limit rest) start-long fields.state

    position : Position (nat_abs z₂) (run_in L)
    position = position-of (suc count_limit) (suc (nat_abs z₀)) z₂ z₄ (run_in L) fields.count fields.short fields.first entries-long

    abbrev E : List ℕ
    E = entries_of (last_of (nat_abs z₂) (run_in L))

    E-is : E ≡ run_in L
    E-is = entries-last (nat_abs z₂) (run_in L) position

    shape : under_numbers (under_in m L)
        ≡ pos (nat_abs z₀) ∷ pos (wait_code (wait_of (nat_abs z₁))) ∷ pos (nat_abs z₂) ∷ pos (flag_code (not (is_zero z₃))) ∷ pos (length E) ∷ (run_numbers E ++ state_numbers (start_in m L))
    unfolding under_numbers under_in
    shape = refl

    pub under-numbers : under_numbers (under_in m L) ≡ L
    under-numbers =
        shape
        ∙ six (sym (below-natural (suc depth_limit) z₀ fields.depth)) (ap pos (back-code (nat_abs z₁)) ∙ sym (below-natural (suc (length (wait_names m))) z₁ fields.wait))
        (sym (below-natural (suc count_limit) z₂ fields.count)) (back-flag z₃ fields.flag)
        (ap (λ (r : List ℕ). pos (length r)) E-is ∙ ap pos entries-long ∙ sym (below-natural (suc (nat_abs z₀)) z₄ fields.short))
        (ap₂ (λ (a b : List ℤ). a ++ b) (ap run_numbers E-is ∙ run_is) start_is ∙ take-append-drop depth_limit rest)

    depth-some : 1 ≤ nat_abs z₀
    depth-some = by z₀ full
      where
        by : (z : ℤ) → is_zero z ≡ false → 1 ≤ nat_abs z
        by (pos zero) e = let y : ◌≡◌ {A = ℕ} 0 1 = unfold is_zero in cc in absurd (omega arith)
        by (pos (suc n)) e = omega arith
        by (negsuc n) e = omega arith

    stands : Marks (moves_by m (wait_in L)) (start_in m L) (nat_abs z₀) (nat_abs z₂) (last_of (nat_abs z₂) (run_in L))
    stands = by (nat_abs z₂) (run_in L) position entries-long (is_some _ (unfold is_walked in fields.walked))
      where
        by : (c : ℕ) (r : List ℕ) → Position c r → length r ≡ nat_abs z₄ → (h : Bool) × (follows (moves_by m (wait_in L)) false (start_in m L) r ≡ some h)
            → Marks (moves_by m (wait_in L)) (start_in m L) (nat_abs z₀) c (last_of c r)
        by c r nothing l h = unfold last_of in absent refl
        by c r (something {c = k}) l h =
            unfold last_of in stood {r = r} h.0 (λ (q : suc k ≡ 0). omega arith) (let s = short-bound in omega (arith, l, s)) ((follows-goes (moves_by m (wait_in L)) false (start_in m L) r h.0).0 h.1)

    pub under-good : GoodSearch m (under_in m L)
    unfolding under_in
    under-good =
        let a = depth-some in
        let b = depth-bound in
        let c = below-bound (suc count_limit) z₂ fields.count in
        record {
          start = fits-good m (start_in m L) fine (decode-fits (scopes_of m) (few-scopes m fine) m.channels (drop depth_limit rest) start-long fields.state);
          wait = wait-good m (nat_abs z₁) (below-bound (suc (length (wait_names m))) z₁ fields.wait);
          depth = unfold is_depth in and-true (le-leb 1 (nat_abs z₀) a) (le-leb (nat_abs z₀) depth_limit (omega (arith, b)));
          count = omega (arith, c);
          stands = marks (moves_by m (wait_in L)) (start_in m L) (nat_abs z₀) (nat_abs z₂) (last_of (nat_abs z₂) (run_in L)) stands;
        }

  none-good : (o : Option Search) → o ≡ none → GoodSearching m o
  unfolding GoodSearching
  none-good o e = rw e tt

  some_good : (o : Option Search) (x : Search) → o ≡ some x → GoodSearch m x → GoodSearching m o
  unfolding GoodSearching
  some_good o x e g = rw e g

  numbers-none : (o : Option Search) → o ≡ none → search_numbers o ≡ replicate search_length (pos 0)
  unfolding search_numbers
  numbers-none o e = rw e refl

  numbers-some : (o : Option Search) (x : Search) → o ≡ some x → search_numbers o ≡ under_numbers x
  unfolding search_numbers
  numbers-some o x e = rw e refl

  -- 02, note 10, question 11: nothing else passes
  pub record Passed (l : List ℤ) : Type 0 where
    pub good : GoodSearching m (search_in m l)
    pub numbers : search_numbers (search_in m l) ≡ l

  pub passed : (l : List ℤ) → length l ≡ search_length → is_search m l ≡ true → Passed l
  passed [] h e = absurd (omega arith)
  passed (a ∷ []) h e = absurd (omega arith)
  passed (a ∷ b ∷ []) h e = absurd (omega arith)
  passed (a ∷ b ∷ c ∷ []) h e = absurd (omega arith)
  passed (a ∷ b ∷ c ∷ d ∷ []) h e = absurd (omega arith)
  passed (z₀ ∷ z₁ ∷ z₂ ∷ z₃ ∷ z₄ ∷ rest) h e = by (is_zero z₀) refl e
    where
      l : List ℤ
      l = z₀ ∷ z₁ ∷ z₂ ∷ z₃ ∷ z₄ ∷ rest

      test-is : {b : Bool} → is_zero z₀ ≡ b → is_search m l ≡ cond b (every is_zero l) (is_under m l)
      test-is q = unfold is_search in ap (λ (d : Bool). cond d (every is_zero l) (is_under m l)) q

      by : (b : Bool) → is_zero z₀ ≡ b → is_search m l ≡ true → Passed l
      by true q p =
          let n : search_in m l ≡ none = unfold search_in in rw q refl in
          let k : every is_zero l ≡ true = sym (test-is q) ∙ p in
          record { good = none-good (search_in m l) n; numbers = numbers-none (search_in m l) n ∙ sym (zeros l k ∙ ap (λ (j : ℕ). replicate j (pos 0)) h) }
      by false q p =
          let n : search_in m l ≡ some (under_in m l) = unfold search_in in rw q refl in
          let k : is_under m l ≡ true = sym (test-is q) ∙ p in
          let w : length rest ≡ depth_limit + state_length = omega (arith, h) in
          record { good = some_good (search_in m l) (under_in m l) n (under-good z₀ z₁ z₂ z₃ z₄ rest w k q); numbers = numbers-some (search_in m l) (under_in m l) n ∙ under-numbers z₀ z₁ z₂ z₃ z₄ rest w k q }
