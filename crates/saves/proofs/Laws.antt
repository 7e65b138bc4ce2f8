-- What the loops over letters, words and places say at each turn, and each case of the other functions: from the definitions.
use mathlib.Core.Path.{◌≡◌, refl, sym, ap, ap₂, ◌∙◌}
use mathlib.Core.Bool.{Bool, true, false, cond, not, ◌&&◌}
use mathlib.Core.List.{List, [], ◌∷◌, ◌++◌, append_assoc}
use Prim.Native.Nat.{ℕ, zero, suc, ◌+◌, ◌-◌, ◌*◌, ◌/◌, ◌%◌, ◌≤◌, ◌<◌, ◌^◌}
use native.Mathlib.Nat.{pow-suc}
use native.Mathlib.Omega.{arith}
use borrow.Author.Tests.{eq-eqb, ne_eqb, ltb-true, le-leb, lt-ltb, le-ltb, ltb-false}
use borrow.Rule.Slice.PartMut.{put_mid}
use lib.Dec.{eqb, ltb, leb-suc-suc}
use lib.IntN.{ℤ, pos}
use lib.ListN.{length, get_or, take, drop, replicate, drop_of_length-le, length-take, length-drop}
use native.Mathlib.Numerals.{add-one}
use lib.Seq.{take_all, take-nil, drop-cons, drop-drop}
use mir.Syntax.{w64}
use mir.Val.{to_z}
use mir.Facts.{to_z_pos}
use Rattle.value.specs.Arithmetic.{is_same}
use Rattle.word.specs.Name.{longest, word_bytes, pack, Name, name_of}
use Rattle.machine.specs.Saves.{is_letter, is_name, first_of, save_limit, key_width, timed_length, place_width, saves_length}
use Rattle.state.specs.Test.{every, at, is_zero}
use Rattle.state.proofs.Tests.{both}
use Rattle.saves.specs.Keys.{is_word, is_key_of, low_of, high_of, key_numbers}
use Rattle.saves.specs.Kept.{is_kept}
use Rattle.saves.specs.Places.{has_key, is_place, is_once, are_once, places_of, is_saves, kept_part}
use Rattle.std.specs.Prelude.{Option, None, Some, Ok, Err, is_some}
use Rattle.std.specs.Char.{is_ascii_alphabetic}
use Rattle.std.specs.Option.{ok_or}
use Rattle.std.specs.List.{position_or_len}
use Rattle.std.proofs.lemmas.Slice.{take-put_mid, drop-put_mid}
use Rattle.saves.specs.Change.{below, key_of, place_with, place_to_take, row_at, with_row, saving_numbers, returning_numbers, forgetting_numbers, Stores}
use Rattle.saves.proofs.Names.{letter-is, name-is, every_take, every_drop}

-- ---- letters

-- the library's letters are a name's
pub alphabetic : (b : ℕ) → is_ascii_alphabetic b ≡ is_letter b
unfolding is_letter
alphabetic b = refl

-- ---- words

module _ (word w i : ℕ) (e : is_word 8 word ≡ is_word (8 - i) w) where
  next : i < 8 → is_word 8 word ≡ cond (eqb w 0) true (is_letter (w % 256) && is_word (8 - (i + 1)) (w / 256))
  unfolding is_word
  next h = let k : 8 - i ≡ suc (8 - (i + 1)) = omega arith in e ∙ ap (λ (n : ℕ). is_word n w) k

  pub word-ends : i < 8 → w ≡ 0 → is_word 8 word ≡ true
  word-ends h z = next h ∙ ap (λ (b : Bool). cond b true (is_letter (w % 256) && is_word (8 - (i + 1)) (w / 256))) (eq-eqb w 0 z)

  pub word-fails : i < 8 → (w ≡ 0 → ⊥) → is_letter (w % 256) ≡ false → is_word 8 word ≡ false
  word-fails h z f = next h ∙ ap₂ (λ (b c : Bool). cond b true (c && is_word (8 - (i + 1)) (w / 256))) (ne_eqb w 0 z) f

  pub word_on : i < 8 → (w ≡ 0 → ⊥) → is_letter (w % 256) ≡ true → is_word 8 word ≡ is_word (8 - (i + 1)) (w / 256)
  word_on h z f = next h ∙ ap₂ (λ (b c : Bool). cond b true (c && is_word (8 - (i + 1)) (w / 256))) (ne_eqb w 0 z) f

  pub word-done : 8 ≤ i → is_word 8 word ≡ eqb w 0
  unfolding is_word
  word-done h = let k : 8 - i ≡ 0 = omega arith in e ∙ ap (λ (n : ℕ). is_word n w) k

-- ---- numbers below a number

module _ (n p : ℕ) where
  pub below-none : None ≡ below n p → n ≤ p
  unfolding below
  below-none e = by (ltb p n) refl e
    where
      by : (b : Bool) → ltb p n ≡ b → None ≡ cond b (Some p) None → n ≤ p
      by true f e = cc
      by false f e = ltb-false p n f

  pub below-some : (i : ℕ) → Some i ≡ below n p → (i ≡ p) × (i < n)
  unfolding below
  below-some i e = by (ltb p n) refl e
    where
      by : (b : Bool) → ltb p n ≡ b → Some i ≡ cond b (Some p) None → (i ≡ p) × (i < n)
      by true f e = let q : i ≡ p = cc in (q, omega (arith, ltb-true p n f))
      by false f e = cc

  pub none-below : (r : Option ℕ) (b : Bool) → is_some r ≡ not b → r ≡ below n p → b ≡ not (ltb p n)
  unfolding below
  none-below r b e f = sym (ap not (sym (here (ltb p n)) ∙ ap is_some (sym f) ∙ e) ∙ twice b)
    where
      here : (c : Bool) → is_some (cond c (Some p) None) ≡ c
      here true = refl
      here false = refl

      twice : (c : Bool) → not (not c) ≡ c
      twice true = refl
      twice false = refl

-- ---- the first of the rows

-- as the library counts it
pub first-position : {A : Type 0} (t : A → Bool) (xs : List A) → position_or_len t xs ≡ first_of t xs
unfolding first_of
first-position t [] = refl
first-position t (x ∷ xs) = by (t x) (first-position t xs)
  where
    by : (b : Bool) → position_or_len t xs ≡ first_of t xs → cond (not b) (1 + position_or_len t xs) 0 ≡ cond b 0 (suc (first_of t xs))
    by true e = refl
    by false e = omega (arith, e)

first-same : {A : Type 0} (t u : A → Bool) → ((x : A) → t x ≡ u x) → (xs : List A) → first_of t xs ≡ first_of u xs
unfolding first_of
first-same t u f [] = refl
first-same t u f (x ∷ xs) = ap₂ (λ (b : Bool) (k : ℕ). cond b 0 (suc k)) (f x) (first-same t u f xs)

-- none passes where the first place is past the last
none_first : {A : Type 0} (t : A → Bool) (xs : List A) → every (λ (x : A). not (t x)) xs ≡ not (ltb (first_of t xs) (length xs))
unfolding every first_of
none_first t [] = refl
none_first t (x ∷ xs) = by (t x) (none_first t xs)
  where
    by : (b : Bool) → every (λ (x : _). not (t x)) xs ≡ not (ltb (first_of t xs) (length xs)) → (not b && every (λ (x : _). not (t x)) xs) ≡ not (ltb (cond b 0 (suc (first_of t xs))) (suc (length xs)))
    by true e = ap not (sym (lt-ltb 0 (suc (length xs)) (omega arith)))
    by false e = e ∙ ap not (sym (leb-suc-suc (suc (first_of t xs)) (length xs)))

-- ---- names that stand once

-- the places after place i
pub later-part : (rs : List (List ℤ)) (i : ℕ) (r : List ℤ) → is_once r (take (length rs - (i + 1)) (drop (i + 1) rs)) ≡ is_once r (drop (i + 1) rs)
later-part rs i r = ap (is_once r) (take_all (length rs - (i + 1)) (drop (i + 1) rs) (simp length-drop (omega arith)))

module _ (rs : List (List ℤ)) (i : ℕ) where
  module _ (d : List ℤ) (e : are_once rs ≡ are_once (drop i rs)) (l : i < length rs) where
    once-next : are_once rs ≡ is_once (get_or rs i d) (drop (i + 1) rs) && are_once (drop (i + 1) rs)
    unfolding are_once
    once-next = e ∙ ap are_once (drop-cons rs i d l) ∙ rw (add-one i) refl

    pub once-fail : is_once (get_or rs i d) (drop (i + 1) rs) ≡ false → are_once rs ≡ false
    once-fail f = once-next ∙ ap (λ (b : Bool). b && are_once (drop (i + 1) rs)) f

    pub once-on : is_once (get_or rs i d) (drop (i + 1) rs) ≡ true → are_once rs ≡ are_once (drop (i + 1) rs)
    once-on f = once-next ∙ ap (λ (b : Bool). b && are_once (drop (i + 1) rs)) f

  pub once-done : are_once rs ≡ are_once (drop i rs) → length rs ≤ i → are_once rs ≡ true
  unfolding are_once
  once-done e l = e ∙ ap are_once (drop_of_length-le rs {i = i} l)

-- ---- a name's numbers

half : (k : ℕ) (s : List ℕ) → every is_letter s ≡ true → length s ≤ suc k → pack s < 128 * 256 ^ k
unfolding pack every
half zero [] e h = omega arith
half zero (b ∷ []) e h = let l = letter-is b (both (is_letter b) _ e).0 in omega (arith, l.high)
half zero (b ∷ c ∷ s) e h = absurd (omega arith)
half (suc k) [] e h = let r = half k [] e (omega arith) in rw (pow-suc 256 k) (omega arith)
half (suc k) (b ∷ s) e h =
    let q = both (is_letter b) _ e in
    let l = letter-is b q.0 in
    let r = half k s q.1 (omega arith) in
    rw (pow-suc 256 k) (omega (arith, l.high))

-- a word of letters fits a signed number
pub word_fits : (s : List ℕ) → every is_letter s ≡ true → length s ≤ word_bytes → pack s < 9223372036854775808
word_fits s e h = half 7 s e h

module _ (n : List ℕ) (e : is_name n ≡ true) where
  name-packed : name_of n ≡ Some (low_of n, high_of n)
  unfolding name_of
  name-packed = rw (le-leb (length n) longest (name-is n e).short)

  -- a name isn't too long
  pub no-words : None ≡ name_of n → ⊥
  no-words f = let q : ◌≡◌ {A = Name} None (Some (low_of n, high_of n)) = f ∙ name-packed in absurd cc

  module _ (a b : ℕ) (f : Some (a, b) ≡ name_of n) where
    words : (a ≡ low_of n) × (b ≡ high_of n)
    words = let q : ◌≡◌ {A = ℕ × ℕ} (a, b) (low_of n, high_of n) = cc (f, name-packed) in (ap (λ (w : ℕ × ℕ). w.0) q, ap (λ (w : ℕ × ℕ). w.1) q)

    pub low-fits : a < 9223372036854775808
    low-fits = rw words.0 (word_fits (take word_bytes n) (every_take is_letter word_bytes n (name-is n e).letters) (simp length-take (omega arith)))

    pub high-fits : b < 9223372036854775808
    high-fits = rw words.1 (word_fits (drop word_bytes n) (every_drop is_letter word_bytes n (name-is n e).letters) (simp length-drop (omega (arith, (name-is n e).short))))

    pub key-words : Some (to_z w64 a ∷ to_z w64 b ∷ []) ≡ key_of n
    unfolding key_of
    key-words = rw e (ap₂ (λ (y z : ℤ). Some (y ∷ z ∷ [])) (to_z_pos w64 low-fits ∙ ap pos words.0) (to_z_pos w64 high-fits ∙ ap pos words.1))

-- ---- places

module _ (scopes : List ℕ) (channels : ℕ) (r : List ℤ) where
  pub place-empty : is_same (at r 0) (pos 0) ≡ true → is_place scopes channels r ≡ every is_zero r
  unfolding is_place is_zero
  place-empty e = rw e

  module _ (e : is_same (at r 0) (pos 0) ≡ false) where
    pub place-bad : is_key_of (at r 0) (at r 1) ≡ false → is_place scopes channels r ≡ false
    unfolding is_place is_zero
    place-bad f = rw (e, f)

    pub place-full : is_key_of (at r 0) (at r 1) ≡ true → is_place scopes channels r ≡ is_kept scopes channels (kept_part r)
    unfolding is_place is_zero
    place-full f = rw (e, f)

module _ (r : List ℤ) (rs : List (List ℤ)) where
  pub once-empty : is_same (at r 0) (pos 0) ≡ true → is_once r rs ≡ true
  unfolding is_once is_zero
  once-empty e = rw e

  -- what the search among the later places says
  pub once-found : is_same (at r 0) (pos 0) ≡ false → (key : List ℤ) → key ≡ (at r 0 ∷ at r 1 ∷ []) → (o : Option ℕ) (b : Bool) → is_some o ≡ not b
      → o ≡ below (length rs) (first_of (has_key key) rs) → b ≡ is_once r rs
  unfolding is_once is_zero
  once-found e key g o b f j =
      let k : (x : List ℤ) → has_key key x ≡ has_key r x = λ x. ap (λ (y : List ℤ). has_key y x) g ∙ same_key x in
      none-below (length rs) _ o b f (j ∙ ap (below (length rs)) (first-same (has_key key) (has_key r) k rs))
      ∙ sym (none_first (has_key r) rs)
      ∙ rw e
    where
      same_key : (x : List ℤ) → has_key (at r 0 ∷ at r 1 ∷ []) x ≡ has_key r x
      same_key x = unfold has_key in refl

module _ (scopes : List ℕ) (channels : ℕ) (zs : List ℤ) where
  pub saves-fail : every (is_place scopes channels) (places_of zs) ≡ false → is_saves scopes channels zs ≡ false
  unfolding is_saves
  saves-fail e = rw e

  pub saves-rest : every (is_place scopes channels) (places_of zs) ≡ true → is_saves scopes channels zs ≡ are_once (places_of zs)
  unfolding is_saves
  saves-rest e = rw e

-- ---- the place for a name

module _ (n : List ℕ) where
  pub no-key : is_name n ≡ false → None ≡ key_of n
  unfolding key_of
  no-key e = rw e

  unnamed : None ≡ key_of n → is_name n ≡ false
  unfolding key_of
  unnamed e = by (is_name n) e
    where
      by : (b : Bool) → None ≡ cond b (Some (key_numbers n)) None → b ≡ false
      by true e = cc
      by false e = refl

  key-is : (key : List ℤ) → Some key ≡ key_of n → (is_name n ≡ true) × (key ≡ key_numbers n)
  unfolding key_of
  key-is key e = by (is_name n) e
    where
      by : (b : Bool) → Some key ≡ cond b (Some (key_numbers n)) None → (b ≡ true) × (key ≡ key_numbers n)
      by true e = (refl, cc)
      by false e = cc

-- what `ok_or` made of an option
pub ok-none : {A E : Type 0} (o : Option A) (e f : E) → ok_or o e ≡ Err f → (None ≡ o) × (f ≡ e)
ok-none None e f q = (refl, cc)
ok-none (Some x) e f q = absurd (let z : ◌≡◌ {A = ℕ} 0 1 = cc in omega arith)

pub ok-some : {A E : Type 0} (o : Option A) (e : E) (x : A) → ok_or o e ≡ Ok x → Some x ≡ o
ok-some None e x q = absurd (let z : ◌≡◌ {A = ℕ} 0 1 = cc in omega arith)
ok-some (Some y) e x q = cc

-- ---- what is written

drop-take : {A : Type 0} (c a : ℕ) (l : List A) → drop c (take (c + a) l) ≡ take a (drop c l)
drop-take zero a l = let e : 0 + a ≡ a = omega arith in ap (λ (k : ℕ). take k l) e
drop-take (suc c) a [] = ap (drop (suc c)) (take-nil (suc c + a)) ∙ sym (take-nil a)
drop-take (suc c) a (x ∷ l) = let e : suc c + a ≡ suc (c + a) = omega arith in ap (λ (k : ℕ). drop (suc c) (take k (x ∷ l))) e ∙ drop-take c a l

-- the last w numbers of the row at p, which has k more before them
row-end : (k w p : ℕ) (ss : List ℤ) → take w (drop (p + k) ss) ≡ take w (drop k (take (k + w) (drop p ss)))
row-end k w p ss = ap (take w) (sym (drop-drop k p ss)) ∙ sym (take_twice w (drop k (drop p ss))) ∙ ap (take w) (sym (drop-take k w (drop p ss)))
  where
    take_twice : {A : Type 0} (w : ℕ) (l : List A) → take w (take w l) ≡ take w l
    take_twice w l = take_all w (take w l) (simp length-take (omega arith))

module _ (n : List ℕ) (zs ss : List ℤ) where
  pub save-unnamed : None ≡ key_of n → Stores (saving_numbers n zs ss) 20 zs ss
  unfolding saving_numbers
  save-unnamed e = rw (unnamed n e) (record { number = refl; kept = refl; saves = refl })

  pub return-unnamed : None ≡ key_of n → Stores (returning_numbers n zs ss) 20 zs ss
  unfolding returning_numbers
  return-unnamed e = rw (unnamed n e) (record { number = refl; kept = refl; saves = refl })

  pub forget-unnamed : None ≡ key_of n → Stores (forgetting_numbers n zs ss) 20 zs ss
  unfolding forgetting_numbers
  forget-unnamed e = rw (unnamed n e) (record { number = refl; kept = refl; saves = refl })

  module _ (key : List ℤ) (known : Some key ≡ key_of n) where
    e : is_name n ≡ true
    e = (key-is n key known).0

    q : key ≡ key_numbers n
    q = (key-is n key known).1

    module _ (i : ℕ) where
      module _ (f : i ≡ place_to_take key ss) where
        place_is : place_to_take (key_numbers n) ss ≡ i
        place_is = sym (f ∙ ap (λ (k : List ℤ). place_to_take k ss) q)

        pub save-full : save_limit ≤ i → Stores (saving_numbers n zs ss) 22 zs ss
        unfolding saving_numbers
        save-full h = rw (e, place_is, le-ltb i save_limit h) (record { number = refl; kept = refl; saves = refl })

        pub save-put : i < save_limit → length ss ≡ saves_length → (ks xs : List ℤ) → ks ≡ key → xs ≡ zs → (m w : ℕ) → m ≡ key_width → w ≡ timed_length
            → Stores (saving_numbers n zs ss) 0 zs (put_mid (i * place_width + key_width) w (put_mid (i * place_width) m ss ks) xs)
        unfolding saving_numbers with_row
        save-put h l ks xs k x m w u v =
            let a = i * place_width in
            let key = key_numbers n in
            let t : ks ≡ key = k ∙ q in
            let two : length ks ≡ key_width = ap length t in
            rw (e, place_is, lt-ltb i save_limit h)
            (record {
              number = refl;
              kept = refl;
              saves =
                  ap₂ (λ (l r : List ℤ). l ++ (xs ++ drop w r)) (take-put_mid a m ss ks (a + key_width) (omega (arith, two)) (omega arith)) (drop-put_mid a m ss ks (a + key_width) (omega arith) (omega arith) (omega (arith, two)))
                  ∙ ap₂ (λ (l r : List ℤ). (take a ss ++ l) ++ (r ++ drop w (drop (a + key_width) ss))) t x
                  ∙ ap (λ (j : ℕ). (take a ss ++ key) ++ (zs ++ drop j (drop (a + key_width) ss))) v
                  ∙ ap (λ (r : List ℤ). (take a ss ++ key) ++ (zs ++ r)) (drop-drop timed_length (a + key_width) ss ∙ ap (λ (j : ℕ). drop j ss) (omega arith))
                  ∙ append_assoc (take a ss) key (zs ++ drop (a + place_width) ss)
                  ∙ ap (λ (r : List ℤ). take a ss ++ r) (sym (append_assoc key zs (drop (a + place_width) ss)));
            })

      module _ (f : i ≡ place_with key ss) where
        name-is-at : place_with (key_numbers n) ss ≡ i
        name-is-at = sym (f ∙ ap (λ (k : List ℤ). place_with k ss) q)

        pub return-unknown : save_limit ≤ i → Stores (returning_numbers n zs ss) 21 zs ss
        unfolding returning_numbers
        return-unknown h = rw (e, name-is-at, le-ltb i save_limit h) (record { number = refl; kept = refl; saves = refl })

        pub return-put : i < save_limit → (m : ℕ) → m ≡ timed_length → (zs' : List ℤ) → zs' ≡ take m (drop (i * place_width + key_width) ss) → Stores (returning_numbers n zs ss) 0 zs' ss
        unfolding returning_numbers row_at
        return-put h m w zs' g =
            rw (e, name-is-at, lt-ltb i save_limit h)
            (record {
              number = refl;
              kept = g ∙ ap (λ (k : ℕ). take k (drop (i * place_width + key_width) ss)) w ∙ row-end key_width timed_length (i * place_width) ss;
              saves = refl;
            })

        pub forget-unknown : save_limit ≤ i → Stores (forgetting_numbers n zs ss) 21 zs ss
        unfolding forgetting_numbers
        forget-unknown h = rw (e, name-is-at, le-ltb i save_limit h) (record { number = refl; kept = refl; saves = refl })

        pub forget-put : i < save_limit → length ss ≡ saves_length → (m : ℕ) → m ≡ place_width → (row : List ℤ) → row ≡ replicate (length (take m (drop (i * place_width) ss))) (pos 0)
            → Stores (forgetting_numbers n zs ss) 0 zs (put_mid (i * place_width) m ss row)
        unfolding forgetting_numbers with_row
        forget-put h l m w row r =
            let k : length (take m (drop (i * place_width) ss)) ≡ place_width = simp (length-take, length-drop) (omega arith) in
            rw (e, name-is-at, lt-ltb i save_limit h)
            (record {
              number = refl;
              kept = refl;
              saves =
                  ap₂ (λ (l : List ℤ) (k : ℕ). take (i * place_width) ss ++ (l ++ drop k (drop (i * place_width) ss))) (r ∙ ap (λ (j : ℕ). replicate j (pos 0)) k) w
                  ∙ ap (λ (l : List ℤ). take (i * place_width) ss ++ (replicate place_width (pos 0) ++ l)) (drop-drop place_width (i * place_width) ss);
            })
