-- Limits.antt lists the tokens that are beyond a limit. By the lists' members, site by site; that a decimal has digits after its point comes from
-- the text's tokens.
use mathlib.Core.Path.{◌≡◌, refl, sym, ap, subst, ◌∙◌}
use mathlib.Core.List.Memᴰ.{append_cases}
use mathlib.Core.List.Memᴰ.{append_left as left}
use mathlib.Core.List.Memᴰ.{append_right as right}
use mathlib.Core.List.Memᴰ.{cases_cons as cases}
use mathlib.Core.List.Memᴰ.{eq_of_singleton}
use mathlib.Core.List.Memᴰ.{head}
use mathlib.Core.List.Memᴰ.{not-nil as nowhere}
use mathlib.Core.List.Memᴰ.{tail}
use mathlib.Core.List.{List, [], ◌∷◌, ◌++◌, Memᴰ as In, append-nil}
use mathlib.Core.Bool.{Bool, true, false, cond, not, ◌&&◌}
use mathlib.Core.Option.{some}
use mathlib.Core.Logic.{◌⊎◌, inl, inr, ⊎_elim}
use Prim.Native.Nat.{ℕ, zero, suc, ◌+◌, ◌-◌, ◌≤◌, ◌<◌}
use native.Mathlib.Omega.{arith}
use lib.Dec.{eqb, leb, ltb}
use lib.IntN.{ℤ}
use lib.ListN.{length, drop, get_elem?}
use borrow.Author.Tests.{eqb-true, eq-eqb, ne_eqb, ltb-true, lt-ltb, leb-true, leb-false, le-leb, lt-leb, not-true}
use Rattle.std.specs.Prelude.{None, Some}
use Rattle.value.specs.Range.{InRange, value_of, Value}
use Rattle.value.proofs.Bounds.{in-value}
use Rattle.value.proofs.Results.{value-is, value-good}
use Rattle.word.specs.Name.{longest}
use Rattle.word.specs.Number.{worth, whole_digits, fraction_digits}
use Rattle.token.specs.Kind as kind
use Rattle.token.specs.Bytes.{within}
use Rattle.token.specs.Token.{Mark, tokens}
use Rattle.token.specs.Contents.{bytes_of, before_point, after_point, few_digits}
use Rattle.grammar.specs.Syntax
use Rattle.model.specs.Lists.{each, when}
use Rattle.model.specs.Sites.{Scope, Site, whole, value, scale, bound, branch, call, number_sites, Variable, variables, definitions, starts, names, titles, over_sites}
use Rattle.model.specs.Words.{word_of, whole_of}
use Rattle.model.specs.Limits.{count_limit, variable_limit, definition_limit, parameter_limit, local_limit, branch_limit, is_missing, word_beyond, words_beyond, whole_beyond, site_beyond, variable_beyond, definition_beyond, wholes_beyond, starts_beyond, start_beyond, tree_beyond, beyond}
use Rattle.model.specs.Stands.{SiteIn}
use Rattle.model.specs.Faults.{start_list, wholes_of, start_wholes, WholeIn, in_definition, in_variable, in_system, Beyond, long-name, long-decimal, large, count, variable, definition, parameter, local, branching}
use Rattle.model.proofs.Members.{not-both, never, false-not, in-each, each_in, in-when, when-in, in-drop, drop-in}
use Rattle.model.proofs.Sited.{over-in, in-over}
use Rattle.model.proofs.Tokens.{lexeme-at, some-fraction}

-- ---- whole numbers

missing-out : (z : ℤ) → is_missing (value_of z) ≡ true → InRange z → ⊥
unfolding is_missing
missing-out z e r = not-both (sym (ap is_missing (in-value z r)) ∙ e) refl

out-missing : (z : ℤ) → (InRange z → ⊥) → is_missing (value_of z) ≡ true
unfolding is_missing
out-missing z h = by (value_of z) refl
  where
    by : (v : Value) → value_of z ≡ v → is_missing v ≡ true
    by (Some x) e = absurd (h (subst (λ (y : ℤ). InRange y) (sym (value-is z x e)) (value-good z x e)))
    by None e = refl

-- ---- tokens

module _ (text : List ℕ) where
  in_words : {k : ℕ} (n : ℕ) (ms : List Mark) → In k (words_beyond text n ms) → (i : ℕ) × (t : Mark) × (get_elem? ms i ≡ some t) × (k ≡ n + i) × (word_beyond text t ≡ true)
  unfolding words_beyond
  in_words n [] i = absurd (nowhere i)
  in_words {k} n (m ∷ ms) i = by (λ (l : In k (words_beyond text (suc n) ms)). in_words (suc n) ms l) (append_cases _ i)
    where
      by : (In k (words_beyond text (suc n) ms) → (i : ℕ) × (t : Mark) × (get_elem? ms i ≡ some t) × (k ≡ suc n + i) × (word_beyond text t ≡ true))
          → In k (when (word_beyond text m) n) ⊎ In k (words_beyond text (suc n) ms) → (i : ℕ) × (t : Mark) × (get_elem? (m ∷ ms) i ≡ some t) × (k ≡ n + i) × (word_beyond text t ≡ true)
      by r (inl l) = let t = in-when (word_beyond text m) n l in (0, m, refl, omega arith, t.0)
      by r (inr l) = let s = r l in (suc s.0, s.1, s.2, omega arith, s.4)

  words-in : (n : ℕ) (ms : List Mark) (i : ℕ) (t : Mark) → get_elem? ms i ≡ some t → word_beyond text t ≡ true → In (n + i) (words_beyond text n ms)
  unfolding words_beyond
  words-in n [] i t e h = never e
  words-in n (m ∷ ms) zero t e h =
      let d : n + 0 ≡ n = omega arith in
      let f : m ≡ t = cc in
      rw d (left _ (when-in (word_beyond text m) n (rw f h)))
  words-in n (m ∷ ms) (suc i) t e h =
      let d : n + suc i ≡ suc n + i = omega arith in rw d (right (when (word_beyond text m) n) (words-in (suc n) ms i t e h))

  module _ (m : Syntax.Model) where
    abbrev w : ℕ → List ℕ
    w = word_of text

    -- ---- one token
    few-not : (s : List ℕ) → 1 ≤ length (after_point s) → not (few_digits s) ≡ true → (whole_digits < length (before_point s)) ⊎ (fraction_digits < length (after_point s))
    unfolding few_digits within
    few-not s h e = by (leb (length (before_point s)) whole_digits) (leb 1 (length (after_point s))) (leb (length (after_point s)) fraction_digits) refl refl refl (not-true _ e)
      where
        by : (a b c : Bool) → leb (length (before_point s)) whole_digits ≡ a → leb 1 (length (after_point s)) ≡ b → leb (length (after_point s)) fraction_digits ≡ c → (a && (b && c)) ≡ false
            → (whole_digits < length (before_point s)) ⊎ (fraction_digits < length (after_point s))
        by false b c p q r f = inl (leb-false _ _ p)
        by true false c p q r f = not-both (le-leb 1 _ h) q
        by true true false p q r f = inr (leb-false _ _ r)
        by true true true p q r f = not-both refl f

    not-few : (s : List ℕ) → (whole_digits < length (before_point s)) ⊎ (fraction_digits < length (after_point s)) → not (few_digits s) ≡ true
    unfolding few_digits within
    not-few s (inl h) = simp (lt-leb (length (before_point s)) whole_digits h)
    not-few s (inr h) = false-not _ (by (leb (length (before_point s)) whole_digits) (leb 1 (length (after_point s))))
      where
        by : (a b : Bool) → (a && (b && leb (length (after_point s)) fraction_digits)) ≡ false
        by false b = refl
        by true false = refl
        by true true = lt-leb (length (after_point s)) fraction_digits h

    word-beyond : {t : Mark} (k : ℕ) → get_elem? (tokens text) k ≡ some t → word_beyond text t ≡ true → Beyond text m k
    unfolding word_beyond
    word-beyond {t} k g e = by (eqb t.kind kind.name) (eqb t.kind kind.decimal) refl refl e
      where
        by : (a b : Bool) → eqb t.kind kind.name ≡ a → eqb t.kind kind.decimal ≡ b → cond a (ltb longest (length (bytes_of text t))) (b && not (few_digits (bytes_of text t))) ≡ true → Beyond text m k
        by true b p q e = long-name g (eqb-true _ _ p) (ltb-true _ _ e)
        by false true p q e =
            let d : t.kind ≡ kind.decimal = eqb-true _ _ q in
            long-decimal g d (few-not (bytes_of text t) (some-fraction (rw d at (lexeme-at text k t g))) e)
        by false false p q e = not-both e refl

    -- ---- one site

    whole-beyond : {k : ℕ} (b : Bool) (j : ℕ) → WholeIn w m b j → In k (whole_beyond w b j) → Beyond text m k
    unfolding whole_beyond
    whole-beyond b j h i = let t = in-when _ j i in subst (λ (z : ℕ). Beyond text m z) (sym t.1) (large h (missing-out _ t.0))

    beyond-whole : (b : Bool) (k : ℕ) → (InRange (whole_of w b k) → ⊥) → In k (whole_beyond w b k)
    unfolding whole_beyond
    beyond-whole b k h = when-in _ k (out-missing _ h)

    site-beyond : {k : ℕ} (sc : Scope) (x : Site) → SiteIn w m sc x → In k (site_beyond w sc x) → Beyond text m k
    unfolding site_beyond
    site-beyond sc (whole b j) h i = whole-beyond b j (in_definition h) i
    site-beyond sc (value j) h i = absurd (nowhere i)
    site-beyond sc (scale j) h i = absurd (nowhere i)
    site-beyond sc (bound ks n) h i = let d = in-drop (local_limit - length sc) ks i in local d.0 h d.1 (omega arith)
    site-beyond sc (branch p j) h i = let t = in-when _ j i in subst (λ (z : ℕ). Beyond text m z) (sym t.1) (branching h (leb-true branch_limit p t.0))
    site-beyond sc (call j n) h i = absurd (nowhere i)

    -- ---- outside definitions

    variable-beyond : {k : ℕ} (v : Variable) (n : Syntax.Number) → v.number ≡ n → In v (variables m) → In k (each (site_beyond w []) (number_sites n)) → Beyond text m k
    unfolding number_sites each site_beyond
    variable-beyond v (Syntax.number b false j) e h i = whole-beyond b j (in_variable h e) (rw (append-nil (whole_beyond w b j)) at i)
    variable-beyond v (Syntax.number b true j) e h i = absurd (nowhere i)

    wholes-beyond : {k : ℕ} {P : Type 0} (r : Syntax.Wholes) → ((b : Bool) (j : ℕ) → In (whole b j) (wholes_of r) → In k (whole_beyond w b j) → P) → In k (wholes_beyond w r) → P
    unfolding wholes_beyond wholes_of
    wholes-beyond (Syntax.last_whole b j) f i = f b j (head refl) i
    wholes-beyond {k} (Syntax.next_whole b j r) f i =
        ⊎_elim (λ (l : In k (whole_beyond w b j)). f b j (head refl) l)
        (λ (l : In k (wholes_beyond w r)). wholes-beyond r (λ c n h. f c n (tail h)) l) (append_cases _ i)

    starts-beyond : {k : ℕ} (s : Syntax.Start) (r : Syntax.Starts) → start_list s ≡ r → In s (starts m) → In k (starts_beyond w r) → Beyond text m k
    unfolding starts_beyond start_wholes
    starts-beyond s Syntax.no_starts e h i = absurd (nowhere i)
    starts-beyond s (Syntax.starts r) e h i =
        wholes-beyond r (λ b j n p. whole-beyond b j (in_system h (subst (λ (t : Syntax.Starts). In (whole b j) (start_wholes t)) (sym e) n)) p) i

    start-beyond : {k : ℕ} (s : Syntax.Start) → In s (starts m) → In k (start_beyond w s) → Beyond text m k
    unfolding start_beyond start_list
    start-beyond (Syntax.once j s) h i = starts-beyond (Syntax.once j s) s refl h i
    start-beyond {k} (Syntax.counted c j s) h i =
        ⊎_elim (λ (l : In k (when (ltb count_limit (worth 0 (w c))) c)). let t = in-when _ c l in subst (λ (z : ℕ). Beyond text m z) (sym t.1) (count h (ltb-true _ _ t.0)))
        (λ (l : In k (starts_beyond w s)). starts-beyond (Syntax.counted c j s) s refl h l) (append_cases _ i)

    -- the parts of the list
    abbrev of_names : List ℕ
    of_names = drop variable_limit (names (variables m))

    abbrev of_titles : List ℕ
    of_titles = drop definition_limit (titles (definitions m))

    abbrev in_variables : List ℕ
    in_variables = each (variable_beyond w) (variables m)

    abbrev in_definitions : List ℕ
    in_definitions = each (definition_beyond w) (definitions m)

    abbrev in_sites : List ℕ
    in_sites = over_sites w (site_beyond w) m

    abbrev in_starts : List ℕ
    in_starts = each (start_beyond w) (starts m)

    abbrev named : List ℕ
    named = of_names ++ in_variables

    abbrev defined : List ℕ
    defined = of_titles ++ in_definitions

    abbrev used : List ℕ
    used = in_sites ++ in_starts

    -- a token that is listed is beyond a limit
    pub listed-beyond : {k : ℕ} → In k (beyond text m) → Beyond text m k
    unfolding beyond tree_beyond definition_beyond variable_beyond
    listed-beyond {k} i = by (append_cases (words_beyond text 0 (tokens text)) i)
      where
        first : In k of_names ⊎ In k in_variables → Beyond text m k
        first (inl l) = let d = in-drop variable_limit (names (variables m)) l in variable d.1 d.2
        first (inr l) = let d = in-each (variable_beyond w) (variables m) l in variable-beyond d.0 d.0.number refl d.1 d.2

        second : In k of_titles ⊎ In k in_definitions → Beyond text m k
        second (inl l) = let d = in-drop definition_limit (titles (definitions m)) l in definition d.1 d.2
        second (inr l) = let d = in-each (definition_beyond w) (definitions m) l in let e = in-drop parameter_limit d.0.params d.2 in parameter d.1 e.1 e.2

        third : In k in_sites ⊎ In k in_starts → Beyond text m k
        third (inl l) = let s = in-over w m (site_beyond w) l in site-beyond s.0.scope s.0.site s.1 s.2
        third (inr l) = let s = in-each (start_beyond w) (starts m) l in start-beyond s.0 s.1 s.2

        two : In k named ⊎ In k defined → Beyond text m k
        two (inl l) = first (append_cases of_names l)
        two (inr l) = second (append_cases of_titles l)

        three : In k (named ++ defined) ⊎ In k used → Beyond text m k
        three (inl l) = two (append_cases named l)
        three (inr l) = third (append_cases in_sites l)

        by : In k (words_beyond text 0 (tokens text)) ⊎ In k (tree_beyond w m) → Beyond text m k
        by (inl l) = let s = in_words 0 (tokens text) l in let e : k ≡ s.0 = omega arith in rw e (word-beyond s.0 s.2 s.4)
        by (inr l) = three (append_cases (named ++ defined) l)

    -- ---- and back

    from-words : {t : Mark} (k : ℕ) → get_elem? (tokens text) k ≡ some t → word_beyond text t ≡ true → In k (beyond text m)
    unfolding beyond
    from-words {t} k g e = let d : 0 + k ≡ k = omega arith in left (tree_beyond w m) (rw d at (words-in 0 (tokens text) k t g e))

    from-tree : {k : ℕ} → In k (tree_beyond w m) → In k (beyond text m)
    unfolding beyond
    from-tree i = right (words_beyond text 0 (tokens text)) i

    from-names : {k : ℕ} → In k of_names → In k (beyond text m)
    unfolding tree_beyond
    from-names i = from-tree (left used (left defined (left in_variables i)))

    from-variables : {k : ℕ} → In k in_variables → In k (beyond text m)
    unfolding tree_beyond
    from-variables i = from-tree (left used (left defined (right of_names i)))

    from-titles : {k : ℕ} → In k of_titles → In k (beyond text m)
    unfolding tree_beyond
    from-titles i = from-tree (left used (right named (left in_definitions i)))

    from-definitions : {k : ℕ} → In k in_definitions → In k (beyond text m)
    unfolding tree_beyond
    from-definitions i = from-tree (left used (right named (right of_titles i)))

    from-sites : {k : ℕ} → In k in_sites → In k (beyond text m)
    unfolding tree_beyond
    from-sites i = from-tree (right (named ++ defined) (left in_starts i))

    from-starts : {k : ℕ} → In k in_starts → In k (beyond text m)
    unfolding tree_beyond
    from-starts i = from-tree (right (named ++ defined) (right in_sites i))

    wholes-whole : {x : Site} {k : ℕ} (r : Syntax.Wholes) → In x (wholes_of r) → In k (site_beyond w [] x) → In k (wholes_beyond w r)
    unfolding wholes_of wholes_beyond site_beyond
    wholes-whole {x} {k} (Syntax.last_whole b j) i h = subst (λ (y : Site). In k (site_beyond w [] y)) (eq_of_singleton i) h
    wholes-whole {x} {k} (Syntax.next_whole b j r) i h =
        ⊎_elim (λ (d : x ≡ whole b j). left (wholes_beyond w r) (subst (λ (y : Site). In k (site_beyond w [] y)) d h))
        (λ (l : In x (wholes_of r)). right (whole_beyond w b j) (wholes-whole r l h)) (cases i)

    starts-whole : {x : Site} {k : ℕ} (r : Syntax.Starts) → In x (start_wholes r) → In k (site_beyond w [] x) → In k (starts_beyond w r)
    unfolding start_wholes starts_beyond
    starts-whole Syntax.no_starts i h = absurd (nowhere i)
    starts-whole (Syntax.starts r) i h = wholes-whole r i h

    start-whole : {x : Site} {k : ℕ} (s : Syntax.Start) → In x (start_wholes (start_list s)) → In k (site_beyond w [] x) → In k (start_beyond w s)
    unfolding start_beyond start_list
    start-whole (Syntax.once j s) i h = starts-whole s i h
    start-whole (Syntax.counted c j s) i h = right (when (ltb count_limit (worth 0 (w c))) c) (starts-whole s i h)

    variable-whole : (v : Variable) (b : Bool) (k : ℕ) → v.number ≡ Syntax.number b false k → (InRange (whole_of w b k) → ⊥) → In k (variable_beyond w v)
    unfolding variable_beyond number_sites each site_beyond
    variable-whole v b k e h = rw e (left [] (beyond-whole b k h))

    whole-listed : {b : Bool} {k : ℕ} → WholeIn w m b k → (InRange (whole_of w b k) → ⊥) → In k (beyond text m)
    unfolding site_beyond
    whole-listed {b} {k} (in_definition h) n = from-sites (over-in w m (site_beyond w) h (beyond-whole b k n))
    whole-listed {b} {k} (in_variable {v = v} h e) n = from-variables (each_in (variable_beyond w) (variables m) h (variable-whole v b k e n))
    whole-listed {b} {k} (in_system {s = s} h i) n = from-starts (each_in (start_beyond w) (starts m) h (start-whole s i (beyond-whole b k n)))

    -- a token that is beyond a limit is listed
    pub beyond-listed : {k : ℕ} → Beyond text m k → In k (beyond text m)
    unfolding word_beyond site_beyond definition_beyond start_beyond
    beyond-listed (long-name {k = k} {t = t} g d h) = from-words k g (simp (eq-eqb t.kind kind.name d) (lt-ltb _ _ h))
    beyond-listed (long-decimal {k = k} {t = t} g d h) = from-words k g (simp (ne_eqb t.kind kind.name (λ e. omega arith), eq-eqb t.kind kind.decimal d) (not-few (bytes_of text t) h))
    beyond-listed (large h n) = whole-listed h n
    beyond-listed (count {c = c} h l) = from-starts (each_in (start_beyond w) (starts m) h (left _ (when-in _ c (lt-ltb _ _ l))))
    beyond-listed (variable {i = i} g h) = from-names (drop-in variable_limit (names (variables m)) i g h)
    beyond-listed (definition {i = i} g h) = from-titles (drop-in definition_limit (titles (definitions m)) i g h)
    beyond-listed (parameter {d = d} {i = i} j g h) = from-definitions (each_in (definition_beyond w) (definitions m) j (drop-in parameter_limit d.params i g h))
    beyond-listed (local {sc = sc} {ks = ks} i h g l) = from-sites (over-in w m (site_beyond w) h (drop-in (local_limit - length sc) ks i g (omega arith)))
    beyond-listed (branching {i = i} {k = k} h l) = from-sites (over-in w m (site_beyond w) h (when-in _ k (le-leb _ _ l)))
