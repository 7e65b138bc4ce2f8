-- What the machine does with a line's tokens is what the readers of definitions and of the system line do: a line after a definition is told by the tokens
-- after its name, which the machine sees one by one. From the machine's table.
use mathlib.Core.Path.{◌≡◌, refl, sym, ◌∙◌}
use mathlib.Core.List.{List, [], ◌∷◌, ◌++◌}
use mathlib.Core.Bool.{Bool, true, false, ◌&&◌, ◌||◌}
use mathlib.Core.Logic.{◌⊎◌, inl, inr}
use Prim.Native.Nat.{ℕ, ◌+◌, ◌≤◌, ◌<◌}
use native.Mathlib.Decide.{ℕ_discrete}
use native.Mathlib.Omega.{arith}
use borrow.Author.Tests.{eqb-true, ne_eqb}
use lib.Dec.{eqb}
use lib.ListN.{length, get_or}
use Rattle.token.specs.Kind as kind
use Rattle.grammar.specs.Machine.{Sym, Want, Whole', Number', Params', Starts', MoreWholes, Start', SystemEnd, Line, LineRest, NextLine, NameBracket, EmptyBracket, the_starts, defined, table, rows_of, is_may, rows, optional, find, to, stuck, onto, step, ending}
use Rattle.grammar.specs.Follows.{Answer, next, fault, go, Follows}
use Rattle.grammar.proofs.Steps.{Misses, missing, step-passes, step-sticks}
use Rattle.grammar.proofs.Alike.{starts-filled}
use Rattle.grammar.proofs.Follows.{go-in, go-like, inside, here, took, join, fails, takes, passes, sticks, wanted, unwanted}
use Rattle.syntax.specs.Line.{defining, in_definition}

-- ---- the look-ahead

-- after its `[`, a definition has a name, or `]` and `=`
abbrev Opened : List ℕ → ℕ → Type 0
Opened ts k = (get_or ts k 0 ≡ kind.name) ⊎ ((get_or ts k 0 ≡ kind.close_square) × (get_or ts (k + 1) 0 ≡ kind.equals))

-- the tokens with which a definition starts
pub record Ahead (ts : List ℕ) (k : ℕ) : Type 0 where
  pub name : get_or ts k 0 ≡ kind.name
  pub bracket : get_or ts (k + 1) 0 ≡ kind.open_square
  pub after : Opened ts (k + 2)

module _ (ts : List ℕ) (k : ℕ) where
  fourth : k + 2 + 1 ≡ k + 3
  fourth = omega arith

  pub ahead : defining ts k ≡ true → Ahead ts k
  unfolding defining
  ahead e = by (eqb (get_or ts k 0) kind.name) (eqb (get_or ts (k + 1) 0) kind.open_square) (eqb (get_or ts (k + 2) 0) kind.name) (eqb (get_or ts (k + 2) 0) kind.close_square) (eqb (get_or ts (k + 3) 0) kind.equals) refl refl refl refl refl e
    where
      by : (a b c d f : Bool) → eqb (get_or ts k 0) kind.name ≡ a → eqb (get_or ts (k + 1) 0) kind.open_square ≡ b → eqb (get_or ts (k + 2) 0) kind.name ≡ c → eqb (get_or ts (k + 2) 0) kind.close_square ≡ d → eqb (get_or ts (k + 3) 0) kind.equals ≡ f → (a && b && (c || (d && f))) ≡ true → Ahead ts k
      by true true true d f p q r s t e = record { name = eqb-true _ _ p; bracket = eqb-true _ _ q; after = inl (eqb-true _ _ r) }
      by true true false true true p q r s t e = record { name = eqb-true _ _ p; bracket = eqb-true _ _ q; after = inr (eqb-true _ _ s, rw fourth (eqb-true _ _ t)) }
      by true true false true false p q r s t e = absurd (let z : ◌≡◌ {A = ℕ} 0 1 = cc in omega arith)
      by true true false false f p q r s t e = absurd (let z : ◌≡◌ {A = ℕ} 0 1 = cc in omega arith)
      by true false c d f p q r s t e = absurd (let z : ◌≡◌ {A = ℕ} 0 1 = cc in omega arith)
      by false b c d f p q r s t e = absurd (let z : ◌≡◌ {A = ℕ} 0 1 = cc in omega arith)

  not-ahead : defining ts k ≡ false → Ahead ts k → ⊥
  unfolding defining
  not-ahead e a = let z : ◌≡◌ {A = Bool} true false = sym (all a.after) ∙ e in let y : ◌≡◌ {A = ℕ} 0 1 = cc in omega arith
    where
      all : Opened ts (k + 2) → defining ts k ≡ true
      all (inl r) = rw (a.name, a.bracket, r)
      all (inr r) = rw (a.name, a.bracket, r.0, ← fourth, r.1)

-- ---- what sticks

-- a token that is no row's of a symbol that may not be nothing
stuck_at : (t : ℕ) (x : Sym) (s : List Sym) → optional x ≡ false → Misses t (rows x) → step t (x ∷ s) ≡ stuck
stuck_at t x s o m = step-sticks t x s (missing t (rows x) m) o

unwanted-at : (t k : ℕ) (s : List Sym) → (t ≡ k → ⊥) → step t (Want k ∷ s) ≡ stuck
unfolding table rows_of is_may
unwanted-at t k s n = stuck_at t (Want k) s refl (n, tt)

-- ---- after a name and `[`

module _ (ts : List ℕ) (k : ℕ) where
  -- two stacks that take the same token, and then go on alike
  go_both : (x y x' y' : List Sym) → 0 < get_or ts k 0 → step (get_or ts k 0) x ≡ to x' → step (get_or ts k 0) y ≡ to y' → go ts (k + 1) x' ≡ go ts (k + 1) y' → go ts k x ≡ go ts k y
  go_both x y x' y' h e f g = go-in ts k x x' (inside ts k h) e ∙ g ∙ sym (go-in ts k y y' (inside ts k h) f)

  -- a definition is read as the first one is
  bracket-definition : (s : List Sym) → Opened ts k → go ts k (NameBracket ∷ s) ≡ go ts k (in_definition ++ NextLine ∷ s)
  unfolding step onto find ending table rows_of is_may
  bracket-definition s (inl e) = go-like ts k (NameBracket ∷ s) (in_definition ++ NextLine ∷ s) (rw e refl) refl
  bracket-definition s (inr e) =
      go_both (NameBracket ∷ s) (in_definition ++ NextLine ∷ s) (EmptyBracket ∷ s) (Want kind.equals ∷ defined ++ s) (omega (arith, e.0)) (rw e.0 refl) (rw e.0 refl)
      (go-like ts (k + 1) (EmptyBracket ∷ s) (Want kind.equals ∷ defined ++ s) (rw e.1 refl) refl)

-- what is neither a name nor `]` is a value
values-system : (t : ℕ) (s : List Sym) → (t ≡ kind.name → ⊥) → (t ≡ kind.close_square → ⊥) → step t (NameBracket ∷ s) ≡ step t (Starts' ∷ Want kind.close_square ∷ SystemEnd ∷ s)
unfolding step onto find table rows_of is_may
values-system t s n m = by (ℕ_discrete t kind.whole) (ℕ_discrete t kind.minus)
  where
    by : Dec (t ≡ kind.whole) → Dec (t ≡ kind.minus) → step t (NameBracket ∷ s) ≡ step t (Starts' ∷ Want kind.close_square ∷ SystemEnd ∷ s)
    by (yes e) d = rw e refl
    by (no a) (yes e) = rw e refl
    by (no a) (no b) =
        stuck_at t NameBracket s refl (m, (n, (a, (b, tt)))) ∙ sym (step-passes t Starts' (Want kind.close_square ∷ SystemEnd ∷ s) (missing t (rows Starts') (a, (b, tt))) refl ∙ unwanted-at t kind.close_square (SystemEnd ∷ s) m)

-- after `[]`, what is no definition
empty-system : (ts : List ℕ) (k : ℕ) (s : List Sym) → (get_or ts k 0 ≡ kind.equals → ⊥) → go ts k (EmptyBracket ∷ s) ≡ go ts k (SystemEnd ∷ s)
unfolding step onto find ending table rows_of is_may
empty-system ts k s n = go-like ts k (EmptyBracket ∷ s) (SystemEnd ∷ s) (simp (ne_eqb (get_or ts k 0) kind.equals n)) refl

-- any other line is read as the system line
bracket-system : (ts : List ℕ) (k : ℕ) (s : List Sym) → (Opened ts k → ⊥) → go ts k (NameBracket ∷ s) ≡ go ts k (Starts' ∷ Want kind.close_square ∷ SystemEnd ∷ s)
unfolding step onto find ending table rows_of is_may
bracket-system ts k s n = by (ℕ_discrete (get_or ts k 0) kind.close_square)
  where
    by : Dec (get_or ts k 0 ≡ kind.close_square) → go ts k (NameBracket ∷ s) ≡ go ts k (Starts' ∷ Want kind.close_square ∷ SystemEnd ∷ s)
    by (yes e) = go_both ts k (NameBracket ∷ s) (Starts' ∷ Want kind.close_square ∷ SystemEnd ∷ s) (EmptyBracket ∷ s) (SystemEnd ∷ s) (omega arith) (rw e refl) (rw e refl) (empty-system ts (k + 1) s (λ d. n (inr (e, d))))
    by (no d) = go-like ts k (NameBracket ∷ s) (Starts' ∷ Want kind.close_square ∷ SystemEnd ∷ s) (values-system (get_or ts k 0) s (λ e. n (inl e)) d) refl

-- ---- a line after a definition

-- one that no name starts
counted-system : (t : ℕ) (s : List Sym) → (t ≡ kind.name → ⊥) → step t (NextLine ∷ s) ≡ step t (Start' ∷ SystemEnd ∷ s)
unfolding step onto find table rows_of is_may
counted-system t s n = by (ℕ_discrete t kind.whole)
  where
    by : Dec (t ≡ kind.whole) → step t (NextLine ∷ s) ≡ step t (Start' ∷ SystemEnd ∷ s)
    by (yes e) = rw e refl
    by (no a) = stuck_at t NextLine s refl (n, (a, tt)) ∙ sym (stuck_at t Start' (SystemEnd ∷ s) refl (n, (a, tt)))

module _ (ts : List ℕ) (k : ℕ) where
  third : k + 1 + 1 ≡ k + 2
  third = omega arith

  go-system : (s : List Sym) → (Ahead ts k → ⊥) → go ts k (NextLine ∷ s) ≡ go ts k (Start' ∷ SystemEnd ∷ s)
  unfolding step onto find ending table rows_of is_may
  go-system s n = by (ℕ_discrete (get_or ts k 0) kind.name) (ℕ_discrete (get_or ts (k + 1) 0) kind.open_square)
    where
      named : get_or ts k 0 ≡ kind.name → go ts (k + 1) (Want kind.open_square ∷ NameBracket ∷ s) ≡ go ts (k + 1) (the_starts ++ SystemEnd ∷ s) → go ts k (NextLine ∷ s) ≡ go ts k (Start' ∷ SystemEnd ∷ s)
      named a g = go_both ts k (NextLine ∷ s) (Start' ∷ SystemEnd ∷ s) (Want kind.open_square ∷ NameBracket ∷ s) (the_starts ++ SystemEnd ∷ s) (omega arith) (rw a refl) (rw a refl) g

      by : Dec (get_or ts k 0 ≡ kind.name) → Dec (get_or ts (k + 1) 0 ≡ kind.open_square) → go ts k (NextLine ∷ s) ≡ go ts k (Start' ∷ SystemEnd ∷ s)
      by (no a) d = go-like ts k (NextLine ∷ s) (Start' ∷ SystemEnd ∷ s) (counted-system (get_or ts k 0) s a) refl
      by (yes a) (no b) = named a (go-like ts (k + 1) (Want kind.open_square ∷ NameBracket ∷ s) (the_starts ++ SystemEnd ∷ s) (unwanted-at _ _ _ b ∙ sym (unwanted-at _ _ _ b)) refl)
      by (yes a) (yes b) =
          named a (go_both ts (k + 1) (Want kind.open_square ∷ NameBracket ∷ s) (the_starts ++ SystemEnd ∷ s) (NameBracket ∷ s) (Starts' ∷ Want kind.close_square ∷ SystemEnd ∷ s) (omega arith) (rw b refl) (rw b refl)
          (rw third (bracket-system ts (k + 2) s (λ e. n (record { name = a; bracket = b; after = e })))))

  -- two tokens that are taken one after the other
  pub took-two : (x z y : List Sym) (a b : ℕ) {r : Answer} → get_or ts k 0 ≡ a → get_or ts (k + 1) 0 ≡ b → 0 < a → 0 < b → ((s : List Sym) → step a (x ++ s) ≡ to (z ++ s)) → ((s : List Sym) → step b (z ++ s) ≡ to (y ++ s)) → Follows ts (k + 2) y r → Follows ts k x r
  took-two x z y a b e d h l p q f = took ts k x z (omega arith) (λ s. rw e (p s)) (λ m. took ts (k + 1) z y (omega arith) (λ s. rw d (q s)) (λ o. rw third f))

  -- where the look-ahead says so, the line is a definition, read as the first one is
  pub next-definition : {r : Answer} → defining ts k ≡ true → Follows ts (k + 2) (in_definition ++ NextLine ∷ []) r → Follows ts k (NextLine ∷ []) r
  unfolding step onto find table rows_of
  next-definition d f =
      let a = ahead ts k d in
      took-two (NextLine ∷ []) (Want kind.open_square ∷ NameBracket ∷ []) (NameBracket ∷ []) kind.name kind.open_square a.name a.bracket (omega arith) (omega arith) (λ s. refl) (λ s. refl)
      (record { within = f.within; runs = λ s. bracket-definition ts (k + 2) s a.after ∙ f.runs s })

  -- and where not, the system line
  pub next-system : {r : Answer} → defining ts k ≡ false → Follows ts k (Start' ∷ SystemEnd ∷ []) r → Follows ts k (NextLine ∷ []) r
  next-system d f = record { within = f.within; runs = λ s. go-system s (not-ahead ts k d) ∙ f.runs s }

-- ---- lists in brackets

module _ (ts : List ℕ) (at : ℕ) where
  pub no-params : get_or ts at 0 ≡ kind.close_square → Follows ts at (Params' ∷ Want kind.close_square ∷ []) (next (at + 1))
  unfolding table rows_of is_may
  no-params e = let l = inside ts at (omega arith) in join ts at at (Params' ∷ []) (Want kind.close_square ∷ []) (passes ts at Params' (omega arith) refl (omega arith)) (wanted ts at kind.close_square e (omega arith))

  -- a system item after its name
  pub starts_none : at ≤ length ts → (get_or ts at 0 ≡ kind.open_square → ⊥) → Follows ts at the_starts (fault at)
  starts_none l n = fails ts at at (Want kind.open_square ∷ []) (Starts' ∷ Want kind.close_square ∷ []) (unwanted ts at kind.open_square l n)

  pub starts-empty : get_or ts at 0 ≡ kind.open_square → get_or ts (at + 1) 0 ≡ kind.close_square → Follows ts at the_starts (next (at + 1 + 1))
  unfolding table rows_of is_may
  starts-empty a b =
      let l = inside ts (at + 1) (omega arith) in
      join ts at (at + 1) (Want kind.open_square ∷ []) (Starts' ∷ Want kind.close_square ∷ []) (wanted ts at kind.open_square a (omega arith))
      (join ts (at + 1) (at + 1) (Starts' ∷ []) (Want kind.close_square ∷ []) (passes ts (at + 1) Starts' (omega arith) refl (omega arith)) (wanted ts (at + 1) kind.close_square b (omega arith)))

  pub starts-some : {r : Answer} → get_or ts at 0 ≡ kind.open_square → (get_or ts (at + 1) 0 ≡ kind.close_square → ⊥) → Follows ts (at + 1) (Whole' ∷ MoreWholes ∷ Want kind.close_square ∷ []) r → Follows ts at the_starts r
  starts-some a n f = join ts at (at + 1) (Want kind.open_square ∷ []) (Starts' ∷ Want kind.close_square ∷ []) (wanted ts at kind.open_square a (omega arith)) (starts-filled ts (at + 1) n f)

-- ---- the system line

module _ (ts : List ℕ) (at : ℕ) where
  pub start-once : {r : Answer} → get_or ts at 0 ≡ kind.name → Follows ts (at + 1) the_starts r → Follows ts at (Start' ∷ []) r
  unfolding find table rows_of
  start-once e f = takes ts at Start' kind.name e (omega arith) refl (λ l. f)

  -- after a count
  counting : {r : Answer} → get_or ts at 0 ≡ kind.whole → (at + 1 ≤ length ts → Follows ts (at + 1) (Want kind.times ∷ Want kind.name ∷ the_starts) r) → Follows ts at (Start' ∷ []) r
  unfolding find table rows_of
  counting e f = takes ts at Start' kind.whole e (omega arith) refl f

  pub start-counted : {r : Answer} → get_or ts at 0 ≡ kind.whole → get_or ts (at + 1) 0 ≡ kind.times → get_or ts (at + 1 + 1) 0 ≡ kind.name → Follows ts (at + 1 + 1 + 1) the_starts r → Follows ts at (Start' ∷ []) r
  start-counted a b c f =
      counting a (λ l.
      join ts (at + 1) (at + 1 + 1) (Want kind.times ∷ []) (Want kind.name ∷ the_starts) (wanted ts (at + 1) kind.times b (omega arith))
      (join ts (at + 1 + 1) (at + 1 + 1 + 1) (Want kind.name ∷ []) the_starts (wanted ts (at + 1 + 1) kind.name c (omega arith)) f))

  pub start-no-times : get_or ts at 0 ≡ kind.whole → (get_or ts (at + 1) 0 ≡ kind.times → ⊥) → Follows ts at (Start' ∷ []) (fault (at + 1))
  start-no-times a n = counting a (λ l. fails ts (at + 1) (at + 1) (Want kind.times ∷ []) (Want kind.name ∷ the_starts) (unwanted ts (at + 1) kind.times l n))

  pub start-no-name : get_or ts at 0 ≡ kind.whole → get_or ts (at + 1) 0 ≡ kind.times → (get_or ts (at + 1 + 1) 0 ≡ kind.name → ⊥) → Follows ts at (Start' ∷ []) (fault (at + 1 + 1))
  start-no-name a b n =
      let l = inside ts (at + 1) (omega arith) in
      counting a (λ m.
      join ts (at + 1) (at + 1 + 1) (Want kind.times ∷ []) (Want kind.name ∷ the_starts) (wanted ts (at + 1) kind.times b (omega arith))
      (fails ts (at + 1 + 1) (at + 1 + 1) (Want kind.name ∷ []) the_starts (unwanted ts (at + 1 + 1) kind.name (omega arith) n)))

  pub start-neither : at ≤ length ts → (get_or ts at 0 ≡ kind.name → ⊥) → (get_or ts at 0 ≡ kind.whole → ⊥) → Follows ts at (Start' ∷ []) (fault at)
  unfolding table rows_of is_may
  start-neither l n m = sticks ts at Start' l refl (n, (m, tt))

  -- after an item: the `;`, a `||`, or neither
  pub system-end : get_or ts at 0 ≡ kind.semicolon → Follows ts at (SystemEnd ∷ []) (next (at + 1))
  unfolding find table rows_of
  system-end e = takes ts at SystemEnd kind.semicolon e (omega arith) refl (λ l. here ts (at + 1) l)

  pub system-more : {r : Answer} → get_or ts at 0 ≡ kind.bars → Follows ts (at + 1) (Start' ∷ SystemEnd ∷ []) r → Follows ts at (SystemEnd ∷ []) r
  unfolding find table rows_of
  system-more e f = takes ts at SystemEnd kind.bars e (omega arith) refl (λ l. f)

  pub system-neither : at ≤ length ts → (get_or ts at 0 ≡ kind.semicolon → ⊥) → (get_or ts at 0 ≡ kind.bars → ⊥) → Follows ts at (SystemEnd ∷ []) (fault at)
  unfolding table rows_of is_may
  system-neither l n m = sticks ts at SystemEnd l refl (m, (n, tt))

-- ---- a line before the first definition

module _ (ts : List ℕ) (at : ℕ) where
  pub line-nameless : at ≤ length ts → (get_or ts at 0 ≡ kind.name → ⊥) → Follows ts at (Line ∷ []) (fault at)
  unfolding table rows_of is_may
  line-nameless l n = sticks ts at Line l refl (n, tt)

  pub line-neither : get_or ts at 0 ≡ kind.name → (get_or ts (at + 1) 0 ≡ kind.open_square → ⊥) → (get_or ts (at + 1) 0 ≡ kind.equals → ⊥) → Follows ts at (Line ∷ []) (fault (at + 1))
  unfolding find table rows_of is_may
  line-neither e n m = takes ts at Line kind.name e (omega arith) refl (λ l. sticks ts (at + 1) LineRest l refl (m, (n, tt)))

  pub line-definition : {r : Answer} → get_or ts at 0 ≡ kind.name → get_or ts (at + 1) 0 ≡ kind.open_square → Follows ts (at + 2) (in_definition ++ NextLine ∷ []) r → Follows ts at (Line ∷ []) r
  unfolding step onto find table rows_of
  line-definition e d f = took-two ts at (Line ∷ []) (LineRest ∷ []) (in_definition ++ NextLine ∷ []) kind.name kind.open_square e d (omega arith) (omega arith) (λ s. refl) (λ s. refl) f

  pub line-variable : {r : Answer} → get_or ts at 0 ≡ kind.name → get_or ts (at + 1) 0 ≡ kind.equals → Follows ts (at + 2) (Number' ∷ Want kind.semicolon ∷ Line ∷ []) r → Follows ts at (Line ∷ []) r
  unfolding step onto find table rows_of
  line-variable e d f = took-two ts at (Line ∷ []) (LineRest ∷ []) (Number' ∷ Want kind.semicolon ∷ Line ∷ []) kind.name kind.equals e d (omega arith) (omega arith) (λ s. refl) (λ s. refl) f
