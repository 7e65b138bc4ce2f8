-- What stands after a line's first five bytes, with one more byte: from the definitions alone.
use Rattle.std.proofs.Common.{◌≡◌, ℕ, ◌+◌, ◌*◌, ◌<◌, Bool, true, false, cond, ◌&&◌, eqb, ltb, List, [], ◌∷◌, ◌++◌, sym, refl, ap, ◌∙◌, arith, ltb-false, le-ltb, lt-ltb, eq-eqb, ne_eqb, Some, None, MatchOption}
use Rattle.word.specs.Number.{worth, digit_of}
use Rattle.token.specs.Bytes.{is_digit}
use Rattle.token.specs.Token.{same_bytes}
use Rattle.lines.specs.declared.line.Rest.{Rest}
use Rattle.lines.specs.declared.line.Rest.TheVariants.{Nothing, Number, T, Other}
use Rattle.lines.specs.Limit.{limit}
use Rattle.lines.specs.OneByte.{number_grown}
use Rattle.lines.specs.Line.{digits_only, is_number, rest_of, grown, digit_next, letter_next, rest_next}

-- `t` as the first byte of a rest, or another
pub last_letter : (r : Rest) (b : ℕ) → r ≡ Nothing → b ≡ 116 → T ≡ letter_next r b
last_letter r b e f = rw (e, eq-eqb b 116 f)

pub no-letter : (r : Rest) (b : ℕ) → r ≡ Nothing → (b ≡ 116 → ⊥) → Other ≡ letter_next r b
no-letter r b e f = rw (e, ne_eqb b 116 f)

-- a number with one more digit, as the code joins it
pub grown-is : (v d : ℕ) (r : Rest) → MatchOption (number_grown v d) (r ≡ Other) (λ n. r ≡ Number n) → r ≡ grown v d
unfolding number_grown grown
grown-is v d r h = by (ltb (v * 10 + d) limit) h
  where
    by : (t : Bool) → MatchOption (cond t (Some (v * 10 + d)) None) (r ≡ Other) (λ n. r ≡ Number n) → r ≡ cond t (Number (v * 10 + d)) Other
    by true h = h
    by false h = h

-- ---- one more byte
digits-on : (s : List ℕ) (b : ℕ) → digits_only (s ++ (b ∷ [])) ≡ (digits_only s && is_digit b)
unfolding digits_only
digits-on [] b = tidy (is_digit b)
  where
    tidy : (t : Bool) → (t && true) ≡ t
    tidy true = refl
    tidy false = refl
digits-on (a ∷ s) b = ap (λ (t : Bool). is_digit a && t) (digits-on s b) ∙ regroup (is_digit a) (digits_only s) (is_digit b)
  where
    regroup : (x y z : Bool) → (x && (y && z)) ≡ ((x && y) && z)
    regroup true y z = refl
    regroup false y z = refl

worth-on : (a : ℕ) (s : List ℕ) (b : ℕ) → worth a (s ++ (b ∷ [])) ≡ worth a s * 10 + digit_of b
unfolding worth
worth-on a [] b = refl
worth-on a (x ∷ s) b = worth-on (a * 10 + digit_of x) s b

-- a rest of no number, whose only byte is `t` or not
abbrev plain : Bool → Rest
plain t = cond t T Other

plain-digit : (t : Bool) (e : ℕ) → digit_next (plain t) e ≡ Other
plain-digit true e = refl
plain-digit false e = refl

plain-letter : (n t : Bool) (v b : ℕ) → letter_next (cond n (Number v) (plain t)) b ≡ Other
plain-letter true t v b = refl
plain-letter false true v b = refl
plain-letter false false v b = refl

-- the three tests: digits so far, one more digit, and the number below the limit
on-tests : (d n t : Bool) (v e b : ℕ) → let r = cond (d && ltb v limit) (Number v) (plain t) in cond ((d && n) && ltb (v * 10 + e) limit) (Number (v * 10 + e)) Other ≡ cond n (digit_next r e) (letter_next r b)
unfolding grown
on-tests true false t v e b = sym (plain-letter (ltb v limit) t v b)
on-tests false false t v e b = sym (plain-letter false t v b)
on-tests false true t v e b = sym (plain-digit t e)
on-tests true true t v e b = by (ltb v limit) refl
  where
    by : (u : Bool) → ltb v limit ≡ u → cond (ltb (v * 10 + e) limit) (Number (v * 10 + e)) Other ≡ digit_next (cond u (Number v) (plain t)) e
    by true h = refl
    by false h =
        let l = ltb-false v limit h in
        simp (le-ltb (v * 10 + e) limit (omega arith)) (sym (plain-digit t e))

first_byte : (n t : Bool) (v d : ℕ) → v ≡ d → d < 10 → cond ((n && true) && ltb v limit) (Number v) (plain (t && true)) ≡ cond n (Number d) (plain t)
first_byte true t v d e h = simp (lt-ltb v limit (omega arith)) (ap Number e)
first_byte false true v d e h = refl
first_byte false false v d e h = refl

-- two bytes are not one
and_none : (t : Bool) → (t && false) ≡ false
and_none true = refl
and_none false = refl

not-one : (a b : ℕ) (s : List ℕ) → same_bytes (a ∷ (s ++ (b ∷ []))) (116 ∷ []) ≡ false
unfolding same_bytes
not-one a b [] = and_none (eqb a 116)
not-one a b (x ∷ s) = and_none (eqb a 116)

pub rest-on : (s : List ℕ) (b : ℕ) → rest_of (s ++ (b ∷ [])) ≡ rest_next (rest_of s) b
unfolding rest_of rest_next is_number digits_only worth same_bytes
rest-on [] b = first_byte (is_digit b) (eqb b 116) (0 * 10 + digit_of b) (digit_of b) (omega arith) (omega arith)
rest-on (a ∷ s) b = simp (digits-on (a ∷ s) b, worth-on 0 (a ∷ s) b, not-one a b s) (on-tests (digits_only (a ∷ s)) (is_digit b) (same_bytes (a ∷ s) (116 ∷ [])) (worth 0 (a ∷ s)) (digit_of b) b)
