-- The verdict is right: the tree that it finds is written as the tokens, and where it finds none they go wrong at the place that it gives; so it is the one reading, or the one place.
-- From what the machine accepts, and since every tree is among those that are looked through.
use mathlib.Core.Path.{◌≡◌, refl, sym, ap, ◌∙◌}
use mathlib.Core.List.Memᴰ.{cases_cons as cases}
use mathlib.Core.List.Memᴰ.{not-nil as nowhere}
use mathlib.Core.List.{List, [], ◌∷◌, Memᴰ as In}
use mathlib.Core.Bool.{Bool, true, false, cond}
use mathlib.Core.Option.{Option, none, some}
use mathlib.Core.Logic.{◌⊎◌, inl, inr}
use Prim.Native.Nat.{ℕ}
use native.Mathlib.Omega.{arith}
use lib.ListN.{length}
use Rattle.token.specs.Token.{same_bytes as same_numbers}
use Rattle.token.proofs.Words.{same-is, is_same_lem}
use Rattle.grammar.specs.Grammar.{Model, flat_model, Reads, Wrong}
use Rattle.grammar.specs.Machine.{Out, good, bad, run, start}
use Rattle.grammar.specs.Syntax.{wide}
use Rattle.grammar.specs.Every.{every_model}
use Rattle.grammar.specs.Verdict.{Verdict, fitting, failing, first_written, depth_for, stopped, verdict_of, verdict}
use Rattle.grammar.proofs.Every.{model_in}
use Rattle.grammar.proofs.Judged.{reads, wrong, wrong-once}
use Rattle.grammar.proofs.Unique.{unique}

-- what a verdict says of the tokens
abbrev pub Says : List ℕ → Verdict → Type 0
Says ts (fitting m) = Reads ts m
Says ts (failing k) = Wrong ts k

module _ (ts : List ℕ) where
  -- ---- the tree that is found

  found-reads : (ms : List Model) (m : Model) → first_written ts ms ≡ some m → Reads ts m
  unfolding first_written Reads
  found-reads [] m e = absurd (let z : ◌≡◌ {A = ℕ} 0 1 = cc in omega arith)
  found-reads (d ∷ ms) m e = by (same_numbers (flat_model d []) ts) refl (found-reads ms m) e
    where
      by : (b : Bool) → same_numbers (flat_model d []) ts ≡ b → (first_written ts ms ≡ some m → Reads ts m) → cond b (some d) (first_written ts ms) ≡ some m → Reads ts m
      by true s r e = let q : d ≡ m = cc in rw (← q) (same-is (flat_model d []) ts s)
      by false s r e = r e

  -- none is found only where none of these is written so
  none_reads : (ms : List Model) (m : Model) → first_written ts ms ≡ none → In m ms → Reads ts m → ⊥
  unfolding first_written Reads
  none_reads [] m e i r = nowhere i
  none_reads (d ∷ ms) m e i r = by (same_numbers (flat_model d []) ts) refl (none_reads ms m) e (cases i)
    where
      by : (b : Bool) → same_numbers (flat_model d []) ts ≡ b → (first_written ts ms ≡ none → In m ms → Reads ts m → ⊥) → cond b (some d) (first_written ts ms) ≡ none → (m ≡ d) ⊎ In m ms → ⊥
      by true s f e c = let z : ◌≡◌ {A = ℕ} 0 1 = cc in omega arith
      by false s f e (inr i) = f e i r
      by false s f e (inl q) = let z : true ≡ false = sym (is_same_lem ts) ∙ ap (λ (l : List ℕ). same_numbers l ts) (sym r) ∙ ap (λ (x : Model). same_numbers (flat_model x []) ts) q ∙ s in let y : ◌≡◌ {A = ℕ} 0 1 = cc in omega arith

  -- a reading is among the trees that are looked through
  deep-enough : (m : Model) → Reads ts m → In m (every_model (depth_for ts))
  unfolding wide Reads
  deep-enough m r = model_in m (depth_for ts) (omega (arith, ap length r))

  -- ---- the verdict

  by-search : (o : Option Model) → first_written ts (every_model (depth_for ts)) ≡ o → (x : Out) → run 0 start ts ≡ x → Says ts (verdict_of o x)
  unfolding verdict_of stopped
  by-search (some m) e x d = found-reads (every_model (depth_for ts)) m e
  by-search none e good d = let r = reads ts d in absurd (none_reads (every_model (depth_for ts)) r.0 e (deep-enough r.0 r.1) r.1)
  by-search none e (bad k) d = wrong ts k d

  -- 01, question 5: the verdict is a reading, or the place at which the tokens go wrong
  pub says : Says ts (verdict ts)
  unfolding verdict
  says = by-search _ refl _ refl

  -- ---- and there is no other

  only-reading : (v : Verdict) → Says ts v → (m : Model) → Reads ts m → v ≡ fitting m
  only-reading (fitting d) s m r = ap (λ (x : Model). fitting x) (unique ts d m s r)
  only-reading (failing k) s m r = absurd (s.short m r)

  only-place : (v : Verdict) → Says ts v → (k : ℕ) → Wrong ts k → v ≡ failing k
  only-place (fitting d) s k w = absurd (w.short d s)
  only-place (failing j) s k w = ap (λ (i : ℕ). failing i) (wrong-once ts j k s w)

  pub verdict-fits : (m : Model) → Reads ts m → verdict ts ≡ fitting m
  verdict-fits m r = only-reading (verdict ts) says m r

  pub verdict-fails : (k : ℕ) → Wrong ts k → verdict ts ≡ failing k
  verdict-fails k w = only-place (verdict ts) says k w
