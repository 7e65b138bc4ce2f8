-- A tree that was read is also a tree of another sort, with the same tokens, with a sign before it, or with a node of its own over one part or two. From the
-- laws of spans.
use mathlib.Core.Path.{◌≡◌}
use mathlib.Core.List.{List, ◌∷◌}
use Prim.Native.Nat.{ℕ, ◌+◌, ◌<◌}
use native.Mathlib.Omega.{arith}
use lib.ListN.{get_or}
use Rattle.grammar.proofs.Prepends.{Prepends}
use Rattle.tree.specs.Table.{One, Two}
use Rattle.tree.specs.Reading.{Span, Made, Tally}
use Rattle.tree.proofs.Interval.{Interval}
use Rattle.tree.proofs.Spans.{span-token, ◌then◌, span-as, Wrote, span-wrote, span-place, seen-later, seen_one, seen-two}

-- one node more, which one of the tokens pays for
pub span-paid : {f : List ℕ → List ℕ} {ts t t' : List ℕ} {at used n u : ℕ} → Span f ts t t' at used n u → u + at < used + n → Span f ts t t' at used n (u + 1)
span-paid s h = record { text = s.text; onward = s.onward; within = s.within; more = omega (arith, s.more); fewer = omega arith; kept = s.kept; size = s.size }

-- where a span of known width ends
pub span-ends : {f : List ℕ → List ℕ} {w : ℕ} {ts t t' : List ℕ} {at used n u : ℕ} → Prepends f w → Span f ts t t' at used n u → n ≡ at + w
span-ends p s = omega (arith, span-place p s, p.width)

module _ {A B : Type 0} {flat_a : A → List ℕ → List ℕ} {flat_b : B → List ℕ → List ℕ} {holds_a : List ℕ → A → ℕ → ℕ → Type 0} {holds_b : List ℕ → B → ℕ → ℕ → Type 0} {ts t t' : List ℕ} {at used n root : ℕ} (f : A → B) (shows : (a : A) (s : List ℕ) (lo k : ℕ) → holds_a s a lo k → holds_b s (f a) lo k) where
  -- the same tokens
  unfoldable pub made_as : ((a : A) (us : List ℕ) → flat_b (f a) us ≡ flat_a a us) → Made flat_a holds_a ts t t' at used n root → Made flat_b holds_b ts t t' at used n root
  made_as text m = record { tree = f m.tree; span = span-as (text m.tree) m.span; shown = λ l. shows m.tree t' used root (m.shown l) }

  -- a sign, and then the same
  unfoldable pub made-signed : {sign : ℕ} → ((a : A) (us : List ℕ) → flat_b (f a) us ≡ sign ∷ flat_a a us) → get_or ts at 0 ≡ sign → 0 < sign → Made flat_a holds_a ts t t' (at + 1) used n root → Made flat_b holds_b ts t t' at used n root
  made-signed {sign} text e h m = record { tree = f m.tree; span = span-as (text m.tree) (span-token sign e h then m.span); shown = λ l. shows m.tree t' used root (m.shown l) }

  -- the same tokens and as many sums
  pub tally-as : {count_a : A → ℕ} {count_b : B → ℕ} {c m : ℕ} → ((a : A) (us : List ℕ) → flat_b (f a) us ≡ flat_a a us) → ((a : A) → count_b (f a) ≡ count_a a) → Tally flat_a count_a holds_a ts t t' at used c n root m → Tally flat_b count_b holds_b ts t t' at used c n root m
  unfolding made_as
  tally-as text counts y = record { made = made_as text y.made; counted = omega (arith, y.counted, counts y.made.tree); rarer = y.rarer }

-- a node over one part
module _ {A B : Type 0} {flat_a : A → List ℕ → List ℕ} {flat_b : B → List ℕ → List ℕ} {part : List ℕ → A → ℕ → ℕ → Type 0} {holds : List ℕ → B → ℕ → ℕ → Type 0} {ts t t₁ t₂ : List ℕ} {at used n root kind token third : ℕ} (p : Made flat_a part ts t t₁ at used n root) where
  unfoldable pub made_one : {a b : ℕ} (z : B) → ((us : List ℕ) → flat_b z us ≡ flat_a p.tree us) → Interval a b (λ s. part s p.tree) → ((lo k : ℕ) → One t₂ kind token third (part t₂ p.tree) lo k → holds t₂ z lo k) → root + 1 + at < used + n → Wrote t₁ t₂ (root + 1) kind token 0 third → Made flat_b holds ts t t₂ at used n (root + 1)
  made_one z text interval shows spare w = record { tree = z; span = span-as text (span-wrote w p.span spare); shown = λ l. shows used (root + 1) (seen_one interval w p.shown l) }

-- a node over two parts, with a sign between them
module _ {A B Z : Type 0} {flat_a : A → List ℕ → List ℕ} {flat_b : B → List ℕ → List ℕ} {flat : Z → List ℕ → List ℕ} {part_a : List ℕ → A → ℕ → ℕ → Type 0} {part_b : List ℕ → B → ℕ → ℕ → Type 0} {holds : List ℕ → Z → ℕ → ℕ → Type 0} {ts t t₁ t₂ t₃ : List ℕ} {at used n left m right kind : ℕ} (p : Made flat_a part_a ts t t₁ at used n left) (q : Made flat_b part_b ts t₁ t₂ (n + 1) (left + 1) m right) where
  unfoldable pub made-two : {a b c d : ℕ} (sign : ℕ) (z : Z) → ((us : List ℕ) → flat z us ≡ flat_a p.tree (sign ∷ flat_b q.tree us)) → Interval a b (λ s. part_a s p.tree) → Interval c d (λ s. part_b s q.tree) → ((lo k : ℕ) → Two t₃ kind 0 0 (part_a t₃ p.tree) (part_b t₃ q.tree) lo k → holds t₃ z lo k) → get_or ts n 0 ≡ sign → 0 < sign → Wrote t₂ t₃ (right + 1) kind 0 left 0 → Made flat holds ts t t₃ at used m (right + 1)
  made-two sign z text first second shows e h w =
      record {
        tree = z;
        span = span-as text (span-wrote w (p.span then span-token sign e h then q.span) (omega (arith, p.span.fewer, q.span.fewer)));
        shown = λ l. shows used (right + 1) (seen-two first second w (seen-later first q.span (omega arith) p.shown) q.shown l);
      }
