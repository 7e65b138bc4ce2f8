-- The returns of the reader of one or two entries in square brackets, over plain variables. From the laws of the machine and of spans.
use mathlib.Core.Path.{◌≡◌, refl, ap, ◌∙◌}
use mathlib.Core.List.{List, [], ◌∷◌, ◌++◌}
use mathlib.Core.Bool.{true}
use Prim.Native.Nat.{ℕ, ◌+◌, ◌≤◌}
use native.Mathlib.Omega.{arith}
use lib.ListN.{length, get_or}
use Rattle.std.specs.Prelude.{Err, Ok}
use Rattle.token.specs.Kind as kind
use Rattle.grammar.specs.Grammar
use Rattle.grammar.specs.Grammar.{flat_values, flat_sets}
use Rattle.grammar.specs.Machine.{Sym, Want, table, rows_of, is_may, rows, optional, find}
use Rattle.grammar.specs.Follows.{Follows}
use Rattle.grammar.specs.Syntax.{wide, expr_at, set_at, values_at, sets_at}
use Rattle.grammar.proofs.Steps.{Misses}
use Rattle.grammar.proofs.Follows.{here, fails}
use Rattle.grammar.proofs.Wide.{wide-expr, wide-set}
use Rattle.tree.specs.Node as node
use Rattle.tree.specs.Table
use Rattle.tree.specs.Table.{Two}
use Rattle.tree.specs.Reading.{place, Ready, Span, Parsed, Read}
use Rattle.tree.proofs.Holds.{expr-interval, set-interval}
use Rattle.tree.proofs.Interval.{Interval, wider}
use Rattle.tree.proofs.Spans.{span-token, ◌then◌, span-as, Wrote, span-wrote, span-place, ready-after, ready-token, seen-later, seen-two, next-at, fault-at, made_of, fault-size}
use Rattle.syntax.specs.Entries.{Entry, value, set, Single, Bracketed, an_entry, second, the_entries, flat_entry, flat_entries, Holds, HoldsAll}
use Rattle.syntax.proofs.Answers.{Answers}
use Rattle.syntax.proofs.Symbols.{wants, lacks, taken, past, onward}

-- the brackets of one and of two entries: what they are written as, and what the table holds of them
record Brackets (e : Entry) : Type 0 where
  pub one : Single e → Bracketed e
  pub two : Single e → Single e → Bracketed e
  pub may : optional (second e) ≡ true
  pub row : rows (second e) ≡ (kind.comma, an_entry e) ∷ []
  pub text-one : (a : Single e) (us : List ℕ) → flat_entries e (one a) us ≡ kind.open_square ∷ flat_entry e a (kind.close_square ∷ us)
  pub text-two : (a b : Single e) (us : List ℕ) → flat_entries e (two a b) us ≡ kind.open_square ∷ flat_entry e a (kind.comma ∷ flat_entry e b (kind.close_square ∷ us))
  pub shows-one : (a : Single e) (s : List ℕ) (at lo k : ℕ) → Holds e s a (at + 1) lo k → HoldsAll e s (one a) at lo k
  pub shows-two : (a b : Single e) (s : List ℕ) (at lo k : ℕ) → Two s node.pair 0 0 (Holds e s a (at + 1)) (Holds e s b (at + 1 + wide (flat_entry e a) + 1)) lo k → HoldsAll e s (two a b) at lo k

brackets : (e : Entry) → Brackets e
unfolding flat_values flat_sets values_at sets_at Table.Values Table.Sets table rows_of is_may
brackets value = record { one = Grammar.one_value; two = Grammar.two_values; may = refl; row = refl; text-one = λ a us. refl; text-two = λ a b us. refl; shows-one = λ a s at lo k h. h; shows-two = λ a b s at lo k h. h }
brackets set = record { one = Grammar.one_set; two = Grammar.two_sets; may = refl; row = refl; text-one = λ a us. refl; text-two = λ a b us. refl; shows-one = λ a s at lo k h. h; shows-two = λ a b s at lo k h. h }

-- where an entry ends; its nodes are an interval
ends : (e : Entry) (x : Single e) {ts t t' : List ℕ} {at used n u : ℕ} → Span (flat_entry e x) ts t t' at used n u → n ≡ at + wide (flat_entry e x)
ends value x = span-place (wide-expr x)
ends set x = span-place (wide-set x)

interval : (e : Entry) (x : Single e) (at : ℕ) → Interval 1 14 (λ s. Holds e s x at)
interval value x at = wider (expr-interval (expr_at x at)) refl
interval set x at = set-interval (set_at x at)

module _ (z : Entry) (ts t : List ℕ) (at used : ℕ) where
  -- what is left of the brackets after the first part
  abbrev end : List Sym
  end = second z ∷ Want kind.close_square ∷ []

  j : Brackets z
  j = brackets z

  -- what the reader answers
  abbrev Enclosed : List ℕ → Read → Type 0
  Enclosed t' r = Answers (the_entries z) (flat_entries z) (λ s v. HoldsAll z s v at) ts t t' at used r

  -- and a part's, from token k on
  abbrev Part : List ℕ → List ℕ → ℕ → ℕ → Read → Type 0
  Part t₁ t₂ k low r = Answers (an_entry z) (flat_entry z) (λ s a. Holds z s a k) ts t₁ t₂ k low r

  pub brackets-stray : at ≤ length ts → (get_or ts at 0 ≡ kind.open_square → ⊥) → Enclosed t (Err at)
  unfolding place Parsed
  brackets-stray h n = (lacks ts at (an_entry z ++ end) kind.open_square h n, refl)

  module _ (o : get_or ts at 0 ≡ kind.open_square) (t₁ : List ℕ) {r : Read} (a : Part t t₁ (at + 1) used r) where
    pub brackets-fault : {k : ℕ} → r ≡ Err k → Enclosed t₁ (Err k)
    unfolding place Parsed
    brackets-fault {k} e = (
      wants ts at (an_entry z ++ end) kind.open_square o (omega arith) (λ l. fails ts (at + 1) k (an_entry z) end (fault-at e a.0)),
      fault-size _ _ ts t t₁ (at + 1) used e a.1,
    )

    module _ {n left : ℕ} (e : r ≡ Ok (n, left)) where
      -- the token after the first part is no comma
      misses : (get_or ts n 0 ≡ kind.comma → ⊥) → Misses (get_or ts n 0) (rows (second z))
      misses m = rw j.row (m, tt)

      pub brackets-one : get_or ts n 0 ≡ kind.close_square → Enclosed t₁ (Ok (n + 1, left))
      unfolding place Parsed
      brackets-one q =
          let m = made_of e a.1 in (
            wants ts at (an_entry z ++ end) kind.open_square o (omega arith) (λ l. onward (an_entry z) end (next-at e a.0) (λ h. past ts n _ (second z) h j.may (misses (λ c. omega arith)) (wants ts n [] kind.close_square q (omega arith) (λ i. here ts (n + 1) i)))),
            record {
              tree = j.one m.tree;
              span = span-as (j.text-one m.tree) (span-token kind.open_square o (omega arith) then m.span then span-token kind.close_square q (omega arith));
              shown = λ l. j.shows-one m.tree t₁ at used left (m.shown l);
            },
          )

      pub brackets-open : (get_or ts n 0 ≡ kind.close_square → ⊥) → (get_or ts n 0 ≡ kind.comma → ⊥) → Enclosed t₁ (Err n)
      unfolding place Parsed
      brackets-open q c = (
        wants ts at (an_entry z ++ end) kind.open_square o (omega arith) (λ l. onward (an_entry z) end (next-at e a.0) (λ h. past ts n _ (second z) h j.may (misses c) (lacks ts n [] kind.close_square h q))),
        (made_of e a.1).span.size,
      )

      pub brackets-ready : Ready ts at used → get_or ts n 0 ≡ kind.comma → Ready ts (n + 1) (left + 1)
      brackets-ready h c = ready-token (ready-after (ready-token h (omega arith)) (made_of e a.1).span) (omega arith)

      -- the machine up to the second part
      second-part : get_or ts n 0 ≡ kind.comma → (r' : Read) → Follows ts (n + 1) (an_entry z ++ Want kind.close_square ∷ []) (place r') → Follows ts at (Want kind.open_square ∷ an_entry z ++ end) (place r')
      unfolding find
      second-part c r' f = wants ts at (an_entry z ++ end) kind.open_square o (omega arith) (λ l. onward (an_entry z) end (next-at e a.0) (λ h. taken ts n _ (second z) kind.comma c (omega arith) (ap (find kind.comma) j.row) (λ i. f)))

      module _ (c : get_or ts n 0 ≡ kind.comma) (t₂ : List ℕ) {r' : Read} (b : Part t₁ t₂ (n + 1) (left + 1) r') where
        pub brackets-fault-second : {k : ℕ} → r' ≡ Err k → Enclosed t₂ (Err k)
        unfolding place Parsed
        brackets-fault-second {k} q = (
          second-part c (Err k) (fails ts (n + 1) k (an_entry z) (Want kind.close_square ∷ []) (fault-at q b.0)),
          fault-size _ _ ts t₁ t₂ (n + 1) (left + 1) q b.1 ∙ (made_of e a.1).span.size,
        )

        module _ {m right : ℕ} (q : r' ≡ Ok (m, right)) where
          pub brackets-open-second : (get_or ts m 0 ≡ kind.close_square → ⊥) → Enclosed t₂ (Err m)
          unfolding place Parsed
          brackets-open-second d = (
            second-part c (Err m) (onward (an_entry z) _ (next-at q b.0) (λ h. lacks ts m [] kind.close_square h d)),
            (made_of q b.1).span.size ∙ (made_of e a.1).span.size,
          )

          pub brackets-two : {t₃ : List ℕ} → get_or ts m 0 ≡ kind.close_square → Wrote t₂ t₃ (right + 1) node.pair 0 left 0 → Enclosed t₃ (Ok (m + 1, right + 1))
          unfolding place Parsed
          brackets-two {t₃} d w =
              let p = made_of e a.1 in
              let s = made_of q b.1 in
              let k = ends z p.tree p.span in
              let parts = span-token kind.open_square o (omega arith) then p.span then span-token kind.comma c (omega arith) then s.span then span-token kind.close_square d (omega arith) in (
                second-part c (Ok (m + 1, right + 1)) (onward (an_entry z) _ (next-at q b.0) (λ h. wants ts m [] kind.close_square d (omega arith) (λ i. here ts (m + 1) i))),
                record {
                  tree = j.two p.tree s.tree;
                  span = span-as (j.text-two p.tree s.tree) (span-wrote w parts (omega (arith, p.span.fewer, s.span.fewer)));
                  shown = λ l.
                      j.shows-two p.tree s.tree t₃ at used (right + 1)
                      (rw (← k) (seen-two (interval z p.tree (at + 1)) (interval z s.tree (n + 1)) w (seen-later (interval z p.tree (at + 1)) s.span (omega arith) p.shown) s.shown l));
                },
              )
