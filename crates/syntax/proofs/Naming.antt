-- The returns of the reader of names, over plain variables: what it answers follows from the tokens it looked at and what it answered for the names after the
-- first. From the laws of the machine and of spans.
use mathlib.Core.Path.{◌≡◌, refl, ap, ◌∙◌}
use mathlib.Core.List.{List, [], ◌∷◌, ◌++◌}
use Prim.Native.Nat.{ℕ, ◌+◌, ◌≤◌, ◌<◌}
use native.Mathlib.Omega.{arith}
use lib.ListN.{length, get_or}
use Rattle.std.specs.Prelude.{Err, Ok}
use Rattle.token.specs.Kind as kind
use Rattle.grammar.specs.Grammar
use Rattle.grammar.specs.Grammar.{flat_names}
use Rattle.grammar.specs.Machine.{Want, MoreNames, the_names, table, rows_of, is_may, find}
use Rattle.grammar.specs.Follows.{Follows}
use Rattle.grammar.specs.Syntax.{count_names}
use Rattle.grammar.proofs.Follows.{here}
use Rattle.tree.specs.Reading.{place, Span, Read}
use Rattle.tree.proofs.Spans.{span-token, ◌then◌, next-at, fault-at}
use Rattle.syntax.specs.Names.{Listed, Listing}
use Rattle.syntax.proofs.Symbols.{wants, lacks, taken, past}

-- what `names` answers
abbrev pub Names : ℕ → List ℕ → ℕ → Read → Type 0
Names close ts at r = Follows ts at (the_names ++ Want close ∷ []) (place r) × Listing ts at close r

pub listed_of : {ts : List ℕ} {at close n count : ℕ} {r : Read} → r ≡ Ok (n, count) → Listing ts at close r → Listed ts at close n count
unfolding Listing
listed_of e l = rw e at l

module _ (ts : List ℕ) (at close : ℕ) (comma : close ≡ kind.comma → ⊥) (present : 0 < close) where
  pub names-none : at ≤ length ts → (get_or ts at 0 ≡ kind.name → ⊥) → Names close ts at (Err at)
  unfolding place Listing
  names-none h n = (lacks ts at _ kind.name h n, tt)

  module _ (name : get_or ts at 0 ≡ kind.name) where
    pub names-last : get_or ts (at + 1) 0 ≡ close → Names close ts at (Ok (at + 1 + 1, 1))
    unfolding place Listing table rows_of is_may flat_names count_names
    names-last e =
        let s : Span _ ts ts ts at 0 _ 0 = span-token kind.name name (omega arith) then span-token close e present in (
          wants ts at _ kind.name name (omega arith) (λ l. past ts (at + 1) _ MoreNames l refl ((λ q. comma (omega arith)), tt) (wants ts (at + 1) [] close e present (λ m. here ts (at + 1 + 1) m))),
          record { tree = Grammar.last_name; text = s.text; counted = refl; fewer = omega arith; within = s.within },
        )

    pub names-stray : (get_or ts (at + 1) 0 ≡ close → ⊥) → (get_or ts (at + 1) 0 ≡ kind.comma → ⊥) → Names close ts at (Err (at + 1))
    unfolding place Listing table rows_of is_may
    names-stray n m = (wants ts at _ kind.name name (omega arith) (λ l. past ts (at + 1) _ MoreNames l refl (m, tt) (lacks ts (at + 1) [] close l n)), tt)

    module _ (more : get_or ts (at + 1) 0 ≡ kind.comma) {r : Read} (a : Names close ts (at + 1 + 1) r) where
      pub names-fault : {k : ℕ} → r ≡ Err k → Names close ts at (Err k)
      unfolding place Listing table rows_of find
      names-fault e = (wants ts at _ kind.name name (omega arith) (λ l. taken ts (at + 1) (Want close ∷ []) MoreNames kind.comma more (omega arith) refl (λ m. fault-at e a.0)), tt)

      pub names-next : {n count : ℕ} → r ≡ Ok (n, count) → Names close ts at (Ok (n, count + 1))
      unfolding place Listing table rows_of find flat_names count_names
      names-next {n} {count} e =
          let l = listed_of e a.1 in
          let s : Span _ ts ts ts at 0 _ 0 = span-token kind.name name (omega arith) then span-token kind.comma more (omega arith) in (
            wants ts at _ kind.name name (omega arith) (λ i. taken ts (at + 1) (Want close ∷ []) MoreNames kind.comma more (omega arith) refl (λ m. next-at e a.0)),
            record { tree = Grammar.next_name l.tree; text = s.text ∙ ap (λ (us : List ℕ). kind.name ∷ kind.comma ∷ us) l.text; counted = ap (λ (i : ℕ). i + 1) l.counted; fewer = omega (arith, l.fewer); within = l.within },
          )
