-- The returns of the readers of calls, over plain variables: what each answers follows from the tokens it looked at, the nodes it wrote and what its callees
-- answered. From the laws of the machine and of spans.
use mathlib.Core.Path.{◌≡◌, refl}
use mathlib.Core.List.{List, [], ◌∷◌, ◌++◌}
use Prim.Native.Nat.{ℕ, ◌+◌, ◌≤◌}
use native.Mathlib.Omega.{arith}
use lib.ListN.{length, get_or}
use Rattle.std.specs.Prelude.{Err, Ok}
use Rattle.token.specs.Kind as kind
use Rattle.grammar.specs.Grammar
use Rattle.grammar.specs.Grammar.{flat_args}
use Rattle.grammar.specs.Machine.{Want, Args', MoreArgs, an_expr, the_args, table, rows_of, is_may}
use Rattle.grammar.specs.Follows.{Follows}
use Rattle.grammar.specs.Syntax.{exprs_at, args_at}
use Rattle.grammar.proofs.Follows.{here}
use Rattle.grammar.proofs.Alike.{args-filled}
use Rattle.tree.specs.Node as node
use Rattle.tree.specs.Table
use Rattle.tree.specs.Table.{count_exprs}
use Rattle.tree.specs.Reading.{place_counted, Tallied, Counted}
use Rattle.tree.proofs.Holds.{exprs-interval}
use Rattle.tree.proofs.Spans.{span-token, ◌then◌, Wrote, span-wrote, seen-leaf, seen_one, counted-next-at, counted-fault-at, tally-of, counted-fault-size}
use Rattle.syntax.specs.Processes.{closed_exprs, flat_call, call_at}
use Rattle.syntax.proofs.Symbols.{wants, lacks, past}
use Rattle.syntax.proofs.Answers.{Counts}

-- ---- what the functions answer

-- values and the `]` after them
abbrev pub Args : List ℕ → List ℕ → List ℕ → ℕ → ℕ → Counted → Type 0
Args ts t t' at used = Counts (an_expr ++ MoreArgs ∷ Want kind.close_square ∷ []) closed_exprs (λ e. count_exprs (exprs_at e at)) (λ s e. Table.Exprs s (exprs_at e at)) ts t t' at used 0

-- a call, whose name stands before the token k
abbrev pub Call : List ℕ → List ℕ → List ℕ → ℕ → ℕ → ℕ → Counted → Type 0
Call ts t t' at used c r = Follows ts (at + 1) the_args (place_counted r) × Tallied flat_call (λ a. 0) (λ s a. Table.Cont s (call_at a at)) ts t t' at used c r

-- ---- a call

module _ (ts t : List ℕ) (at used sums : ℕ) (named : get_or ts at 0 ≡ kind.name) where
  pub call-stray : at + 1 ≤ length ts → (get_or ts (at + 1) 0 ≡ kind.open_square → ⊥) → Call ts t t at used sums (Err (at + 1))
  unfolding place_counted Tallied
  call-stray h n = (lacks ts (at + 1) (Args' ∷ Want kind.close_square ∷ []) kind.open_square h n, refl)

  module _ (o : get_or ts (at + 1) 0 ≡ kind.open_square) where
    pub call-empty : {t' : List ℕ} → get_or ts (at + 1 + 1) 0 ≡ kind.close_square → Wrote t t' used node.call at 0 0 → Call ts t t' at used sums (Ok (at + 1 + 1 + 1, used, sums))
    unfolding place_counted Tallied table rows_of is_may flat_call flat_args call_at args_at Table.Cont
    call-empty q w = (
      wants ts (at + 1) _ kind.open_square o (omega arith) (λ l. past ts (at + 1 + 1) _ Args' l refl (omega arith) (wants ts (at + 1 + 1) [] kind.close_square q (omega arith) (λ i. here ts (at + 1 + 1 + 1) i))),
      record {
        made = record { tree = Grammar.no_args; span = span-wrote w (span-token kind.name named (omega arith) then span-token kind.open_square o (omega arith) then span-token kind.close_square q (omega arith)) (omega arith); shown = seen-leaf w };
        counted = omega arith;
        rarer = omega arith;
      },
    )

    -- the machine up to the first value
    first-value : (get_or ts (at + 1 + 1) 0 ≡ kind.close_square → ⊥) → (r : Counted) → Follows ts (at + 1 + 1) (an_expr ++ MoreArgs ∷ Want kind.close_square ∷ []) (place_counted r) → Follows ts (at + 1) the_args (place_counted r)
    first-value n r f = wants ts (at + 1) _ kind.open_square o (omega arith) (λ l. args-filled ts (at + 1 + 1) n f)

    module _ (n : get_or ts (at + 1 + 1) 0 ≡ kind.close_square → ⊥) (t₁ : List ℕ) {r : Counted} (a : Args ts t t₁ (at + 1 + 1) used r) where
      pub call-fault : {k : ℕ} → r ≡ Err k → Call ts t t₁ at used sums (Err k)
      unfolding place_counted Tallied
      call-fault {k} e = (first-value n (Err k) (counted-fault-at e a.0), counted-fault-size _ _ _ ts t t₁ (at + 1 + 1) used 0 e a.1)

      pub call-with : {m root count : ℕ} {t₂ : List ℕ} → r ≡ Ok (m, root, count) → Wrote t₁ t₂ (root + 1) node.call_with at 0 count → Call ts t t₂ at used sums (Ok (m, root + 1, sums))
      unfolding place_counted Tallied closed_exprs flat_call flat_args call_at args_at Table.Cont
      call-with {m} {root} {count} {t₂} e w =
          let s = tally-of e a.1 in
          let z = s.made.tree in
          let counted : count_exprs (exprs_at z (at + 1 + 1)) ≡ count = omega (arith, s.counted) in (
            first-value n (Ok (m, root + 1, sums)) (counted-next-at e a.0),
            record {
              made =
                  record {
                    tree = Grammar.args z;
                    span = span-wrote w (span-token kind.name named (omega arith) then span-token kind.open_square o (omega arith) then s.made.span) (omega (arith, s.made.span.fewer));
                    shown = λ l. rw counted (seen_one (exprs-interval (exprs_at z (at + 1 + 1))) w s.made.shown l);
                  };
              counted = omega arith;
              rarer = omega (arith, s.made.span.onward);
            },
          )
