-- The returns of the readers of channels, over plain variables: what each answers follows from the tokens it looked at, the nodes it wrote and what its callees
-- answered. From the laws of the machine and of spans.
use mathlib.Core.Path.{◌≡◌, refl, ◌∙◌}
use mathlib.Core.List.{List, [], ◌∷◌}
use Prim.Native.Nat.{ℕ, ◌+◌, ◌≤◌}
use native.Mathlib.Omega.{arith}
use lib.ListN.{length, get_or}
use Rattle.std.specs.Prelude.{Err, Ok}
use Rattle.token.specs.Kind as kind
use Rattle.grammar.specs.Grammar
use Rattle.grammar.specs.Grammar.{flat_expr, flat_channel}
use Rattle.grammar.specs.Machine.{SecondItem, ThirdItem, an_expr, a_channel, table, rows_of, is_may, find}
use Rattle.grammar.specs.Follows.{Follows}
use Rattle.grammar.specs.Syntax.{wide, expr_at, channel_at}
use Rattle.grammar.proofs.Follows.{join, fails, takes, passes}
use Rattle.grammar.proofs.Wide.{wide-expr}
use Rattle.tree.specs.Node as node
use Rattle.tree.specs.Table
use Rattle.tree.specs.Reading.{place, Extended, Read}
use Rattle.tree.proofs.Interval.{stays}
use Rattle.tree.proofs.Holds.{expr-interval}
use Rattle.tree.proofs.Spans.{span_none, span-token, ◌then◌, Wrote, span-over, span-place, seen-two, seen-three, next-at, fault-at, made_of, fault-size, parsed-grown, made-grown}
use Rattle.syntax.specs.Channels.{no_third, third, More, no_more, more, flat_third, flat_more, third_at, more_at, Items}
use Rattle.syntax.proofs.Answers.{Answers, first-fails}
use Rattle.syntax.proofs.Symbols.{onward}
use Rattle.syntax.proofs.Forms.{span-paid}
use Rattle.syntax.proofs.Expressions.{Expr}

-- ---- what the functions answer

abbrev pub Channel : List ℕ → List ℕ → List ℕ → ℕ → ℕ → Read → Type 0
Channel ts t t' at = Answers a_channel flat_channel (λ s c. Table.Channel s (channel_at c at)) ts t t' at

abbrev pub Mores : List ℕ → List ℕ → List ℕ → ℕ → ℕ → Read → Type 0
Mores ts t t' at left r = Follows ts at (SecondItem ∷ []) (place r) × Extended flat_more (λ e m. more_at e m at) Table.Expr Table.Channel ts t t' at left r

abbrev pub Thirds : List ℕ → List ℕ → List ℕ → ℕ → ℕ → ℕ → Read → Type 0
Thirds ts t t' at left mid r = Follows ts at (ThirdItem ∷ []) (place r) × Items ts t t' at left mid r

-- ---- after two items

module _ (ts t : List ℕ) (at left mid : ℕ) where
  pub thirds-none : {t' : List ℕ} → at ≤ length ts → (get_or ts at 0 ≡ kind.comma → ⊥) → Wrote t t' (mid + 1) node.two_items 0 left 0 → Thirds ts t t' at left mid (Ok (at, mid + 1))
  unfolding place Items flat_third third_at table rows_of is_may Table.Channel
  thirds-none h n w = (
    passes ts at ThirdItem h refl (n, tt),
    record { tree = no_third; span = span-over w (span_none h) (omega arith); shown = λ l e f lo p q. seen-two (expr-interval e) (expr-interval f) w (λ k. p) (λ k. q) l },
  )

  module _ (q : get_or ts at 0 ≡ kind.comma) (t₁ : List ℕ) {r : Read} (a : Expr ts t t₁ (at + 1) (mid + 1) r) where
    pub thirds-fault : {k : ℕ} → r ≡ Err k → Thirds ts t t₁ at left mid (Err k)
    unfolding place Items table rows_of find
    thirds-fault e = (takes ts at ThirdItem kind.comma q (omega arith) refl (λ l. fault-at e a.0), fault-size _ _ ts t t₁ (at + 1) (mid + 1) e a.1)

    pub thirds-three : {n root : ℕ} {t₂ : List ℕ} → left ≤ mid → r ≡ Ok (n, root) → Wrote t₁ t₂ (root + 1) node.three_items 0 left mid → Thirds ts t t₂ at left mid (Ok (n, root + 1))
    unfolding place Items flat_third third_at table rows_of find Table.Channel
    thirds-three h e w =
        let m = made_of e a.1 in (
          takes ts at ThirdItem kind.comma q (omega arith) refl (λ l. next-at e a.0),
          record {
            tree = third m.tree;
            span = span-over w (span-token kind.comma q (omega arith) then m.span) (omega (arith, m.span.more));
            shown = λ l x y lo f s.
                seen-three (expr-interval x) (expr-interval y) (expr-interval (expr_at m.tree (at + 1))) w (λ k. stays (expr-interval x) (mid + 1) (omega arith) m.span.kept f) (λ k. stays (expr-interval y) (mid + 1) (omega arith) m.span.kept s) m.shown l;
          },
        )

-- ---- after one item

module _ (ts t : List ℕ) (at left : ℕ) where
  pub seconds-none : at ≤ length ts → (get_or ts at 0 ≡ kind.comma → ⊥) → Mores ts t t at left (Ok (at, left))
  unfolding place Extended table rows_of is_may flat_more more_at Table.Channel
  seconds-none h n = (passes ts at SecondItem h refl (n, tt), record { tree = no_more; span = span_none h; shown = λ l x lo p. p })

  module _ (q : get_or ts at 0 ≡ kind.comma) (t₁ : List ℕ) {r : Read} (a : Expr ts t t₁ (at + 1) (left + 1) r) where
    pub seconds-fault : {k : ℕ} → r ≡ Err k → Mores ts t t₁ at left (Err k)
    unfolding place Extended table rows_of find
    seconds-fault {k} e = (
      takes ts at SecondItem kind.comma q (omega arith) refl (λ l. fails ts (at + 1) k an_expr _ (fault-at e a.0)),
      fault-size _ _ ts t t₁ (at + 1) (left + 1) e a.1,
    )

    module _ {n mid : ℕ} (e : r ≡ Ok (n, mid)) where
      pub seconds-more : (t₂ : List ℕ) (r' : Read) → Thirds ts t₁ t₂ n left mid r' → Mores ts t t₂ at left r'
      unfolding place Items Extended flat_more more_at table rows_of find
      seconds-more t₂ (Ok (m, root)) b =
          let p = made_of e a.1 in
          let i = b.1 in
          let k = span-place (wide-expr p.tree) p.span in (
            takes ts at SecondItem kind.comma q (omega arith) refl (λ l. onward an_expr _ (next-at e a.0) (λ j. b.0)),
            record {
              tree = more p.tree i.tree;
              span = span-paid (span-token kind.comma q (omega arith) then p.span then i.span) (omega (arith, p.span.fewer, i.span.fewer));
              shown = λ l x lo f.
                  rw (← k)
                  (i.shown l x (expr_at p.tree (at + 1)) lo (stays (expr-interval x) (left + 1) (omega arith) p.span.kept f) (p.shown (omega (arith, i.span.more, i.span.size))));
            },
          )
      seconds-more t₂ (Err k) b = (
        takes ts at SecondItem kind.comma q (omega arith) refl (λ l. onward an_expr _ (next-at e a.0) (λ j. b.0)),
        b.1 ∙ (made_of e a.1).span.size,
      )

-- ---- a channel

channel_of : Grammar.Expr → More → Grammar.Channel
channel_of e no_more = Grammar.one_item e
channel_of e (more f no_third) = Grammar.two_items e f
channel_of e (more f (third g)) = Grammar.three_items e f g

channel-text : (e : Grammar.Expr) (m : More) (us : List ℕ) → flat_channel (channel_of e m) us ≡ flat_expr e (flat_more m us)
unfolding flat_channel flat_more flat_third channel_of
channel-text e no_more us = refl
channel-text e (more f no_third) us = refl
channel-text e (more f (third g)) us = refl

channel-at : (e : Grammar.Expr) (m : More) (at : ℕ) → more_at (expr_at e at) m (at + wide (flat_expr e)) ≡ channel_at (channel_of e m) at
unfolding channel_at more_at third_at channel_of
channel-at e no_more at = refl
channel-at e (more f no_third) at = refl
channel-at e (more f (third g)) at = refl

module _ (ts t t₁ : List ℕ) (at used : ℕ) {r : Read} (a : Expr ts t t₁ at used r) where
  pub channel-fault : {k : ℕ} → r ≡ Err k → Channel ts t t₁ at used (Err k)
  channel-fault e = first-fails an_expr (SecondItem ∷ []) flat_expr _ flat_channel _ ts t t₁ at used e a

  pub channel-made : {n left : ℕ} (t₂ : List ℕ) (r' : Read) → r ≡ Ok (n, left) → Mores ts t₁ t₂ n left r' → Channel ts t t₂ at used r'
  channel-made {n} t₂ r' e b =
      let p = made_of e a.1 in (
        join ts at n an_expr (SecondItem ∷ []) (next-at e a.0) b.0,
        parsed-grown r' (λ i top g. made-grown wide-expr (λ x. expr_at x at) channel_of channel-text (λ x m s lo k q h. rw (← channel-at x m at, ← q) h) p g) (λ z. z ∙ p.span.size) b.1,
      )
