-- The returns of the readers of arguments, of a call and of a system item, over plain variables: what each answers follows from the tokens it looked at, the nodes it wrote and what its callees
-- answered. From the laws of the machine and of spans.
use mathlib.Core.Path.{◌≡◌, refl, ap, ◌∙◌}
use mathlib.Core.List.{List, [], ◌∷◌, ◌++◌, append_assoc}
use mathlib.Core.Bool.{true}
use Prim.Native.Nat.{ℕ, ◌+◌}
use native.Mathlib.Omega.{arith}
use lib.ListN.{get_or}
use Rattle.std.specs.Prelude.{Err, Ok}
use Rattle.token.specs.Kind as kind
use Rattle.grammar.specs.Grammar
use Rattle.grammar.specs.Grammar.{flat_whole, flat_wholes, flat_expr, flat_exprs}
use Rattle.grammar.specs.Machine.{Sym, Want, Whole', MoreWholes, MoreArgs, an_expr, table, rows_of, is_may, rows, optional, find}
use Rattle.grammar.specs.Follows.{Follows}
use Rattle.grammar.specs.Syntax
use Rattle.grammar.specs.Syntax.{wide, literal_at, expr_at, wholes_at, exprs_at}
use Rattle.grammar.proofs.Follows.{here, fails}
use Rattle.grammar.proofs.Steps.{Misses}
use Rattle.grammar.proofs.Wide.{wide-whole, wide-expr}
use Rattle.tree.specs.Node as node
use Rattle.tree.specs.Table
use Rattle.tree.specs.Table.{Two, count_wholes, count_exprs}
use Rattle.tree.specs.Reading.{place_counted, Ready, Span, Tallied, Read, Counted}
use Rattle.tree.proofs.Holds.{expr-interval, wholes-interval, exprs-interval}
use Rattle.tree.proofs.Interval.{Interval, wider}
use Rattle.tree.proofs.Spans.{span-token, ◌then◌, span-as, Wrote, span-place, ready-after, ready-token, next-at, fault-at, counted-next-at, counted-fault-at, made_of, tally-of, fault-size, counted-fault-size}
use Rattle.syntax.specs.Line.{written_wholes}
use Rattle.syntax.specs.Processes.{closed_exprs}
use Rattle.syntax.proofs.Answers.{Answers, Counts}
use Rattle.syntax.proofs.Symbols.{wants, lacks, taken, past, onward}
use Rattle.syntax.proofs.Forms.{made-two}

-- arguments, each of which the symbols x read, and the `]` after them: what they are written as, how many they are, and what the table holds of them
pub record Arguments {A B : Type 0} (x : List Sym) (more : Sym) (flat_a : A → List ℕ → List ℕ) (flat : B → List ℕ → List ℕ) (argument_at : A → ℕ → Syntax.Expr) (count : B → ℕ → ℕ) (holds : List ℕ → B → ℕ → ℕ → ℕ → Type 0) (op : ℕ) : Type 0 where
  pub last : A → B
  pub next : A → B → B
  pub may : optional more ≡ true
  pub row : rows more ≡ (kind.comma, x ++ more ∷ []) ∷ []
  pub text-last : (a : A) (us : List ℕ) → flat (last a) us ≡ flat_a a (kind.close_square ∷ us)
  pub text-next : (a : A) (b : B) (us : List ℕ) → flat (next a b) us ≡ flat_a a (kind.comma ∷ flat b us)
  pub count-last : (a : A) (at : ℕ) → count (last a) at ≡ 1
  pub count-next : (a : A) (b : B) (at : ℕ) → count (next a b) at ≡ count b (at + wide (flat_a a) + 1) + 1
  pub shows-last : (a : A) (s : List ℕ) (at lo k : ℕ) → Table.Expr s (argument_at a at) lo k → holds s (last a) at lo k
  pub shows-next : (a : A) (b : B) (s : List ℕ) (at lo k : ℕ) → Two s op 0 0 (Table.Expr s (argument_at a at)) (holds s b (at + wide (flat_a a) + 1)) lo k → holds s (next a b) at lo k
  pub ends : (a : A) {ts t t' : List ℕ} {at used n u : ℕ} → Span (flat_a a) ts t t' at used n u → n ≡ at + wide (flat_a a)
  pub interval : (b : B) (at : ℕ) → Interval 1 61 (λ s. holds s b at)

pub wholes : Arguments (Whole' ∷ []) MoreWholes flat_whole written_wholes literal_at (λ w at. count_wholes (wholes_at w at)) (λ s w at. Table.Wholes s (wholes_at w at)) node.whole
unfolding flat_wholes written_wholes wholes_at literal_at count_wholes Table.Wholes table rows_of is_may
wholes = record { last = Grammar.last_whole; next = Grammar.next_whole; may = refl; row = refl; text-last = λ a us. refl; text-next = λ a b us. refl; count-last = λ a at. refl; count-next = λ a b at. refl; shows-last = λ a s at lo k h. h; shows-next = λ a b s at lo k h. h; ends = λ a. span-place (wide-whole a); interval = λ b at. wholes-interval (wholes_at b at) }

pub exprs : Arguments an_expr MoreArgs flat_expr closed_exprs expr_at (λ e at. count_exprs (exprs_at e at)) (λ s e at. Table.Exprs s (exprs_at e at)) node.argument
unfolding flat_exprs closed_exprs exprs_at count_exprs Table.Exprs table rows_of is_may
exprs = record { last = Grammar.last_expr; next = Grammar.next_expr; may = refl; row = refl; text-last = λ a us. refl; text-next = λ a b us. refl; count-last = λ a at. refl; count-next = λ a b at. refl; shows-last = λ a s at lo k h. h; shows-next = λ a b s at lo k h. h; ends = λ a. span-place (wide-expr a); interval = λ b at. wider (exprs-interval (exprs_at b at)) refl }

module _ {A B : Type 0} {x : List Sym} {more : Sym} {flat_a : A → List ℕ → List ℕ} {flat : B → List ℕ → List ℕ} {argument_at : A → ℕ → Syntax.Expr} {count : B → ℕ → ℕ} {holds : List ℕ → B → ℕ → ℕ → ℕ → Type 0} {op : ℕ} (j : Arguments x more flat_a flat argument_at count holds op) where
  -- what is left after the first
  abbrev end : List Sym
  end = more ∷ Want kind.close_square ∷ []

  -- what the reader answers
  abbrev Listed : List ℕ → List ℕ → List ℕ → ℕ → ℕ → Counted → Type 0
  Listed ts t t' at used = Counts (x ++ end) flat (λ b. count b at) (λ s b. holds s b at) ts t t' at used 0

  module _ (ts t t₁ : List ℕ) (at used : ℕ) {r : Read} (a : Answers x flat_a (λ s a. Table.Expr s (argument_at a at)) ts t t₁ at used r) where
    pub arguments-fault : {k : ℕ} → r ≡ Err k → Listed ts t t₁ at used (Err k)
    unfolding place_counted Tallied
    arguments-fault {k} e = (fails ts at k x end (fault-at e a.0), fault-size _ _ ts t t₁ at used e a.1)

    module _ {n left : ℕ} (e : r ≡ Ok (n, left)) where
      -- the token after the first is no comma
      misses : (get_or ts n 0 ≡ kind.comma → ⊥) → Misses (get_or ts n 0) (rows more)
      misses m = rw j.row (m, tt)

      pub arguments-last : get_or ts n 0 ≡ kind.close_square → Listed ts t t₁ at used (Ok (n + 1, left, 1))
      unfolding place_counted Tallied
      arguments-last q =
          let m = made_of e a.1 in (
            onward x end (next-at e a.0) (λ l. past ts n _ more l j.may (misses (λ c. omega arith)) (wants ts n [] kind.close_square q (omega arith) (λ i. here ts (n + 1) i))),
            record {
              made = record { tree = j.last m.tree; span = span-as (j.text-last m.tree) (m.span then span-token kind.close_square q (omega arith)); shown = λ l. j.shows-last m.tree t₁ at used left (m.shown l) };
              counted = omega (arith, j.count-last m.tree at);
              rarer = omega (arith, m.span.onward);
            },
          )

      pub arguments-stray : (get_or ts n 0 ≡ kind.close_square → ⊥) → (get_or ts n 0 ≡ kind.comma → ⊥) → Listed ts t t₁ at used (Err n)
      unfolding place_counted Tallied
      arguments-stray q c = (
        onward x end (next-at e a.0) (λ l. past ts n _ more l j.may (misses c) (lacks ts n [] kind.close_square l q)),
        (made_of e a.1).span.size,
      )

      module _ (c : get_or ts n 0 ≡ kind.comma) where
        pub arguments-ready : Ready ts at used → Ready ts (n + 1) (left + 1)
        arguments-ready h = ready-token (ready-after h (made_of e a.1).span) (omega arith)

        -- the machine up to the next
        next-argument : (r' : Counted) → Follows ts (n + 1) (x ++ end) (place_counted r') → Follows ts at (x ++ end) (place_counted r')
        unfolding find
        next-argument r' f = onward x end (next-at e a.0) (λ l. taken ts n (Want kind.close_square ∷ []) more kind.comma c (omega arith) (ap (find kind.comma) j.row) (λ i. rw (append_assoc x (more ∷ []) (Want kind.close_square ∷ [])) f))

        module _ (t₂ : List ℕ) {r' : Counted} (b : Listed ts t₁ t₂ (n + 1) (left + 1) r') where
          pub arguments-next-fault : {k : ℕ} → r' ≡ Err k → Listed ts t t₂ at used (Err k)
          unfolding place_counted Tallied
          arguments-next-fault {k} q = (next-argument (Err k) (counted-fault-at q b.0), counted-fault-size _ _ _ ts t₁ t₂ (n + 1) (left + 1) 0 q b.1 ∙ (made_of e a.1).span.size)

          pub arguments-next : {m right c' : ℕ} {t₃ : List ℕ} → r' ≡ Ok (m, right, c') → Wrote t₂ t₃ (right + 1) op 0 left 0 → Listed ts t t₃ at used (Ok (m, right + 1, c' + 1))
          unfolding place_counted Tallied made-two
          arguments-next {m} {right} {c'} {t₃} q w =
              let p = made_of e a.1 in
              let s = tally-of q b.1 in
              let y = s.made.tree in
              let k = j.ends p.tree p.span in (
                next-argument (Ok (m, right + 1, c' + 1)) (counted-next-at q b.0),
                record {
                  made = made-two p s.made kind.comma (j.next p.tree y) (λ us. j.text-next p.tree y us) (expr-interval (argument_at p.tree at)) (j.interval y (n + 1)) (λ lo i h. j.shows-next p.tree y t₃ at lo i (rw (← k) h)) c (omega arith) w;
                  counted = omega (arith, s.counted, rw (← k) at (j.count-next p.tree y at));
                  rarer = omega (arith, s.rarer, p.span.onward);
                },
              )
