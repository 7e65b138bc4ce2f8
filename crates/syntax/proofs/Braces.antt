-- The returns of the readers of a rate with what stands around it, and of what follows a channel's second item, over plain variables: what each answers follows
-- from the tokens it looked at and what its callees answered. From the laws of the machine and of spans.
use mathlib.Core.Path.{◌≡◌, refl, ap, ◌∙◌}
use mathlib.Core.List.{List, [], ◌∷◌, ◌++◌}
use Prim.Native.Nat.{ℕ, ◌+◌, ◌≤◌, ◌<◌}
use native.Mathlib.Omega.{arith}
use lib.ListN.{length, get_or}
use Rattle.std.specs.Prelude.{Err, Ok}
use Rattle.token.specs.Kind as kind
use Rattle.grammar.specs.Grammar.{flat_action}
use Rattle.grammar.specs.Machine.{Sym, Want, Factors', Terms', ThirdItem, ChannelEnd, a_rate, the_rate, the_deed}
use Rattle.grammar.specs.Follows.{next, Follows}
use Rattle.grammar.specs.Syntax.{rate_at, action_at, factors_at}
use Rattle.grammar.proofs.Follows.{join, fails, wanted}
use Rattle.grammar.proofs.Wide.{wide-factors, wide-action}
use Rattle.tree.specs.Table
use Rattle.tree.specs.Reading.{place, place_counted, Span, Made, Parsed, Extended, Tallied, Read, Counted}
use Rattle.tree.proofs.Holds.{action-interval}
use Rattle.tree.proofs.Spans.{span-token, ◌then◌, span-place, seen-later, next-at, fault-at, made_of, grown-of, fault-size, extended-as}
use Rattle.syntax.specs.Channels.{third_at, Items}
use Rattle.syntax.specs.Processes.{Spare}
use Rattle.syntax.specs.Braces.{flat_closed, flat_rated, flat_inside, flat_rest, rest_at, Rating, Inside, Done, Seconds}
use Rattle.syntax.proofs.Answers.{Continues}
use Rattle.syntax.proofs.Symbols.{wants, lacks, onward}
use Rattle.syntax.proofs.Expressions.{Factors, Terms}
use Rattle.syntax.proofs.Channels.{Thirds}
use Rattle.syntax.proofs.Deeds.{Acts, Deeds}
use Rattle.syntax.proofs.Rates.{Rate}
use Rattle.syntax.proofs.Widths.{wide-third}

-- ---- a rate and the `}`

abbrev pub Closing : List ℕ → List ℕ → List ℕ → ℕ → ℕ → Counted → Type 0
Closing ts t t' at left r = Follows ts at (a_rate ++ Want kind.close_curly ∷ []) (place_counted r) × (Tallied flat_closed (λ v. 0) (λ s v. Table.Rate s (rate_at v at)) ts t t' at (left + 1) left r × Spare at (left + 1) left r)

module _ (ts t t₁ : List ℕ) (at left : ℕ) {r : Read} (a : Rate ts t t₁ at (left + 1) r) where
  pub closed-fault : {k : ℕ} → r ≡ Err k → Closing ts t t₁ at left (Err k)
  unfolding place_counted Tallied Spare
  closed-fault {k} e = (fails ts at k a_rate _ (fault-at e a.0), (fault-size _ _ ts t t₁ at (left + 1) e a.1, tt))

  module _ {n root : ℕ} (e : r ≡ Ok (n, root)) where
    pub closed-open : (get_or ts n 0 ≡ kind.close_curly → ⊥) → Closing ts t t₁ at left (Err n)
    unfolding place_counted Tallied Spare
    closed-open q = (onward a_rate _ (next-at e a.0) (λ l. lacks ts n [] kind.close_curly l q), ((made_of e a.1).span.size, tt))

    pub closed-made : get_or ts n 0 ≡ kind.close_curly → Closing ts t t₁ at left (Ok (n + 1, root, left))
    unfolding place_counted Tallied Spare flat_closed
    closed-made q =
        let p = made_of e a.1 in (
          onward a_rate _ (next-at e a.0) (λ l. wanted ts n kind.close_curly q (omega arith)),
          (
            record {
              made = record { tree = p.tree; span = p.span then span-token kind.close_curly q (omega arith); shown = p.shown };
              counted = omega arith;
              rarer = omega (arith, p.span.onward);
            },
            (omega (arith, p.span.fewer), omega (arith, p.span.onward)),
          ),
        )

-- ---- an action that was read, and then its rate

abbrev pub Rated : List ℕ → List ℕ → List ℕ → ℕ → ℕ → Counted → Type 0
Rated ts t t' at left r = Follows ts at (the_rate ++ Want kind.close_curly ∷ []) (place_counted r) × (Rating ts t t' at left r × Spare (at + 1) (left + 1) left r)

module _ (ts t : List ℕ) (n left : ℕ) where
  pub rated-open : n ≤ length ts → (get_or ts n 0 ≡ kind.comma → ⊥) → Rated ts t t n left (Err n)
  unfolding place_counted Tallied Spare
  rated-open h q = (lacks ts n _ kind.comma h q, (refl, tt))

  pub rated-made : (t₁ : List ℕ) (r : Counted) → get_or ts n 0 ≡ kind.comma → Closing ts t t₁ (n + 1) left r → Rated ts t t₁ n left r
  unfolding place_counted Tallied Spare flat_rated
  rated-made t₁ (Ok (m, root, c)) q b = (
    wants ts n _ kind.comma q (omega arith) (λ l. b.0),
    (
      record {
        made = record { tree = b.1.0.made.tree; span = span-token kind.comma q (omega arith) then b.1.0.made.span; shown = b.1.0.made.shown };
        counted = b.1.0.counted;
        rarer = omega (arith, b.1.0.rarer);
      },
      b.1.1,
    ),
  )
  rated-made t₁ (Err k) q b = (wants ts n _ kind.comma q (omega arith) (λ l. b.0), b.1)

-- the same after an action's answer: one that failed is passed on
unfoldable pub Ended : List ℕ → List ℕ → List ℕ → Read → Counted → Type 0
Ended ts t t' (Ok (n, left)) r = Rated ts t t' n left r
Ended ts t t' (Err k) r = (r ≡ Err k) × (t' ≡ t)

pub ended-fault : (ts t : List ℕ) {read : Read} {k : ℕ} → read ≡ Err k → Ended ts t t read (Err k)
unfolding Ended
ended-fault ts t e = rw e (refl, refl)

pub ended-made : (ts t t₁ : List ℕ) {read : Read} {n left : ℕ} (r : Counted) → read ≡ Ok (n, left) → Rated ts t t₁ n left r → Ended ts t t₁ read r
unfolding Ended
ended-made ts t t₁ r e z = rw e z

-- ---- an action and its rate

-- the action was read
pub inner_made : (ts t t₁ t₂ : List ℕ) (at used n left : ℕ) (r : Counted) → Made flat_action (λ s a. Table.Action s (action_at a at)) ts t t₁ at used n left → Rating ts t₁ t₂ n left r → Spare (n + 1) (left + 1) left r → Inside ts t t₂ at used r
unfolding Inside Tallied Spare flat_inside
inner_made ts t t₁ t₂ at used n left (Ok (m, root, c)) p b s =
    let e : c ≡ left = omega (arith, b.counted) in
    let g = b.made in
    let k = span-place (wide-action p.tree) p.span in
    rw e (record {
      action = p.tree;
      rate = g.tree;
      span = p.span then g.span;
      spare = omega (arith, p.span.fewer, s.0);
      below = omega (arith, g.span.more);
      acts = seen-later (action-interval (action_at p.tree at)) g.span (omega arith) p.shown;
      rates = rw (← k) g.shown;
    })
inner_made ts t t₁ t₂ at used n left (Err k) p b s = b ∙ p.span.size

pub bracing : (x : List Sym) (ts t t₁ t₂ : List ℕ) (at used : ℕ) (read : Read) (r : Counted) → Acts x ts t t₁ at used read → Ended ts t₁ t₂ read r → Follows ts at (x ++ (the_rate ++ Want kind.close_curly ∷ [])) (place_counted r) × Inside ts t t₂ at used r
unfolding place place_counted Ended Inside Parsed
bracing x ts t t₁ t₂ at used (Ok (n, left)) r a b = (join ts at n x _ a.0 b.0, inner_made ts t t₁ t₂ at used n left r a.1 b.1.0 b.1.1)
bracing x ts t t₁ t₂ at used (Err k) r a b = rw b.0 (fails ts at k x _ a.0, ap length b.1 ∙ a.1)

-- ---- what follows a channel's second item

-- a span whose last node is not paid for, and then another
then-unpaid : {f g : List ℕ → List ℕ} {ts t t₁ t₂ : List ℕ} {at used n u m w : ℕ} → Span f ts t t₁ at used n u → Span g ts t₁ t₂ n (u + 1) m (w + 1) → Span (λ us. f (g us)) ts t t₂ at used m w
then-unpaid {f} p q =
    record {
      text = p.text ∙ ap f q.text;
      onward = omega (arith, p.onward, q.onward);
      within = q.within;
      more = omega (arith, p.more, q.more);
      fewer = omega (arith, p.fewer, q.fewer);
      kept = λ i l. q.kept i (omega (arith, p.more)) ∙ p.kept i l;
      size = q.size ∙ p.size;
    }

second-made : (ts t t₁ t₂ t₃ : List ℕ) (at first mid n left : ℕ) (read : Read) (r : Counted) → Follows ts at (ThirdItem ∷ []) (next n) → Items ts t t₁ at first mid (Ok (n, left)) → Deeds ts t₁ t₂ n left read → Ended ts t₂ t₃ read r → Follows ts at (ThirdItem ∷ the_deed ++ Want kind.close_curly ∷ []) (place_counted r) × Seconds ts t t₃ at first mid r
unfolding place place_counted Items Extended Ended Seconds Tallied
second-made ts t t₁ t₂ t₃ at first mid n left (Ok (m, root)) r f i b d = (
  join ts at n (ThirdItem ∷ []) _ f (join ts n m (ChannelEnd ∷ []) _ b.0 d.0),
  by r d.1.0 d.1.1,
)
  where
    done : Done ts t t₂ at first mid m root
    done =
        let k = span-place (wide-third i.tree) i.span in
        record {
          items = i.tree;
          deed = b.1.tree;
          span = then-unpaid i.span b.1.span;
          shown = λ l e g lo x y. rw (← k) (b.1.shown l (third_at e g i.tree at) lo (i.shown (omega (arith, b.1.span.more, b.1.span.size)) e g lo x y));
        }

    by : (r : Counted) → Rating ts t₂ t₃ m root r → Spare (m + 1) (root + 1) root r → Seconds ts t t₃ at first mid r
    by (Ok (o, top, c)) x y = record { table = t₂; comma = m; left = root; done = done; rated = x; spare = y }
    by (Err k) x y = x ∙ b.1.span.size ∙ i.span.size
second-made ts t t₁ t₂ t₃ at first mid n left (Err k) r f i b d = rw d.0 (join ts at n (ThirdItem ∷ []) _ f (fails ts n k (ChannelEnd ∷ []) _ b.0), ap length d.1 ∙ b.1 ∙ i.span.size)

module _ (ts t t₁ : List ℕ) (at first mid : ℕ) {read : Read} (a : Thirds ts t t₁ at first mid read) where
  pub second-fault : {k : ℕ} → read ≡ Err k → Follows ts at (ThirdItem ∷ the_deed ++ Want kind.close_curly ∷ []) (place_counted (Err k)) × Seconds ts t t₁ at first mid (Err k)
  unfolding place_counted Seconds Items
  second-fault {k} e = (fails ts at k (ThirdItem ∷ []) _ (fault-at e a.0), rw e at a.1)

  module _ {n left : ℕ} (e : read ≡ Ok (n, left)) where
    second-items : Items ts t t₁ at first mid (Ok (n, left))
    second-items = rw e at a.1

    pub second-done : (t₂ t₃ : List ℕ) (r : Read) (r' : Counted) → Deeds ts t₁ t₂ n left r → Ended ts t₂ t₃ r r' → Follows ts at (ThirdItem ∷ the_deed ++ Want kind.close_curly ∷ []) (place_counted r') × Seconds ts t t₃ at first mid r'
    second-done t₂ t₃ r r' = second-made ts t t₁ t₂ t₃ at first mid n left r r' (next-at e a.0) second-items

-- ---- an item after its first atom

abbrev pub Rest : List ℕ → List ℕ → List ℕ → ℕ → ℕ → Read → Type 0
Rest ts t t' at = Continues (Factors' ∷ Terms' ∷ []) flat_rest (λ x p. rest_at x p at) Table.Expr ts t t' at

module _ (ts t t₁ : List ℕ) (at left : ℕ) {r : Read} (a : Factors ts t t₁ at left r) where
  pub rest-fault : {k : ℕ} → r ≡ Err k → Rest ts t t₁ at left (Err k)
  unfolding place Extended
  rest-fault {k} e = (fails ts at k (Factors' ∷ []) _ (fault-at e a.0), rw e at a.1)

  module _ {n root : ℕ} (e : r ≡ Ok (n, root)) where
    pub rest-made : (t₂ : List ℕ) (r' : Read) → Terms ts t₁ t₂ n root r' → Rest ts t t₂ at left r'
    unfolding flat_rest rest_at
    rest-made t₂ r' b =
        let p = grown-of e a.1 in
        let k = span-place (wide-factors p.tree) p.span in (
          join ts at n (Factors' ∷ []) (Terms' ∷ []) (next-at e a.0) b.0,
          extended-as r' (λ i top g. record { tree = (p.tree, g.tree); span = p.span then g.span; shown = λ l x lo z. let room : root < length t₁ = omega (arith, g.span.more, g.span.size) in rw (← k) (g.shown l (factors_at x p.tree at) lo (p.shown room x lo z)) }) (λ z. z ∙ p.span.size) b.1,
        )
