-- The returns of the readers of guarded prefixes, over plain variables: what each answers follows from the tokens it looked at, the nodes it wrote and what its
-- callees answered. From the laws of the machine and of spans.
use mathlib.Core.Path.{◌≡◌, refl, ◌∙◌}
use mathlib.Core.List.{List, [], ◌∷◌}
use Prim.Native.Nat.{ℕ, ◌+◌, ◌≤◌, ◌<◌}
use native.Mathlib.Omega.{arith}
use lib.ListN.{length, get_or}
use Rattle.std.specs.Prelude.{Err, Ok}
use Rattle.token.specs.Kind as kind
use Rattle.grammar.specs.Grammar
use Rattle.grammar.specs.Grammar.{flat_cond, flat_rate, flat_action, flat_gate, flat_prefix, flat_next, flat_cont}
use Rattle.grammar.specs.Machine.{Sym, Want, Gate', Braced, Next', Cont', a_cond, in_braces, a_prefix, table, rows_of, is_may, find}
use Rattle.grammar.specs.Follows.{Follows}
use Rattle.grammar.specs.Syntax.{wide, cond_at, rate_at, action_at, gate_at, branch_at, next_at, cont_at, sums_prefix, sums_next, sums_cont}
use Rattle.grammar.proofs.Follows.{fails, takes, passes}
use Rattle.grammar.proofs.Wide.{wide-cond, wide-gate}
use Rattle.tree.specs.Node as node
use Rattle.tree.specs.Table
use Rattle.tree.specs.Reading.{place_counted, Ready, Tallied, Read, Counted}
use Rattle.tree.proofs.Holds.{cond-interval, rate-interval, action-interval, branch-interval, cont-interval}
use Rattle.tree.proofs.Spans.{span-token, ◌then◌, Wrote, span-wrote, span-place, ready-after, ready-token, seen-later, seen-two, seen-three, next-at, fault-at, counted-next-at, counted-fault-at, made_of, tally-of, tallied-as, fault-size, counted-fault-size}
use Rattle.syntax.specs.Braces.{flat_closed, flat_rated, flat_inside, Inner, Inside}
use Rattle.syntax.specs.Processes.{Offer, flat_offer, sums_offer, offer_at, Spare}
use Rattle.syntax.proofs.Answers.{Answers, Counts}
use Rattle.syntax.proofs.Symbols.{wants, lacks, taken, past, onward}
use Rattle.syntax.proofs.Forms.{span-ends, tally-as}
use Rattle.syntax.proofs.Lone.{Bracing}
use Rattle.syntax.proofs.Widths.{wide-inside}

-- the three promises of a function that reads the symbols x as a tree and counts, and has a token to spare
abbrev pub Spares : {T : Type 0} → List Sym → (T → List ℕ → List ℕ) → (T → ℕ) → (List ℕ → T → ℕ → ℕ → Type 0) → List ℕ → List ℕ → List ℕ → ℕ → ℕ → ℕ → Counted → Type 0
Spares x flat count holds ts t t' at used c r = Follows ts at x (place_counted r) × (Tallied flat count holds ts t t' at used c r × Spare at used c r)

pub spare_of : (at used c : ℕ) {n root m : ℕ} {r : Counted} → r ≡ Ok (n, root, m) → Spare at used c r → (root + 1 + at < used + n) × (m + at < c + n)
unfolding Spare
spare_of at used c e s = rw e at s

-- ---- what the functions answer

abbrev pub Cond : List ℕ → List ℕ → List ℕ → ℕ → ℕ → Read → Type 0
Cond ts t t' at = Answers a_cond flat_cond (λ s c. Table.Cond s (cond_at c at)) ts t t' at

abbrev pub Cont : List ℕ → List ℕ → List ℕ → ℕ → ℕ → ℕ → Counted → Type 0
Cont ts t t' at used c = Counts (Cont' ∷ []) flat_cont sums_cont (λ s x. Table.Cont s (cont_at x at c)) ts t t' at used c

abbrev pub Offers : ℕ → List ℕ → List ℕ → List ℕ → ℕ → ℕ → ℕ → Counted → Type 0
Offers first ts t t' at used c = Spares (Want kind.open_curly ∷ in_braces) flat_offer sums_offer (λ s o. Table.Branch s (offer_at first o at c)) ts t t' at used c

abbrev pub Prefix : List ℕ → List ℕ → List ℕ → ℕ → ℕ → ℕ → Counted → Type 0
Prefix ts t t' at used c = Spares a_prefix flat_prefix sums_prefix (λ s p. Table.Branch s (branch_at p at c)) ts t t' at used c

-- ---- braces, and what follows them

module _ (ts t : List ℕ) (at used sums first : ℕ) where
  pub offer-stray : at ≤ length ts → (get_or ts at 0 ≡ kind.open_curly → ⊥) → Offers first ts t t at used sums (Err at)
  unfolding place_counted Tallied Spare
  offer-stray h n = (lacks ts at in_braces kind.open_curly h n, (refl, tt))

  module _ (o : get_or ts at 0 ≡ kind.open_curly) (t₁ : List ℕ) {r : Counted} (a : Bracing ts t t₁ (at + 1) used r) where
    pub offer-fault : {k : ℕ} → r ≡ Err k → Offers first ts t t₁ at used sums (Err k)
    unfolding place_counted Tallied Spare Inside
    offer-fault {k} e = (
      wants ts at in_braces kind.open_curly o (omega arith) (λ l. fails ts (at + 1) k (Braced ∷ Want kind.close_curly ∷ []) (Next' ∷ []) (counted-fault-at e a.0)),
      (rw e at a.1, tt),
    )

    module _ {n middle left : ℕ} (e : r ≡ Ok (n, middle, left)) where
      pub offer-inner : Inner ts t t₁ (at + 1) used n middle left
      unfolding Inside
      offer-inner = rw e at a.1

      pub offer-ready : Ready ts at used → Ready ts n (middle + 1)
      offer-ready h = ready-after (ready-token h (omega arith)) offer-inner.span

      -- the machine up to what follows
      to-next : (r' : Counted) → (n ≤ length ts → Follows ts n (Next' ∷ []) (place_counted r')) → Follows ts at (Want kind.open_curly ∷ in_braces) (place_counted r')
      to-next r' f = wants ts at in_braces kind.open_curly o (omega arith) (λ l. onward (Braced ∷ Want kind.close_curly ∷ []) (Next' ∷ []) (counted-next-at e a.0) f)

      pub offer-stop : {t₃ : List ℕ} → (get_or ts n 0 ≡ kind.point → ⊥) → Wrote t₁ t₃ (middle + 1) node.stop first left 0 → Offers first ts t t₃ at used sums (Ok (n, middle + 1, sums))
      unfolding place_counted Tallied Spare table rows_of is_may flat_inside flat_rated flat_closed flat_offer flat_next sums_offer sums_next offer_at next_at Table.Branch Table.Offer
      offer-stop {t₃} x w =
          let i = offer-inner in
          let parts = span-token kind.open_curly o (omega arith) then i.span in
          let spare : middle + 1 + 1 + at < used + n = omega (arith, i.spare) in (
            to-next (Ok (n, middle + 1, sums)) (λ l. passes ts n Next' l refl (x, tt)),
            (
              record {
                made =
                    record {
                      tree = (i.action, i.rate, Grammar.stop);
                      span = span-wrote w parts (omega arith);
                      shown = λ l. seen-two (action-interval (action_at i.action (at + 1))) (rate-interval (rate_at i.rate (at + 1 + wide (flat_action i.action) + 1))) w i.acts i.rates l;
                    };
                counted = omega arith;
                rarer = omega (arith, i.span.onward);
              },
              (spare, omega (arith, i.span.onward)),
            ),
          )

      module _ (x : get_or ts n 0 ≡ kind.point) where
        pub offer-ready-cont : Ready ts at used → Ready ts (n + 1) (middle + 1)
        offer-ready-cont h = ready-token (offer-ready h) (omega arith)

        -- the machine up to the continuation
        to-cont : (r' : Counted) → Follows ts (n + 1) (Cont' ∷ []) (place_counted r') → Follows ts at (Want kind.open_curly ∷ in_braces) (place_counted r')
        unfolding table rows_of find
        to-cont r' f = to-next r' (λ l. takes ts n Next' kind.point x (omega arith) refl (λ i. f))

        module _ (t₃ : List ℕ) {r₃ : Counted} (y : Cont ts t₁ t₃ (n + 1) (middle + 1) sums r₃) where
          pub offer-cont-fault : {k : ℕ} → r₃ ≡ Err k → Offers first ts t t₃ at used sums (Err k)
          unfolding place_counted Tallied Spare
          offer-cont-fault {k} z = (
            to-cont (Err k) (counted-fault-at z y.0),
            (counted-fault-size _ _ _ ts t₁ t₃ (n + 1) (middle + 1) sums z y.1 ∙ offer-inner.span.size, tt),
          )

          pub offer-dot : {i root c : ℕ} {t₄ : List ℕ} → r₃ ≡ Ok (i, root, c) → Wrote t₃ t₄ (root + 1) node.dot first left middle → Offers first ts t t₄ at used sums (Ok (i, root + 1, c))
          unfolding place_counted Tallied Spare flat_inside flat_rated flat_closed flat_offer flat_next sums_offer sums_next offer_at next_at Table.Branch Table.Offer
          offer-dot {i} {root} {c} {t₄} z w =
              let p = offer-inner in
              let v = tally-of z y.1 in
              let g = v.made in
              let b = at + 1 + wide (flat_action p.action) + 1 in
              let l : n ≡ b + wide (flat_rate p.rate) + 1 = omega (arith, span-ends (wide-inside p.action p.rate) p.span) in
              let sign = span-token kind.point x (omega arith) in
              let parts = span-token kind.open_curly o (omega arith) then p.span then sign then g.span in
              let spare : root + 1 + 1 + at < used + i = omega (arith, p.spare, g.span.fewer) in (
                to-cont (Ok (i, root + 1, c)) (counted-next-at z y.0),
                (
                  record {
                    made =
                        record {
                          tree = (p.action, p.rate, Grammar.dot g.tree);
                          span = span-wrote w parts (omega arith);
                          shown = λ h.
                              rw (← l)
                              (seen-three (action-interval (action_at p.action (at + 1))) (rate-interval (rate_at p.rate b)) (cont-interval (cont_at g.tree (n + 1) sums)) w (seen-later (action-interval (action_at p.action (at + 1))) (sign then g.span) (omega (arith, p.below)) p.acts) (seen-later (rate-interval (rate_at p.rate b)) (sign then g.span) (omega arith) p.rates) g.shown h);
                        };
                    counted = v.counted;
                    rarer = omega (arith, p.span.onward, v.rarer);
                  },
                  (spare, omega (arith, p.span.onward, v.rarer)),
                ),
              )

-- ---- a gate

-- what is left of a prefix after its condition
abbrev gated : List Sym
gated = Want kind.close_square ∷ Want kind.arrow ∷ Want kind.open_curly ∷ in_braces

module _ (ts t t₁ : List ℕ) (at used sums : ℕ) (o : get_or ts at 0 ≡ kind.open_square) {r : Read} (a : Cond ts t t₁ (at + 1) used r) where
  pub gated-fault : {k : ℕ} → r ≡ Err k → Prefix ts t t₁ at used sums (Err k)
  unfolding place_counted Tallied Spare table rows_of find
  gated-fault {k} e = (
    taken ts at (Want kind.open_curly ∷ in_braces) Gate' kind.open_square o (omega arith) refl (λ l. fails ts (at + 1) k a_cond gated (fault-at e a.0)),
    (fault-size _ _ ts t t₁ (at + 1) used e a.1, tt),
  )

  module _ {n left : ℕ} (e : r ≡ Ok (n, left)) where
    -- the machine up to the end of the condition
    to_end : (r' : Counted) → (n ≤ length ts → Follows ts n gated (place_counted r')) → Follows ts at a_prefix (place_counted r')
    unfolding table rows_of find
    to_end r' f = taken ts at (Want kind.open_curly ∷ in_braces) Gate' kind.open_square o (omega arith) refl (λ l. onward a_cond gated (next-at e a.0) f)

    pub gated-open : (get_or ts n 0 ≡ kind.close_square → ⊥) → Prefix ts t t₁ at used sums (Err n)
    unfolding place_counted Tallied Spare
    gated-open q = (to_end (Err n) (λ l. lacks ts n _ kind.close_square l q), ((made_of e a.1).span.size, tt))

    module _ (q : get_or ts n 0 ≡ kind.close_square) where
      pub gated-stray : (get_or ts (n + 1) 0 ≡ kind.arrow → ⊥) → Prefix ts t t₁ at used sums (Err (n + 1))
      unfolding place_counted Tallied Spare
      gated-stray x = (to_end (Err (n + 1)) (λ l. wants ts n _ kind.close_square q (omega arith) (λ i. lacks ts (n + 1) _ kind.arrow i x)), ((made_of e a.1).span.size, tt))

      module _ (x : get_or ts (n + 1) 0 ≡ kind.arrow) where
        pub gated-ready : Ready ts at used → Ready ts (n + 1 + 1) (left + 1)
        gated-ready h = ready-token (ready-token (ready-after (ready-token h (omega arith)) (made_of e a.1).span) (omega arith)) (omega arith)

        -- the machine up to the braces
        to-braces : (r' : Counted) → Follows ts (n + 1 + 1) (Want kind.open_curly ∷ in_braces) (place_counted r') → Follows ts at a_prefix (place_counted r')
        to-braces r' f = to_end r' (λ l. wants ts n _ kind.close_square q (omega arith) (λ i. wants ts (n + 1) _ kind.arrow x (omega arith) (λ j. f)))

        module _ (t₂ : List ℕ) {r₂ : Counted} (b : Offers at ts t₁ t₂ (n + 1 + 1) (left + 1) sums r₂) where
          pub gated-offer-fault : {k : ℕ} → r₂ ≡ Err k → Prefix ts t t₂ at used sums (Err k)
          unfolding place_counted Tallied Spare
          gated-offer-fault {k} d = (
            to-braces (Err k) (counted-fault-at d b.0),
            (counted-fault-size _ _ _ ts t₁ t₂ (n + 1 + 1) (left + 1) sums d b.1.0 ∙ (made_of e a.1).span.size, tt),
          )

          pub gated-node : {m root c : ℕ} {t₃ : List ℕ} → r₂ ≡ Ok (m, root, c) → Wrote t₂ t₃ (root + 1) node.gate at left 0 → Prefix ts t t₃ at used sums (Ok (m, root + 1, c))
          unfolding place_counted Tallied Spare flat_gate flat_prefix flat_offer sums_prefix sums_offer gate_at branch_at offer_at Table.Branch Table.Offer
          gated-node {m} {root} {c} {t₃} d w =
              let p = made_of e a.1 in
              let v = tally-of d b.1.0 in
              let g = v.made in
              let z = Grammar.prefix (Grammar.gate p.tree) g.tree.0 g.tree.1 g.tree.2 in
              let spare = spare_of (n + 1 + 1) (left + 1) sums d b.1.1 in
              let k : n + 1 + 1 ≡ at + wide (flat_gate (Grammar.gate p.tree)) = omega (arith, span-place (wide-cond p.tree) p.span, (wide-gate (Grammar.gate p.tree)).width) in
              let signs = span-token kind.close_square q (omega arith) then span-token kind.arrow x (omega arith) in
              let parts = span-token kind.open_square o (omega arith) then p.span then signs then g.span in (
                to-braces (Ok (m, root + 1, c)) (counted-next-at d b.0),
                (
                  record {
                    made =
                        record {
                          tree = z;
                          span = span-wrote w parts (omega (arith, p.span.fewer, spare.0));
                          shown = λ h.
                              rw (← k)
                              (seen-two (cond-interval (cond_at p.tree (at + 1))) (branch-interval (offer_at at g.tree (n + 1 + 1) sums)) w (seen-later (cond-interval (cond_at p.tree (at + 1))) (signs then g.span) (omega arith) p.shown) g.shown h);
                        };
                    counted = v.counted;
                    rarer = omega (arith, p.span.onward, v.rarer);
                  },
                  (omega (arith, p.span.fewer, spare.0), omega (arith, p.span.onward, spare.1)),
                ),
              )

-- ---- a prefix

-- without a gate
abbrev ungated : Offer → Grammar.Prefix
ungated o = Grammar.prefix Grammar.no_gate o.0 o.1 o.2

ungated-at : (o : Offer) (at sums : ℕ) → branch_at (ungated o) at sums ≡ offer_at at o at sums
unfolding wide flat_gate gate_at branch_at offer_at
ungated-at o at sums = let e : at + 0 ≡ at = omega arith in rw e

pub prefix-ungated : (ts t t' : List ℕ) (at used sums : ℕ) (r : Counted) → at ≤ length ts → (get_or ts at 0 ≡ kind.open_square → ⊥) → Offers at ts t t' at used sums r → Prefix ts t t' at used sums r
unfolding table rows_of is_may flat_gate flat_prefix flat_offer sums_prefix sums_offer
prefix-ungated ts t t' at used sums r h n a = (
  past ts at (Want kind.open_curly ∷ in_braces) Gate' h refl (n, tt) a.0,
  (
    tallied-as r (λ i root m y. tally-as ungated (λ o s lo k x. rw (ungated-at o at sums) x) (λ o us. refl) (λ o. refl) y) (λ z. z) a.1.0,
    a.1.1,
  ),
)
