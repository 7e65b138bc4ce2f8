-- The returns of the readers of continuations, groups, sums and bodies, over plain variables: what each answers follows from the tokens it looked at, the nodes
-- it wrote and what its callees answered. From the laws of the machine and of spans.
use mathlib.Core.Path.{◌≡◌, refl, ◌∙◌}
use mathlib.Core.List.{List, [], ◌∷◌}
use Prim.Native.Nat.{ℕ, ◌+◌}
use native.Mathlib.Omega.{arith}
use lib.ListN.{get_or}
use Rattle.std.specs.Prelude.{Err, Ok}
use Rattle.token.specs.Kind as kind
use Rattle.grammar.specs.Grammar
use Rattle.grammar.specs.Grammar.{flat_prefix, flat_cont, flat_item, flat_items, flat_choices, flat_sums, flat_body}
use Rattle.grammar.specs.Machine.{Cont', Item', Items', Choices', Sums', a_prefix, a_sum, a_body, table, rows_of, is_may, find}
use Rattle.grammar.specs.Follows.{Follows}
use Rattle.grammar.specs.Syntax
use Rattle.grammar.specs.Syntax.{wide, branch_at, branches_at, cont_at, item_at, conts_at, sum_at, sums_at, body_at, sums_prefix, sums_cont, sums_item, sums_items, sums_choices, sums_sums, sums_body}
use Rattle.grammar.proofs.Follows.{here, fails, takes, passes, sticks}
use Rattle.grammar.proofs.Wide.{wide-prefix, wide-item, wide-sum}
use Rattle.tree.specs.Node as node
use Rattle.tree.specs.Table
use Rattle.tree.specs.Table.{first_of, first_token}
use Rattle.tree.specs.Reading.{place_counted, Ready, Tallied, Counted}
use Rattle.tree.proofs.Holds.{branch-interval, branches-interval, sum-interval, cont-interval, conts-interval, sums-interval}
use Rattle.tree.proofs.Spans.{span-token, ◌then◌, Wrote, span-wrote, span-place, ready-after, ready-token, seen_one, counted-next-at, counted-fault-at, tally-of, tallied-as, counted-fault-size}
use Rattle.syntax.specs.Judged.{written_sum, count_sum}
use Rattle.syntax.specs.Processes.{ItemList, flat_call, call_at, flat_item_list, sums_item_list, item_list_at, flat_group, group_at, sums_branches, branches_from, Spare}
use Rattle.syntax.proofs.Answers.{Counts}
use Rattle.syntax.proofs.Symbols.{onward}
use Rattle.syntax.proofs.Forms.{tally-as, made_one, made-two}
use Rattle.syntax.proofs.Openings.{as-prefix, as-sum}
use Rattle.syntax.proofs.Calling.{Call}
use Rattle.syntax.proofs.Offering.{Spares, Prefix, Cont, spare_of}

-- ---- what the functions answer

abbrev pub Group : List ℕ → List ℕ → List ℕ → ℕ → ℕ → ℕ → Counted → Type 0
Group ts t t' at used c r = Follows ts (at + 1) (Item' ∷ Items' ∷ []) (place_counted r) × Tallied flat_group sums_item_list (λ s g. Table.Cont s (group_at g at c)) ts t t' at used c r

abbrev pub Items : List ℕ → List ℕ → List ℕ → ℕ → ℕ → ℕ → Counted → Type 0
Items ts t t' at used c = Counts (Item' ∷ Items' ∷ []) flat_item_list sums_item_list (λ s g. Table.Conts s (item_list_at g at c)) ts t t' at used c

abbrev pub Item : List ℕ → List ℕ → List ℕ → ℕ → ℕ → ℕ → Counted → Type 0
Item ts t t' at used c = Counts (Item' ∷ []) flat_item sums_item (λ s i. Table.Cont s (item_at i at c)) ts t t' at used c

abbrev pub Sum : List ℕ → List ℕ → List ℕ → ℕ → ℕ → ℕ → Counted → Type 0
Sum ts t t' at used c = Counts a_sum written_sum count_sum (λ s x. Table.Sum s (sum_at x.0 x.1 at c)) ts t t' at used c

abbrev pub Branches : List ℕ → List ℕ → List ℕ → ℕ → ℕ → ℕ → Counted → Type 0
Branches ts t t' at used c = Spares a_sum written_sum sums_branches (λ s x. Table.Branches s (branches_from x at c)) ts t t' at used c

abbrev pub Body : List ℕ → List ℕ → List ℕ → ℕ → ℕ → ℕ → Counted → Type 0
Body ts t t' at used c = Counts a_body flat_body sums_body (λ s b. Table.Sums s (body_at b at c)) ts t t' at used c

-- ---- a sum's first token is that of its first prefix

first-branch : (p : Grammar.Prefix) (k n : ℕ) → first_of (branch_at p k n) ≡ k
unfolding first_of branch_at
first-branch (Grammar.prefix g a r x) k n = refl

first-branches : (b : Syntax.Branch) (c : Grammar.Choices) (k n : ℕ) → first_token (branches_at b c k n) ≡ first_of b
unfolding first_token branches_at
first-branches b Grammar.no_choices k n = refl
first-branches b (Grammar.or p c) k n = refl

first-token : (x : Grammar.Prefix × Grammar.Choices) (k n : ℕ) → first_token (branches_from x k n) ≡ k
unfolding branches_from
first-token x k n = first-branches (branch_at x.0 k n) x.1 (k + wide (flat_prefix x.0)) (n + sums_prefix x.0) ∙ first-branch x.0 k n

-- ---- a continuation

module _ (ts t t' : List ℕ) (at used sums : ℕ) where
  pub cont-group : (r : Counted) → get_or ts at 0 ≡ kind.open_round → Group ts t t' at used sums r → Cont ts t t' at used sums r
  unfolding table rows_of find flat_group flat_item_list flat_cont sums_item_list sums_cont group_at item_list_at cont_at
  cont-group r e a = (
    takes ts at Cont' kind.open_round e (omega arith) refl (λ l. a.0),
    tallied-as r (λ i root m y. tally-as (λ (g : ItemList). Grammar.group g.0 g.1) (λ g s lo k x. x) (λ g us. refl) (λ g. refl) y) (λ z. z) a.1,
  )

  pub cont-call : (r : Counted) → get_or ts at 0 ≡ kind.name → Call ts t t' at used sums r → Cont ts t t' at used sums r
  unfolding table rows_of find flat_call flat_cont sums_cont call_at cont_at
  cont-call r e a = (
    takes ts at Cont' kind.name e (omega arith) refl (λ l. a.0),
    tallied-as r (λ i root m y. tally-as Grammar.call (λ g s lo k x. x) (λ g us. refl) (λ g. refl) y) (λ z. z) a.1,
  )

  module _ (g : get_or ts at 0 ≡ kind.open_round → ⊥) (n : get_or ts at 0 ≡ kind.name → ⊥) {r : Counted} (a : Prefix ts t t' at used (sums + 1) r) where
    pub cont-fault : {k : ℕ} → r ≡ Err k → Cont ts t t' at used sums (Err k)
    unfolding place_counted Tallied
    cont-fault e = (as-prefix ts at g n (counted-fault-at e a.0), counted-fault-size _ _ _ ts t t' at used (sums + 1) e a.1.0)

    pub cont-chain : {i root m : ℕ} {t₁ : List ℕ} → r ≡ Ok (i, root, m) → Wrote t' t₁ (root + 1) node.sum sums 0 at → Cont ts t t₁ at used sums (Ok (i, root + 1, m))
    unfolding place_counted Tallied flat_cont sums_cont cont_at first_token Table.Branches Table.Sum Table.Cont made_one
    cont-chain e w =
        let v = tally-of e a.1.0 in
        let p = v.made.tree in
        let spare = spare_of at used (sums + 1) e a.1.1 in (
          as-prefix ts at g n (counted-next-at e a.0),
          record {
            made = made_one v.made (Grammar.chain p) (λ us. refl) (branch-interval (branch_at p at (sums + 1))) (λ lo k h. rw (first-branch p at (sums + 1)) h) spare.0 w;
            counted = omega (arith, v.counted);
            rarer = omega (arith, spare.1);
          },
        )

-- ---- a sum

module _ (ts t t₁ : List ℕ) (at used sums : ℕ) {r : Counted} (a : Branches ts t t₁ at used (sums + 1) r) where
  pub sum-fault : {k : ℕ} → r ≡ Err k → Sum ts t t₁ at used sums (Err k)
  unfolding place_counted Tallied
  sum-fault e = (counted-fault-at e a.0, counted-fault-size _ _ _ ts t t₁ at used (sums + 1) e a.1.0)

  pub sum-node : {i root m : ℕ} {t₂ : List ℕ} → r ≡ Ok (i, root, m) → Wrote t₁ t₂ (root + 1) node.sum sums 0 at → Sum ts t t₂ at used sums (Ok (i, root + 1, m))
  unfolding place_counted Tallied count_sum sums_branches sum_at branches_from Table.Sum made_one
  sum-node e w =
      let v = tally-of e a.1.0 in
      let x = v.made.tree in
      let spare = spare_of at used (sums + 1) e a.1.1 in (
        counted-next-at e a.0,
        record {
          made = made_one v.made x (λ us. refl) (branches-interval (branches_from x at (sums + 1))) (λ lo k h. rw (first-token x at (sums + 1)) h) spare.0 w;
          counted = omega (arith, v.counted);
          rarer = omega (arith, spare.1);
        },
      )

-- ---- its prefixes

module _ (ts t t₁ : List ℕ) (at used sums : ℕ) {r : Counted} (a : Prefix ts t t₁ at used sums r) where
  pub branches-fault : {k : ℕ} → r ≡ Err k → Branches ts t t₁ at used sums (Err k)
  unfolding place_counted Tallied Spare
  branches-fault {k} e = (fails ts at k a_prefix (Choices' ∷ []) (counted-fault-at e a.0), (counted-fault-size _ _ _ ts t t₁ at used sums e a.1.0, tt))

  module _ {n left c : ℕ} (e : r ≡ Ok (n, left, c)) where
    pub branches-last : (get_or ts n 0 ≡ kind.plus → ⊥) → Branches ts t t₁ at used sums (Ok (n, left, c))
    unfolding place_counted Tallied Spare table rows_of is_may written_sum flat_choices sums_branches sums_choices branches_from branches_at Table.Branches
    branches-last q = (
      onward a_prefix (Choices' ∷ []) (counted-next-at e a.0) (λ l. passes ts n Choices' l refl (q, tt)),
      (
        tally-as (λ (p : Grammar.Prefix). (p, Grammar.no_choices)) (λ p s lo k h. h) (λ p us. refl) (λ p. omega arith) (tally-of e a.1.0),
        spare_of at used sums e a.1.1,
      ),
    )

    module _ (q : get_or ts n 0 ≡ kind.plus) where
      pub branches-ready : Ready ts at used → Ready ts (n + 1) (left + 1)
      branches-ready h = ready-token (ready-after h (tally-of e a.1.0).made.span) (omega arith)

      -- the machine up to the next prefix
      to-branch : (r' : Counted) → Follows ts (n + 1) a_sum (place_counted r') → Follows ts at a_sum (place_counted r')
      unfolding table rows_of find
      to-branch r' f = onward a_prefix (Choices' ∷ []) (counted-next-at e a.0) (λ l. takes ts n Choices' kind.plus q (omega arith) refl (λ i. f))

      module _ (t₂ : List ℕ) {r₂ : Counted} (b : Branches ts t₁ t₂ (n + 1) (left + 1) c r₂) where
        pub branches-next-fault : {k : ℕ} → r₂ ≡ Err k → Branches ts t t₂ at used sums (Err k)
        unfolding place_counted Tallied Spare
        branches-next-fault {k} d = (
          to-branch (Err k) (counted-fault-at d b.0),
          (counted-fault-size _ _ _ ts t₁ t₂ (n + 1) (left + 1) c d b.1.0 ∙ (tally-of e a.1.0).made.span.size, tt),
        )

        pub branches-next : {m right i : ℕ} {t₃ : List ℕ} → r₂ ≡ Ok (m, right, i) → Wrote t₂ t₃ (right + 1) node.choice 0 left 0 → Branches ts t t₃ at used sums (Ok (m, right + 1, i))
        unfolding place_counted Tallied Spare written_sum flat_choices sums_branches sums_choices branches_from branches_at Table.Branches made-two
        branches-next {m} {right} {i} d w =
            let v = tally-of e a.1.0 in
            let u = tally-of d b.1.0 in
            let p = v.made.tree in
            let x = u.made.tree in
            let k = span-place (wide-prefix p) v.made.span in
            let spare = spare_of at used sums e a.1.1 in (
              to-branch (Ok (m, right + 1, i)) (counted-next-at d b.0),
              (
                record {
                  made = made-two v.made u.made kind.plus (p, Grammar.or x.0 x.1) (λ us. refl) (branch-interval (branch_at p at sums)) (branches-interval (branches_from x (n + 1) c)) (λ lo j h. rw (← k, ← v.counted) h) q (omega arith) w;
                  counted = omega (arith, v.counted, u.counted);
                  rarer = omega (arith, v.rarer, u.rarer);
                },
                (omega (arith, spare.0, u.made.span.fewer), omega (arith, spare.1, u.rarer)),
              ),
            )

-- ---- a group

module _ (ts t t₁ : List ℕ) (at used sums : ℕ) (o : get_or ts at 0 ≡ kind.open_round) {r : Counted} (a : Items ts t t₁ (at + 1) used sums r) where
  pub group-fault : {k : ℕ} → r ≡ Err k → Group ts t t₁ at used sums (Err k)
  unfolding place_counted Tallied
  group-fault e = (counted-fault-at e a.0, counted-fault-size _ _ _ ts t t₁ (at + 1) used sums e a.1)

  pub group-node : {n root m : ℕ} {t₂ : List ℕ} → r ≡ Ok (n, root, m) → Wrote t₁ t₂ (root + 1) node.group at 0 0 → Group ts t t₂ at used sums (Ok (n, root + 1, m))
  unfolding place_counted Tallied flat_group group_at Table.Cont
  group-node e w =
      let v = tally-of e a.1 in
      let g = v.made in (
        counted-next-at e a.0,
        record {
          made = record { tree = g.tree; span = span-wrote w (span-token kind.open_round o (omega arith) then g.span) (omega (arith, g.span.fewer)); shown = seen_one (conts-interval (item_list_at g.tree (at + 1) sums)) w g.shown };
          counted = v.counted;
          rarer = omega (arith, v.rarer);
        },
      )

-- ---- its items

module _ (ts t t₁ : List ℕ) (at used sums : ℕ) {r : Counted} (a : Item ts t t₁ at used sums r) where
  pub items-fault : {k : ℕ} → r ≡ Err k → Items ts t t₁ at used sums (Err k)
  unfolding place_counted Tallied
  items-fault {k} e = (fails ts at k (Item' ∷ []) (Items' ∷ []) (counted-fault-at e a.0), counted-fault-size _ _ _ ts t t₁ at used sums e a.1)

  module _ {n left c : ℕ} (e : r ≡ Ok (n, left, c)) where
    pub items-close : get_or ts n 0 ≡ kind.close_round → Items ts t t₁ at used sums (Ok (n + 1, left, c))
    unfolding place_counted Tallied table rows_of find flat_item_list flat_items sums_item_list sums_items item_list_at conts_at Table.Conts
    items-close q =
        let v = tally-of e a.1 in
        let g = v.made in (
          onward (Item' ∷ []) (Items' ∷ []) (counted-next-at e a.0) (λ l. takes ts n Items' kind.close_round q (omega arith) refl (λ i. here ts (n + 1) i)),
          record {
            made = record { tree = (g.tree, Grammar.close); span = g.span then span-token kind.close_round q (omega arith); shown = g.shown };
            counted = omega (arith, v.counted);
            rarer = omega (arith, v.rarer);
          },
        )

    pub items-open : (get_or ts n 0 ≡ kind.close_round → ⊥) → (get_or ts n 0 ≡ kind.bars → ⊥) → Items ts t t₁ at used sums (Err n)
    unfolding place_counted Tallied table rows_of is_may
    items-open q x = (
      onward (Item' ∷ []) (Items' ∷ []) (counted-next-at e a.0) (λ l. sticks ts n Items' l refl (x, (q, tt))),
      (tally-of e a.1).made.span.size,
    )

    module _ (q : get_or ts n 0 ≡ kind.bars) where
      pub items-ready : Ready ts at used → Ready ts (n + 1) (left + 1)
      items-ready h = ready-token (ready-after h (tally-of e a.1).made.span) (omega arith)

      -- the machine up to the next item
      to_item : (r' : Counted) → Follows ts (n + 1) (Item' ∷ Items' ∷ []) (place_counted r') → Follows ts at (Item' ∷ Items' ∷ []) (place_counted r')
      unfolding table rows_of find
      to_item r' f = onward (Item' ∷ []) (Items' ∷ []) (counted-next-at e a.0) (λ l. takes ts n Items' kind.bars q (omega arith) refl (λ i. f))

      module _ (t₂ : List ℕ) {r₂ : Counted} (b : Items ts t₁ t₂ (n + 1) (left + 1) c r₂) where
        pub items-next-fault : {k : ℕ} → r₂ ≡ Err k → Items ts t t₂ at used sums (Err k)
        unfolding place_counted Tallied
        items-next-fault {k} d = (
          to_item (Err k) (counted-fault-at d b.0),
          counted-fault-size _ _ _ ts t₁ t₂ (n + 1) (left + 1) c d b.1 ∙ (tally-of e a.1).made.span.size,
        )

        pub items-next : {m right i : ℕ} {t₃ : List ℕ} → r₂ ≡ Ok (m, right, i) → Wrote t₂ t₃ (right + 1) node.item 0 left 0 → Items ts t t₃ at used sums (Ok (m, right + 1, i))
        unfolding place_counted Tallied flat_item_list flat_items sums_item_list sums_items item_list_at conts_at Table.Conts made-two
        items-next {m} {right} {i} d w =
            let v = tally-of e a.1 in
            let u = tally-of d b.1 in
            let p = v.made.tree in
            let x = u.made.tree in
            let k = span-place (wide-item p) v.made.span in (
              to_item (Ok (m, right + 1, i)) (counted-next-at d b.0),
              record {
                made = made-two v.made u.made kind.bars (p, Grammar.also x.0 x.1) (λ us. refl) (cont-interval (item_at p at sums)) (conts-interval (item_list_at x (n + 1) c)) (λ lo j h. rw (← k, ← v.counted) h) q (omega arith) w;
                counted = omega (arith, v.counted, u.counted);
                rarer = omega (arith, v.rarer, u.rarer);
              },
            )

-- ---- an item

module _ (ts t t' : List ℕ) (at used sums : ℕ) (r : Counted) where
  pub item-group : get_or ts at 0 ≡ kind.open_round → Group ts t t' at used sums r → Item ts t t' at used sums r
  unfolding table rows_of find flat_group flat_item_list flat_item sums_item_list sums_item group_at item_list_at item_at
  item-group e a = (
    takes ts at Item' kind.open_round e (omega arith) refl (λ l. a.0),
    tallied-as r (λ i root m y. tally-as (λ (g : ItemList). Grammar.item_group g.0 g.1) (λ g s lo k x. x) (λ g us. refl) (λ g. refl) y) (λ z. z) a.1,
  )

  pub item-call : get_or ts at 0 ≡ kind.name → Call ts t t' at used sums r → Item ts t t' at used sums r
  unfolding table rows_of find flat_call flat_item sums_item call_at item_at
  item-call e a = (
    takes ts at Item' kind.name e (omega arith) refl (λ l. a.0),
    tallied-as r (λ i root m y. tally-as Grammar.item_call (λ g s lo k x. x) (λ g us. refl) (λ g. refl) y) (λ z. z) a.1,
  )

  pub item-sum : (get_or ts at 0 ≡ kind.open_round → ⊥) → (get_or ts at 0 ≡ kind.name → ⊥) → Sum ts t t' at used sums r → Item ts t t' at used sums r
  unfolding written_sum count_sum flat_item sums_item sum_at item_at Table.Cont
  item-sum g n a = (
    as-sum ts at g n a.0,
    tallied-as r (λ i root m y. tally-as (λ (x : Grammar.Prefix × Grammar.Choices). Grammar.item_sum x.0 x.1) (λ x s lo k h. h) (λ x us. refl) (λ x. omega arith) y) (λ z. z) a.1,
  )

-- ---- a body

-- a sum before a body's
beside_of : Grammar.Prefix × Grammar.Choices → Grammar.Body → Grammar.Body
beside_of x (Grammar.body p c r) = Grammar.body x.0 x.1 (Grammar.beside p c r)

beside-text : (x : Grammar.Prefix × Grammar.Choices) (b : Grammar.Body) (us : List ℕ) → flat_body (beside_of x b) us ≡ written_sum x (kind.bars ∷ flat_body b us)
unfolding written_sum flat_body flat_sums beside_of
beside-text x (Grammar.body p c r) us = refl

beside-sums : (x : Grammar.Prefix × Grammar.Choices) (b : Grammar.Body) → sums_body (beside_of x b) ≡ count_sum x + sums_body b
unfolding count_sum sums_body sums_sums beside_of
beside-sums x (Grammar.body p c r) = omega arith

beside_at : (x : Grammar.Prefix × Grammar.Choices) (b : Grammar.Body) (k n i m : ℕ) → i ≡ k + wide (written_sum x) → m ≡ n + count_sum x → body_at (beside_of x b) k n ≡ Syntax.next_sum (sum_at x.0 x.1 k n) (body_at b (i + 1) m)
unfolding written_sum count_sum body_at sums_at beside_of
beside_at x (Grammar.body p c r) k n i m e d = let z : m ≡ n + 1 + sums_prefix x.0 + sums_choices x.1 = omega arith in rw (e, z)

module _ (ts t t₁ : List ℕ) (at used sums : ℕ) {r : Counted} (a : Sum ts t t₁ at used sums r) where
  pub body-fault : {k : ℕ} → r ≡ Err k → Body ts t t₁ at used sums (Err k)
  unfolding place_counted Tallied
  body-fault {k} e = (fails ts at k a_sum (Sums' ∷ []) (counted-fault-at e a.0), counted-fault-size _ _ _ ts t t₁ at used sums e a.1)

  module _ {n left c : ℕ} (e : r ≡ Ok (n, left, c)) where
    pub body-last : (get_or ts n 0 ≡ kind.bars → ⊥) → Body ts t t₁ at used sums (Ok (n, left, c))
    unfolding place_counted Tallied table rows_of is_may written_sum flat_body flat_sums count_sum sums_body sums_sums body_at sums_at Table.Sums
    body-last q = (
      onward a_sum (Sums' ∷ []) (counted-next-at e a.0) (λ l. passes ts n Sums' l refl (q, tt)),
      tally-as (λ (x : Grammar.Prefix × Grammar.Choices). Grammar.body x.0 x.1 Grammar.no_sums) (λ x s lo k h. h) (λ x us. refl) (λ x. omega arith) (tally-of e a.1),
    )

    module _ (q : get_or ts n 0 ≡ kind.bars) where
      pub body-ready : Ready ts at used → Ready ts (n + 1) (left + 1)
      body-ready h = ready-token (ready-after h (tally-of e a.1).made.span) (omega arith)

      -- the machine up to the next sum
      to-sum : (r' : Counted) → Follows ts (n + 1) a_body (place_counted r') → Follows ts at a_body (place_counted r')
      unfolding table rows_of find
      to-sum r' f = onward a_sum (Sums' ∷ []) (counted-next-at e a.0) (λ l. takes ts n Sums' kind.bars q (omega arith) refl (λ i. f))

      module _ (t₂ : List ℕ) {r₂ : Counted} (b : Body ts t₁ t₂ (n + 1) (left + 1) c r₂) where
        pub body-next-fault : {k : ℕ} → r₂ ≡ Err k → Body ts t t₂ at used sums (Err k)
        unfolding place_counted Tallied
        body-next-fault {k} d = (
          to-sum (Err k) (counted-fault-at d b.0),
          counted-fault-size _ _ _ ts t₁ t₂ (n + 1) (left + 1) c d b.1 ∙ (tally-of e a.1).made.span.size,
        )

        pub body-next : {m right i : ℕ} {t₃ : List ℕ} → r₂ ≡ Ok (m, right, i) → Wrote t₂ t₃ (right + 1) node.beside 0 left 0 → Body ts t t₃ at used sums (Ok (m, right + 1, i))
        unfolding place_counted Tallied written_sum Table.Sums made-two
        body-next {m} {right} {i} {t₃} d w =
            let v = tally-of e a.1 in
            let u = tally-of d b.1 in
            let x = v.made.tree in
            let z = u.made.tree in
            let same = beside_at x z at sums n c (span-place (wide-sum x.0 x.1) v.made.span) v.counted in (
              to-sum (Ok (m, right + 1, i)) (counted-next-at d b.0),
              record {
                made = made-two v.made u.made kind.bars (beside_of x z) (beside-text x z) (sum-interval (sum_at x.0 x.1 at sums)) (sums-interval (body_at z (n + 1) c)) (λ lo j h. rw same h) q (omega arith) w;
                counted = omega (arith, v.counted, u.counted, beside-sums x z);
                rarer = omega (arith, v.rarer, u.rarer);
              },
            )
