-- A row that passes its test is the numbers of the process or pair that it decodes to, which fits; and the other way round. By cases of the row's numbers.
use mathlib.Core.Path.{◌≡◌, refl, sym, ap, ap₂, ◌∙◌}
use mathlib.Core.Bool.{Bool, true, false, cond, ◌&&◌}
use mathlib.Core.List.{List, [], ◌∷◌, ◌++◌}
use mathlib.Core.Option.{some}
use Prim.Native.Nat.{ℕ, zero, suc, ◌+◌, ◌≤◌, ◌<◌}
use native.Mathlib.Omega.{arith}
use borrow.Author.Tests.{lt-ltb, eq-eqb, ne_eqb}
use lib.IntN.{ℤ, pos, negsuc, nat_abs}
use lib.ListN.{length, get_or, get_elem?, take, drop, length-append}
use lib.Seq.{length-take-le, take-take, take-suc, take_all, take_at, take-append-le, get_or-append-add}
use native.Mathlib.Nat.{add-zero}
use Rattle.model.specs.Limits.{local_limit}
use Rattle.value.specs.Arithmetic.{is_same}
use Rattle.value.specs.Range.{InRange}
use Rattle.value.specs.Items.{one_item, two_items, three_items}
use Rattle.value.proofs.Kit.{false-not-true, same-eq}
use Rattle.rules.specs.Offers as offers
use Rattle.rules.specs.Pairs.{item_kind, item_value, item_numbers, no_item, channel_numbers, numbers}
use Rattle.rules.proofs.Channels.{channel-length}
use Rattle.model.specs.Good.{Every, OneOrTwo}
use Rattle.model.specs.Scope.{locals_in, definition_in}
use Rattle.model.proofs.Scope.{no-locals}
use Rattle.machine.specs.Offer.{Process}
use Rattle.machine.specs.State.{padded, process_numbers, pair_numbers, channel_width, pair_width, process_width}
use Rattle.machine.proofs.Everys.{every_get}
use Rattle.state.specs.Fits.{FewLocals, FitsItem, FitsChannel, FitsPair, FitsProcess}
use Rattle.state.specs.Test.{at, every, is_value, is_zero, is_below, is_padded, is_process, is_count, is_item, is_item_of, is_channel, is_pair}
use Rattle.state.specs.Decode.{process_of, item_of, channel_of, pair_of}
use Rattle.state.proofs.Tests.{both, below-natural, below-bound, count-below}
use Rattle.state.proofs.Rows.{values-say, padded-length, padded-back, padded-front, padded-after, padded-more, padded-passes}

-- ---- members of a list by their places
pub get-below : {A : Type 0} (xs : List A) (n : ℕ) (d : A) → n < length xs → get_elem? xs n ≡ some (get_or xs n d)
get-below [] n d l = absurd (omega arith)
get-below (x ∷ xs) zero d l = refl
get-below (x ∷ xs) (suc n) d l = get-below xs n d (omega arith)

pub get-is : {A : Type 0} (xs : List A) (n : ℕ) (d x : A) → get_elem? xs n ≡ some x → (n < length xs) × (get_or xs n d ≡ x)
get-is [] n d x e = let z : ◌≡◌ {A = ℕ} 0 1 = cc in absurd (omega arith)
get-is (y ∷ xs) zero d x e = (omega arith, cc)
get-is (y ∷ xs) (suc n) d x e = let r = get-is xs n d x e in (omega (arith, r.0), r.1)

-- ---- padding
padded-says : (k : ℕ) (l : List ℤ) → is_padded k l ≡ true → Every InRange (take k l)
unfolding is_padded
padded-says k l e = values-say (take k l) (both _ _ e).0

padded-is : (n k : ℕ) (l : List ℤ) → length l ≡ n → k ≤ n → is_padded k l ≡ true → padded n (take k l) ≡ l
unfolding is_padded
padded-is n k l e h p = padded-back n k l e h (both (every is_value (take k l)) _ p).1

-- ---- processes

-- the numbers after a process's first: its locals, padded, and its definition
module _ (ls : List ℤ) (d : ℤ) (few : length ls ≤ local_limit) where
  all-locals : length (padded local_limit ls) ≡ local_limit
  all-locals = padded-length local_limit ls few

  locals-first : take local_limit (padded local_limit ls ++ d ∷ []) ≡ padded local_limit ls
  locals-first = take_at (padded local_limit ls) (d ∷ []) local_limit all-locals

  definition-last : at (padded local_limit ls ++ d ∷ []) local_limit ≡ d
  definition-last = ap (at (padded local_limit ls ++ d ∷ [])) (sym all-locals ∙ sym (add-zero (length (padded local_limit ls)))) ∙ get_or-append-add (padded local_limit ls) (d ∷ []) 0 (pos 0)

make-process : ℕ → List ℤ → ℕ → Process
make-process n ls d = record { sum = n; locals = ls; definition = d }

module _ (scopes : List ℕ) (few : FewLocals scopes) where
  few-at : (n : ℕ) → locals_in (get_or scopes n 0) ≤ local_limit
  few-at n = every_get (λ (k : ℕ). locals_in k ≤ local_limit) 0 no-locals scopes n few

  pub process-row : (r : List ℤ) → length r ≡ process_width → is_process scopes r ≡ true → FitsProcess scopes (process_of scopes r) × (process_numbers (process_of scopes r) ≡ r)
  unfolding is_process process_of process_numbers
  process-row [] l e = absurd (omega arith)
  process-row (z ∷ ls) l e =
      let b = both _ _ e in
      let n : ℕ = nat_abs z in
      let c : ℕ = get_or scopes n 0 in
      let k : ℕ = locals_in c in
      let p = both (is_padded k (take local_limit ls)) _ b.1 in
      let i : k ≤ local_limit = few-at n in
      let j : length (take k ls) ≡ k = length-take-le k ls (omega arith) in
      let f : length (take local_limit ls) ≡ local_limit = length-take-le local_limit ls (omega arith) in
      let t : take k (take local_limit ls) ≡ take k ls = take-take k local_limit ls i in
      let v : at ls local_limit ≡ pos (definition_in c) = same-eq (at ls local_limit) (pos (definition_in c)) p.1 in
      let g : get_elem? scopes n ≡ some c = get-below scopes n 0 (below-bound (length scopes) z b.0) in
      let u : padded local_limit (take k ls) ≡ take local_limit ls = ap (padded local_limit) (sym t) ∙ padded-is local_limit k (take local_limit ls) f i p.0 in
      let q : pos (nat_abs (at ls local_limit)) ≡ at ls local_limit = ap (λ (y : ℤ). pos (nat_abs y)) v ∙ sym v in (
        record { scope = c; sum = g; locals = sym j; definition = sym (ap nat_abs v); values = rw t at (padded-says k (take local_limit ls) p.0) },
        ap₂ (λ (y : ℤ) (ys : List ℤ). y ∷ ys) (sym (below-natural (length scopes) z b.0))
            (ap₂ (λ (ys : List ℤ) (y : ℤ). ys ++ y ∷ []) u q ∙ sym (take-suc ls local_limit (pos 0) (omega arith)) ∙ take_all (1 + local_limit) ls (omega arith)),
      )

  -- a process that fits has at most 8 locals
  pub few-of-process : (p : Process) → FitsProcess scopes p → length p.locals ≤ local_limit
  few-of-process p f =
      let g = get-is scopes p.sum 0 f.scope f.sum in
      omega (arith, ap locals_in g.1, f.locals, few-at p.sum)

  pub row-process : (p : Process) → FitsProcess scopes p → is_process scopes (process_numbers p) ≡ true
  unfolding is_process process_numbers is_below
  row-process p f =
      let g = get-is scopes p.sum 0 f.scope f.sum in
      let h = few-of-process p f in
      rw (
        lt-ltb p.sum (length scopes) g.0,
        g.1,
        f.locals,
        locals-first p.locals (pos p.definition) h,
        padded-passes local_limit p.locals f.values,
        definition-last p.locals (pos p.definition) h,
        f.definition,
        eq-eqb p.definition p.definition refl,
      )

  pub process-back : (p : Process) → FitsProcess scopes p → process_of scopes (process_numbers p) ≡ p
  unfolding process_of process_numbers make-process
  process-back p f =
      let g = get-is scopes p.sum 0 f.scope f.sum in
      let h = few-of-process p f in
      ap₂ (make-process p.sum)
      (ap (λ (k : ℕ). take k (padded local_limit p.locals ++ pos p.definition ∷ [])) (ap locals_in g.1 ∙ f.locals)
      ∙ take-append-le (length p.locals) (padded local_limit p.locals) (pos p.definition ∷ []) (omega (arith, all-locals p.locals (pos p.definition) h))
      ∙ padded-front local_limit p.locals)
      (ap nat_abs (definition-last p.locals (pos p.definition) h))

  pub process-wide : (p : Process) → FitsProcess scopes p → length (process_numbers p) ≡ process_width
  unfolding process_numbers
  process-wide p f =
      let h = few-of-process p f in
      omega (arith, all-locals p.locals (pos p.definition) h, length-append (padded local_limit p.locals) (pos p.definition ∷ []))

-- ---- channels
item-row : (channels : ℕ) (k z : ℤ) → is_item channels k z ≡ true → FitsItem channels (item_of k z) × ((l : List ℤ) → item_numbers (item_of k z) l ≡ k ∷ z ∷ l)
unfolding is_item item_of FitsItem item_numbers item_kind item_value is_value
item-row channels k z e = go (is_same k (pos 0)) refl e
  where
    go : (t : Bool) → is_same k (pos 0) ≡ t → cond t (is_value z) (is_same k (pos 1) && is_below channels z) ≡ true
        → let a = cond t (offers.number z) (offers.named (nat_abs z)) in FitsItem channels a × ((l : List ℤ) → item_numbers a l ≡ k ∷ z ∷ l)
    go true s e = let b = both _ _ e in (record { low = b.0; high = b.1 }, λ l. ap (λ (y : ℤ). y ∷ z ∷ l) (sym (same-eq k (pos 0) s)))
    go false s e =
        let b = both _ _ e in
        (below-bound channels z b.1, λ l. ap₂ (λ (y x : ℤ). y ∷ x ∷ l) (sym (same-eq k (pos 1) b.0)) (sym (below-natural channels z b.1)))

-- an item that is not there
unused-row : (k z : ℤ) (l : List ℤ) → is_zero k && is_zero z ≡ true → no_item l ≡ k ∷ z ∷ l
unfolding is_zero
unused-row k z l e =
    let b = both _ _ e in
    ap₂ (λ (y x : ℤ). y ∷ x ∷ l) (sym (same-eq k (pos 0) b.0)) (sym (same-eq z (pos 0) b.1))

-- the numbers of a channel, and the rest of a row
channel-row : (channels : ℕ) (n a x b y c z : ℤ) (l : List ℤ) → let row = n ∷ a ∷ x ∷ b ∷ y ∷ c ∷ z ∷ l in is_channel channels row ≡ true
    → FitsChannel channels (channel_of row) × (channel_numbers (channel_of row) l ≡ row)
unfolding is_channel is_count is_zero is_below is_item_of channel_of FitsChannel channel_numbers
channel-row channels n a x b y c z l e = let p = both (is_count 4 n) _ e in go n p.0 (both (is_item_of channels n (pos 0) a x) _ p.1)
  where
    go : (n : ℤ) → is_count 4 n ≡ true → (is_item_of channels n (pos 0) a x ≡ true) × (is_item_of channels n (pos 1) b y && is_item_of channels n (pos 2) c z ≡ true)
        → let row = n ∷ a ∷ x ∷ b ∷ y ∷ c ∷ z ∷ l in FitsChannel channels (channel_of row) × (channel_numbers (channel_of row) l ≡ row)
    go (pos zero) k h = false-not-true k
    go (pos (suc zero)) k h =
        let i = item-row channels a x h.0 in
        let r = both (is_zero b && is_zero y) _ h.1 in
        (i.0, ap (λ (u : List ℤ). pos 1 ∷ u) (i.1 (no_item (no_item l)) ∙ ap (λ (u : List ℤ). a ∷ x ∷ u) (unused-row b y (no_item l) r.0 ∙ ap (λ (u : List ℤ). b ∷ y ∷ u) (unused-row c z l r.1))))
    go (pos (suc (suc zero))) k h =
        let i = item-row channels a x h.0 in
        let r = both (is_item channels b y) _ h.1 in
        let j = item-row channels b y r.0 in (
          (i.0, j.0),
          ap (λ (u : List ℤ). pos 2 ∷ u) (i.1 (item_numbers (item_of b y) (no_item l)) ∙ ap (λ (u : List ℤ). a ∷ x ∷ u) (j.1 (no_item l) ∙ ap (λ (u : List ℤ). b ∷ y ∷ u) (unused-row c z l r.1))),
        )
    go (pos (suc (suc (suc zero)))) k h =
        let i = item-row channels a x h.0 in
        let r = both (is_item channels b y) _ h.1 in
        let j = item-row channels b y r.0 in
        let m = item-row channels c z r.1 in (
          (i.0, j.0, m.0),
          ap (λ (u : List ℤ). pos 3 ∷ u) (i.1 (item_numbers (item_of b y) (item_numbers (item_of c z) l)) ∙ ap (λ (u : List ℤ). a ∷ x ∷ u) (j.1 (item_numbers (item_of c z) l) ∙ ap (λ (u : List ℤ). b ∷ y ∷ u) (m.1 l))),
        )
    go (pos (suc (suc (suc (suc n))))) k h = absurd (omega (arith, below-bound 4 (pos (suc (suc (suc (suc n))))) (count-below 4 (pos (suc (suc (suc (suc n))))) k)))
    go (negsuc n) k h = false-not-true (count-below 4 (negsuc n) k)

-- what stands after a channel's numbers
pub after-channel : (c : offers.Channel) (k : ℤ) (l : List ℤ) → (at (channel_numbers c (k ∷ l)) channel_width ≡ k) × (drop (channel_width + 1) (channel_numbers c (k ∷ l)) ≡ l)
unfolding channel_numbers item_numbers
after-channel (one_item a) k l = (refl, refl)
after-channel (two_items a b) k l = (refl, refl)
after-channel (three_items a b c) k l = (refl, refl)

-- ---- pairs
-- the numbers of a pair: channel, count, padded values
pub pair-shape : (x : offers.Pair) → pair_numbers x ≡ channel_numbers x.channel (pos (length x.values) ∷ padded 2 x.values)
unfolding pair_numbers numbers channel_numbers item_numbers
pair-shape x = go x.channel
  where
    v : List ℤ
    v = pos (length x.values) ∷ x.values

    go : (c : offers.Channel) → padded pair_width (channel_numbers c (pos (length x.values) ∷ x.values)) ≡ channel_numbers c (pos (length x.values) ∷ padded 2 x.values)
    go (one_item a) = padded-after pair_width 3 (channel_numbers (one_item a) []) v (omega arith) ∙ ap (λ (l : List ℤ). channel_numbers (one_item a) l) (padded-more 2 _ _)
    go (two_items a b) = padded-after pair_width 3 (channel_numbers (two_items a b) []) v (omega arith) ∙ ap (λ (l : List ℤ). channel_numbers (two_items a b) l) (padded-more 2 _ _)
    go (three_items a b c) = padded-after pair_width 3 (channel_numbers (three_items a b c) []) v (omega arith) ∙ ap (λ (l : List ℤ). channel_numbers (three_items a b c) l) (padded-more 2 _ _)

one-or-two : (z : ℤ) → is_count 3 z ≡ true → (1 ≤ nat_abs z) × (nat_abs z ≤ 2)
unfolding is_count is_zero is_below
one-or-two (pos zero) e = false-not-true e
one-or-two (pos (suc n)) e = (omega arith, omega (arith, below-bound 3 (pos (suc n)) (count-below 3 (pos (suc n)) e)))
one-or-two (negsuc n) e = false-not-true (count-below 3 (negsuc n) e)

pub pair_row_lem : (channels : ℕ) (r : List ℤ) → length r ≡ pair_width → is_pair channels r ≡ true → FitsPair channels (pair_of r) × (pair_numbers (pair_of r) ≡ r)
unfolding is_pair pair_of
pair_row_lem channels (n ∷ a ∷ x ∷ b ∷ y ∷ c ∷ z ∷ k ∷ vs) l e =
    let row : List ℤ = n ∷ a ∷ x ∷ b ∷ y ∷ c ∷ z ∷ k ∷ vs in
    let p = both (is_channel channels row) _ e in
    let d = both (is_count 3 k) _ p.1 in
    let i : ℕ = nat_abs k in
    let m = one-or-two k d.0 in
    let j : length (take i vs) ≡ i = length-take-le i vs (omega (arith, m.1)) in
    let q : padded 2 (take i vs) ≡ vs = padded-is 2 i vs (omega arith) m.1 d.1 in
    let o : pos (length (take i vs)) ≡ k = ap pos j ∙ sym (below-natural 3 k (count-below 3 k d.0)) in
    let w = channel-row channels n a x b y c z (k ∷ vs) p.0 in (
      record {
        channel = w.0;
        number = record { one = omega (arith, m.0); two = omega (arith, m.1) };
        values = padded-says i vs d.1;
      },
      pair-shape (pair_of row) ∙ ap₂ (λ (u : ℤ) (us : List ℤ). channel_numbers (channel_of row) (u ∷ us)) o q ∙ w.1,
    )
pair_row_lem channels [] l e = absurd (omega arith)
pair_row_lem channels (n ∷ []) l e = absurd (omega arith)
pair_row_lem channels (n ∷ a ∷ []) l e = absurd (omega arith)
pair_row_lem channels (n ∷ a ∷ x ∷ []) l e = absurd (omega arith)
pair_row_lem channels (n ∷ a ∷ x ∷ b ∷ []) l e = absurd (omega arith)
pair_row_lem channels (n ∷ a ∷ x ∷ b ∷ y ∷ []) l e = absurd (omega arith)
pair_row_lem channels (n ∷ a ∷ x ∷ b ∷ y ∷ c ∷ []) l e = absurd (omega arith)
pair_row_lem channels (n ∷ a ∷ x ∷ b ∷ y ∷ c ∷ z ∷ []) l e = absurd (omega arith)

few-values : (n : ℕ) → 1 ≤ n → n ≤ 2 → is_count 3 (pos n) ≡ true
unfolding is_count is_below is_zero
few-values n a b = rw (ne_eqb n 0 (λ e. omega arith), lt-ltb n 3 (omega arith))

-- an item that fits
item-passes : (channels : ℕ) (a : offers.Item) → FitsItem channels a → is_item channels (pos (item_kind a)) (item_value a) ≡ true
unfolding is_item item_kind item_value FitsItem is_value is_below
item-passes channels (offers.number z) g = rw (g.low, g.high)
item-passes channels (offers.named n) g = lt-ltb n channels g

channel-passes : (channels : ℕ) (c : offers.Channel) (l : List ℤ) → FitsChannel channels c → is_channel channels (channel_numbers c l) ≡ true
unfolding is_channel is_count is_zero is_below is_item_of channel_numbers item_numbers FitsChannel
channel-passes channels (one_item a) l g = rw (item-passes channels a g)
channel-passes channels (two_items a b) l g = rw (item-passes channels a g.0, item-passes channels b g.1)
channel-passes channels (three_items a b c) l g = rw (item-passes channels a g.0, item-passes channels b g.1, item-passes channels c g.2)

-- channel, count and values that fit
counted-pair : (channels : ℕ) (c : offers.Channel) (v : List ℤ) → FitsChannel channels c → OneOrTwo v → Every InRange v → is_pair channels (channel_numbers c (pos (length v) ∷ padded 2 v)) ≡ true
unfolding is_pair
counted-pair channels c v g o r =
    let w = after-channel c (pos (length v)) (padded 2 v) in
    rw (channel-passes channels c (pos (length v) ∷ padded 2 v) g, w.0, w.1, few-values (length v) o.one o.two, padded-passes 2 v r)

pub row-pair : (channels : ℕ) (x : offers.Pair) → FitsPair channels x → is_pair channels (pair_numbers x) ≡ true
row-pair channels x f = ap (is_pair channels) (pair-shape x) ∙ counted-pair channels x.channel x.values f.channel f.number f.values

item_back : (a : offers.Item) → item_of (pos (item_kind a)) (item_value a) ≡ a
unfolding item_of item_kind item_value
item_back (offers.number z) = refl
item_back (offers.named n) = refl

make-pair : offers.Channel → List ℤ → offers.Pair
make-pair c vs = record { channel = c; values = vs }

pub pair-back : (x : offers.Pair) → pair_of (pair_numbers x) ≡ x
unfolding pair_of channel_of channel_numbers item_numbers make-pair
pair-back x = ap pair_of (pair-shape x) ∙ go x.channel x.values
  where
    go : (c : offers.Channel) (v : List ℤ) → pair_of (channel_numbers c (pos (length v) ∷ padded 2 v)) ≡ make-pair c v
    go (one_item a) v = ap₂ make-pair (ap one_item (item_back a)) (padded-front 2 v)
    go (two_items a b) v = ap₂ make-pair (ap₂ two_items (item_back a) (item_back b)) (padded-front 2 v)
    go (three_items a b c) v =
        ap₂ make-pair (ap₂ (λ (p : offers.Item × offers.Item) (q : offers.Item). three_items p.0 p.1 q) (ap₂ (λ (p q : offers.Item). (p, q)) (item_back a) (item_back b)) (item_back c)) (padded-front 2 v)

pub pair-wide : (channels : ℕ) (x : offers.Pair) → FitsPair channels x → length (pair_numbers x) ≡ pair_width
pair-wide channels x f =
    ap length (pair-shape x)
    ∙ omega (arith, channel-length x.channel (pos (length x.values) ∷ padded 2 x.values), padded-length 2 x.values f.number.two)
