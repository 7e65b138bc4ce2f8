-- What stands at the nodes of whole numbers and items, by the kind of the node, and the rows that are written for it. From the tables' definitions and the laws of rows.
use mathlib.Core.Path.{◌≡◌, ap, subst, ◌∙◌}
use mathlib.Core.List.{List, [], ◌∷◌, ◌++◌, append-nil}
use mathlib.Core.Option.{Option-elim}
use Prim.Native.Nat.{ℕ, ◌+◌, ◌-◌, ◌≤◌, ◌<◌}
use native.Mathlib.Omega.{arith}
use native.Mathlib.Numerals.{add-one}
use lib.IntN.{ℤ}
use lib.ListN.{length, get_or, set, take, length-append, length-map}
use lib.Seq.{sets}
use Rattle.std.specs.Prelude.{Some}
use Rattle.tree.specs.Node.{kind_of, token_of, left_of, third_of}
use Rattle.value.specs.Range.{InRange, Value}
use Rattle.model.specs.Resolved
use Rattle.model.specs.Good.{Every, GoodExpr, GoodDefined, GoodStart, GoodModel, SumWith}
use Rattle.model.specs.Limits.{local_limit}
use Rattle.tables.specs.Settled.{Number, Expr}
use Rattle.tables.specs.Represents.{Sums, Wholes, Start, bare, valued, Starts}
use Rattle.tables.proofs.Numbers.{node-number-kind}
use Rattle.machine.specs.Evaluate.{eval_expr}
use Rattle.eval.specs.Held.{Held, Worth}
use Rattle.eval.proofs.Rows.{Few, filled, rows_then, rows-size}
use Rattle.eval.proofs.Puts.{processes-few, sums-below, sums-known}
use Rattle.tables.proofs.Parts.{pair-above, pair-second}
use Rattle.machine.specs.Offer.{called}
use Rattle.machine.specs.Machine.{copies, start_processes}
use Rattle.machine.proofs.Branches.{get_nth}
use Rattle.machine.proofs.Everys.{every-nth}
use Rattle.machine.proofs.Stays.{starts-good}
use Rattle.eval.specs.Next.{Rows, SumsFit, entered, Defines, Scoped, known as known_as}
use Rattle.store.specs.Start.{CopiesFit, WholesFit, Items, only, ItemFits, ItemsFit}
use Rattle.store.proofs.Copies.{copies-more, copies-left, copies-few, entered-few}

-- ---- copies
module _ (t known : List ℕ) (k : ℕ) (ls f g : List ℤ) (count at r i : ℕ) (w : (ns : List ℕ) → Sums t ns k → Rows f at (copies i (entered known ns ls)) g r) where
  pub copy-fits : i < count → CopiesFit t known k ls count (length f) at → SumsFit t (length known) k (length g) r
  unfolding entered
  copy-fits l c =
      let x = entered known c.sums ls in
      let y = copies (count - i - 1) x in
      let v = w c.sums c.holds in
      let e = ap length (copies-left count i x l) in
      record { sums = c.sums; holds = c.holds; below = c.below; fits = omega (arith, c.fits, e, v.next, rows-size v, length-append (copies i x) (x ++ y), length-append x y, length-map c.sums (λ (n : ℕ). known_as known n ls)) }

  pub copy-puts : length ls ≤ local_limit → (h : List ℤ) (n : ℕ) → ((ns : List ℕ) → Sums t ns k → Rows g r (entered known ns ls) h n) → (ns : List ℕ) → Sums t ns k → Rows f at (copies (i + 1) (entered known ns ls)) h n
  copy-puts few h n v ns a =
      let x = entered known ns ls in
      rw (copies-more i x) (rows_then f g h at r n (copies i x) x (copies-few i x (entered-few known ns ls few)) (w ns a) (v ns a))

-- ---- whole numbers
module _ (t : List ℕ) (k : ℕ) where
  pub whole-held : ((z : ℤ) × (Number t 1 z k) × InRange z) → Held (Expr t) (GoodExpr 0) k
  unfolding Expr GoodExpr
  whole-held w = record { part = Resolved.constant w.0; at = w.1; fit = w.2 }

  pub whole_is : (v : Value) → Worth (Expr t) (eval_expr []) k v → (z : ℤ) → Number t 1 z k → v ≡ Some z
  unfolding Expr eval_expr
  whole_is v w z n = w (Resolved.constant z) n

  literal-kind : (z : ℤ) → Number t 1 z k → kind_of (get_or t k 0) ≡ 1
  literal-kind z n = node-number-kind n (omega arith)

  module _ (size at : ℕ) where
    pub wholes-inside : WholesFit t k size at → at < size
    unfolding Wholes
    wholes-inside f = go f.values f.holds f.fits
      where
        go : (zs : List ℤ) → Wholes t zs k → at + length zs ≤ size → at < size
        go [] a h = absurd a
        go (z ∷ zs) a h = omega arith

    pub last-whole : (kind_of (get_or t k 0) ≡ 61 → ⊥) → WholesFit t k size at → (z : ℤ) × (Number t 1 z k) × InRange z
    unfolding Wholes Every
    last-whole h f = go f.values f.holds f.good
      where
        go : (zs : List ℤ) → Wholes t zs k → Every InRange zs → (z : ℤ) × (Number t 1 z k) × InRange z
        go [] a g = absurd a
        go (z ∷ []) a g = (z, a, g.0)
        go (z ∷ y ∷ zs) a g = absurd (h a.kind-is)

    pub more-wholes : kind_of (get_or t k 0) ≡ 61 → WholesFit t k size at → ((z : ℤ) × (Number t 1 z (left_of (get_or t k 0))) × InRange z) × (1 ≤ k) × WholesFit t (k - 1) size (at + 1)
    unfolding Wholes Every
    more-wholes h f = go f.values f.holds f.good f.fits
      where
        go : (zs : List ℤ) → Wholes t zs k → Every InRange zs → at + length zs ≤ size → ((z : ℤ) × (Number t 1 z (left_of (get_or t k 0))) × InRange z) × (1 ≤ k) × WholesFit t (k - 1) size (at + 1)
        go [] a g l = absurd a
        go (z ∷ []) a g l = absurd (omega (arith, literal-kind z a))
        go (z ∷ y ∷ zs) a g l = ((z, a.holds-first, g.0), pair-above a, record { values = y ∷ zs; holds = pair-second a; good = g.1; fits = omega arith })

  module _ (v g : List ℤ) (at : ℕ) (x : ℤ) where
    pub last-put : (kind_of (get_or t k 0) ≡ 61 → ⊥) → ((z : ℤ) → Number t 1 z k → x ≡ z) → (zs : List ℤ) → Wholes t zs k → set v at x ≡ sets v at zs
    unfolding Wholes
    last-put h w [] a = absurd a
    last-put h w (z ∷ []) a = rw (w z a)
    last-put h w (z ∷ y ∷ zs) a = absurd (h a.kind-is)

    pub more-put : kind_of (get_or t k 0) ≡ 61 → ((z : ℤ) → Number t 1 z (left_of (get_or t k 0)) → x ≡ z) → ((zs : List ℤ) → Wholes t zs (k - 1) → g ≡ sets (set v at x) (at + 1) zs)
        → (zs : List ℤ) → Wholes t zs k → g ≡ sets v at zs
    unfolding Wholes
    more-put h w u [] a = absurd a
    more-put h w u (z ∷ []) a = absurd (omega (arith, literal-kind z a))
    more-put h w u (z ∷ y ∷ zs) a = u (y ∷ zs) (pair-second a) ∙ rw (add-one at, w z a.holds-first)

-- ---- the values of an item
module _ (t : List ℕ) (k : ℕ) where
  pub item-third : (s : Resolved.Start) → Start t s k → third_of (get_or t k 0) ≡ length s.values
  item-third s (bare i e) = i.values-are
  item-third s (valued v) = v.item.values-are

  module _ (h : kind_of (get_or t k 0) ≡ 58) where
    pub values-at : (s : Resolved.Start) → Start t s k → (1 ≤ k) × Wholes t s.values (k - 1)
    values-at s (bare i e) = absurd (omega (arith, i.kind-is))
    values-at s (valued w) =
        let e : w.root ≡ k - 1 = omega (arith, w.above) in
        (omega (arith, w.above), subst (Wholes t s.values) e w.holds)

    pub values-put : (v g : List ℤ) → length v ≡ 8 → third_of (get_or t k 0) ≤ 8 → ((zs : List ℤ) → Wholes t zs (k - 1) → g ≡ sets v 0 zs) → (s : Resolved.Start) → Start t s k → take (third_of (get_or t k 0)) g ≡ s.values
    values-put v g l f u s a = let q = item-third s a in rw (q, u s.values (values-at s a).1) (filled v s.values (omega arith))

-- ---- an item's processes
module _ (t : List ℕ) (root variables k : ℕ) (known : List ℕ) where
  -- where the sums of its definition stand
  abbrev pub body_at : ℕ
  body_at = left_of (get_or t (root - variables - token_of (get_or t k 0)) 0) - 1

  module _ (m : Resolved.Model) (s : Resolved.Start) (a : Start t s k) where
    item-definition : token_of (get_or t k 0) ≡ s.definition
    item-definition = go a
      where
        go : Start t s k → token_of (get_or t k 0) ≡ s.definition
        go (bare i e) = i.definition-is
        go (valued v) = v.item.definition-is

    item_count : left_of (get_or t k 0) ≡ s.count
    item_count = go a
      where
        go : Start t s k → left_of (get_or t k 0) ≡ s.count
        go (bare i e) = i.count-is
        go (valued v) = v.item.count-is

    pub few-values : GoodModel m → GoodStart m s → length s.values ≤ local_limit
    few-values g h = omega (arith, h.callable.params, (every-nth (GoodDefined m) g.definitions (get_nth m.definitions s.definition h.callable.exists)).few-params)

    module _ (d : Defines t root variables m) (h : GoodStart m s) where
      pub body-above : 1 ≤ left_of (get_or t (root - variables - token_of (get_or t k 0)) 0)
      body-above = rw item-definition (omega (arith, (d s.definition h.callable.definition h.callable.exists).above))

      pub body-sums : Sums t h.callable.definition.sums body_at
      body-sums =
          let b = d s.definition h.callable.definition h.callable.exists in
          let e : b.root ≡ body_at = rw item-definition (omega (arith, b.above)) in
          subst (Sums t h.callable.definition.sums) e b.holds

      item-sums : GoodModel m → Every (SumWith m h.callable.definition.params) h.callable.definition.sums
      item-sums g = (every-nth (GoodDefined m) g.definitions (get_nth m.definitions s.definition h.callable.exists)).sums

      pub item-processes : GoodModel m → Scoped known m → start_processes m (only s) ≡ copies (left_of (get_or t k 0)) (entered known h.callable.definition.sums s.values)
      unfolding start_processes called entered Option-elim
      item-processes g c = rw (h.callable.exists, item_count) (append-nil _ ∙ ap (copies s.count) (sums-known m g known c h.callable.definition.params h.callable.definition.sums (item-sums g) s.values))

  -- what is lent of the array, where its values are those of whatever item stands there
  pub item-copies : (v : List ℤ) (size at : ℕ) → ((s : Resolved.Start) → Start t s k → v ≡ s.values) → ItemFits t known root variables k size at → CopiesFit t known body_at v (left_of (get_or t k 0)) size at
  unfolding Every
  item-copies v size at w f =
      let m = f.model in
      let s = f.start in
      let h = f.items.fit.0 in
      let e = item-processes m s f.holds f.items.defines h f.items.good f.items.scoped in
      let below = sums-below m f.items.good known f.items.scoped h.callable.definition.params h.callable.definition.sums (item-sums m s f.holds f.items.defines h f.items.good) in
      record { sums = h.callable.definition.sums; holds = body-sums m s f.holds f.items.defines h; below = below; few = rw (w s f.holds) (few-values m s f.holds f.items.good h); fits = rw (w s f.holds) (rw e at f.items.fits) }

  pub item-puts : (v f g : List ℤ) (at r : ℕ) → ((s : Resolved.Start) → Start t s k → v ≡ s.values) → ((ns : List ℕ) → Sums t ns body_at → Rows f at (copies (left_of (get_or t k 0)) (entered known ns v)) g r)
      → (m : Resolved.Model) (s : Resolved.Start) → Defines t root variables m → GoodModel m → Scoped known m → GoodStart m s → Start t s k → Rows f at (start_processes m (only s)) g r
  item-puts v f g at r w u m s d q c h a = rw (item-processes m s a d h q c, ← w s a) (u h.callable.definition.sums (body-sums m s a d h))

-- ---- the items of the system line
split : (m : Resolved.Model) (s : Resolved.Start) (ss : List Resolved.Start) → start_processes m (s ∷ ss) ≡ start_processes m (only s) ++ start_processes m ss
unfolding start_processes
split m s ss = rw (append-nil (copies s.count (called m s.definition s.values)))

split-length : (m : Resolved.Model) (s : Resolved.Start) (ss : List Resolved.Start) → length (start_processes m (s ∷ ss)) ≡ length (start_processes m (only s)) + length (start_processes m ss)
split-length m s ss = ap length (split m s ss) ∙ length-append (start_processes m (only s)) (start_processes m ss)

-- the processes of items have few locals
pub start-few : (m : Resolved.Model) → GoodModel m → (ss : List Resolved.Start) → Every (GoodStart m) ss → Few (start_processes m ss)
start-few m g ss h = processes-few m g (start_processes m ss) (starts-good m g ss h)

module _ (t : List ℕ) (root variables k : ℕ) (known : List ℕ) where
  pub last-item : (kind_of (get_or t k 0) ≡ 62 → ⊥) → (size at : ℕ) → ItemsFit t known root variables k size at → ItemFits t known root variables k size at
  unfolding Starts
  last-item h size at f = go f.starts f.holds f.items
    where
      go : (ss : List Resolved.Start) → Starts t ss k → Items t known root variables f.model ss size at → ItemFits t known root variables k size at
      go [] a i = absurd a
      go (s ∷ []) a i = record { model = f.model; start = s; holds = a; items = i }
      go (s ∷ r ∷ ss) a i = absurd (h a.kind-is)

  -- what an item's processes make of the rows, whatever model it is an item of
  abbrev pub ItemPuts : ℕ → List ℤ → ℕ → List ℤ → ℕ → Type 0
  ItemPuts j f at g r = (m : Resolved.Model) (s : Resolved.Start) → Defines t root variables m → GoodModel m → Scoped known m → GoodStart m s → Start t s j → Rows f at (start_processes m (only s)) g r

  abbrev pub ItemsPut : ℕ → List ℤ → ℕ → List ℤ → ℕ → Type 0
  ItemsPut j f at g r = (m : Resolved.Model) (ss : List Resolved.Start) → Defines t root variables m → GoodModel m → Scoped known m → Every (GoodStart m) ss → Starts t ss j → Rows f at (start_processes m ss) g r

  pub last-items : (kind_of (get_or t k 0) ≡ 62 → ⊥) → (f g : List ℤ) (at r : ℕ) → ItemPuts k f at g r → ItemsPut k f at g r
  unfolding Starts Every
  last-items h f g at r w m [] d q c o a = absurd a
  last-items h f g at r w m (s ∷ []) d q c o a = w m s d q c o.0 a
  last-items h f g at r w m (s ∷ u ∷ ss) d q c o a = absurd (h a.kind-is)

  start-kind : (s : Resolved.Start) → Start t s k → kind_of (get_or t k 0) ≡ 62 → ⊥
  start-kind s (bare i e) h = omega (arith, i.kind-is)
  start-kind s (valued v) h = omega (arith, v.item.kind-is)

  module _ (h : kind_of (get_or t k 0) ≡ 62) where
    pub first-item : (size at : ℕ) → ItemsFit t known root variables k size at → ItemFits t known root variables (left_of (get_or t k 0)) size at
    unfolding Starts Every
    first-item size at f = go f.starts f.holds f.items
      where
        go : (ss : List Resolved.Start) → Starts t ss k → Items t known root variables f.model ss size at → ItemFits t known root variables (left_of (get_or t k 0)) size at
        go [] a i = absurd a
        go (s ∷ []) a i = absurd (start-kind s a h)
        go (s ∷ r ∷ ss) a i = record {
          model = f.model;
          start = s;
          holds = a.holds-first;
          items = record { good = i.good; defines = i.defines; scoped = i.scoped; fit = (i.fit.0, tt); fits = omega (arith, i.fits, split-length f.model s (r ∷ ss)) };
        }

    module _ (f g : List ℤ) (at r : ℕ) (w : ItemPuts (left_of (get_or t k 0)) f at g r) where
      pub rest-items : ItemsFit t known root variables k (length f) at → (1 ≤ k) × ItemsFit t known root variables (k - 1) (length g) r
      unfolding Starts Every
      rest-items i = go i.starts i.holds i.items
        where
          go : (ss : List Resolved.Start) → Starts t ss k → Items t known root variables i.model ss (length f) at → (1 ≤ k) × ItemsFit t known root variables (k - 1) (length g) r
          go [] a x = absurd a
          go (s ∷ []) a x = absurd (start-kind s a h)
          go (s ∷ u ∷ ss) a x =
              let v = w i.model s x.defines x.good x.scoped x.fit.0 a.holds-first in (
                pair-above a,
                record {
                  model = i.model;
                  starts = u ∷ ss;
                  holds = pair-second a;
                  items = record { good = x.good; defines = x.defines; scoped = x.scoped; fit = x.fit.1; fits = omega (arith, x.fits, split-length i.model s (u ∷ ss), v.next, rows-size v) };
                },
              )

      pub more-items : (b : List ℤ) (n : ℕ) → ItemsPut (k - 1) g r b n → ItemsPut k f at b n
      unfolding Starts Every
      more-items b n u m [] d q c o a = absurd a
      more-items b n u m (s ∷ []) d q c o a = absurd (start-kind s a h)
      more-items b n u m (s ∷ x ∷ ss) d q c o a =
          rw (split m s (x ∷ ss))
          (rows_then f g b at r n (start_processes m (only s)) (start_processes m (x ∷ ss)) (start-few m q (only s) (o.0, tt)) (w m s d q c o.0 a.holds-first) (u m (x ∷ ss) d q c o.1 (pair-second a)))

-- the item of which it is asked
pub item-good : {t known : List ℕ} {root variables k size at : ℕ} (f : ItemFits t known root variables k size at) → GoodStart f.model f.start
unfolding Every
item-good f = f.items.fit.0
