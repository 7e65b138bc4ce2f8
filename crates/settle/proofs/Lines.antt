-- Walking the system line resolves its items: definition, count and values, which are whole numbers. By induction on the tree, where no question found a fault.
use mathlib.Core.Path.{◌≡◌, refl, sym, ap, ◌∙◌}
use mathlib.Core.List.Memᴰ.{head}
use mathlib.Core.List.Memᴰ.{tail}
use mathlib.Core.List.{List, [], ◌∷◌, Memᴰ as In}
use mathlib.Core.Bool.{Bool, true, false, cond}
use Prim.Native.Nat.{ℕ, ◌+◌, ◌-◌, ◌≤◌, ◌<◌}
use native.Mathlib.Omega.{arith}
use lib.IntN.{ℤ}
use lib.ListN.{length, get_or}
use Rattle.value.specs.Range.{InRange}
use Rattle.word.specs.Number.{worth}
use Rattle.grammar.specs.Syntax
use Rattle.tree.specs.Node as node
use Rattle.tree.specs.Node.{field, cell, kind_of, token_of, left_of, third_of, number_kind}
use Rattle.tree.specs.Table
use Rattle.tree.specs.Table.{Node, Leaf, One, Two}
use Rattle.tree.proofs.Cells.{kind-of, token-of, left-of, third_of_lem, node-kind, node-token, node-third}
use Rattle.tree.proofs.Holds.{wholes-interval, system-interval}
use Rattle.model.specs.Lists.{each}
use Rattle.model.specs.Sites.{whole, Variable, Definition, variables, definitions, starts_in}
use Rattle.model.specs.Words.{whole_of}
use Rattle.model.specs.Limits.{count_limit, definition_limit}
use Rattle.model.specs.Faults.{start_list, wholes_of, start_wholes}
use Rattle.model.specs.Resolved
use Rattle.model.specs.Resolved.{channel_names, definition_number, whole_values, start_values, resolve_start}
use Rattle.tables.specs.Settled.{number_cell, Number, Pair}
use Rattle.tables.specs.Represents.{Wholes, Item, Start, bare, valued, Starts}
use Rattle.settle.specs.Walks.{Role, role_of, role_at, Point, definition_of, count_of, cell_by, step_by, cell_of, step, SafeBy}
use Rattle.settle.specs.Walks as role
use Rattle.settle.proofs.Moves.{Keeps, Does, plain-does, moved-with, moved-node, leaf, two}
use Rattle.settle.proofs.Values.{number-of, range-fits}
use Rattle.settle.proofs.Branches.{definition-fits, fields_fit}

module _ (w : ℕ → List ℕ) (m : Syntax.Model) (few : length (definitions m) ≤ definition_limit) (told : ℕ → Type 0) (t t' roots scopes : List ℕ) (trace : ℕ → Point) (first last : ℕ)
    (steps : (i : ℕ) → first ≤ i → i < last → trace (i + 1) ≡ step w (variables m) (definitions m) t i (trace i)) (p : Point) where
  abbrev vs : List Variable
  vs = variables m

  abbrev ds : List Definition
  ds = definitions m

  abbrev cs : List ℕ
  cs = channel_names w vs ds

  abbrev Stays : (ℕ → ℕ → Type 0) → (ℕ → Type 0) → Type 0
  Stays P Q = Keeps w vs ds cs told t t' roots scopes trace first last p P Q

  plain-two : {κ token third : ℕ} {P Q : ℕ → ℕ → Type 0} {P' Q' : ℕ → Type 0} → κ < 256 → role_of κ ≡ role.plain → ((lo k : ℕ) → Q lo k → lo ≤ k) → Stays P P' → Stays Q Q' → Stays (Two t κ token third P Q) (Pair t' κ P' Q')
  plain-two l e low f g a = two w vs ds cs told t t' roots scopes trace first last steps l (λ lo left k h u v n. plain-does w vs ds cs told t t' roots scopes trace first last steps l e n) low (f a) (g (a + 0))

  -- ---- values

  whole-stays : (b : Bool) (κ k : ℕ) → κ < 256 → role_of κ ≡ role.whole b → InRange (whole_of w b k) → Stays (Leaf t κ k) (Number t' node.literal (whole_of w b k))
  unfolding step_by cell_by
  whole-stays b κ k l e f a =
      leaf w vs ds cs told t t' roots scopes trace first last steps (role.whole b) l e (λ x. absurd (let z : ◌≡◌ {A = ℕ} 0 1 = cc in omega arith)) (λ x. absurd (let z : ◌≡◌ {A = ℕ} 0 1 = cc in omega arith)) (λ c q n z. refl) (λ c q n z. rw n f)
      (λ i c κ n o u v x d y. number-of node.literal (whole_of w b k) i (range-fits (whole_of w b k) f) (y ∙ ap (λ (j : ℕ). number_cell node.literal (whole_of w b j)) n)) a

  literal-stays : (b : Bool) (k : ℕ) → InRange (whole_of w b k) → Stays (Table.Expr t (Syntax.literal b k)) (Number t' node.literal (whole_of w b k))
  unfolding Table.Expr role_of number_kind
  literal-stays false k h = whole-stays false node.literal k (omega arith) refl h
  literal-stays true k h = whole-stays true node.negative k (omega arith) refl h

  wholes-pair : {k : ℕ} (z : ℤ) (zs : List ℤ) → 0 < length zs → Pair t' node.whole (Number t' node.literal z) (Wholes t' zs) k → Wholes t' (z ∷ zs) k
  unfolding Wholes
  wholes-pair z [] l h = absurd (omega arith)
  wholes-pair z (y ∷ zs) l h = h

  wholes-some : (r : Syntax.Wholes) → 0 < length (whole_values w vs ds cs r)
  unfolding whole_values
  wholes-some (Syntax.last_whole b k) = omega arith
  wholes-some (Syntax.next_whole b k r) = omega arith

  wholes-stays : (r : Syntax.Wholes) → ((b : Bool) (k : ℕ) → In (whole b k) (wholes_of r) → InRange (whole_of w b k)) → Stays (Table.Wholes t r) (Wholes t' (whole_values w vs ds cs r))
  unfolding Table.Wholes wholes_of whole_values Wholes role_of number_kind
  wholes-stays (Syntax.last_whole b j) h a lo k x u v y = literal-stays b j (h b j (head refl)) a lo k x u v y
  wholes-stays (Syntax.next_whole b j r) h a lo k x u v y =
      moved-with w vs ds cs told t t' roots scopes trace first last
      (plain-two (omega arith) refl (λ lo k x. (wholes-interval r).low x) (literal-stays b j (h b j (head refl))) (wholes-stays r (λ c n i. h c n (tail i))) a lo k x u v y)
      (λ d z. wholes-pair (whole_of w b j) (whole_values w vs ds cs r) (wholes-some r) z)

  wholes-count : (r : Syntax.Wholes) → Table.count_wholes r ≡ length (whole_values w vs ds cs r)
  unfolding Table.count_wholes whole_values
  wholes-count (Syntax.last_whole b k) = refl
  wholes-count (Syntax.next_whole b k r) = let h = wholes-count r in omega arith

  -- ---- items

  item_of : {κ κ' j : ℕ} (counted : Bool) (n : ℕ) (zs : List ℤ) (k c : ℕ) → κ < 256 → cond counted (κ - 2) κ ≡ κ' → kind_of c ≡ κ → token_of c ≡ j → third_of c ≡ length zs → count_of w vs ds counted j ≡ n → n < field
      → get_or t' k 0 ≡ cell (cond counted (kind_of c - 2) (kind_of c)) (definition_of w vs ds (token_of c)) (count_of w vs ds counted (token_of c)) (third_of c)
      → Item t' κ' (record { definition = definition_of w vs ds j; count = n; values = zs }) k
  item_of {κ} {κ'} {j} counted n zs k c l e κ-is token third count fits y =
      let f = fields_fit c in
      let b = definition-fits w ds (token_of c) few in
      let q : count_of w vs ds counted (token_of c) ≡ n = ap (λ (i : ℕ). count_of w vs ds counted i) token ∙ count in
      let g : count_of w vs ds counted (token_of c) < field = rw q fits in
      let h : cond counted (kind_of c - 2) (kind_of c) ≡ κ' = ap (λ (i : ℕ). cond counted (i - 2) i) κ-is ∙ e in
      let a : cond counted (kind_of c - 2) (kind_of c) < 256 = rw h (small counted κ κ' l e) in
      record {
        kind-is = ap kind_of y ∙ kind-of a b g f.1 ∙ h;
        definition-is = ap token_of y ∙ token-of a b g f.1 ∙ ap (λ (i : ℕ). definition_of w vs ds i) token;
        count-is = ap left_of y ∙ left-of a b g f.1 ∙ q;
        values-are = ap third_of y ∙ third_of_lem a b g f.1 ∙ third;
      }
    where
      small : (counted : Bool) (κ κ' : ℕ) → κ < 256 → cond counted (κ - 2) κ ≡ κ' → κ' < 256
      small true κ κ' l e = omega arith
      small false κ κ' l e = omega arith

  -- an item's node above its values
  item-does : {k κ j third : ℕ} (counted : Bool) → κ < 256 → role_of κ ≡ role.item counted → SafeBy w vs told (role.item counted) (get_or t k 0) 0 p → Node t k κ j 0 third
      → Does w vs ds cs told t t' roots scopes trace first last steps k p p (cell (cond counted (kind_of (get_or t k 0) - 2) (kind_of (get_or t k 0))) (definition_of w vs ds (token_of (get_or t k 0))) (count_of w vs ds counted (token_of (get_or t k 0))) (third_of (get_or t k 0)))
  unfolding step cell_of step_by cell_by
  item-does {k} false l e safe n =
      let r : role_at t k ≡ role.item false = ap role_of (node-kind n l) ∙ e in
      record { step_is = rw r; safe = rw r tt; becomes = rw r; other = λ x. absurd (let z : ◌≡◌ {A = ℕ} 0 1 = cc (r, x) in omega arith); linked = λ x. absurd (let z : ◌≡◌ {A = ℕ} 0 1 = cc (r, x) in omega arith) }
  item-does {k} true l e safe n =
      let r : role_at t k ≡ role.item true = ap role_of (node-kind n l) ∙ e in
      record { step_is = rw r; safe = rw r safe; becomes = rw r; other = λ x. absurd (let z : ◌≡◌ {A = ℕ} 0 1 = cc (r, x) in omega arith); linked = λ x. absurd (let z : ◌≡◌ {A = ℕ} 0 1 = cc (r, x) in omega arith) }

  -- an item with values
  valued-stays : {κ j : ℕ} (counted : Bool) (n : ℕ) (r : Syntax.Wholes) → κ < 256 → role_of κ ≡ role.item counted → cond counted (κ - 2) κ ≡ node.start_with → count_of w vs ds counted j ≡ n → n ≤ count_limit
      → ((c : ℕ) → token_of c ≡ j → SafeBy w vs told (role.item counted) c 0 p)
      → Stays (Table.Wholes t r) (Wholes t' (whole_values w vs ds cs r)) → Stays (One t κ j (Table.count_wholes r) (Table.Wholes t r)) (Start t' (record { definition = definition_of w vs ds j; count = n; values = whole_values w vs ds cs r }))
  valued-stays {κ} {j} counted n r l e s count fits safe f a lo k h u v x =
      let y = f a lo h.root h.holds u (omega (arith, h.above)) x in
      moved-with w vs ds cs told t t' roots scopes trace first last (moved-node w vs ds cs told t t' roots scopes trace first last steps y h.above u v (item-does counted l e (safe (get_or t k 0) (node-token h.node l)) h.node))
      (λ d z.
      valued (record {
        root = h.root;
        above = h.above;
        item = item_of counted n (whole_values w vs ds cs r) k (get_or t k 0) l s (node-kind h.node l) (node-token h.node l) (node-third h.node l ∙ wholes-count r) count (omega arith) z.1;
        holds = z.0;
      }))

  counted_is : {j : ℕ} (c : ℕ) → j ≡ c + 2 → count_of w vs ds true j ≡ worth 0 (w c)
  unfolding count_of
  counted_is c e = let d : c + 2 - 2 ≡ c = omega arith in rw (e, d)

  start-stays : (s : Syntax.Start) → ((b : Bool) (k : ℕ) → In (whole b k) (start_wholes (start_list s)) → InRange (whole_of w b k))
      → ((c k : ℕ) (r : Syntax.Starts) → s ≡ Syntax.counted c k r → worth 0 (w c) ≤ count_limit) → Stays (Table.Start t s) (Start t' (resolve_start w vs ds cs s))
  unfolding Table.Start start_list start_wholes resolve_start start_values role_of number_kind step_by cell_by count_of
  start-stays (Syntax.once j Syntax.no_starts) h c a lo k x u v y =
      leaf w vs ds cs told t t' roots scopes trace first last steps (role.item false) (omega arith) refl (λ x. absurd (let z : ◌≡◌ {A = ℕ} 0 1 = cc in omega arith)) (λ x. absurd (let z : ◌≡◌ {A = ℕ} 0 1 = cc in omega arith)) (λ c q n z. refl) (λ c q n z. tt)
      (λ i c κ n o u v x d y. bare (item_of false 1 [] i c (omega arith) refl κ n o refl (omega arith) y) refl) a lo k x u v y
  start-stays (Syntax.once j (Syntax.starts r)) h c a lo k x u v y =
      valued-stays false 1 r (omega arith) refl refl refl (omega arith) (λ c n. tt) (wholes-stays r h) a lo k x u v y
  start-stays (Syntax.counted c j Syntax.no_starts) h q a lo k x u v y =
      let e = q c j Syntax.no_starts refl in
      leaf w vs ds cs told t t' roots scopes trace first last steps (role.item true) (omega arith) refl (λ x. absurd (let z : ◌≡◌ {A = ℕ} 0 1 = cc in omega arith)) (λ x. absurd (let z : ◌≡◌ {A = ℕ} 0 1 = cc in omega arith)) (λ d b n z. refl) (λ d b n z. let r : token_of d - 2 ≡ c = omega (arith, x.0) in rw r e)
      (λ i d κ n o u v z f y. bare (item_of true (worth 0 (w c)) [] i d (omega arith) refl κ n o (counted_is c x.0) (omega arith) y) refl) a lo k x.1 u v y
  start-stays (Syntax.counted c j (Syntax.starts r)) h q a lo k x u v y =
      let e = q c j (Syntax.starts r) refl in
      valued-stays true (worth 0 (w c)) r (omega arith) refl refl (counted_is c x.0) e (λ d n. let z : token_of d - 2 ≡ c = omega (arith, x.0) in rw z e) (wholes-stays r h) a lo k x.1 u v y

  starts-pair : {k : ℕ} (s : Resolved.Start) (ss : List Resolved.Start) → 0 < length ss → Pair t' node.system (Start t' s) (Starts t' ss) k → Starts t' (s ∷ ss) k
  unfolding Starts
  starts-pair s [] l h = absurd (omega arith)
  starts-pair s (r ∷ ss) l h = h

  starts-some : (s : Syntax.System) → 0 < length (each (λ x. resolve_start w vs ds cs x ∷ []) (starts_in s))
  unfolding starts_in each
  starts-some (Syntax.last_start s) = omega arith
  starts-some (Syntax.next_start s r) = omega arith

  pub system-stays : (s : Syntax.System) → ((x : Syntax.Start) (b : Bool) (k : ℕ) → In x (starts_in s) → In (whole b k) (start_wholes (start_list x)) → InRange (whole_of w b k))
      → ((c k : ℕ) (r : Syntax.Starts) → In (Syntax.counted c k r) (starts_in s) → worth 0 (w c) ≤ count_limit) → Stays (Table.System t s) (Starts t' (each (λ x. resolve_start w vs ds cs x ∷ []) (starts_in s)))
  unfolding Table.System starts_in each Starts role_of number_kind
  system-stays (Syntax.last_start s) h c a lo k x u v y = start-stays s (λ b j i. h s b j (head refl) i) (λ q j r e. c q j r (head (sym e))) a lo k x u v y
  system-stays (Syntax.next_start s r) h c a lo k x u v y =
      moved-with w vs ds cs told t t' roots scopes trace first last
      (plain-two (omega arith) refl (λ lo k x. (system-interval r).low x) (start-stays s (λ b j i. h s b j (head refl) i) (λ q j r e. c q j r (head (sym e)))) (system-stays r (λ z b j i. h z b j (tail i)) (λ q j z i. c q j z (tail i))) a lo k x u v y)
      (λ d z. starts-pair (resolve_start w vs ds cs s) (each (λ x. resolve_start w vs ds cs x ∷ []) (starts_in r)) (starts-some r) z)
