-- A channel name is met: it keeps its number among those met before, or comes after them. From look-ups in lists of names.
use mathlib.Core.Path.{◌≡◌, refl, sym, ap, ap₂, ◌∙◌, subst}
use mathlib.Core.List.{List, [], ◌∷◌, ◌++◌}
use mathlib.Core.Bool.{Bool, true, false, cond, ◌||◌}
use mathlib.Core.Option.{Option, none, some}
use Prim.Native.Nat.{ℕ, suc, ◌+◌, ◌<◌}
use native.Mathlib.Omega.{arith}
use lib.ListN.{length, get_or, set, take}
use borrow.Author.Tests.{ne_eqb}
use lib.Dec.{eqb}
use lib.IntN.{ℤ}
use Rattle.std.specs.Prelude.{None, Some}
use Rattle.token.specs.Kind as kind
use Rattle.token.specs.Questions.{Found}
use Rattle.grammar.specs.Syntax
use Rattle.grammar.proofs.Follows.{inside}
use Rattle.tree.specs.Node as node
use Rattle.tree.specs.Node.{field, cell, kind_of, token_of, left_of, third_of, number_kind}
use Rattle.model.specs.Lists.{any}
use Rattle.model.specs.Sites.{Variable, Definition}
use Rattle.model.specs.Words.{same}
use Rattle.model.specs.Given.{Meaning, local, variable, nothing, is_given, variable_named, place_in, meaning}
use Rattle.model.specs.Resolved.{is_channel_name, firsts, or_zero, number_value, value_named, number_scale, scale_named}
use Rattle.model.specs.Resolved
use Rattle.model.proofs.Repeats.{bytes_same}
use Rattle.tables.specs.Settled.{channel, number_cell}
use Rattle.model.proofs.Members.{not-both}
use Rattle.names.specs.declared.Lists.{Lists}
use Rattle.names.specs.declared.scope.Scope.{Scope}
use Rattle.names.specs.Lists.{packed, found_of, is_found}
use Rattle.names.specs.Placed.{IsName, Named, SortFits, sort_of}
use Rattle.names.proofs.Namings.{named-at, place-alike, any-placed}
use Rattle.settle.specs.Kids.{Hung}
use Rattle.settle.specs.declared.Walk.{Walk}
use Rattle.settle.specs.Walks.{role_of, name_cell, value_cell, scale_cell, cell_by, step_by}
use Rattle.settle.specs.Walks as role
use Rattle.settle.specs.Places.{signed, ScaleTold, NumberNode, NumberFound, Place, kinds_in, word_in, variables_in, definitions_of, meaning_at, Valued, Leaf, place_or, Heard, heard_after, Sought, Knows, Turn, turned, Settled, marked_by}
use Rattle.settle.proofs.Finds.{place-below, asks, in_tables, no_local}
use Rattle.settle.proofs.Cells.{whole_is}

-- ---- a channel name's number, and how many there are
module _ {low high heard seen heard' : List ℕ} {n k c : ℕ} (g : Heard low high heard n k seen) {n' : ℕ} (s : Sought low high heard n k seen heard' n' c) where
  abbrev place : Option ℕ
  place = place_in (packed low high) k 0 seen

  -- the number fits a field
  pub place-small : c < field
  unfolding place_or
  place-small = by place refl s.place_is
    where
      by : (o : Option ℕ) → place ≡ o → c ≡ place_or n o → c < field
      by none p e = omega (arith, g.few)
      by (some q) p e = let b : q < n = place-below (packed low high) k seen q p (omega (arith, g.count)) in omega (arith, g.few)

-- ---- by words

place_end : (w : ℕ → List ℕ) (k i : ℕ) (xs : List ℕ) → place_in w k i xs ≡ none → place_in w k i (xs ++ k ∷ []) ≡ some (i + length xs)
unfolding place_in
place_end w k i [] e = let d : i + 0 ≡ i = omega arith in rw (bytes_same w k k refl, d)
place_end w k i (x ∷ xs) e = by (same w k x) refl e (place_end w k (suc i) xs)
  where
    by : (b : Bool) → same w k x ≡ b → cond b (some i) (place_in w k (suc i) xs) ≡ none → (place_in w k (suc i) xs ≡ none → place_in w k (suc i) (xs ++ k ∷ []) ≡ some (suc i + length xs)) → cond (same w k x) (some i) (place_in w k (suc i) (xs ++ k ∷ [])) ≡ some (i + suc (length xs))
    by true q f r = absurd (let z : ◌≡◌ {A = ℕ} 0 1 = cc in omega arith)
    by false q f r = let d : suc i + length xs ≡ i + suc (length xs) = omega arith in rw q (r f ∙ ap (λ (n : ℕ). some n) d)

pub met-is : (w : ℕ → List ℕ) (vs : List Variable) (seen : List ℕ) (k : ℕ) → (firsts w vs seen (k ∷ []) ≡ heard_after (place_in w k 0 seen) seen k) × (or_zero (place_in w k 0 (firsts w vs seen (k ∷ []))) ≡ place_or (length seen) (place_in w k 0 seen))
unfolding firsts heard_after place_or or_zero found_of is_found
met-is w vs seen k = by (place_in w k 0 seen) refl (any-placed w k 0 seen)
  where
    by : (o : Option ℕ) → place_in w k 0 seen ≡ o → any (same w k) seen ≡ is_found (found_of o) → (cond (any (same w k) seen) seen (seen ++ k ∷ []) ≡ heard_after o seen k) × (or_zero (place_in w k 0 (cond (any (same w k) seen) seen (seen ++ k ∷ []))) ≡ place_or (length seen) o)
    by none e a = rw a (refl, rw (place_end w k 0 seen e) (omega arith))
    by (some q) e a = rw a (refl, rw e)

-- ---- names that are values

named_end : (ts ks : List ℕ) (k : ℕ) → Named ts ks → IsName ts k → Named ts (ks ++ k ∷ [])
named_end ts [] k h e = (e, tt)
named_end ts (j ∷ ks) k h e = (h.0, named_end ts ks k h.1 e)

named-after : (ts : List ℕ) (w : ℕ → List ℕ) (vs : List Variable) (k : ℕ) (seen : List ℕ) → IsName ts k → Named ts seen → Named ts (firsts w vs seen (k ∷ []))
unfolding heard_after
named-after ts w vs k seen e z = rw (met-is w vs seen k).0 (by (place_in w k 0 seen))
  where
    by : (o : Option ℕ) → Named ts (heard_after o seen k)
    by none = named_end ts seen k z e
    by (some q) = z

module _ (low : List ℕ) (w : ℕ → List ℕ) (c : ℕ) where
  abbrev whole_kind : Bool
  whole_kind = eqb (kind_of c) (number_kind false false) || eqb (kind_of c) (number_kind true false)

  -- a name that stands for a whole number
  pub record WholeNamed (m : Meaning) : Type 0 where
    pub negated : Bool
    pub token : ℕ
    pub means : m ≡ variable (Syntax.number negated false token)
    pub told : ScaleTold low w negated false (kind_of c) token
    pub token-is : token_of c ≡ token

  whole-named : (m : Meaning) → NumberNode low w m c → whole_kind ≡ true → WholeNamed m
  unfolding number_kind kind_of
  whole-named (local i) n e = absurd n
  whole-named (variable (Syntax.number b false j)) n e = record { negated = b; token = j; means = refl; told = n.0; token-is = n.1 }
  whole-named (variable (Syntax.number false true j)) n e = not-both e (rw n.0.kind-is)
  whole-named (variable (Syntax.number true true j)) n e = not-both e (rw n.0.kind-is)
  whole-named nothing n e = absurd n

  channel-named : (m : Meaning) → NumberNode low w m c → whole_kind ≡ false → is_channel_name m ≡ true
  unfolding number_kind is_channel_name
  channel-named (local i) n e = absurd n
  channel-named (variable (Syntax.number false false j)) n e = not-both (rw n.0.kind-is) e
  channel-named (variable (Syntax.number true false j)) n e = not-both (rw n.0.kind-is) e
  channel-named (variable (Syntax.number b true j)) n e = refl
  channel-named nothing n e = absurd n

  -- the kind tells whether there is a `-`
  pub negated-is : (n : Bool) → n ≡ (eqb (kind_of c) (number_kind true false) || eqb (kind_of c) (number_kind true true)) → (m : Meaning) (h : WholeNamed m) → n ≡ h.negated
  unfolding number_kind
  negated-is n e m h = e ∙ by h.negated h.told.kind-is
    where
      by : (b : Bool) → kind_of c ≡ number_kind b false → (eqb (kind_of c) 30 || eqb (kind_of c) 32) ≡ b
      by true e = rw e
      by false e = rw e

-- the cases of what `number_named` finds
module _ (low : List ℕ) (w : ℕ → List ℕ) (m : Meaning) {f : Found} (n : NumberFound low w m f) where
  pub found-node : {c : ℕ} → f ≡ Some c → NumberNode low w m c
  found-node e = rw e at n

  pub none-found : f ≡ None → m ≡ nothing
  none-found e = rw e at n

  pub no-node : f ≡ None → is_given m ≡ true → ⊥
  unfolding is_given
  no-node e g = not-both g (rw (none-found e) refl)

-- a name's token fits a field
pub name-small : {low high nodes : List ℕ} {lists : Lists} {scope : Scope} (h : Place low high nodes lists scope) (k : ℕ) → IsName (kinds_in h.at) k → k < field
name-small h k e = let l = inside (kinds_in h.at) k (omega arith) in omega (arith, h.at.base.world.few)

module _ {low high nodes : List ℕ} {lists : Lists} {scope : Scope} (h : Place low high nodes lists scope) (k : ℕ) (seen : List ℕ) where
  abbrev Value : Found → Type 0
  Value r = Valued (word_in h.at) (variables_in h.at) (definitions_of h.at) seen (meaning_at h k) r

  pub value-local : {j : ℕ} (r : ℕ) → meaning_at h k ≡ local j → r ≡ cell node.named j 0 0 → Value (Some r)
  unfolding is_channel_name value_named value_cell
  value-local r m e = rw m (ap (λ (x : ℕ). Some x) e)

  pub value-whole : (c r : ℕ) (g : WholeNamed low (word_in h.at) c (meaning_at h k)) → r ≡ number_cell node.literal (signed g.negated (get_or low g.token 0)) → Value (Some r)
  unfolding is_channel_name value_named number_value value_cell
  value-whole c r g q =
      let z = whole_is (word_in h.at) g.negated g.token (get_or low g.token 0) g.told.safe (g.told.wholes refl) in
      rw g.means (ap (λ (x : ℕ). Some x) (q ∙ ap (number_cell node.literal) z.1))

  -- a name that is neither local nor variable
  pub not-known : IsName (kinds_in h.at) k → {f : Found} → f ≡ found_of (place_in (packed low high) k 0 (take scope.count scope.names)) → f ≡ None → variable_named (word_in h.at) k (variables_in h.at) ≡ nothing → Value None
  unfolding is_channel_name
  not-known e is q z = rw (no_local h k e is q, z)

  -- a name that is no local, and the node of its number
  module _ (e : IsName (kinds_in h.at) k) {f : Found} (is : f ≡ found_of (place_in (packed low high) k 0 (take scope.count scope.names))) (q : f ≡ None) (c κ : ℕ) (n : NumberNode low (word_in h.at) (variable_named (word_in h.at) k (variables_in h.at)) c) (κ-is : κ ≡ kind_of c) {b : Bool} (b-is : b ≡ (eqb κ (number_kind false false) || eqb κ (number_kind true false))) where
    pub is-whole : b ≡ true → WholeNamed low (word_in h.at) c (meaning_at h k)
    is-whole t = whole-named low (word_in h.at) c (meaning_at h k) (rw (no_local h k e is q) n) (rw (← κ-is) (sym b-is ∙ t))

    pub no-value : b ≡ false → Value None
    no-value t = rw (channel-named low (word_in h.at) c (meaning_at h k) (rw (no_local h k e is q) n) (rw (← κ-is) (sym b-is ∙ t)))

-- ---- the cases of `settle_node`
module _ {low high nodes : List ℕ} {lists : Lists} {heard : List ℕ} {met : ℕ} {walk : Walk} {c : ℕ} (h : Turn low high nodes lists heard met walk c) where
  abbrev pub here : Place low high nodes lists walk.scope
  here = record { at = h.at; locals = h.point.scope; scoped = h.knows.scoped }

  pub leaf : (role_of (kind_of c) ≡ role.name → ⊥) → Leaf low high nodes lists walk.scope c
  leaf e = record { place = here; fits = h.fits; bound = third_of (get_or nodes (left_of c) 0); point = h.point; scope-is = refl; safe = h.safe; other = e }

  pub leaf-settled : (role_of (kind_of c) ≡ role.name → ⊥) → (r : ℕ) (next : Walk)
      → ((g : Leaf low high nodes lists walk.scope c) → r ≡ cell_by (word_in g.place.at) (variables_in g.place.at) (definitions_of g.place.at) (role_of (kind_of c)) c g.point)
      → Knows low high (kinds_in h.at) heard met next (turned h) → Settled h heard met r next
  unfolding leaf
  leaf-settled e r next f g = record { cell-is = f (leaf e); knows = g; size = refl }

  module _ (e : kind_of c ≡ 3) where
    is-named : role_of (kind_of c) ≡ role.name
    unfolding role_of number_kind
    is-named = rw e

    pub name-fits : IsName (kinds_in h.at) (token_of c)
    unfolding sort_of SortFits number_kind
    name-fits = rw e at h.fits

    abbrev w : ℕ → List ℕ
    w = word_in h.at

    abbrev k : ℕ
    k = token_of c

    abbrev seen : List ℕ
    seen = h.point.seen

    abbrev means : Meaning
    means = meaning w (variables_in h.at) h.point.scope k

    -- the name can be looked up among the channel names
    pub heard-inside : Heard low high heard met k seen
    heard-inside =
        let l = in_tables h.at k name-fits in
        let at : (j : ℕ) → j < met → get_or (kinds_in h.at) (get_or seen j 0) 0 ≡ kind.name = λ j l. named-at (kinds_in h.at) seen h.knows.named j (omega (arith, h.knows.channels)) in
        record {
          count = h.knows.channels;
          room = omega (arith, h.knows.channels, h.heard-room);
          few = omega (arith, h.knows.channels, h.heard-few);
          small = name-small here k name-fits;
          name-low = l.0;
          name-high = l.1;
          each-low = λ j l. (in_tables h.at (get_or seen j 0) (at j l)).0;
          each-high = λ j l. (in_tables h.at (get_or seen j 0) (at j l)).1;
          hung = h.knows.hung;
        }

    pub value-settled : (r : ℕ) (f : Found) → f ≡ Some r → Valued w (variables_in h.at) (definitions_of h.at) seen means f → Settled h heard met r walk
    unfolding cell_by name_cell step_by
    value-settled r f is v = by (is_channel_name means) refl (sym is ∙ v)
      where
        by : (b : Bool) → is_channel_name means ≡ b → ◌≡◌ {A = Found} (Some r) (cond b None (Some (value_cell (value_named w (variables_in h.at) (definitions_of h.at) seen means)))) → Settled h heard met r walk
        by true q v = absurd (let z : ◌≡◌ {A = ℕ} 0 1 = cc in omega arith)
        by false q v =
            let y : r ≡ value_cell (value_named w (variables_in h.at) (definitions_of h.at) seen means) = cc in
            record {
              cell-is = rw (is-named, q) y;
              knows = rw (is-named, q) (record { scoped = h.knows.scoped; channels = h.knows.channels; hung = h.knows.hung; named = h.knows.named; sums = h.knows.sums; definitions = h.knows.definitions });
              size = refl;
            }

    is-channel : (f : Found) → f ≡ None → Valued w (variables_in h.at) (definitions_of h.at) seen means f → is_channel_name means ≡ true
    is-channel f is v = by (is_channel_name means) refl (sym is ∙ v)
      where
        by : (b : Bool) → is_channel_name means ≡ b → ◌≡◌ {A = Found} None (cond b None (Some (value_cell (value_named w (variables_in h.at) (definitions_of h.at) seen means)))) → is_channel_name means ≡ true
        by true q v = q
        by false q v = absurd (let z : ◌≡◌ {A = ℕ} 0 1 = cc in omega arith)

    pub channel-settled : (a r : ℕ) (heard' : List ℕ) (met' : ℕ) (next : Walk) (f : Found) → f ≡ None → Valued w (variables_in h.at) (definitions_of h.at) seen means f → Sought low high heard met k seen heard' met' a → r ≡ cell channel a 0 0
        → next.scope ≡ walk.scope → next.sums ≡ walk.sums → next.definitions ≡ walk.definitions → Settled h heard' met' r next
    unfolding cell_by name_cell step_by
    channel-settled a r heard' met' next f is v s e x z u =
        let on = is-channel f is v in
        let m = met-is w (variables_in h.at) seen k in
        let p : place_in (packed low high) k 0 seen ≡ place_in w k 0 seen = place-alike w (packed low high) (kinds_in h.at) (h.at.base.world.alike (asks h.at)) k name-fits 0 seen h.knows.named in
        let seen-is : heard_after (place_in (packed low high) k 0 seen) seen k ≡ firsts w (variables_in h.at) seen (k ∷ []) = ap (λ (o : Option ℕ). heard_after o seen k) p ∙ sym m.0 in
        let q : a ≡ or_zero (place_in w k 0 (firsts w (variables_in h.at) seen (k ∷ []))) = s.place_is ∙ ap₂ place_or h.knows.channels p ∙ sym m.1 in
        record {
          cell-is = rw (is-named, on) (e ∙ ap (λ (b : ℕ). cell channel b 0 0) q);
          knows =
              rw (is-named, on)
              (record {
                scoped = rw x h.knows.scoped;
                channels = s.count ∙ ap length seen-is;
                hung = subst (λ (ks : List ℕ). Hung low high heard' ks) seen-is s.hung;
                named = named-after (kinds_in h.at) w (variables_in h.at) k seen name-fits h.knows.named;
                sums = z ∙ h.knows.sums;
                definitions = u ∙ h.knows.definitions;
              });
          size = s.size;
        }

-- ---- names that are scales

module _ (low : List ℕ) (w : ℕ → List ℕ) (c : ℕ) where
  -- a name that stands for a number
  pub record NumberNamed (m : Meaning) : Type 0 where
    pub negated : Bool
    pub decimal : Bool
    pub token : ℕ
    pub means : m ≡ variable (Syntax.number negated decimal token)
    pub told : ScaleTold low w negated decimal (kind_of c) token
    pub token-is : token_of c ≡ token

  pub number-of-name : (m : Meaning) → NumberNode low w m c → is_given m ≡ true → NumberNamed m
  unfolding is_given
  number-of-name (local i) n e = absurd n
  number-of-name (variable (Syntax.number b d j)) n e = record { negated = b; decimal = d; token = j; means = refl; told = n.0; token-is = n.1 }
  number-of-name nothing n e = absurd n

pub scale_same : (w : ℕ → List ℕ) (vs : List Variable) (ds : List Definition) (b d : Bool) (j : ℕ) → number_scale w [] [] [] (Syntax.number b d j) ≡ number_scale w vs ds [] (Syntax.number b d j)
unfolding number_scale
scale_same w vs ds b true j = refl
scale_same w vs ds b false j = refl

module _ {low high nodes : List ℕ} {lists : Lists} {scope : Scope} (h : Place low high nodes lists scope) (k : ℕ) where
  abbrev Scaled : ℕ → Type 0
  Scaled r = r ≡ scale_cell (scale_named (word_in h.at) (variables_in h.at) (definitions_of h.at) [] (meaning_at h k))

  pub scale-local : {j : ℕ} (r : ℕ) → meaning_at h k ≡ local j → r ≡ cell node.scale_name j 0 0 → Scaled r
  unfolding scale_named scale_cell
  scale-local r m e = rw m e

  pub scale-number : (c r : ℕ) (g : NumberNamed low (word_in h.at) c (meaning_at h k)) → r ≡ scale_cell (Resolved.fixed (number_scale (word_in h.at) [] [] [] (Syntax.number g.negated g.decimal g.token))) → Scaled r
  unfolding scale_named
  scale-number c r g q =
      rw g.means (q ∙ ap (λ (z : ℤ). scale_cell (Resolved.fixed z)) (scale_same (word_in h.at) (variables_in h.at) (definitions_of h.at) g.negated g.decimal g.token))

-- ---- the cases of `mark_sum`
module _ (c κ k v : ℕ) (xs : List ℕ) (κ-is : κ ≡ kind_of c) where
  pub marked-sum : κ ≡ 49 → k ≡ token_of c → set xs k v ≡ marked_by c xs v
  unfolding marked_by
  marked-sum e t = rw (← κ-is, e, t)

  pub marked-none : (κ ≡ 49 → ⊥) → xs ≡ marked_by c xs v
  unfolding marked_by
  marked-none e = rw (ne_eqb (kind_of c) 49 (λ z. e (κ-is ∙ z)))
