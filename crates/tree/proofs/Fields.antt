-- Two nodes, or two trees of one form, that a table holds at one place have the same fields and the same parts. From the fields of a cell.
use mathlib.Core.Path.{◌≡◌, sym, ◌∙◌, subst}
use mathlib.Core.List.{List}
use mathlib.Core.Bool.{false}
use Prim.Native.Nat.{ℕ, ◌+◌, ◌*◌, ◌%◌, ◌<◌}
use native.Mathlib.Omega.{arith}
use borrow.Author.Tests.{eqb-false}
use lib.Dec.{eqb}
use Rattle.tree.specs.Node.{field, cell}
use Rattle.tree.specs.Table.{Node, Leaf, One, Two, Three}
use Rattle.tree.proofs.Interval.{root}

digit : (a b x y : ℕ) → a < field → b < field → a + 65536 * x ≡ b + 65536 * y → (a ≡ b) × (x ≡ y)
digit a b x y h g e = (omega arith, omega arith)

-- a table holds P and Q at one root only if E, and from the same node on
abbrev pub Once : (ℕ → ℕ → Type 0) → (ℕ → ℕ → Type 0) → Type 0 → Type 0
Once P Q E = (lo lo' k : ℕ) → P lo k → Q lo' k → E × (lo ≡ lo')

module _ {t : List ℕ} {k kind token left third kind' token' left' third' : ℕ} (n : Node t k kind token left third) (m : Node t k kind' token' left' third') where
  pub same_kind : kind % 256 ≡ kind' % 256
  same_kind = sym (root n) ∙ root m

  pub other-kind : eqb (kind % 256) (kind' % 256) ≡ false → ⊥
  other-kind e = eqb-false (kind % 256) (kind' % 256) e same_kind

  pub same-fields : kind ≡ kind' → (token ≡ token') × (left ≡ left') × (third ≡ third')
  unfolding cell
  same-fields q =
      let e = sym n.written ∙ m.written in
      let x = digit token token' (left + 65536 * third) (left' + 65536 * third') n.token-fits m.token-fits (omega (arith, e, q)) in
      let y = digit left left' third third' n.left-fits m.left-fits x.1 in
      (x.0, y.0, y.1)

module _ {t : List ℕ} {kind kind' token token' lo lo' k : ℕ} (q : kind ≡ kind') where
  pub once-leaf : Leaf t kind token lo k → Leaf t kind' token' lo' k → (token ≡ token') × (lo ≡ lo')
  once-leaf h g = ((same-fields h.node g.node q).0, sym h.low ∙ g.low)

  pub once-one : {third third' : ℕ} {P P' : ℕ → ℕ → Type 0} {E : Type 0} → Once P P' E → One t kind token third P lo k → One t kind' token' third' P' lo' k → (token ≡ token') × (third ≡ third') × E × (lo ≡ lo')
  once-one {P' = P'} p h g =
      let f = same-fields h.node g.node q in
      let e : g.root ≡ h.root = omega (arith, h.above, g.above) in
      let r = p lo lo' h.root h.holds (subst (λ (n : ℕ). P' lo' n) e g.holds) in
      (f.0, f.2, r.0, r.1)

  pub once-two : {third third' : ℕ} {P P' Q Q' : ℕ → ℕ → Type 0} {E F : Type 0} → Once P P' E → Once Q Q' F → Two t kind token third P Q lo k → Two t kind' token' third' P' Q' lo' k → (token ≡ token') × (third ≡ third') × E × F × (lo ≡ lo')
  once-two {P' = P'} {Q' = Q'} p s h g =
      let f = same-fields h.node g.node q in
      let e : g.right ≡ h.right = omega (arith, h.above, g.above) in
      let x = p lo lo' h.left h.holds-first (subst (λ (n : ℕ). P' lo' n) (sym f.1) g.holds-first) in
      let y = s (h.left + 1) (g.left + 1) h.right h.holds-second (subst (λ (n : ℕ). Q' (g.left + 1) n) e g.holds-second) in
      (f.0, f.2, x.0, y.0, x.1)

  pub once-three : {P P' Q Q' R R' : ℕ → ℕ → Type 0} {E F G : Type 0} → Once P P' E → Once Q Q' F → Once R R' G → Three t kind token P Q R lo k → Three t kind' token' P' Q' R' lo' k → (token ≡ token') × E × F × G × (lo ≡ lo')
  once-three {P' = P'} {Q' = Q'} {R' = R'} p s u h g =
      let f = same-fields h.node g.node q in
      let e : g.right ≡ h.right = omega (arith, h.above, g.above) in
      let x = p lo lo' h.left h.holds-first (subst (λ (n : ℕ). P' lo' n) (sym f.1) g.holds-first) in
      let y = s (h.left + 1) (g.left + 1) h.middle h.holds-second (subst (λ (n : ℕ). Q' (g.left + 1) n) (sym f.2) g.holds-second) in
      let z = u (h.middle + 1) (g.middle + 1) h.right h.holds-third (subst (λ (n : ℕ). R' (g.middle + 1) n) e g.holds-third) in
      (f.0, x.0, y.0, z.0, x.1)
