-- A cell's fields are read back from it, so that cells are one to one, and a cell fits 56 bits; so too of the nodes of a table. From arithmetic alone.
use mathlib.Core.Path.{◌≡◌, ap, ◌∙◌}
use mathlib.Core.List.{List}
use Prim.Native.Nat.{ℕ, ◌<◌}
use native.Mathlib.Omega.{arith}
use lib.ListN.{get_or}
use Rattle.tree.specs.Node.{field, cell, kind_of, token_of, left_of, third_of}
use Rattle.tree.specs.Table.{Node}

module _ {kind token left third : ℕ} (k : kind < 256) (a : token < field) (b : left < field) (c : third < field) where
  pub kind-of : kind_of (cell kind token left third) ≡ kind
  unfolding cell kind_of
  kind-of = omega arith

  pub token-of : token_of (cell kind token left third) ≡ token
  unfolding cell token_of
  token-of = omega arith

  pub left-of : left_of (cell kind token left third) ≡ left
  unfolding cell left_of
  left-of = omega arith

  pub third_of_lem : third_of (cell kind token left third) ≡ third
  unfolding cell third_of
  third_of_lem = omega arith

-- ---- the fields of a node
module _ {t : List ℕ} {k kind token left third : ℕ} (n : Node t k kind token left third) (h : kind < 256) where
  pub node-kind : kind_of (get_or t k 0) ≡ kind
  node-kind = ap kind_of n.written ∙ kind-of h n.token-fits n.left-fits n.third-fits

  pub node-token : token_of (get_or t k 0) ≡ token
  node-token = ap token_of n.written ∙ token-of h n.token-fits n.left-fits n.third-fits

  pub node-left : left_of (get_or t k 0) ≡ left
  node-left = ap left_of n.written ∙ left-of h n.token-fits n.left-fits n.third-fits

  pub node-third : third_of (get_or t k 0) ≡ third
  node-third = ap third_of n.written ∙ third_of_lem h n.token-fits n.left-fits n.third-fits
