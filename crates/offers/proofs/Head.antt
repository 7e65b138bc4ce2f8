-- A head's parts are what it was made of, within their bounds. By division with remainder.
use Prim.Native.Nat.{ℕ, ◌<◌}
use mathlib.Core.Path.{◌≡◌}
use native.Mathlib.Omega.{arith}
use Rattle.offers.specs.Head.{head, kind_in, shape_in, count_in, branch_in, place_in, rate_in}

module _ (kind shape count branch place rate : ℕ) (l₁ : kind < 64) (l₂ : shape < 32) (l₃ : count < 4) (l₄ : branch < 16) (l₅ : place < 256) where
  pub head-kind : kind_in (head kind shape count branch place rate) ≡ kind
  unfolding kind_in head
  head-kind = omega arith

  pub head-shape : shape_in (head kind shape count branch place rate) ≡ shape
  unfolding shape_in head
  head-shape = omega arith

  pub head-count : count_in (head kind shape count branch place rate) ≡ count
  unfolding count_in head
  head-count = omega arith

  pub head-branch : branch_in (head kind shape count branch place rate) ≡ branch
  unfolding branch_in head
  head-branch = omega arith

  pub head-place : place_in (head kind shape count branch place rate) ≡ place
  unfolding place_in head
  head-place = omega arith

  pub head-rate : rate_in (head kind shape count branch place rate) ≡ rate
  unfolding rate_in head
  head-rate = omega arith
