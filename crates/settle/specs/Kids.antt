-- The channel names met, as a search tree in a table of nodes: node i is the channel name with the number i, and each name hangs below the root by its own bits. Assumes nothing: these are definitions.
use Rattle.std.specs.Prelude.{◌≡◌, List, cond, eqb, Option, None, Some, ℕ, zero, suc, ◌+◌, ◌*◌, ◌/◌, ◌%◌, ◌<◌, length, get_or, set}
use Rattle.tree.specs.Node.{cell, token_of, left_of, third_of}
use Rattle.names.specs.Lists.{packed}

-- a packed name's hash
unfoldable pub hash_of : ℕ → ℕ → ℕ
hash_of a b = (a % 2147483629 * 1640531527 + b % 2147483629 * 1013904223) % 2147483629

-- how many numbers a word of 64 bits has, and its highest bit
abbrev pub word_size : ℕ
word_size = 18446744073709551616

abbrev pub top_bit : ℕ
top_bit = 9223372036854775808

-- the bits of a name as one number: 64 of its hash, then 128 of the packed name
unfoldable pub bits_of : List ℕ → List ℕ → ℕ → ℕ
bits_of low high k = hash_of (get_or low k 0) (get_or high k 0) + word_size * (get_or low k 0 + word_size * get_or high k 0)

-- a node's kid for a bit; 0 is none, for node 0 is the root
unfoldable pub kid_of : ℕ → ℕ → ℕ
kid_of c zero = left_of c
kid_of c (suc b) = third_of c

-- and as a node that is there
unfoldable pub kid_found : ℕ → ℕ → Option ℕ
kid_found c b = cond (eqb (kid_of c b) 0) None (Some (kid_of c b))

-- the node with kid m for a bit
unfoldable pub with_kid : ℕ → ℕ → ℕ → ℕ
with_kid c zero m = cell 0 (token_of c) m (third_of c)
with_kid c (suc b) m = cell 0 (token_of c) (left_of c) m

-- the node of a name without kids
abbrev pub alone : ℕ → ℕ
alone k = cell 0 k 0 0

-- the name k becomes node n, a kid of node i
unfoldable pub hung_below : List ℕ → ℕ → ℕ → ℕ → ℕ → List ℕ
hung_below t i b n k = set (set t n (alone k)) i (with_kid (get_or t i 0) b n)

-- by the bits of x, the lowest first, the way goes down from node i to node j, and the bits y are left
pub data Way (t : List ℕ) : ℕ → ℕ → ℕ → ℕ → Type 0 where
  here : {x i : ℕ} → Way t x i x i
  down : {x i y j : ℕ} → 0 < kid_of (get_or t i 0) (x % 2) → Way t (x / 2) (kid_of (get_or t i 0) (x % 2)) y j → Way t x i y j

-- the first nodes are the channel names met; no two are the same, kids come after their one parent, and each name's own bits lead to it
pub record Hung (low high t seen : List ℕ) : Type 0 where
  pub names : (i : ℕ) → i < length seen → token_of (get_or t i 0) ≡ get_or seen i 0
  pub differ : (i j : ℕ) → i < length seen → j < length seen → packed low high (get_or seen i 0) ≡ packed low high (get_or seen j 0) → i ≡ j
  pub after : (i b : ℕ) → i < length seen → 0 < kid_of (get_or t i 0) b → i < kid_of (get_or t i 0) b
  pub inside : (i b : ℕ) → i < length seen → kid_of (get_or t i 0) b < length seen
  pub parents : (i j b c : ℕ) → i < length seen → j < length seen → b < 2 → c < 2 → 0 < kid_of (get_or t i 0) b → kid_of (get_or t i 0) b ≡ kid_of (get_or t j 0) c → (i ≡ j) × (b ≡ c)
  pub ways : (i : ℕ) → i < length seen → (y : ℕ) × Way t (bits_of low high (get_or seen i 0)) 0 y i
