-- Handshake receives by the bucket of their channel: the first of each bucket, and after each the next. Assumes nothing: these are definitions.
use Rattle.std.specs.Prelude.{◌≡◌, List, ℕ, suc, ◌+◌, ◌*◌, ◌%◌, ◌≤◌, ◌<◌, ℤ, pos, negsuc, length, get_or}
use Rattle.tree.specs.Node as node
use Rattle.model.specs.Limits.{branch_limit}
use Rattle.model.specs.Opening.{process_limit}
use Rattle.offers.specs.declared.row.Row.{Row}
use Rattle.offers.specs.Head.{kind_in}

-- how many rows the table of offers has at most: every branch of every process
abbrev pub row_limit : ℕ
row_limit = process_limit * branch_limit

abbrev pub bucket_limit : ℕ
bucket_limit = 256

-- what an item's value adds to its channel's bucket
unfoldable pub bucket_part : ℤ → ℕ
bucket_part (pos n) = n % bucket_limit
bucket_part (negsuc n) = n % bucket_limit

-- the bucket of a channel by the values of its items
unfoldable pub bucket_of : ℤ → ℤ → ℤ → ℕ
bucket_of a b c = (bucket_part a + 5 * bucket_part b + 25 * bucket_part c) % bucket_limit

-- row k of a table
abbrev pub row_at : List Row → ℕ → Row
row_at rs k = get_or rs k (record { head = 0; channel = pos 0; first = pos 0; first_end = pos 0; second = pos 0; second_end = pos 0; channel2 = pos 0; channel3 = pos 0 })

module _ (rs : List Row) where
  -- row q is a handshake receive, and its channel is in bucket h
  pub record InBucket (h q : ℕ) : Type 0 where
    pub receives : node.hand_receive ≤ kind_in (row_at rs q).head
    pub bucket : bucket_of (row_at rs q).channel (row_at rs q).channel2 (row_at rs q).channel3 ≡ h

  -- of the rows from a on, b is the first in bucket h; there is none if b is the number of rows
  pub record Leads (h a b : ℕ) : Type 0 where
    pub low : a ≤ b
    pub high : b ≤ length rs
    pub none : (q : ℕ) → a ≤ q → q < b → InBucket h q → ⊥
    pub here : b < length rs → InBucket h b

  -- the rows from k on are linked
  pub record Linked (k : ℕ) (fs ns : List ℕ) : Type 0 where
    pub first : (h : ℕ) → h < bucket_limit → Leads h k (get_or fs h 0)
    pub next : (q h : ℕ) → k ≤ q → q < length rs → InBucket h q → Leads h (suc q) (get_or ns q 0)
