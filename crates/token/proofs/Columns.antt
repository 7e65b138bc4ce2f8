-- The two columns of a table of contents: at a place, in length, and after a write.
use mathlib.Core.Path.{◌≡◌}
use mathlib.Core.List.{List}
use Prim.Native.Nat.{ℕ}
use lib.ListN.{length, get_or, set, length-map, get_or-map}
use lib.Seq.{map-set}
use Rattle.token.specs.declared.Content.{Content}
use Rattle.token.specs.Contents.{lows_in, highs_in, none}

pub low_at : (cs : List Content) (i : ℕ) → get_or (lows_in cs) i 0 ≡ (get_or cs i none).low
unfolding lows_in
low_at cs i = get_or-map (λ (c : Content). c.low) cs i none

pub high_at : (cs : List Content) (i : ℕ) → get_or (highs_in cs) i 0 ≡ (get_or cs i none).high
unfolding highs_in
high_at cs i = get_or-map (λ (c : Content). c.high) cs i none

pub length-lows : (cs : List Content) → length (lows_in cs) ≡ length cs
unfolding lows_in
length-lows cs = length-map cs (λ (c : Content). c.low)

pub length-highs : (cs : List Content) → length (highs_in cs) ≡ length cs
unfolding highs_in
length-highs cs = length-map cs (λ (c : Content). c.high)

pub lows-set : (cs : List Content) (i : ℕ) (c : Content) → lows_in (set cs i c) ≡ set (lows_in cs) i c.low
unfolding lows_in
lows-set cs i c = map-set (λ (c : Content). c.low) cs i c

pub highs-set : (cs : List Content) (i : ℕ) (c : Content) → highs_in (set cs i c) ≡ set (highs_in cs) i c.high
unfolding highs_in
highs-set cs i c = map-set (λ (c : Content). c.high) cs i c
