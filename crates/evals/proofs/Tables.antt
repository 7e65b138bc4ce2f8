-- The tables of the specimens hold what the program says of them. By computation, node by node.
use mathlib.Core.Path.{◌≡◌, refl}
use mathlib.Core.List.{List, [], ◌∷◌}
use mathlib.Core.Bool.{false, true}
use mathlib.Core.Option.{some}
use Prim.Native.Nat.{ℕ, ◌+◌, ◌-◌, ◌*◌, ◌≤◌, ◌<◌}
use native.Mathlib.Omega.{arith}
use borrow.Author.Tests.{ltb-true}
use lib.Dec.{lit<, lit≤}
use lib.IntN.{ℤ, pos, negsuc, nat_abs}
use lib.Signed.{lt_z}
use Rattle.value.specs.Range.{InRange}
use Rattle.value.specs.Items.{one_item, three_items}
use Rattle.value.proofs.Bounds.{in_size}
use Rattle.grammar.specs.Grammar.{greater}
use Rattle.grammar.specs.Syntax.{divide, without}
use Rattle.tree.specs.Node.{cell, kind_of, token_of, left_of, third_of, op_kind, join_kind, test_kind, relation_kind}
use Rattle.model.specs.Resolved
use Rattle.tables.specs.Settled as Settled
use Rattle.tables.specs.Settled.{offset, lifted, number_cell}
use Rattle.model.specs.Good.{Every, GoodExpr, GoodSet, GoodCond, GoodGate, GoodName, GoodItem, GoodScale, GoodRate, GoodAction, GoodPart, GoodBranch, scale_limit}
use Rattle.eval.specs.Held.{Held}

-- ---- numbers
pub zero_in : InRange (pos 0)
zero_in = record { low = refl; high = refl }

pub zeros-in : Every InRange (pos 0 ∷ [])
unfolding Every
zeros-in = (zero_in, tt)

pub two_in : (i y : ℤ) → InRange i → InRange y → Every InRange (i ∷ y ∷ [])
unfolding Every
two_in i y h k = (h, (k, tt))

small : {z : ℤ} → InRange z → nat_abs z < offset
small {z} h = omega (arith, in_size z h)

pub below-zero : (z : ℤ) → lt_z z (pos 0) ≡ true → 1 + 256 * (offset - nat_abs z) ≡ number_cell 1 z
unfolding number_cell lifted
below-zero (pos n) e = absurd (omega (arith, ltb-true n 0 e))
below-zero (negsuc n) e = refl

-- ---- tables
module _ (x y : ℤ) (a : InRange x) (b : InRange y) where
  pub quotient-holds : Held (Settled.Expr (number_cell 1 x ∷ number_cell 1 y ∷ cell 8 0 0 0 ∷ [])) (GoodExpr 1) 2
  unfolding Settled.Expr GoodExpr op_kind cell kind_of left_of
  quotient-holds = record {
    part = Resolved.binary divide (Resolved.constant x) (Resolved.constant y);
    at = record {
      right = 1;
      above = refl;
      kind-is = refl;
      below = lit< tt;
      holds-first = record { cell-is = refl; fits = small a };
      holds-second = record { cell-is = refl; fits = small b };
    };
    fit = (a, b);
  }

  pub range-holds : Held (Settled.Set (number_cell 1 x ∷ number_cell 1 y ∷ cell 11 0 0 0 ∷ [])) (GoodSet 1) 2
  unfolding Settled.Set Settled.Expr GoodSet GoodExpr cell kind_of left_of
  range-holds = record {
    part = Resolved.range (Resolved.constant x) (Resolved.constant y);
    at = record {
      right = 1;
      above = refl;
      kind-is = refl;
      below = lit< tt;
      holds-first = record { cell-is = refl; fits = small a };
      holds-second = record { cell-is = refl; fits = small b };
    };
    fit = (a, b);
  }

  abbrev pub rest : ℤ → Resolved.Set
  rest z = Resolved.joined without (Resolved.range (Resolved.constant x) (Resolved.constant y)) (Resolved.single (Resolved.constant z))

  pub rest-at : (z : ℤ) → InRange z → Settled.Set (number_cell 1 x ∷ number_cell 1 y ∷ cell 11 0 0 0 ∷ number_cell 1 z ∷ cell 12 0 2 0 ∷ []) (rest z) 4
  unfolding Settled.Set Settled.Expr join_kind cell kind_of left_of
  rest-at z c = record {
    right = 3;
    above = refl;
    kind-is = refl;
    below = lit< tt;
    holds-first = record {
      right = 1;
      above = refl;
      kind-is = refl;
      below = lit< tt;
      holds-first = record { cell-is = refl; fits = small a };
      holds-second = record { cell-is = refl; fits = small b };
    };
    holds-second = record { cell-is = refl; fits = small c };
  }

  pub rest-holds : (z : ℤ) → InRange z → Held (Settled.Set (number_cell 1 x ∷ number_cell 1 y ∷ cell 11 0 0 0 ∷ number_cell 1 z ∷ cell 12 0 2 0 ∷ [])) (GoodSet 1) 4
  unfolding GoodSet GoodExpr
  rest-holds z c = record { part = rest z; at = rest-at z c; fit = ((a, b), c) }

-- [i>0] -> {c![y/i],1} of the locals i and y
pub gated-holds : (m : Resolved.Model) × Held (Settled.Branch (
    cell 3 0 0 0
    ∷ number_cell 1 (pos 0)
    ∷ cell 17 0 0 0
    ∷ cell 66 0 0 0
    ∷ cell 3 1 0 0
    ∷ cell 3 0 0 0
    ∷ cell 8 0 4 0
    ∷ cell 37 0 3 0
    ∷ number_cell 29 (pos 10000)
    ∷ cell 45 0 7 0
    ∷ cell 47 0 2 0
    ∷ []
    )) (GoodBranch m 2) 10
unfolding Settled.Branch Settled.Gated Settled.Cond Settled.Expr Settled.Offer Settled.Action Settled.Channel Settled.Item Settled.OneOrTwo Settled.Rate Settled.Scale
    Every GoodExpr GoodCond GoodGate GoodName GoodItem GoodScale GoodRate GoodAction op_kind test_kind relation_kind cell kind_of token_of left_of
gated-holds = (
  record { sums = []; definitions = []; channels = 1; starts = []; words = λ k. [] },
  record {
    part = record {
      gate = some (Resolved.compare false greater (Resolved.local_at 0) (Resolved.constant (pos 0)));
      action = Resolved.launch (one_item (Resolved.name 0)) (Resolved.binary divide (Resolved.local_at 1) (Resolved.local_at 0) ∷ []);
      rate = Resolved.plain (Resolved.fixed (pos 10000));
      next = [];
    };
    at = record {
      right = 9;
      above = refl;
      kind-is = refl;
      below = lit< tt;
      holds-first = record {
        right = 1;
        above = refl;
        kind-is = refl;
        below = lit< tt;
        holds-first = record { kind-is = refl; index_is = refl };
        holds-second = record { cell-is = refl; fits = lit< tt };
      };
      holds-second = record {
        offer = record {
          right = 8;
          above = refl;
          kind-is = refl;
          below = lit< tt;
          holds-first = record {
            right = 6;
            above = refl;
            kind-is = refl;
            below = lit< tt;
            holds-first = record { kind-is = refl; index_is = refl };
            holds-second = record {
              right = 5;
              above = refl;
              kind-is = refl;
              below = lit< tt;
              holds-first = record { kind-is = refl; index_is = refl };
              holds-second = record { kind-is = refl; index_is = refl };
            };
          };
          holds-second = record { cell-is = refl; fits = lit< tt };
        };
      };
    };
    fit = record {
      gate = (lit< tt, zero_in);
      action = record { channel = lit< tt; number = record { one = lit≤ tt; two = lit≤ tt }; values = ((lit< tt, lit< tt), tt) };
      rate = lit≤ tt;
      next = tt;
    };
  },
)

pub rate-holds : (n : ℕ) → n < offset → n ≤ scale_limit → Held (Settled.Rate (number_cell 29 (pos n) ∷ [])) (GoodRate 1) 0
unfolding Settled.Rate Settled.Scale GoodRate GoodScale
rate-holds n h g = record { part = Resolved.plain (Resolved.fixed (pos n)); at = record { cell-is = refl; fits = h }; fit = g }

-- ---- tables that begin with x, y, z and y/z
module _ (x y z : ℤ) (a : InRange x) (b : InRange y) (c : InRange z) where
  abbrev pub after : List ℕ → List ℕ
  after cs = number_cell 1 x ∷ number_cell 1 y ∷ number_cell 1 z ∷ cell 8 0 1 0 ∷ cs

  abbrev over : Resolved.Expr
  over = Resolved.binary divide (Resolved.constant y) (Resolved.constant z)

  first-at : (cs : List ℕ) → Settled.Expr (after cs) (Resolved.constant x) 0
  unfolding Settled.Expr
  first-at cs = record { cell-is = refl; fits = small a }

  quotient-at : (cs : List ℕ) → Settled.Expr (after cs) over 3
  unfolding Settled.Expr op_kind cell kind_of left_of
  quotient-at cs = record {
    right = 2;
    above = refl;
    kind-is = refl;
    below = lit< tt;
    holds-first = record { cell-is = refl; fits = small b };
    holds-second = record { cell-is = refl; fits = small c };
  }

  two-fit : Every (GoodExpr 1) (Resolved.constant x ∷ over ∷ [])
  unfolding Every GoodExpr
  two-fit = (a, ((b, c), tt))

  -- the set x..y/z
  pub ends-hold : Held (Settled.Set (after (cell 11 0 0 0 ∷ []))) (GoodSet 1) 4
  unfolding Settled.Set GoodSet GoodExpr cell kind_of left_of
  ends-hold = record {
    part = Resolved.range (Resolved.constant x) over;
    at = record { right = 3; above = refl; kind-is = refl; below = lit< tt; holds-first = first-at _; holds-second = quotient-at _ };
    fit = (a, (b, c));
  }

  -- the condition x>y/z
  pub greater-holds : Held (Settled.Cond (after (cell 17 0 0 0 ∷ []))) (GoodCond 1) 4
  unfolding Settled.Cond GoodCond GoodExpr test_kind relation_kind cell kind_of left_of
  greater-holds = record {
    part = Resolved.compare false greater (Resolved.constant x) over;
    at = record { right = 3; above = refl; kind-is = refl; below = lit< tt; holds-first = first-at _; holds-second = quotient-at _ };
    fit = (a, (b, c));
  }

  -- the values x,y/z
  pub values-hold : Held (Settled.OneOrTwo (after (cell 35 0 0 0 ∷ [])) (Settled.Expr (after (cell 35 0 0 0 ∷ [])))) (Every (GoodExpr 1)) 4
  unfolding Settled.OneOrTwo cell kind_of left_of
  values-hold = record {
    part = Resolved.constant x ∷ over ∷ [];
    at = record { right = 3; above = refl; kind-is = refl; below = lit< tt; holds-first = first-at _; holds-second = quotient-at _ };
    fit = two-fit;
  }

  -- the arguments x,y/z, and the call of definition 0 with them
  abbrev called : List ℕ
  called = after (cell 52 0 0 0 ∷ cell 51 0 0 2 ∷ [])

  arguments-at : Settled.Arguments called (Resolved.constant x ∷ over ∷ []) 4
  unfolding Settled.Arguments cell kind_of left_of
  arguments-at = record { right = 3; above = refl; kind-is = refl; below = lit< tt; holds-first = first-at _; holds-second = quotient-at _ }

  pub arguments-hold : Held (Settled.Arguments called) (Every (GoodExpr 1)) 4
  arguments-hold = record { part = Resolved.constant x ∷ over ∷ []; at = arguments-at; fit = two-fit }

  pub call-holds : (m : Resolved.Model) × Held (Settled.Parts called) (Every (GoodPart m 1)) 5
  unfolding Every GoodPart cell kind_of token_of third_of
  call-holds = (
    record { sums = []; definitions = record { params = 2; sums = [] } ∷ []; channels = 0; starts = []; words = λ k. [] },
    record {
      part = Resolved.call 0 (Resolved.constant x ∷ over ∷ []) ∷ [];
      at = Settled.called (record { root = 4; above = refl; call-is = record { kind-is = refl; index_is = refl }; count-is = refl; holds = arguments-at });
      fit = ((record { definition = record { params = 2; sums = [] }; exists = refl; params = refl }, two-fit), tt);
    },
  )

  -- the channel of x, y/z and the name 6
  pub items-hold : (m : Resolved.Model) × Held (Settled.Channel (after (cell 66 6 0 0 ∷ cell 68 0 0 3 ∷ []))) (GoodName m 1) 5
  unfolding Settled.Channel Settled.Item GoodName GoodItem GoodExpr cell kind_of token_of left_of third_of
  items-hold = (
    record { sums = []; definitions = []; channels = 7; starts = []; words = λ k. [] },
    record {
      part = three_items (Resolved.number (Resolved.constant x)) (Resolved.number over) (Resolved.name 6);
      at = record {
        right = 4;
        above = refl;
        kind-is = refl;
        first_below = lit< tt;
        second_below = lit< tt;
        holds-first = first-at _;
        holds-second = quotient-at _;
        holds-third = record { kind-is = refl; index_is = refl };
      };
      fit = (a, (b, c), lit< tt);
    },
  )
