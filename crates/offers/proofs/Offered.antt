-- One branch more is collected: by what its offer shows. From the laws of rows.
use Prim.Native.Nat.{ℕ, ◌+◌, ◌≤◌, ◌<◌}
use mathlib.Core.Path.{◌≡◌, refl, ap}
use mathlib.Core.List.{List, [], ◌∷◌}
use mathlib.Core.Option.{Option, none, some, Option-elim}
use native.Mathlib.Omega.{arith}
use lib.IntN.{ℤ}
use lib.ListN.{length, set}
use Rattle.value.specs.Range.{InRange}
use Rattle.model.specs.Resolved
use Rattle.rules.specs.Offers as offers
use Rattle.model.specs.Good.{Every, GoodBranch}
use Rattle.machine.specs.Evaluate.{rate_limit, eval_branch}
use Rattle.machine.specs.Offer.{is_none}
use Rattle.machine.proofs.Ranges.{GoodGuard, branch-good}
use Rattle.eval.specs.declared.offer.Offer.{Offer}
use Rattle.eval.specs.Channels.{ShowsChannel}
use Rattle.eval.specs.Shown as shown
use Rattle.eval.specs.Shown.{bare_offer, ShowsValues, ShowsSets, ShowsPair, ShowsQuery, ShowsAction, ShowsOffer}
use Rattle.std.specs.Prelude.{Err, Ok, None, Some}
use Rattle.offers.specs.declared.row.Row.{Row}
use Rattle.offers.specs.declared.Stop.TheVariants.{Missing}
use Rattle.eval.proofs.Shapes.{shape-bounds}
use Rattle.offers.specs.Slots.{slot_of}
use Rattle.offers.specs.Walk.{guard_or}
use Rattle.offers.specs.Table.{row_of, Small}
use Rattle.offers.specs.Links.{row_limit}
use Rattle.offers.specs.Collect.{Filled, Pushes, put, Grows, CollectsOne, lacks, all, full}
use Rattle.offers.proofs.Numbered.{append-nil}
use Rattle.offers.proofs.Rows.{holds_more}

-- ---- the small numbers of an action's offer
channel-small : {k : ℕ} {a b c : ℤ} {x : offers.Channel} → ShowsChannel k a b c x → k < 32
channel-small {x = x} h = omega (arith, h.shape_is, (shape-bounds x).1)

values-small : {n : ℕ} {a b c d : ℤ} {vs : List ℤ} → ShowsValues n a b c d vs → n < 4
values-small (shown.ShowsValues.one e f g h i) = omega arith
values-small (shown.ShowsValues.two e f g h i) = omega arith

sets-small : {t : List ℕ} {ls : List ℤ} {n : ℕ} {a b c d : ℤ} {xs : List offers.Set} → ShowsSets t ls n a b c d xs → n < 4
sets-small (shown.ShowsSets.one e f g h) = omega arith
sets-small (shown.ShowsSets.two e f g) = omega arith

-- an action's kind, and the bounds of its channel's shape and count
pub record Kinds (r : Offer) : Type 0 where
  pub low : 36 ≤ r.kind
  pub high : r.kind ≤ 44
  pub channel : r.channel.shape < 32
  pub count : r.list.count < 4

pair-kinds : {r : Offer} {x : offers.Pair} (k : ℕ) → r.kind ≡ k → 36 ≤ k → k ≤ 44 → ShowsPair r x → Kinds r
pair-kinds k e l m p = record { low = omega arith; high = omega arith; channel = channel-small p.channel-is; count = values-small p.values-are }

query-kinds : {t : List ℕ} {ls : List ℤ} {r : Offer} {w : offers.Query} (k : ℕ) → r.kind ≡ k → 36 ≤ k → k ≤ 44 → ShowsQuery t ls r w → Kinds r
query-kinds k e l m p = record { low = omega arith; high = omega arith; channel = channel-small p.channel-is; count = sets-small p.sets-are }

pub action-kinds : {t : List ℕ} {ls : List ℤ} {r : Offer} {a : offers.Action} → ShowsAction t ls r a → Kinds r
unfolding bare_offer
action-kinds {r = r} (shown.wait e) =
    let k : r.kind ≡ 36 = ap (λ (o : Offer). o.kind) e in
    let c : r.channel.shape ≡ 0 = ap (λ (o : Offer). o.channel.shape) e in
    let n : r.list.count ≡ 0 = ap (λ (o : Offer). o.list.count) e in
    record { low = omega arith; high = omega arith; channel = omega arith; count = omega arith }
action-kinds (shown.launch e p) = pair-kinds 37 e (omega arith) (omega arith) p
action-kinds (shown.kill e p) = pair-kinds 38 e (omega arith) (omega arith) p
action-kinds (shown.receive e p) = query-kinds 39 e (omega arith) (omega arith) p
action-kinds (shown.bind e p) = query-kinds 40 e (omega arith) (omega arith) p
action-kinds (shown.check e p) = query-kinds 41 e (omega arith) (omega arith) p
action-kinds (shown.send e p) = pair-kinds 42 e (omega arith) (omega arith) p
action-kinds (shown.take e p) = query-kinds 43 e (omega arith) (omega arith) p
action-kinds (shown.take_bind e p) = query-kinds 44 e (omega arith) (omega arith) p

-- ---- an offer that is there fits a head
pub fits_head : (m : Resolved.Model) (t : List ℕ) (ls : List ℤ) (b : Resolved.Branch) (r : Offer) → Every InRange ls → GoodBranch m (length ls) b
    → ShowsOffer t ls (eval_branch ls b) (Some (Some r)) → Small r
unfolding GoodGuard
fits_head m t ls b r range good sh = go (eval_branch ls b) refl sh
  where
    small : {a : offers.Action} {n : ℕ} → ShowsAction t ls r a → r.rate ≡ n → n ≤ rate_limit → Small r
    small s e l = let k = action-kinds s in record { kind = omega (arith, k.high); channel = k.channel; count = k.count; rate = omega arith }

    go : (g : Option offers.Guard) → eval_branch ls b ≡ g → ShowsOffer t ls g (Some (Some r)) → Small r
    go none e x = elim x [ ]
    go (some offers.shut) e (shown.there x) = elim x [ ]
    go (some (offers.bare a n)) e (shown.there (shown.bare s q)) = small s q (branch-good m ls range b good (offers.bare a n) e).1
    go (some (offers.opened a n)) e (shown.there (shown.opened s q)) = small s q (branch-good m ls range b good (offers.opened a n) e).1

-- ---- one branch
module _ (t : List ℕ) (ls : List ℤ) (i j n : ℕ) (rs : List Row) where
  pub one-lacks : (n' : ℕ) (rs' : List Row) (g : Option offers.Guard) → ShowsOffer t ls g None → CollectsOne t ls i j n rs n' rs' g (Err (Missing i j))
  one-lacks n' rs' none shown.missing = lacks refl
  one-lacks n' rs' (some g) x = elim x [ ]

  none_more : Grows t ls i n rs rs [] n
  none_more = record { holds = λ L xs e l h. rw (append-nil xs) h; rows = omega arith }

  pub one-hidden : (g : Option offers.Guard) → ShowsOffer t ls g (Some None) → CollectsOne t ls i j n rs n rs g (Ok tt)
  unfolding is_none guard_or slot_of Option-elim
  one-hidden none x = elim x [ ]
  one-hidden (some offers.shut) (shown.there shown.shut) = all refl none_more
  one-hidden (some (offers.bare a m)) (shown.there x) = elim x [ ]
  one-hidden (some (offers.opened a m)) (shown.there x) = elim x [ ]

  module _ (r : Offer) (small : Small r) (pi : i < 256) (pj : j < 16) where
    one_more : n < length rs → (a : offers.Action) (m : ℕ) → ShowsAction t ls r a → r.rate ≡ m
        → Grows t ls i n rs (set rs n (row_of i j r)) (record { place = i; branch = j; action = a; rate = m } ∷ []) (n + 1)
    one_more lh a m s q =
        record {
          holds = λ L xs e l h. rw (← q) (holds_more rs n i j r small pi pj lh t L xs a l h (rw e s));
          rows = omega arith;
        }

    one_put : n < length rs → (g : Option offers.Guard) → ShowsOffer t ls g (Some (Some r)) → CollectsOne t ls i j n rs (n + 1) (set rs n (row_of i j r)) g (Ok tt)
    unfolding is_none guard_or slot_of Option-elim
    one_put lh none x = elim x [ ]
    one_put lh (some offers.shut) (shown.there x) = elim x [ ]
    one_put lh (some (offers.bare a m)) (shown.there (shown.bare s q)) = all refl (one_more lh a m s q)
    one_put lh (some (offers.opened a m)) (shown.there (shown.opened s q)) = all refl (one_more lh a m s q)

    pub one-pushed : {n' : ℕ} {rs' : List Row} {w : Filled} (g : Option offers.Guard) → n < row_limit → ShowsOffer t ls g (Some (Some r)) → Pushes (row_of i j r) n rs n' rs' w
        → CollectsOne t ls i j n rs n' rs' g w
    one-pushed g l x (put lh) = one_put lh g x
    one-pushed g l x (full h) = full (omega arith)
