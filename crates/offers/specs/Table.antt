-- The table of offers: a row for each slot, in order. Assumes nothing: these are definitions.
use Rattle.std.specs.Prelude.{◌≡◌, List, [], ℕ, ◌≤◌, ◌<◌, ℤ}
use Rattle.std.proofs.Math.Option.{some, Option-elim}
use Rattle.std.proofs.Math.ListN.{get_elem?}
use Rattle.machine.specs.Evaluate.{rate_limit}
use Rattle.machine.specs.Offer.{Process}
use Rattle.eval.specs.declared.offer.Offer.{Offer}
use Rattle.eval.specs.Shown.{ShowsAction}
use Rattle.offers.specs.Head.{head, kind_in, shape_in, count_in, branch_in, place_in, rate_in}
use Rattle.offers.specs.declared.row.Row.{Row}
use Rattle.offers.specs.Links.{row_at}
use Rattle.offers.specs.Slots.{Slot}

-- the offer in a row
unfoldable pub offer_in : Row → Offer
offer_in r =
    record {
      kind = kind_in r.head;
      rate = rate_in r.head;
      channel = record { shape = shape_in r.head; first = r.channel; second = r.channel2; third = r.channel3 };
      list = record { count = count_in r.head; first = r.first; first_end = r.first_end; second = r.second; second_end = r.second_end };
    }

-- an offer of branch j at place i, as it is written
unfoldable pub row_of : (i j : ℕ) → Offer → Row
row_of i j o =
    record {
      head = head o.kind o.channel.shape o.list.count j i o.rate;
      channel = o.channel.first;
      first = o.list.first;
      first_end = o.list.first_end;
      second = o.list.second;
      second_end = o.list.second_end;
      channel2 = o.channel.second;
      channel3 = o.channel.third;
    }

-- an offer whose small numbers fit a head
pub record Small (r : Offer) : Type 0 where
  pub kind : r.kind < 64
  pub channel : r.channel.shape < 32
  pub count : r.list.count < 4
  pub rate : r.rate ≤ rate_limit

-- the locals of the process at a place
unfoldable pub locals_of : List Process → ℕ → List ℤ
locals_of ps i = Option-elim (get_elem? ps i) [] (λ p. p.locals)

-- a row shows the slot x; t: the settled nodes, ls: the locals of each place
pub record Shown (t : List ℕ) (ls : ℕ → List ℤ) (r : Row) (x : Slot) : Type 0 where
  pub place_is : place_in r.head ≡ x.place
  pub branch-is : branch_in r.head ≡ x.branch
  pub rate-is : rate_in r.head ≡ x.rate
  pub rate-fits : x.rate ≤ rate_limit
  pub shows : ShowsAction t (ls x.place) (offer_in r) x.action

-- the first rows show these slots
pub record Holds (t : List ℕ) (ls : ℕ → List ℤ) (rs : List Row) (xs : List Slot) : Type 0 where
  pub shown : (k : ℕ) (x : Slot) → get_elem? xs k ≡ some x → Shown t ls (row_at rs k) x
