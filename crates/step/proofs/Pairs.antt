-- What an offer does to the lit pairs of a state, in its numbers. From the laws of launch and kill.
use mathlib.Core.Path.{◌≡◌, refl, sym, ap, ◌∙◌}
use mathlib.Core.List.{List, map}
use mathlib.Core.Bool.{Bool, true, false, not}
use Prim.Native.Nat.{ℕ, ◌≤◌, ◌<◌}
use native.Mathlib.Omega.{arith}
use borrow.Author.Tests.{le-leb, lt-leb}
use lib.Dec.{leb}
use lib.IntN.{ℤ}
use lib.ListN.{length}
use Rattle.model.specs.Resolved
use Rattle.rules.specs.Offers as offers
use Rattle.rules.specs.Rules.{Change, unchanged, launched, killed}
use Rattle.rules.specs.Order.{Ascending}
use Rattle.rules.specs.Pairs.{Before, insert, pairs_after}
use Rattle.rules.proofs.Launched.{launch-lit, launch-counts}
use Rattle.machine.specs.State.{State, GoodPair, pair_numbers, state_numbers, pair_width}
use Rattle.machine.proofs.Full.{no_longer, overfull}
use Rattle.state.specs.Fits.{scopes_of}
use Rattle.state.specs.Read.{pair_count}
use Rattle.state.specs.Test.{is_lit, rows, pair_part}
use Rattle.state.specs.Change.{pair_rows, pair_launched, pair_killed}
use Rattle.state.proofs.Image.{pair-rows}
use Rattle.state.proofs.Entries.{pair-wide}
use Rattle.state.proofs.Over.{pair_fits}
use Rattle.state.proofs.Lit.{lit-in, unlit-in, launch-numbers, kill-numbers}
use Rattle.eval.specs.declared.offer.Offer.{Offer}
use Rattle.std.specs.Prelude.{Some, None}
use Rattle.eval.specs.Shown.{ShowsPair}
use Rattle.step.specs.Enter.{ShowsChange, launches, kills, neither, GoodNew, changed, Changes}
use Rattle.step.proofs.Tables.{few, fits, pairs-are}

not_full : (n : ℕ) → n ≤ 256 → false ≡ not (leb n 256)
not_full n h = rw (le-leb n 256 h)

pub pair-width : (m : Resolved.Model) (x : offers.Pair) → GoodPair m x → length (pair_numbers x) ≡ pair_width
pair-width m x g = pair-wide m.channels x (pair_fits m x g)

-- which pair an offer of a kind carries
pub record Launching (r : Offer) (m : Resolved.Model) (n : Change) : Type 0 where
  pub pair : offers.Pair
  pub is : n ≡ launched pair
  pub shows : ShowsPair r pair
  pub good : GoodPair m pair

pub record Killing (r : Offer) (m : Resolved.Model) (n : Change) : Type 0 where
  pub pair : offers.Pair
  pub is : n ≡ killed pair
  pub shows : ShowsPair r pair
  pub good : GoodPair m pair

module _ (zs : List ℤ) (r : Offer) where
  pub launching : r.kind ≡ 37 → (m : Resolved.Model) (s : State) (n : Change) → Changes zs (Some r) m s n → Launching r m n
  unfolding GoodNew
  launching e m s n c = go n c.shows c.good
    where
      go : (n : Change) → ShowsChange (Some r) n → GoodNew m n → Launching r m n
      go unchanged (neither f g) h = absurd (f e)
      go (launched x) (launches k p) h = record { pair = x; is = refl; shows = p; good = h }
      go (killed x) (kills k p) h = absurd (omega arith)

  pub killing : r.kind ≡ 38 → (m : Resolved.Model) (s : State) (n : Change) → Changes zs (Some r) m s n → Killing r m n
  unfolding GoodNew
  killing e m s n c = go n c.shows c.good
    where
      go : (n : Change) → ShowsChange (Some r) n → GoodNew m n → Killing r m n
      go unchanged (neither f g) h = absurd (g e)
      go (launched x) (launches k p) h = absurd (omega arith)
      go (killed x) (kills k p) h = record { pair = x; is = refl; shows = p; good = h }

  module _ (m : Resolved.Model) (s : State) (n : Change) (c : Changes zs (Some r) m s n) where
    -- ---- 19
    few-pairs : length s.pairs ≤ 256
    few-pairs = c.stands.state.few-pairs

    ascending : Ascending Before s.pairs
    ascending = c.stands.state.ascending

    pub no-launch : (r.kind ≡ 37 → ⊥) → false ≡ not (leb (length (pairs_after n s.pairs)) 256)
    unfolding pairs_after
    no-launch f = not_full _ (go n c.shows)
      where
        go : (n : Change) → ShowsChange (Some r) n → length (pairs_after n s.pairs) ≤ 256
        go unchanged h = few-pairs
        go (launched x) (launches k p) = absurd (f k)
        go (killed x) h = omega (arith, no_longer x s.pairs, few-pairs)

    pub place-free : pair_count zs < 256 → false ≡ not (leb (length (pairs_after n s.pairs)) 256)
    place-free f = not_full _ few-after
      where
        full : 256 < length (pairs_after n s.pairs) → ⊥
        full g = omega (arith, (overfull s.pairs ascending few-pairs n g).full, pairs-are c.stands)

        few-after : length (pairs_after n s.pairs) ≤ 256
        few-after = omega (arith, full)

    rows_are : (k : ℕ) → k ≡ pair_count zs → rows pair_width k (pair_part zs) ≡ map pair_numbers s.pairs
    rows_are k e =
        ap (λ (j : ℕ). rows pair_width j (pair_part zs)) (e ∙ pairs-are c.stands)
        ∙ (ap (λ (l : List ℤ). rows pair_width (length s.pairs) (pair_part l)) c.stands.numbers ∙ pair-rows (scopes_of m) (few c.stands) m.channels s (fits c.stands))

    pub all-taken : (k : ℕ) → k ≡ pair_count zs → 256 ≤ k → (row : List ℤ) (x : offers.Pair) → n ≡ launched x → row ≡ pair_numbers x → (b : Bool) → b ≡ is_lit row (rows pair_width k (pair_part zs))
        → not b ≡ not (leb (length (pairs_after n s.pairs)) 256)
    unfolding pairs_after
    all-taken k e l row x q w b h = rw q (go b (h ∙ (ap (λ (u : List ℤ). is_lit u (rows pair_width k (pair_part zs))) w ∙ ap (is_lit (pair_numbers x)) (rows_are k e))))
      where
        go : (b : Bool) → b ≡ is_lit (pair_numbers x) (map pair_numbers s.pairs) → not b ≡ not (leb (length (insert x s.pairs)) 256)
        go true f = let i = launch-lit x s.pairs ascending (lit-in x s.pairs (sym f)) in rw i (not_full _ few-pairs)
        go false f =
            let i = (launch-counts x s.pairs ascending).1 (unlit-in x s.pairs ascending (sym f)) in
            let g : leb (length (insert x s.pairs)) 256 ≡ false = lt-leb (length (insert x s.pairs)) 256 (omega (arith, i, e, l, pairs-are c.stands)) in
            rw g

    -- ---- the pairs afterwards
    pub launch-room : (x : offers.Pair) → n ≡ launched x → length (pairs_after n s.pairs) ≤ 256 → (row : List ℤ) → row ≡ pair_numbers x → is_lit row (pair_rows zs) ≡ false → pair_count zs < 256
    unfolding pairs_after
    launch-room x q l row w f =
        let g : is_lit (pair_numbers x) (map pair_numbers s.pairs) ≡ false = sym (ap (is_lit (pair_numbers x)) (rows_are (pair_count zs) refl)) ∙ (ap (λ (u : List ℤ). is_lit u (pair_rows zs)) (sym w) ∙ f) in
        let i = (launch-counts x s.pairs ascending).1 (unlit-in x s.pairs ascending g) in
        let k : length (pairs_after n s.pairs) ≡ length (insert x s.pairs) = ap (λ (d : Change). length (pairs_after d s.pairs)) q in
        omega (arith, i, l, k, pairs-are c.stands)

    pub launched-numbers : (x : offers.Pair) → n ≡ launched x → GoodPair m x → length (pairs_after n s.pairs) ≤ 256 → (row zs' : List ℤ) → row ≡ pair_numbers x → zs' ≡ pair_launched row zs → zs' ≡ state_numbers (changed s n)
    unfolding changed pairs_after
    launched-numbers x q g l row zs' w f =
        let k : length (pairs_after n s.pairs) ≡ length (insert x s.pairs) = ap (λ (d : Change). length (pairs_after d s.pairs)) q in
        rw q (f ∙ (ap (λ (u : List ℤ). pair_launched u zs) w ∙ (ap (pair_launched (pair_numbers x)) c.stands.numbers
        ∙ launch-numbers (scopes_of m) (few c.stands) m.channels s (fits c.stands) x (pair_fits m x g) (λ o. omega (arith, (launch-counts x s.pairs ascending).1 o, l, k)))))

    pub killed-numbers : (x : offers.Pair) → n ≡ killed x → (row zs' : List ℤ) → row ≡ pair_numbers x → zs' ≡ pair_killed row zs → zs' ≡ state_numbers (changed s n)
    unfolding changed pairs_after
    killed-numbers x q row zs' w f =
        rw q (f ∙ (ap (λ (u : List ℤ). pair_killed u zs) w ∙ (ap (pair_killed (pair_numbers x)) c.stands.numbers
        ∙ kill-numbers (scopes_of m) (few c.stands) m.channels s (fits c.stands) x)))

    pub same_numbers : (r.kind ≡ 37 → ⊥) → (r.kind ≡ 38 → ⊥) → zs ≡ state_numbers (changed s n)
    unfolding changed pairs_after
    same_numbers f g = go n c.shows
      where
        go : (n : Change) → ShowsChange (Some r) n → zs ≡ state_numbers (changed s n)
        go unchanged h = c.stands.numbers
        go (launched x) (launches k p) = absurd (f k)
        go (killed x) (kills k p) = absurd (g k)

-- nothing is offered behind a false gate
module _ (zs : List ℤ) (m : Resolved.Model) (s : State) (n : Change) (c : Changes zs None m s n) where
  pub hidden-free : false ≡ not (leb (length (pairs_after n s.pairs)) 256)
  unfolding pairs_after
  hidden-free = not_full _ (go n c.shows)
    where
      go : (n : Change) → ShowsChange None n → length (pairs_after n s.pairs) ≤ 256
      go unchanged h = c.stands.state.few-pairs
      go (launched x) h = elim h [ ]
      go (killed x) h = elim h [ ]

  pub hidden-same : zs ≡ state_numbers (changed s n)
  unfolding changed pairs_after
  hidden-same = go n c.shows
    where
      go : (n : Change) → ShowsChange None n → zs ≡ state_numbers (changed s n)
      go unchanged h = c.stands.numbers
      go (launched x) h = elim h [ ]
      go (killed x) h = elim h [ ]
