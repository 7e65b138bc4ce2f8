-- The names of a prefix take as many values as it binds names, and all are in range: from what matches, and from the ranges of pairs that are lit or sent.
use mathlib.Core.Path.{◌≡◌, refl, sym, ap, ◌∙◌}
use mathlib.Core.List.{List}
use mathlib.Core.Option.{some}
use Prim.Native.Nat.{ℕ, suc}
use lib.IntN.{ℤ}
use lib.ListN.{length}
use Rattle.value.specs.Range.{InRange}
use Rattle.model.specs.Resolved
use Rattle.rules.specs.Offers as offers
use Rattle.rules.specs.Rules.{Change, unchanged, launched, killed, label, Alone, waits, launches, kills, receives, binds, checks}
use Rattle.rules.specs.Rules.{Offered, rule8, rule9, rule10, rule11, rule12, rule13, sends, takes, takes_bind, rule18}
use Rattle.rules.proofs.Places.{Accepts, unbound, bound}
use Rattle.machine.specs.Evaluate.{given, eval_channel, eval_all, eval_set, eval_pair, eval_query, eval_action}
use Rattle.model.specs.Good.{Every, names_bound}
use Rattle.machine.specs.State.{GoodPair}
use Rattle.machine.proofs.Everys.{every-nth}
use Rattle.machine.proofs.Parts.{given_is, some_is, all-length}
use Rattle.machine.proofs.Offering.{Comes, bare, opened}
use Rattle.machine.proofs.Ranges.{GoodOffer}

-- how many names an evaluated action binds
abbrev pub names_of : offers.Action → ℕ
names_of offers.wait = 0
names_of (offers.launch x) = 0
names_of (offers.kill x) = 0
names_of (offers.receive w) = 0
names_of (offers.bind w) = length w.sets
names_of (offers.check w) = 0
names_of (offers.send x) = 0
names_of (offers.take w) = 0
names_of (offers.take_bind w) = length w.sets

-- ---- as many as are written
query-length : (ls : List ℤ) (c : Resolved.Channel) (ss : List Resolved.Set) (w : offers.Query) → eval_query ls c ss ≡ some w → length w.sets ≡ length ss
unfolding eval_query
query-length ls c ss w q =
    let v = given_is (eval_channel ls c) _ w q in
    let u = given_is (eval_all (eval_set ls) ss) _ w v.rest in
    let e = some_is _ w u.rest in
    ap (λ (x : offers.Query). length x.sets) (sym e) ∙ all-length (eval_set ls) ss u.part u.is

module _ (ls : List ℤ) (a : offers.Action) where
  paired : (f : offers.Pair → offers.Action) → ((x : offers.Pair) → names_of (f x) ≡ 0) → (c : Resolved.Channel) (es : List Resolved.Expr)
      → given (eval_pair ls c es) (λ x. some (f x)) ≡ some a → 0 ≡ names_of a
  paired f h c es q = let v = given_is (eval_pair ls c es) _ a q in rw (← (some_is _ a v.rest)) (sym (h v.part))

  queried : (f : offers.Query → offers.Action) (n : ℕ) (c : Resolved.Channel) (ss : List Resolved.Set) → ((w : offers.Query) → eval_query ls c ss ≡ some w → n ≡ names_of (f w))
      → given (eval_query ls c ss) (λ w. some (f w)) ≡ some a → n ≡ names_of a
  queried f n c ss h q = let v = given_is (eval_query ls c ss) _ a q in rw (← (some_is _ a v.rest)) (h v.part v.is)

  pub names-bound : (b : Resolved.Action) → eval_action ls b ≡ some a → names_bound b ≡ names_of a
  unfolding eval_action names_bound
  names-bound (Resolved.wait k) q = rw (← (some_is _ a q))
  names-bound (Resolved.launch c v) q = paired offers.launch (λ x. refl) c v q
  names-bound (Resolved.kill c v) q = paired offers.kill (λ x. refl) c v q
  names-bound (Resolved.receive c s) q = queried offers.receive 0 c s (λ w e. refl) q
  names-bound (Resolved.bind c s) q = queried offers.bind (length s) c s (λ w e. sym (query-length ls c s w e)) q
  names-bound (Resolved.check c s) q = queried offers.check 0 c s (λ w e. refl) q
  names-bound (Resolved.hand_send c v) q = paired offers.send (λ x. refl) c v q
  names-bound (Resolved.hand_receive c s) q = queried offers.take 0 c s (λ w e. refl) q
  names-bound (Resolved.hand_bind c s) q = queried offers.take_bind (length s) c s (λ w e. sym (query-length ls c s w e)) q

-- ---- the action that a label shows is the branch's own
ungated : {ls : List ℤ} {b : Resolved.Branch} {a : offers.Action} {r : ℕ} → Comes ls b (offers.opened a r) → Comes ls b (offers.bare a r)
ungated (opened p q) = bare p q

own : {ls : List ℤ} {b : Resolved.Branch} {a : offers.Action} {r : ℕ} → Comes ls b (offers.bare a r) → eval_action ls b.action ≡ some a
own (bare p q) = q

pub label-action : {lit : List offers.Pair} {ls : List ℤ} {b : Resolved.Branch} {g : offers.Guard} {a : offers.Action} {r q : ℕ} {n : Change} {vs : List ℤ}
    → Offered lit g (label a r q n vs) → Comes ls b g → eval_action ls b.action ≡ some a
label-action rule8 c = own c
label-action rule9 c = own c
label-action rule10 c = own c
label-action (rule11 x h m) c = own c
label-action (rule12 h m) c = own c
label-action (rule13 f) c = own c
label-action sends c = own c
label-action takes c = own c
label-action (takes_bind x h e) c = own c
label-action (rule18 f) c = label-action f (ungated c)

-- ---- what is bound
-- as many as the action binds, in range
pub record BoundGood (a : offers.Action) (vs : List ℤ) : Type 0 where
  pub number : length vs ≡ names_of a
  pub values : Every InRange vs

each-length : {ss : List offers.Set} {vs : List ℤ} → offers.Each ss vs → length vs ≡ length ss
each-length offers.done = refl
each-length (offers.more h e) = ap suc (each-length e)

module _ (m : Resolved.Model) where
  pub alone-bound : {lit : List offers.Pair} {g : offers.Guard} {a : offers.Action} {c r q : ℕ} {n : Change} {vs : List ℤ}
      → Every (GoodPair m) lit → Alone a c → Offered lit g (label a r q n vs) → BoundGood a vs
  unfolding Every
  alone-bound h waits rule8 = record { number = refl; values = tt }
  alone-bound h launches rule9 = record { number = refl; values = tt }
  alone-bound h kills rule10 = record { number = refl; values = tt }
  alone-bound h receives (rule11 x i f) = record { number = refl; values = tt }
  alone-bound h binds (rule12 i f) = record { number = each-length f.each; values = (every-nth (GoodPair m) h i).values }
  alone-bound h checks (rule13 f) = record { number = refl; values = tt }
  alone-bound h c (rule18 f) = alone-bound h c f
  alone-bound h c sends = elim c [ ]
  alone-bound h c takes = elim c [ ]
  alone-bound h c (takes_bind _ _ _) = elim c [ ]

  pub accepted-bound : {x : offers.Pair} {a : offers.Action} {vs : List ℤ} → GoodPair m x → Accepts x a vs → BoundGood a vs
  unfolding Every
  accepted-bound g (unbound h) = record { number = refl; values = tt }
  accepted-bound g (bound h) = record { number = each-length h.each; values = g.values }

  -- a pair that is launched is the action's own
  unfoldable pub GoodChange : Change → Type 0
  GoodChange unchanged = Unit {0}
  GoodChange (launched x) = GoodPair m x
  GoodChange (killed x) = Unit {0}

  pub change-good : {lit : List offers.Pair} {g : offers.Guard} {a : offers.Action} {r q : ℕ} {n : Change} {vs : List ℤ}
      → Offered lit g (label a r q n vs) → GoodOffer m a → GoodChange n
  unfolding GoodChange GoodOffer
  change-good rule8 g = tt
  change-good rule9 g = g
  change-good rule10 g = tt
  change-good (rule11 x h f) g = tt
  change-good (rule12 h f) g = tt
  change-good (rule13 f) g = tt
  change-good sends g = tt
  change-good takes g = tt
  change-good (takes_bind x h e) g = tt
  change-good (rule18 f) g = change-good f g
