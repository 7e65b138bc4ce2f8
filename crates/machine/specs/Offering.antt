-- What a branch offers under the locals of its process (000, rules (8) to (13) and (18); 01, Values), a constructor for each case. Definitions only; proofs/Offering.antt has that
-- evaluation gives exactly this.
use Rattle.std.specs.Prelude.{◌≡◌, List, true, false, ℕ, ℤ}
use Rattle.std.proofs.Math.Option.{none, some}
use Rattle.model.specs.Resolved
use Rattle.rules.specs.Offers as offers
use Rattle.machine.specs.Evaluate.{eval_cond, eval_rate, eval_channel, eval_all, eval_value, eval_set}

-- a channel and values that are evaluated
pub record Sent (ls : List ℤ) (c : Resolved.Channel) (es : List Resolved.Expr) (x : offers.Pair) : Type 0 where
  pub channel : eval_channel ls c ≡ some x.channel
  pub values : eval_all (eval_value ls) es ≡ some x.values

-- a channel and sets that are evaluated
pub record Asked (ls : List ℤ) (c : Resolved.Channel) (ss : List Resolved.Set) (w : offers.Query) : Type 0 where
  pub channel : eval_channel ls c ≡ some w.channel
  pub sets : eval_all (eval_set ls) ss ≡ some w.sets

-- 01, Model text, actions: each kind of action keeps its kind
pub data Acting (ls : List ℤ) : Resolved.Action → offers.Action → Type 0 where
  waits : {k : ℕ} → Acting ls (Resolved.wait k) offers.wait  -- (8)
  launches : {c : Resolved.Channel} {es : List Resolved.Expr} {x : offers.Pair} → Sent ls c es x → Acting ls (Resolved.launch c es) (offers.launch x)  -- (9)
  kills : {c : Resolved.Channel} {es : List Resolved.Expr} {x : offers.Pair} → Sent ls c es x → Acting ls (Resolved.kill c es) (offers.kill x)  -- (10)
  receives : {c : Resolved.Channel} {ss : List Resolved.Set} {w : offers.Query} → Asked ls c ss w → Acting ls (Resolved.receive c ss) (offers.receive w)  -- (11)
  binds : {c : Resolved.Channel} {ss : List Resolved.Set} {w : offers.Query} → Asked ls c ss w → Acting ls (Resolved.bind c ss) (offers.bind w)  -- (12)
  checks : {c : Resolved.Channel} {ss : List Resolved.Set} {w : offers.Query} → Asked ls c ss w → Acting ls (Resolved.check c ss) (offers.check w)  -- (13)
  sends : {c : Resolved.Channel} {es : List Resolved.Expr} {x : offers.Pair} → Sent ls c es x → Acting ls (Resolved.hand_send c es) (offers.send x)  -- (16), (17)
  takes : {c : Resolved.Channel} {ss : List Resolved.Set} {w : offers.Query} → Asked ls c ss w → Acting ls (Resolved.hand_receive c ss) (offers.take w)  -- (16)
  takes_bind : {c : Resolved.Channel} {ss : List Resolved.Set} {w : offers.Query} → Asked ls c ss w → Acting ls (Resolved.hand_bind c ss) (offers.take_bind w)  -- (17)

-- 01, Values: rate, channel, values or sets, used or not
pub record Prefixed (ls : List ℤ) (b : Resolved.Branch) (a : offers.Action) (r : ℕ) : Type 0 where
  pub rate : eval_rate ls b.rate ≡ some r
  pub action : Acting ls b.action a

-- 000, (18): the gate is absent, or true; 01, Values: behind a false one nothing is evaluated, and nothing offered
pub data Offering (ls : List ℤ) (b : Resolved.Branch) : offers.Guard → Type 0 where
  ungated : {a : offers.Action} {r : ℕ} → b.gate ≡ none → Prefixed ls b a r → Offering ls b (offers.bare a r)
  open-gate : {c : Resolved.Cond} {a : offers.Action} {r : ℕ} → b.gate ≡ some c → eval_cond ls c ≡ some true → Prefixed ls b a r → Offering ls b (offers.opened a r)
  shut-gate : {c : Resolved.Cond} → b.gate ≡ some c → eval_cond ls c ≡ some false → Offering ls b offers.shut
