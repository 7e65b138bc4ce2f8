-- Evaluation gives a branch's guard exactly where the branch offers it: gates, rates and actions are taken apart. By cases.
use mathlib.Core.Path.{◌≡◌, refl, subst}
use mathlib.Core.List.{List}
use mathlib.Core.Bool.{Bool, true, false, cond}
use mathlib.Core.Logic.{◌↔◌}
use mathlib.Core.Option.{Option, none, some}
use Prim.Native.Nat.{ℕ}
use lib.IntN.{ℤ}
use Rattle.model.specs.Resolved
use Rattle.rules.specs.Offers as offers
use Rattle.machine.specs.Evaluate.{given, eval_cond, eval_rate, eval_channel, eval_all, eval_value, eval_set, eval_pair, eval_query, eval_action, eval_offer, eval_gate, eval_branch}
use Rattle.machine.specs.Offering.{Sent, Asked, Acting, waits, launches, kills, receives, binds, checks, sends, takes, takes_bind, Prefixed, Offering, ungated, open-gate, shut-gate}
use Rattle.machine.proofs.Parts.{given_is, some_is}

module _ (ls : List ℤ) where
  -- ---- to evaluation
  pair_is : (c : Resolved.Channel) (es : List Resolved.Expr) (x : offers.Pair) → Sent ls c es x → eval_pair ls c es ≡ some x
  unfolding eval_pair given
  pair_is c es x h = rw (h.channel, h.values)

  query-is : (c : Resolved.Channel) (ss : List Resolved.Set) (w : offers.Query) → Asked ls c ss w → eval_query ls c ss ≡ some w
  unfolding eval_query given
  query-is c ss w h = rw (h.channel, h.sets)

  action-is : (p : Resolved.Action) (a : offers.Action) → Acting ls p a → eval_action ls p ≡ some a
  unfolding eval_action given
  action-is p a waits = refl
  action-is p a (launches {c} {es} {x} h) = rw (pair_is c es x h)
  action-is p a (kills {c} {es} {x} h) = rw (pair_is c es x h)
  action-is p a (receives {c} {ss} {w} h) = rw (query-is c ss w h)
  action-is p a (binds {c} {ss} {w} h) = rw (query-is c ss w h)
  action-is p a (checks {c} {ss} {w} h) = rw (query-is c ss w h)
  action-is p a (sends {c} {es} {x} h) = rw (pair_is c es x h)
  action-is p a (takes {c} {ss} {w} h) = rw (query-is c ss w h)
  action-is p a (takes_bind {c} {ss} {w} h) = rw (query-is c ss w h)

  pub branch-is : (b : Resolved.Branch) (g : offers.Guard) → Offering ls b g → eval_branch ls b ≡ some g
  unfolding eval_branch eval_gate eval_offer given
  branch-is b g (ungated {a} {r} h p) = rw (h, p.rate, action-is b.action a p.action)
  branch-is b g (open-gate {c} {a} {r} h k p) = rw (h, k, p.rate, action-is b.action a p.action)
  branch-is b g (shut-gate {c} h k) = rw (h, k)

  -- ---- from evaluation
  sent : (c : Resolved.Channel) (es : List Resolved.Expr) (x : offers.Pair) → eval_pair ls c es ≡ some x → Sent ls c es x
  unfolding eval_pair
  sent c es x e =
      let v = given_is (eval_channel ls c) _ x e in
      let u = given_is (eval_all (eval_value ls) es) _ x v.rest in
      subst (Sent ls c es) (some_is _ x u.rest) (record { channel = v.is; values = u.is })

  asked : (c : Resolved.Channel) (ss : List Resolved.Set) (w : offers.Query) → eval_query ls c ss ≡ some w → Asked ls c ss w
  unfolding eval_query
  asked c ss w e =
      let v = given_is (eval_channel ls c) _ w e in
      let u = given_is (eval_all (eval_set ls) ss) _ w v.rest in
      subst (Asked ls c ss) (some_is _ w u.rest) (record { channel = v.is; sets = u.is })

  -- an action that is made of a pair, or of a query
  of_pair : (f : offers.Pair → offers.Action) (p : Resolved.Action) (c : Resolved.Channel) (es : List Resolved.Expr) (a : offers.Action)
      → ((x : offers.Pair) → Sent ls c es x → Acting ls p (f x)) → given (eval_pair ls c es) (λ x. some (f x)) ≡ some a → Acting ls p a
  of_pair f p c es a h e = let v = given_is (eval_pair ls c es) _ a e in subst (Acting ls p) (some_is _ a v.rest) (h v.part (sent c es v.part v.is))

  of-query : (f : offers.Query → offers.Action) (p : Resolved.Action) (c : Resolved.Channel) (ss : List Resolved.Set) (a : offers.Action)
      → ((w : offers.Query) → Asked ls c ss w → Acting ls p (f w)) → given (eval_query ls c ss) (λ w. some (f w)) ≡ some a → Acting ls p a
  of-query f p c ss a h e = let v = given_is (eval_query ls c ss) _ a e in subst (Acting ls p) (some_is _ a v.rest) (h v.part (asked c ss v.part v.is))

  acting : (p : Resolved.Action) (a : offers.Action) → eval_action ls p ≡ some a → Acting ls p a
  unfolding eval_action
  acting (Resolved.wait k) a e = subst (Acting ls (Resolved.wait k)) (some_is _ a e) waits
  acting (Resolved.launch c es) a e = of_pair offers.launch _ c es a (λ x h. launches h) e
  acting (Resolved.kill c es) a e = of_pair offers.kill _ c es a (λ x h. kills h) e
  acting (Resolved.receive c ss) a e = of-query offers.receive _ c ss a (λ w h. receives h) e
  acting (Resolved.bind c ss) a e = of-query offers.bind _ c ss a (λ w h. binds h) e
  acting (Resolved.check c ss) a e = of-query offers.check _ c ss a (λ w h. checks h) e
  acting (Resolved.hand_send c es) a e = of_pair offers.send _ c es a (λ x h. sends h) e
  acting (Resolved.hand_receive c ss) a e = of-query offers.take _ c ss a (λ w h. takes h) e
  acting (Resolved.hand_bind c ss) a e = of-query offers.take_bind _ c ss a (λ w h. takes_bind h) e

  pub offering : (b : Resolved.Branch) (g : offers.Guard) → eval_branch ls b ≡ some g → Offering ls b g
  unfolding eval_branch eval_gate eval_offer
  offering b g q = go b.gate refl q
    where
      parted : (f : offers.Action → ℕ → offers.Guard) → ((a : offers.Action) (r : ℕ) → Prefixed ls b a r → Offering ls b (f a r)) → eval_offer ls f b ≡ some g → Offering ls b g
      parted f h e =
          let v = given_is (eval_rate ls b.rate) _ g e in
          let u = given_is (eval_action ls b.action) _ g v.rest in
          subst (Offering ls b) (some_is _ g u.rest) (h u.part v.part (record { rate = v.is; action = acting b.action u.part u.is }))

      gate : (c : Resolved.Cond) → b.gate ≡ some c → (t : Bool) → eval_cond ls c ≡ some t → cond t (eval_offer ls offers.opened b) (some offers.shut) ≡ some g → Offering ls b g
      gate c h true k e = parted offers.opened (λ a r p. open-gate h k p) e
      gate c h false k e = subst (Offering ls b) (some_is _ g e) (shut-gate h k)

      go : (o : Option Resolved.Cond) → b.gate ≡ o → eval_gate ls o b ≡ some g → Offering ls b g
      go none h e = parted offers.bare (λ a r p. ungated h p) e
      go (some c) h e = let v = given_is (eval_cond ls c) _ g e in gate c h v.part v.is v.rest

-- 000, (18), and 01, Values: a branch is evaluated to a guard exactly where it offers that
pub offers-exactly : (ls : List ℤ) (b : Resolved.Branch) (g : offers.Guard) → (eval_branch ls b ≡ some g) ↔ Offering ls b g
offers-exactly ls b g = (offering ls b g, branch-is ls b g)

-- ---- parts
-- where a guard's action and rate come from
pub data Comes (ls : List ℤ) (b : Resolved.Branch) : offers.Guard → Type 0 where
  bare : {a : offers.Action} {r : ℕ} → eval_rate ls b.rate ≡ some r → eval_action ls b.action ≡ some a → Comes ls b (offers.bare a r)
  opened : {a : offers.Action} {r : ℕ} → eval_rate ls b.rate ≡ some r → eval_action ls b.action ≡ some a → Comes ls b (offers.opened a r)
  shut : Comes ls b offers.shut

pub comes : (ls : List ℤ) (b : Resolved.Branch) (g : offers.Guard) → eval_branch ls b ≡ some g → Comes ls b g
comes ls b g e = parts (offering ls b g e)
  where
    parts : {g : offers.Guard} → Offering ls b g → Comes ls b g
    parts (ungated {a} {r} h p) = bare p.rate (action-is ls b.action a p.action)
    parts (open-gate {c} {a} {r} h k p) = opened p.rate (action-is ls b.action a p.action)
    parts (shut-gate h k) = shut
