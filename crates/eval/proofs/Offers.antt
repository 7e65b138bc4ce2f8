-- What a node says of the action, prefix or branch that stands there, by its kind. By cases of what stands.
use mathlib.Core.Path.{◌≡◌, refl, sym, ap, ◌∙◌}
use mathlib.Core.List.{List, [], ◌∷◌}
use mathlib.Core.Bool.{Bool, true, false, ◌||◌}
use mathlib.Core.Option.{Option, none, some}
use Prim.Native.Nat.{ℕ, ◌-◌, ◌≤◌, ◌<◌}
use native.Mathlib.Omega.{arith}
use borrow.Author.Tests.{eq-eqb, ne_eqb, eqb-false}
use lib.Dec.{eqb}
use lib.IntN.{ℤ}
use lib.ListN.{get_or}
use Rattle.value.proofs.Kit.{true-not-false, false-not-true}
use Rattle.tree.specs.Node.{kind_of, left_of}
use Rattle.model.specs.Resolved
use Rattle.rules.specs.Offers as offers
use Rattle.tables.specs.Settled as Settled
use Rattle.tables.specs.Settled.{OneOrTwo}
use Rattle.tables.proofs.Parts.{pair-above, pair-second}
use Rattle.model.specs.Good.{GoodName, GoodCond, GoodGate, GoodRate, GoodAction, GoodBranch}
use Rattle.machine.specs.Evaluate.{given, eval_channel, eval_all, eval_value, eval_pair, eval_query, eval_set, eval_cond, eval_rate, eval_action, eval_offer, eval_gate, eval_branch}
use Rattle.eval.specs.declared.channel.Channel.{Channel}
use Rattle.std.specs.Prelude.{Some, None, Option as RustOption}
use Rattle.eval.specs.declared.Values.{Values}
use Rattle.eval.specs.declared.offer.Offer.{Offer}
use Rattle.eval.specs.declared.offer.Listed.{Listed}
use Rattle.eval.specs.Held.{Held, Worth}
use Rattle.eval.specs.Answers.{truth_of, truth}
use Rattle.eval.specs.Rates.{rate_answer}
use Rattle.eval.specs.Channels.{channel_of, channel_answer}
use Rattle.eval.specs.Lists.{values_of, values_answer}
use Rattle.eval.specs.Shown
use Rattle.eval.proofs.Channels.{IsChannel}
use Rattle.eval.proofs.Rates.{IsRate, rate-some, rate-none}

-- ---- channels
not_found : (o : Option offers.Channel) → None ≡ channel_of o → o ≡ none
unfolding channel_of
not_found (some x) e = cc
not_found none e = refl

-- ---- values and sets with their channel

-- the values of an action, if all are there
unfoldable pub listed : RustOption Values → RustOption Listed
listed (Some v) = Some (Shown.listed_values v)
listed None = None

-- kind, rate, channel and list, if all are there
unfoldable pub assembled : ℕ → ℕ → RustOption Channel → RustOption Listed → RustOption Offer
assembled kind rate (Some c) (Some l) = Some (record { kind = kind; rate = rate; channel = c; list = l })
assembled kind rate (Some c) None = None
assembled kind rate None l = None

-- a part of this kind and rate is shown, if it is there
data ShowsPart {A : Type 0} (shows : Offer → A → Type 0) (kind rate : ℕ) : RustOption Offer → Option A → Type 0 where
  there : {r : Offer} {x : A} → r.kind ≡ kind → r.rate ≡ rate → shows r x → ShowsPart shows kind rate (Some r) (some x)
  missing : ShowsPart shows kind rate None none

module _ (kind rate : ℕ) where
  pair-assembled : {l : RustOption Listed} (o : Option offers.Channel) (v : Option (List ℤ)) → Shown.ListsValues l v
      → ShowsPart Shown.ShowsPair kind rate (assembled kind rate (channel_of o) l) (given o (λ x. given v (λ vs. some (record { channel = x; values = vs }))))
  unfolding given channel_of assembled
  pair-assembled none v h = missing
  pair-assembled (some x) none Shown.missing = missing
  pair-assembled (some x) (some vs) (Shown.all h) = there refl refl (record { channel-is = record { shape_is = refl; first-is = refl; second_is = refl; third-is = refl }; values-are = h })

  query-assembled : {t : List ℕ} {ls : List ℤ} {l : RustOption Listed} (o : Option offers.Channel) (v : Option (List offers.Set)) → Shown.ListsSets t ls l v
      → ShowsPart (Shown.ShowsQuery t ls) kind rate (assembled kind rate (channel_of o) l) (given o (λ x. given v (λ xs. some (record { channel = x; sets = xs }))))
  unfolding given channel_of assembled
  query-assembled none v h = missing
  query-assembled (some x) none Shown.missing = missing
  query-assembled (some x) (some vs) (Shown.all h) = there refl refl (record { channel-is = record { shape_is = refl; first-is = refl; second_is = refl; third-is = refl }; sets-are = h })

-- one or two values are listed
values_listed : (t : List ℕ) (ls : List ℤ) (k : ℕ) (es : List Resolved.Expr) → OneOrTwo t (Settled.Expr t) es k
    → Shown.ListsValues (listed (values_of (eval_all (eval_value ls) es))) (eval_all (eval_value ls) es)
unfolding OneOrTwo eval_all given values_of Shown.listed_values listed
values_listed t ls k [] a = absurd a
values_listed t ls k (e ∷ []) a = go (eval_value ls e)
  where
    go : (o : Option ℤ)
        → Shown.ListsValues (listed (values_of (given o (λ y. given (some []) (λ ys. some (y ∷ ys)))))) (given o (λ y. given (some []) (λ ys. some (y ∷ ys))))
    go (some x) = Shown.all (Shown.one refl refl refl refl refl)
    go none = Shown.missing
values_listed t ls k (e ∷ f ∷ []) a = go (eval_value ls e) (eval_value ls f)
  where
    go : (o p : Option ℤ)
        → Shown.ListsValues (listed (values_of (given o (λ y. given (given p (λ z. given (some []) (λ zs. some (z ∷ zs)))) (λ ys. some (y ∷ ys))))))
        (given o (λ y. given (given p (λ z. given (some []) (λ zs. some (z ∷ zs)))) (λ ys. some (y ∷ ys))))
    go (some x) (some y) = Shown.all (Shown.two refl refl refl refl refl)
    go (some x) none = Shown.missing
    go none p = Shown.missing
values_listed t ls k (e ∷ f ∷ g ∷ es) a = absurd a

-- the action with values that stands at k is shown, and the one with sets
abbrev Carried : List ℕ → List ℤ → ℕ → ℕ → ℕ → RustOption Offer → Type 0
Carried t ls kind rate k r = (c : Resolved.Channel) (v : List Resolved.Expr) → Shown.PairAt t kind c v k → ShowsPart Shown.ShowsPair kind rate r (eval_pair ls c v)

abbrev Sought : List ℕ → List ℤ → ℕ → ℕ → ℕ → RustOption Offer → Type 0
Sought t ls kind rate k r = (c : Resolved.Channel) (s : List Resolved.Set) → Shown.QueryAt t kind c s k → ShowsPart (Shown.ShowsQuery t ls) kind rate r (eval_query ls c s)

module _ (t : List ℕ) (ls : List ℤ) (kind rate k : ℕ) where
  carried-is : (o : RustOption Channel) (u : RustOption Values) → IsChannel t ls (left_of (get_or t k 0)) o → Worth (OneOrTwo t (Settled.Expr t)) (values_answer ls) (k - 1) u
      → Carried t ls kind rate k (assembled kind rate o (listed u))
  unfolding eval_pair channel_answer values_answer
  carried-is o u w x d v a =
      rw (w d a.holds-first, x v (pair-second a))
      (pair-assembled kind rate (eval_channel ls d) (eval_all (eval_value ls) v) (values_listed t ls (k - 1) v (pair-second a)))

  sought-is : (o : RustOption Channel) (l : RustOption Listed) → IsChannel t ls (left_of (get_or t k 0)) o → Shown.SetsListed t ls (k - 1) l → Sought t ls kind rate k (assembled kind rate o l)
  unfolding eval_query channel_answer
  sought-is o l w x d v a = rw (w d a.holds-first) (query-assembled kind rate (eval_channel ls d) (eval_all (eval_set ls) v) (x v (pair-second a)))

-- ---- actions

-- the action that a part leads to
led : {A : Type 0} {shows : Offer → A → Type 0} {t : List ℕ} {ls : List ℤ} {kind rate : ℕ} {r : RustOption Offer} (f : A → offers.Action)
    → ((y : Offer) (x : A) → y.kind ≡ kind → shows y x → Shown.ShowsAction t ls y (f x))
    → {o : Option A} → ShowsPart shows kind rate r o → Shown.ShowsPrefix t ls r (some rate) (given o (λ x. some (f x)))
unfolding given
led f mk (there {r = y} {x = x} k e h) = Shown.both (mk y x k h) e
led f mk missing = Shown.no-action

module _ (t : List ℕ) (k kind : ℕ) (is : kind ≡ kind_of (get_or t k 0)) where
  pub wait-shown : (ls : List ℤ) (rate : ℕ) → kind ≡ 36 → Shown.ActionShown t ls rate k (Some (Shown.bare_offer kind rate))
  unfolding Settled.Action eval_action Shown.bare_offer
  wait-shown ls rate h (Resolved.wait n) a = Shown.both (Shown.wait (rw h)) refl
  wait-shown ls rate h (Resolved.launch c v) a = absurd (omega (arith, a.kind-is))
  wait-shown ls rate h (Resolved.kill c v) a = absurd (omega (arith, a.kind-is))
  wait-shown ls rate h (Resolved.receive c s) a = absurd (omega (arith, a.kind-is))
  wait-shown ls rate h (Resolved.bind c s) a = absurd (omega (arith, a.kind-is))
  wait-shown ls rate h (Resolved.check c s) a = absurd (omega (arith, a.kind-is))
  wait-shown ls rate h (Resolved.hand_send c v) a = absurd (omega (arith, a.kind-is))
  wait-shown ls rate h (Resolved.hand_receive c s) a = absurd (omega (arith, a.kind-is))
  wait-shown ls rate h (Resolved.hand_bind c s) a = absurd (omega (arith, a.kind-is))

  -- what the kind says: by its number
  carries-not : {A : Type 0} (n : ℕ) → kind_of (get_or t k 0) ≡ n → Shown.carries kind ≡ true → Shown.carries n ≡ false → A
  carries-not n e h f = true-not-false (sym h ∙ ap Shown.carries (is ∙ e) ∙ f)

  seeks-not : {A : Type 0} (n : ℕ) → kind_of (get_or t k 0) ≡ n → Shown.carries kind ≡ false → Shown.carries n ≡ true → A
  seeks-not n e h f = false-not-true (sym h ∙ ap Shown.carries (is ∙ e) ∙ f)

  -- an action with values
  module _ (h : Shown.carries kind ≡ true) where
    pub carrier : (m : Resolved.Model) (n : ℕ) → Held (Settled.Action t) (GoodAction m n) k → Shown.Carrier t n kind k
    unfolding Settled.Action GoodAction Shown.carries
    carrier m n s = rw is (go s.part s.at s.fit)
      where
        go : (x : Resolved.Action) → Settled.Action t x k → GoodAction m n x → Shown.Carrier t n (kind_of (get_or t k 0)) k
        go (Resolved.wait n) a g = carries-not 36 a.kind-is h refl
        go (Resolved.launch c v) a g = rw a.kind-is (record { model = m; channel = c; values = v; at = a; fit = g })
        go (Resolved.kill c v) a g = rw a.kind-is (record { model = m; channel = c; values = v; at = a; fit = g })
        go (Resolved.receive c v) a g = carries-not 39 a.kind-is h refl
        go (Resolved.bind c v) a g = carries-not 40 a.kind-is h refl
        go (Resolved.check c v) a g = carries-not 41 a.kind-is h refl
        go (Resolved.hand_send c v) a g = rw a.kind-is (record { model = m; channel = c; values = v; at = a; fit = g })
        go (Resolved.hand_receive c v) a g = carries-not 43 a.kind-is h refl
        go (Resolved.hand_bind c v) a g = carries-not 44 a.kind-is h refl

    carried-led : (ls : List ℤ) (rate : ℕ) (r : RustOption Offer) → Carried t ls kind rate k r → Shown.ActionShown t ls rate k r
    unfolding Settled.Action eval_action Shown.carries
    carried-led ls rate r w (Resolved.wait n) a = carries-not 36 a.kind-is h refl
    carried-led ls rate r w (Resolved.launch c v) a = led offers.launch (λ y x e q. Shown.launch (e ∙ is ∙ a.kind-is) q) (w c v (rw (is ∙ a.kind-is) a))
    carried-led ls rate r w (Resolved.kill c v) a = led offers.kill (λ y x e q. Shown.kill (e ∙ is ∙ a.kind-is) q) (w c v (rw (is ∙ a.kind-is) a))
    carried-led ls rate r w (Resolved.receive c v) a = carries-not 39 a.kind-is h refl
    carried-led ls rate r w (Resolved.bind c v) a = carries-not 40 a.kind-is h refl
    carried-led ls rate r w (Resolved.check c v) a = carries-not 41 a.kind-is h refl
    carried-led ls rate r w (Resolved.hand_send c v) a = led offers.send (λ y x e q. Shown.send (e ∙ is ∙ a.kind-is) q) (w c v (rw (is ∙ a.kind-is) a))
    carried-led ls rate r w (Resolved.hand_receive c v) a = carries-not 43 a.kind-is h refl
    carried-led ls rate r w (Resolved.hand_bind c v) a = carries-not 44 a.kind-is h refl

    pub carried-shown : (ls : List ℤ) (rate : ℕ) (o : RustOption Channel) (u : RustOption Values) → IsChannel t ls (left_of (get_or t k 0)) o
        → Worth (OneOrTwo t (Settled.Expr t)) (values_answer ls) (k - 1) u → Shown.ActionShown t ls rate k (assembled kind rate o (listed u))
    carried-shown ls rate o u w x = carried-led ls rate (assembled kind rate o (listed u)) (carried-is t ls kind rate k o u w x)

  -- an action with sets
  module _ (n36 : kind ≡ 36 → ⊥) (h : Shown.carries kind ≡ false) where
    pub seeker : (m : Resolved.Model) (n : ℕ) → Held (Settled.Action t) (GoodAction m n) k → Shown.Seeker t n kind k
    unfolding Settled.Action GoodAction Shown.carries
    seeker m n s = rw is (go s.part s.at s.fit)
      where
        go : (x : Resolved.Action) → Settled.Action t x k → GoodAction m n x → Shown.Seeker t n (kind_of (get_or t k 0)) k
        go (Resolved.wait n) a g = absurd (n36 (is ∙ a.kind-is))
        go (Resolved.launch c v) a g = seeks-not 37 a.kind-is h refl
        go (Resolved.kill c v) a g = seeks-not 38 a.kind-is h refl
        go (Resolved.receive c v) a g = rw a.kind-is (record { model = m; channel = c; sets = v; at = a; fit = g })
        go (Resolved.bind c v) a g = rw a.kind-is (record { model = m; channel = c; sets = v; at = a; fit = g })
        go (Resolved.check c v) a g = rw a.kind-is (record { model = m; channel = c; sets = v; at = a; fit = g })
        go (Resolved.hand_send c v) a g = seeks-not 42 a.kind-is h refl
        go (Resolved.hand_receive c v) a g = rw a.kind-is (record { model = m; channel = c; sets = v; at = a; fit = g })
        go (Resolved.hand_bind c v) a g = rw a.kind-is (record { model = m; channel = c; sets = v; at = a; fit = g })

    sought-led : (ls : List ℤ) (rate : ℕ) (r : RustOption Offer) → Sought t ls kind rate k r → Shown.ActionShown t ls rate k r
    unfolding Settled.Action eval_action Shown.carries
    sought-led ls rate r w (Resolved.wait n) a = absurd (n36 (is ∙ a.kind-is))
    sought-led ls rate r w (Resolved.launch c v) a = seeks-not 37 a.kind-is h refl
    sought-led ls rate r w (Resolved.kill c v) a = seeks-not 38 a.kind-is h refl
    sought-led ls rate r w (Resolved.receive c v) a = led offers.receive (λ y x e q. Shown.receive (e ∙ is ∙ a.kind-is) q) (w c v (rw (is ∙ a.kind-is) a))
    sought-led ls rate r w (Resolved.bind c v) a = led offers.bind (λ y x e q. Shown.bind (e ∙ is ∙ a.kind-is) q) (w c v (rw (is ∙ a.kind-is) a))
    sought-led ls rate r w (Resolved.check c v) a = led offers.check (λ y x e q. Shown.check (e ∙ is ∙ a.kind-is) q) (w c v (rw (is ∙ a.kind-is) a))
    sought-led ls rate r w (Resolved.hand_send c v) a = seeks-not 42 a.kind-is h refl
    sought-led ls rate r w (Resolved.hand_receive c v) a = led offers.take (λ y x e q. Shown.take (e ∙ is ∙ a.kind-is) q) (w c v (rw (is ∙ a.kind-is) a))
    sought-led ls rate r w (Resolved.hand_bind c v) a = led offers.take_bind (λ y x e q. Shown.take_bind (e ∙ is ∙ a.kind-is) q) (w c v (rw (is ∙ a.kind-is) a))

    pub sought-shown : (ls : List ℤ) (rate : ℕ) (o : RustOption Channel) (l : RustOption Listed) → IsChannel t ls (left_of (get_or t k 0)) o
        → Shown.SetsListed t ls (k - 1) l → Shown.ActionShown t ls rate k (assembled kind rate o l)
    sought-shown ls rate o l w x = sought-led ls rate (assembled kind rate o l) (sought-is t ls kind rate k o l w x)

  -- both have a channel
  module _ (n36 : kind ≡ 36 → ⊥) where
    pub channel-part : (m : Resolved.Model) (n : ℕ) → Held (Settled.Action t) (GoodAction m n) k
        → (1 ≤ k) × ((m : Resolved.Model) × Held (Settled.Channel t) (GoodName m n) (left_of (get_or t k 0)))
    channel-part m n s = go (Shown.carries kind) refl
      where
        go : (b : Bool) → Shown.carries kind ≡ b → (1 ≤ k) × ((m : Resolved.Model) × Held (Settled.Channel t) (GoodName m n) (left_of (get_or t k 0)))
        go true h = let c = carrier h m n s in (pair-above c.at, (c.model, record { part = c.channel; at = c.at.holds-first; fit = c.fit.channel }))
        go false h = let c = seeker n36 h m n s in (pair-above c.at, (c.model, record { part = c.channel; at = c.at.holds-first; fit = c.fit.channel }))

    pub channel-missing : (ls : List ℤ) (rate : ℕ) → IsChannel t ls (left_of (get_or t k 0)) None → Shown.ActionShown t ls rate k None
    unfolding Settled.Action eval_action eval_pair eval_query channel_answer given
    channel-missing ls rate w (Resolved.wait n) a = absurd (n36 (is ∙ a.kind-is))
    channel-missing ls rate w (Resolved.launch c v) a = rw (not_found (eval_channel ls c) (w c a.holds-first)) Shown.no-action
    channel-missing ls rate w (Resolved.kill c v) a = rw (not_found (eval_channel ls c) (w c a.holds-first)) Shown.no-action
    channel-missing ls rate w (Resolved.receive c v) a = rw (not_found (eval_channel ls c) (w c a.holds-first)) Shown.no-action
    channel-missing ls rate w (Resolved.bind c v) a = rw (not_found (eval_channel ls c) (w c a.holds-first)) Shown.no-action
    channel-missing ls rate w (Resolved.check c v) a = rw (not_found (eval_channel ls c) (w c a.holds-first)) Shown.no-action
    channel-missing ls rate w (Resolved.hand_send c v) a = rw (not_found (eval_channel ls c) (w c a.holds-first)) Shown.no-action
    channel-missing ls rate w (Resolved.hand_receive c v) a = rw (not_found (eval_channel ls c) (w c a.holds-first)) Shown.no-action
    channel-missing ls rate w (Resolved.hand_bind c v) a = rw (not_found (eval_channel ls c) (w c a.holds-first)) Shown.no-action

-- which kinds have values
module _ (n : ℕ) where
  pub carries-yes : ((n ≡ 37 → ⊥) → (n ≡ 38 → ⊥) → (n ≡ 42 → ⊥) → ⊥) → true ≡ Shown.carries n
  unfolding Shown.carries
  carries-yes h = go (eqb n 37) (eqb n 38) (eqb n 42) refl refl refl
    where
      go : (a b c : Bool) → eqb n 37 ≡ a → eqb n 38 ≡ b → eqb n 42 ≡ c → true ≡ (a || b || c)
      go true b c e f g = refl
      go false true c e f g = refl
      go false false true e f g = refl
      go false false false e f g = absurd (h (eqb-false n 37 e) (eqb-false n 38 f) (eqb-false n 42 g))

  pub carries-no : (n ≡ 37 → ⊥) → (n ≡ 38 → ⊥) → (n ≡ 42 → ⊥) → false ≡ Shown.carries n
  unfolding Shown.carries
  carries-no e f g = rw (ne_eqb n 37 e, ne_eqb n 38 f, ne_eqb n 42 g) refl

-- ---- a branch behind its gate

-- where its action and rate stand
pub record PrefixParts (t : List ℕ) (a : Resolved.Action) (q : Resolved.Rate) (k : ℕ) : Type 0 where
  pub above : 1 ≤ k
  pub kinds : kind_of (get_or t k 0) < 47
  pub action : Settled.Action t a (left_of (get_or t k 0))
  pub rate : Settled.Rate t q (Shown.rate_root (get_or t k 0) k)

module _ (t : List ℕ) (k : ℕ) where
  pub prefix-parts : (a : Resolved.Action) (q : Resolved.Rate) (ps : List Resolved.Part) → Settled.Offer t a q ps k → PrefixParts t a q k
  unfolding Settled.Offer Shown.rate_root
  prefix-parts a q [] h =
      let p = h.offer in
      let e : eqb (kind_of (get_or t k 0)) 45 ≡ true = eq-eqb _ _ p.kind-is in
      record { above = pair-above p; kinds = omega (arith, p.kind-is); action = p.holds-first; rate = rw e (pair-second p) }
  prefix-parts a q (p ∷ ps) h =
      let e : eqb (kind_of (get_or t k 0)) 45 ≡ false = ne_eqb _ _ (λ (x : kind_of (get_or t k 0) ≡ 45). omega (arith, h.kind-is)) in
      record { above = omega (arith, h.above); kinds = omega (arith, h.kind-is); action = h.action; rate = rw e h.rate }

  module _ (n : ℕ) (p : Shown.Prefix t n k) where
    pub own-parts : PrefixParts t p.action p.rate k
    own-parts = prefix-parts p.action p.rate p.next p.at

    pub own-rate : Held (Settled.Rate t) (GoodRate n) (Shown.rate_root (get_or t k 0) k)
    own-rate = record { part = p.rate; at = own-parts.rate; fit = p.good-rate }

    pub own-action : (m : Resolved.Model) × Held (Settled.Action t) (GoodAction m n) (left_of (get_or t k 0))
    own-action = (p.model, record { part = p.action; at = own-parts.action; fit = p.good-action })

  module _ (ls : List ℤ) where
    pub prefix-is : (n : ℕ) (r : RustOption Offer) → IsRate t ls (Shown.rate_root (get_or t k 0) k) (Some n) → Shown.ActionShown t ls n (left_of (get_or t k 0)) r → Shown.PrefixShown t ls k r
    unfolding rate_answer
    prefix-is n r w u a q ps h =
        let p = prefix-parts a q ps h in
        rw (rate-some (eval_rate ls q) n (w q p.rate)) (u a p.action)

    pub prefix-missing : IsRate t ls (Shown.rate_root (get_or t k 0) k) None → Shown.PrefixShown t ls k None
    unfolding rate_answer
    prefix-missing w a q ps h =
        let p = prefix-parts a q ps h in
        rw (rate-none (eval_rate ls q) (w q p.rate)) Shown.no-rate

-- ---- branches

-- what a branch with all its values offers
unfoldable pub opened : RustOption Offer → RustOption (RustOption Offer)
opened (Some r) = Some (Some r)
opened None = None

shown-bare : {t : List ℕ} {ls : List ℤ} {r : RustOption Offer} {o : Option ℕ} {p : Option offers.Action} → Shown.ShowsPrefix t ls r o p
    → Shown.ShowsOffer t ls (given o (λ n. given p (λ a. some (offers.bare a n)))) (opened r)
unfolding given opened
shown-bare (Shown.both h e) = Shown.there (Shown.bare h e)
shown-bare Shown.no-action = Shown.missing
shown-bare Shown.no-rate = Shown.missing

shown-opened : {t : List ℕ} {ls : List ℤ} {r : RustOption Offer} {o : Option ℕ} {p : Option offers.Action} → Shown.ShowsPrefix t ls r o p
    → Shown.ShowsOffer t ls (given o (λ n. given p (λ a. some (offers.opened a n)))) (opened r)
unfolding given opened
shown-opened (Shown.both h e) = Shown.there (Shown.opened h e)
shown-opened Shown.no-action = Shown.missing
shown-opened Shown.no-rate = Shown.missing

truth-yes : (o : Option Bool) → Some true ≡ truth_of o → o ≡ some true
unfolding truth_of
truth-yes (some true) e = refl
truth-yes (some false) e = let z : ◌≡◌ {A = ℕ} 0 1 = cc in absurd (omega arith)
truth-yes none e = let z : ◌≡◌ {A = ℕ} 0 1 = cc in absurd (omega arith)

truth-no : (o : Option Bool) → Some false ≡ truth_of o → o ≡ some false
unfolding truth_of
truth-no (some true) e = let z : ◌≡◌ {A = ℕ} 0 1 = cc in absurd (omega arith)
truth-no (some false) e = refl
truth-no none e = let z : ◌≡◌ {A = ℕ} 0 1 = cc in absurd (omega arith)

truth-unknown : (o : Option Bool) → None ≡ truth_of o → o ≡ none
unfolding truth_of
truth-unknown (some true) e = let z : ◌≡◌ {A = ℕ} 0 1 = cc in absurd (omega arith)
truth-unknown (some false) e = let z : ◌≡◌ {A = ℕ} 0 1 = cc in absurd (omega arith)
truth-unknown none e = refl

-- r shows every branch that stands at k
abbrev pub BranchShown : List ℕ → List ℤ → ℕ → RustOption (RustOption Offer) → Type 0
BranchShown t ls k r = (b : Resolved.Branch) → Settled.Branch t b k → Shown.ShowsOffer t ls (eval_branch ls b) r

module _ (t : List ℕ) (k kind : ℕ) (is : kind ≡ kind_of (get_or t k 0)) where
  -- without a gate
  module _ (h : kind ≡ 47 → ⊥) where
    pub ungated-prefix : (m : Resolved.Model) (n : ℕ) → Held (Settled.Branch t) (GoodBranch m n) k → Shown.Prefix t n k
    unfolding Settled.Branch Settled.Gated
    ungated-prefix m n s = let b = s.part in go b.gate s.at
      where
        go : (g : Option Resolved.Cond) → Settled.Gated t g (Settled.Offer t s.part.action s.part.rate s.part.next) k → Shown.Prefix t n k
        go none a =
            record { model = m; action = s.part.action; rate = s.part.rate; next = s.part.next; at = a; good-action = s.fit.action; good-rate = s.fit.rate }
        go (some c) a = absurd (h (is ∙ a.kind-is))

    pub ungated-shown : (ls : List ℤ) (r : RustOption Offer) → Shown.PrefixShown t ls k r → BranchShown t ls k (opened r)
    unfolding Settled.Branch Settled.Gated eval_branch eval_gate eval_offer
    ungated-shown ls r w b a = go b.gate a
      where
        go : (g : Option Resolved.Cond) → Settled.Gated t g (Settled.Offer t b.action b.rate b.next) k → Shown.ShowsOffer t ls (eval_gate ls g b) (opened r)
        go none a = shown-bare (w b.action b.rate b.next a)
        go (some c) a = absurd (h (is ∙ a.kind-is))

  -- with a gate
  module _ (h : kind ≡ 47) where
    gated-not : {A : Type 0} (a : Resolved.Action) (q : Resolved.Rate) (ps : List Resolved.Part) → Settled.Offer t a q ps k → A
    gated-not a q ps o = absurd (omega (arith, (prefix-parts t k a q ps o).kinds))

    pub gated-parts : (m : Resolved.Model) (n : ℕ) → Held (Settled.Branch t) (GoodBranch m n) k
        → (1 ≤ k) × Held (Settled.Cond t) (GoodCond n) (left_of (get_or t k 0)) × Shown.Prefix t n (k - 1)
    unfolding Settled.Branch Settled.Gated GoodGate
    gated-parts m n s = go s.part.gate s.at s.fit.gate
      where
        go : (g : Option Resolved.Cond) → Settled.Gated t g (Settled.Offer t s.part.action s.part.rate s.part.next) k → GoodGate n g
            → (1 ≤ k) × Held (Settled.Cond t) (GoodCond n) (left_of (get_or t k 0)) × Shown.Prefix t n (k - 1)
        go none a g = gated-not s.part.action s.part.rate s.part.next a
        go (some c) a g = (
          pair-above a,
          record { part = c; at = a.holds-first; fit = g },
          record { model = m; action = s.part.action; rate = s.part.rate; next = s.part.next; at = pair-second a; good-action = s.fit.action; good-rate = s.fit.rate },
        )

    module _ (ls : List ℤ) where
      pub gate-yes : (r : RustOption Offer) → Worth (Settled.Cond t) (truth ls) (left_of (get_or t k 0)) (Some true) → Shown.PrefixShown t ls (k - 1) r → BranchShown t ls k (opened r)
      unfolding Settled.Branch Settled.Gated eval_branch eval_gate eval_offer truth given eval_rate
      gate-yes r u w b a = go b.gate a
        where
          go : (g : Option Resolved.Cond) → Settled.Gated t g (Settled.Offer t b.action b.rate b.next) k → Shown.ShowsOffer t ls (eval_gate ls g b) (opened r)
          go none a = gated-not b.action b.rate b.next a
          go (some c) a = rw (truth-yes (eval_cond ls c) (u c a.holds-first)) (shown-opened (w b.action b.rate b.next (pair-second a)))

      pub gate-no : Worth (Settled.Cond t) (truth ls) (left_of (get_or t k 0)) (Some false) → BranchShown t ls k (Some None)
      unfolding Settled.Branch Settled.Gated eval_branch eval_gate eval_offer truth given eval_rate
      gate-no u b a = go b.gate a
        where
          go : (g : Option Resolved.Cond) → Settled.Gated t g (Settled.Offer t b.action b.rate b.next) k → Shown.ShowsOffer t ls (eval_gate ls g b) (Some None)
          go none a = gated-not b.action b.rate b.next a
          go (some c) a = rw (truth-no (eval_cond ls c) (u c a.holds-first)) (Shown.there Shown.shut)

      pub gate-missing : Worth (Settled.Cond t) (truth ls) (left_of (get_or t k 0)) None → BranchShown t ls k None
      unfolding Settled.Branch Settled.Gated eval_branch eval_gate eval_offer truth given eval_rate
      gate-missing u b a = go b.gate a
        where
          go : (g : Option Resolved.Cond) → Settled.Gated t g (Settled.Offer t b.action b.rate b.next) k → Shown.ShowsOffer t ls (eval_gate ls g b) None
          go none a = gated-not b.action b.rate b.next a
          go (some c) a = rw (truth-unknown (eval_cond ls c) (u c a.holds-first)) Shown.missing
