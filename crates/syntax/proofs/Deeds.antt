-- The returns of the readers of what an action does on its channel, over plain variables: what each answers follows from the tokens it looked at, the nodes it
-- wrote and what its callees answered. From the laws of the machine and of spans.
use mathlib.Core.Path.{◌≡◌, refl, sym, ap, ◌∙◌}
use mathlib.Core.List.{List, [], ◌∷◌, ◌++◌}
use Prim.Native.Nat.{ℕ, ◌+◌, ◌≤◌, ◌<◌}
use native.Mathlib.Omega.{arith}
use lib.ListN.{length, get_or}
use Rattle.std.specs.Prelude.{Err, Ok}
use Rattle.token.specs.Kind as kind
use Rattle.grammar.specs.Grammar
use Rattle.grammar.specs.Grammar.{flat_values, flat_sets, flat_names, flat_channel, flat_action}
use Rattle.grammar.specs.Machine.{Sym, Want, BoundNames, ChannelEnd, HandEnd, a_channel, the_values, the_sets, table, rows_of, is_may, find}
use Rattle.grammar.specs.Follows.{Follows}
use Rattle.grammar.specs.Syntax
use Rattle.grammar.specs.Syntax.{wide, channel_at, values_at, sets_at, names_at, action_at}
use Rattle.grammar.proofs.Follows.{join, fails, takes, passes, sticks}
use Rattle.grammar.proofs.Wide.{wide-channel, wide-sets}
use Rattle.tree.specs.Node as node
use Rattle.tree.specs.Table
use Rattle.tree.specs.Reading.{place, Ready, Span, Made, Grown, Parsed, Extended, Read}
use Rattle.tree.proofs.Interval.{stays}
use Rattle.tree.proofs.Holds.{channel-interval, values-interval, sets-interval}
use Rattle.tree.proofs.Spans.{span-token, ◌then◌, span-as, Wrote, span-wrote, span-place, ready-after, ready-token, seen-later, seen-two, next-at, fault-at, made_of, fault-size, extended-as, parsed-grown, made-grown}
use Rattle.syntax.specs.Names.{Listed}
use Rattle.syntax.specs.Actions.{Deed, Hearing, plain, binding, launching, killing, hearing, flat_sent, flat_heard, flat_deed, Sent, HeardOn, Heard, deed_at}
use Rattle.syntax.proofs.Answers.{Answers}
use Rattle.syntax.proofs.Symbols.{wants, lacks, onward}
use Rattle.syntax.proofs.Forms.{made-signed}
use Rattle.syntax.proofs.Channels.{Channel}
use Rattle.syntax.proofs.Naming.{Names, listed_of}

-- ---- what the functions answer

abbrev pub Values : List ℕ → List ℕ → List ℕ → ℕ → ℕ → Read → Type 0
Values ts t t' at = Answers the_values flat_values (λ s v. Table.Values s (values_at v at)) ts t t' at

abbrev pub Sets : List ℕ → List ℕ → List ℕ → ℕ → ℕ → Read → Type 0
Sets ts t t' at = Answers the_sets flat_sets (λ s v. Table.Sets s (sets_at v at)) ts t t' at

abbrev pub Sending : ℕ → List ℕ → List ℕ → List ℕ → ℕ → ℕ → Read → Type 0
Sending form ts t t' at left r = Follows ts (at + 1) the_values (place r) × Extended (flat_sent (get_or ts at 0)) (λ c v. (c, v)) Table.Channel (Sent form at) ts t t' at left r

abbrev pub Receiving : ℕ → List ℕ → List ℕ → List ℕ → ℕ → ℕ → Read → Type 0
Receiving form ts t t' at left r = Follows ts (at + 1) (the_sets ++ BoundNames ∷ []) (place r) × Extended (flat_heard (get_or ts at 0)) (λ c h. (c, h)) Table.Channel (Heard form at) ts t t' at left r

-- what is done on a channel
abbrev pub Deeds : List ℕ → List ℕ → List ℕ → ℕ → ℕ → Read → Type 0
Deeds ts t t' at left r = Follows ts at (ChannelEnd ∷ []) (place r) × Extended flat_deed (λ c d. deed_at c d at) Table.Channel Table.Action ts t t' at left r

-- an action that the symbols x read
abbrev pub Acts : List Sym → List ℕ → List ℕ → List ℕ → ℕ → ℕ → Read → Type 0
Acts x ts t t' at = Answers x flat_action (λ s a. Table.Action s (action_at a at)) ts t t' at

-- ---- values that are sent

module _ (form : ℕ) (ts t t₁ : List ℕ) (at left : ℕ) {r : Read} (a : Values ts t t₁ (at + 1) (left + 1) r) where
  pub sending-fault : {k : ℕ} → r ≡ Err k → Sending form ts t t₁ at left (Err k)
  unfolding place Extended
  sending-fault e = (fault-at e a.0, fault-size _ _ ts t t₁ (at + 1) (left + 1) e a.1)

  pub sending-node : {n root : ℕ} {t₂ : List ℕ} → 0 < get_or ts at 0 → r ≡ Ok (n, root) → Wrote t₁ t₂ (root + 1) form 0 left 0 → Sending form ts t t₂ at left (Ok (n, root + 1))
  unfolding place Extended flat_sent Sent
  sending-node {n} h e w =
      let m = made_of e a.1 in (
        next-at e a.0,
        record {
          tree = m.tree;
          span = span-wrote w (span-token (get_or ts at 0) refl h then m.span) (omega (arith, m.span.fewer));
          shown = λ l c lo before. seen-two (channel-interval c) (values-interval (values_at m.tree (at + 1))) w (λ i. stays (channel-interval c) (left + 1) (omega arith) m.span.kept before) m.shown l;
        },
      )

-- ---- sets that are heard on, and names that are bound

names-span : {ts t : List ℕ} {at close n count used : ℕ} (l : Listed ts at close n count) → Span (λ us. flat_names l.tree (close ∷ us)) ts t t at used n used
names-span l = record { text = l.text; onward = omega (arith, l.fewer); within = l.within; more = omega arith; fewer = omega (arith, l.fewer); kept = λ i h. refl; size = refl }

module _ (form : ℕ) (ts t t₁ : List ℕ) (at left : ℕ) {r : Read} (a : Sets ts t t₁ (at + 1) (left + 1) r) where
  pub receiving-fault : {k : ℕ} → r ≡ Err k → Receiving form ts t t₁ at left (Err k)
  unfolding place Extended
  receiving-fault {k} e = (fails ts (at + 1) k the_sets _ (fault-at e a.0), fault-size _ _ ts t t₁ (at + 1) (left + 1) e a.1)

  module _ {n root : ℕ} (e : r ≡ Ok (n, root)) where
    pub receiving-plain : {t₂ : List ℕ} → 0 < get_or ts at 0 → (get_or ts n 0 ≡ kind.open_round → ⊥) → Wrote t₁ t₂ (root + 1) form 0 left 0 → Receiving form ts t t₂ at left (Ok (n, root + 1))
    unfolding place Extended flat_heard HeardOn table rows_of is_may
    receiving-plain h q w =
        let m = made_of e a.1 in (
          onward the_sets _ (next-at e a.0) (λ l. passes ts n BoundNames l refl (q, tt)),
          record {
            tree = plain m.tree;
            span = span-wrote w (span-token (get_or ts at 0) refl h then m.span) (omega (arith, m.span.fewer));
            shown = λ l c lo before. seen-two (channel-interval c) (sets-interval (sets_at m.tree (at + 1))) w (λ i. stays (channel-interval c) (left + 1) (omega arith) m.span.kept before) m.shown l;
          },
        )

    module _ (q : get_or ts n 0 ≡ kind.open_round) {r' : Read} (b : Names kind.close_round ts (n + 1) r') where
      pub receiving-unnamed : {k : ℕ} → r' ≡ Err k → Receiving form ts t t₁ at left (Err k)
      unfolding place Extended table rows_of find
      receiving-unnamed d = (
        onward the_sets _ (next-at e a.0) (λ l. takes ts n BoundNames kind.open_round q (omega arith) refl (λ i. fault-at d b.0)),
        (made_of e a.1).span.size,
      )

      pub receiving-named : {m count : ℕ} {t₂ : List ℕ} → 0 < get_or ts at 0 → r' ≡ Ok (m, count) → Wrote t₁ t₂ (root + 1) (form + 1) (n + 1) left count → Receiving form ts t t₂ at left (Ok (m, root + 1))
      unfolding place Extended flat_heard HeardOn table rows_of find
      receiving-named {t₂ = t₂} h d w =
          let p = made_of e a.1 in
          let l = listed_of d b.1 in
          let k = span-place (wide-sets p.tree) p.span in
          let s : Span _ ts t₁ t₁ n (root + 1) _ (root + 1) = span-token kind.open_round q (omega arith) then names-span l in (
            onward the_sets _ (next-at e a.0) (λ i. takes ts n BoundNames kind.open_round q (omega arith) refl (λ i. next-at d b.0)),
            record {
              tree = binding p.tree l.tree;
              span = span-wrote w (span-token (get_or ts at 0) refl h then p.span then s) (omega (arith, p.span.fewer, l.fewer));
              shown = λ i c lo before.
                  rw (← k, ← l.counted)
                  (seen-two (channel-interval c) (sets-interval (sets_at p.tree (at + 1))) w (λ i. stays (channel-interval c) (left + 1) (omega arith) p.span.kept before) p.shown i);
            },
          )

-- ---- a check

-- what a check reads
abbrev pub checked : List Sym
checked = Want kind.tilde ∷ a_channel ++ Want kind.query ∷ the_sets

-- the machine up to the channel
checks : (ts : List ℕ) (at : ℕ) → get_or ts at 0 ≡ kind.tilde → (r : Read) → Follows ts (at + 1) (a_channel ++ Want kind.query ∷ the_sets) (place r) → Follows ts at checked (place r)
checks ts at o r f = wants ts at _ kind.tilde o (omega arith) (λ l. f)

module _ (ts t t₁ : List ℕ) (at used : ℕ) (o : get_or ts at 0 ≡ kind.tilde) {r : Read} (a : Channel ts t t₁ (at + 1) used r) where
  pub check-fault : {k : ℕ} → r ≡ Err k → Acts checked ts t t₁ at used (Err k)
  unfolding place Parsed
  check-fault {k} e = (checks ts at o (Err k) (fails ts (at + 1) k a_channel _ (fault-at e a.0)), fault-size _ _ ts t t₁ (at + 1) used e a.1)

  module _ {n left : ℕ} (e : r ≡ Ok (n, left)) where
    pub check-stray : (get_or ts n 0 ≡ kind.query → ⊥) → Acts checked ts t t₁ at used (Err n)
    unfolding place Parsed
    check-stray q = (checks ts at o (Err n) (onward a_channel _ (next-at e a.0) (λ l. lacks ts n the_sets kind.query l q)), (made_of e a.1).span.size)

    module _ (q : get_or ts n 0 ≡ kind.query) where
      pub check-ready : Ready ts at used → Ready ts (n + 1) (left + 1)
      check-ready h = ready-token (ready-after (ready-token h (omega arith)) (made_of e a.1).span) (omega arith)

      module _ (t₂ : List ℕ) {r' : Read} (b : Sets ts t₁ t₂ (n + 1) (left + 1) r') where
        pub check-unset : {k : ℕ} → r' ≡ Err k → Acts checked ts t t₂ at used (Err k)
        unfolding place Parsed
        check-unset {k} d = (
          checks ts at o (Err k) (onward a_channel _ (next-at e a.0) (λ l. wants ts n the_sets kind.query q (omega arith) (λ i. fault-at d b.0))),
          fault-size _ _ ts t₁ t₂ (n + 1) (left + 1) d b.1 ∙ (made_of e a.1).span.size,
        )

        pub check-node : {m right : ℕ} {t₃ : List ℕ} → r' ≡ Ok (m, right) → Wrote t₂ t₃ (right + 1) node.check 0 left 0 → Acts checked ts t t₃ at used (Ok (m, right + 1))
        unfolding place Parsed flat_action action_at Table.Action
        check-node {m} {right} {t₃} d w =
            let p = made_of e a.1 in
            let s = made_of d b.1 in
            let k = span-place (wide-channel p.tree) p.span in
            let parts = span-token kind.tilde o (omega arith) then p.span then span-token kind.query q (omega arith) then s.span in (
              checks ts at o (Ok (m, right + 1)) (onward a_channel _ (next-at e a.0) (λ l. wants ts n the_sets kind.query q (omega arith) (λ i. next-at d b.0))),
              record {
                tree = Grammar.check p.tree s.tree;
                span = span-wrote w parts (omega (arith, p.span.fewer, s.span.fewer));
                shown = λ l.
                    rw (← k)
                    (seen-two (channel-interval (channel_at p.tree (at + 1))) (sets-interval (sets_at s.tree (n + 1))) w (seen-later (channel-interval (channel_at p.tree (at + 1))) s.span (omega arith) p.shown) s.shown l);
              },
            )

-- ---- a channel, and what is done on it

-- the channel and what is done on it, with the channel at token k
module _ {ts t t₁ t₂ : List ℕ} {k used n left m root : ℕ} (p : Made flat_channel (λ s e. Table.Channel s (channel_at e k)) ts t t₁ k used n left) where
  channel-sent : (form sign : ℕ) → Grown (flat_sent sign) (λ c v. (c, v)) Table.Channel (Sent form n) ts t₁ t₂ n left m root → Made {T = Grammar.Channel × Grammar.Values} (λ z us. flat_channel z.0 (flat_sent sign z.1 us)) (λ s z. Sent form (k + wide (flat_channel z.0)) s (channel_at z.0 k, z.1)) ts t t₂ k used m root
  channel-sent form sign g = made-grown wide-channel (λ e. channel_at e k) (λ c v. (c, v)) (λ c v us. refl) (λ c v s lo i e h. rw (← e) h) p g

  channel-heard : (form sign : ℕ) → Grown (flat_heard sign) (λ c h. (c, h)) Table.Channel (Heard form n) ts t₁ t₂ n left m root → Made {T = Grammar.Channel × Hearing} (λ z us. flat_channel z.0 (flat_heard sign z.1 us)) (λ s z. HeardOn form (k + wide (flat_channel z.0)) s (channel_at z.0 k) z.1) ts t t₂ k used m root
  channel-heard form sign g = made-grown wide-channel (λ e. channel_at e k) (λ c h. (c, h)) (λ c h us. refl) (λ c h s lo i e x. rw (← e) x) p g

-- a handshake's receive, of what is heard
hand_of : Grammar.Channel → Hearing → Grammar.Action
hand_of c (plain s) = Grammar.hand_receive c s
hand_of c (binding s n) = Grammar.hand_bind c s n

hand-text : (c : Grammar.Channel) (h : Hearing) (us : List ℕ) → flat_action (hand_of c h) us ≡ kind.at ∷ flat_channel c (flat_heard kind.query h us)
unfolding flat_action flat_heard hand_of
hand-text c (plain s) us = refl
hand-text c (binding s n) us = refl

hand-shown : (c : Grammar.Channel) (h : Hearing) (at : ℕ) (s : List ℕ) (lo k : ℕ) → HeardOn node.hand_receive (at + 1 + wide (flat_channel c)) s (channel_at c (at + 1)) h lo k → Table.Action s (action_at (hand_of c h) at) lo k
unfolding HeardOn action_at names_at Table.Action hand_of
hand-shown c (plain v) at s lo k h = h
hand-shown c (binding v n) at s lo k h = h

-- ---- what is done on a channel

heard-shown : (c : Syntax.Channel) (h : Hearing) (at : ℕ) (s : List ℕ) (lo k : ℕ) → HeardOn node.receive at s c h lo k → Table.Action s (deed_at c (hearing h) at) lo k
unfolding HeardOn deed_at Table.Action
heard-shown c (plain v) at s lo k x = x
heard-shown c (binding v n) at s lo k x = x

module _ (ts t : List ℕ) (at left : ℕ) where
  pub deed-stray : at ≤ length ts → (get_or ts at 0 ≡ kind.bang → ⊥) → (get_or ts at 0 ≡ kind.hash → ⊥) → (get_or ts at 0 ≡ kind.query → ⊥) → Deeds ts t t at left (Err at)
  unfolding place Extended table rows_of is_may
  deed-stray h x y z = (sticks ts at ChannelEnd h refl (x, (y, (z, tt))), refl)

  module _ (t₁ : List ℕ) (r : Read) where
    pub deed-launch : get_or ts at 0 ≡ kind.bang → Sending node.launch ts t t₁ at left r → Deeds ts t t₁ at left r
    unfolding table rows_of find flat_deed flat_sent Sent deed_at Table.Action
    deed-launch q b = (
      takes ts at ChannelEnd kind.bang q (omega arith) refl (λ i. b.0),
      extended-as r (λ i top g. record { tree = launching g.tree; span = span-as (λ us. ap (λ (x : ℕ). x ∷ flat_values g.tree us) (sym q)) g.span; shown = g.shown }) (λ z. z) b.1,
    )

    pub deed-kill : get_or ts at 0 ≡ kind.hash → Sending node.kill ts t t₁ at left r → Deeds ts t t₁ at left r
    unfolding table rows_of find flat_deed flat_sent Sent deed_at Table.Action
    deed-kill q b = (
      takes ts at ChannelEnd kind.hash q (omega arith) refl (λ i. b.0),
      extended-as r (λ i top g. record { tree = killing g.tree; span = span-as (λ us. ap (λ (x : ℕ). x ∷ flat_values g.tree us) (sym q)) g.span; shown = g.shown }) (λ z. z) b.1,
    )

    pub deed-receive : get_or ts at 0 ≡ kind.query → Receiving node.receive ts t t₁ at left r → Deeds ts t t₁ at left r
    unfolding table rows_of find flat_deed
    deed-receive q b = (
      takes ts at ChannelEnd kind.query q (omega arith) refl (λ i. b.0),
      extended-as r (λ i top g. record { tree = hearing g.tree; span = span-as (λ us. ap (λ (x : ℕ). flat_heard x g.tree us) (sym q)) g.span; shown = λ l c lo z. heard-shown c g.tree at t₁ lo top (g.shown l c lo z) }) (λ z. z) b.1,
    )

-- ---- a launch, kill or receive

pub action_of : Grammar.Channel → Deed → Grammar.Action
action_of c (launching v) = Grammar.launch c v
action_of c (killing v) = Grammar.kill c v
action_of c (hearing (plain s)) = Grammar.receive c s
action_of c (hearing (binding s n)) = Grammar.bind c s n

pub action-text : (c : Grammar.Channel) (d : Deed) (us : List ℕ) → flat_action (action_of c d) us ≡ flat_channel c (flat_deed d us)
unfolding flat_action flat_deed flat_sent flat_heard action_of
action-text c (launching v) us = refl
action-text c (killing v) us = refl
action-text c (hearing (plain s)) us = refl
action-text c (hearing (binding s n)) us = refl

pub action-at : (c : Grammar.Channel) (d : Deed) (at : ℕ) → deed_at (channel_at c at) d (at + wide (flat_channel c)) ≡ action_at (action_of c d) at
unfolding action_at deed_at names_at action_of
action-at c (launching v) at = refl
action-at c (killing v) at = refl
action-at c (hearing (plain s)) at = refl
action-at c (hearing (binding s n)) at = refl

module _ (ts t t₁ : List ℕ) (at used : ℕ) {r : Read} (a : Channel ts t t₁ at used r) where
  pub beacon-fault : {k : ℕ} → r ≡ Err k → Acts (a_channel ++ ChannelEnd ∷ []) ts t t₁ at used (Err k)
  unfolding place Parsed
  beacon-fault {k} e = (fails ts at k a_channel _ (fault-at e a.0), fault-size _ _ ts t t₁ at used e a.1)

  pub beacon-made : {n left : ℕ} (t₂ : List ℕ) (r' : Read) → r ≡ Ok (n, left) → Deeds ts t₁ t₂ n left r' → Acts (a_channel ++ ChannelEnd ∷ []) ts t t₂ at used r'
  beacon-made {n} t₂ r' e b =
      let p = made_of e a.1 in (
        join ts at n a_channel (ChannelEnd ∷ []) (next-at e a.0) b.0,
        parsed-grown r' (λ i top g. made-grown wide-channel (λ x. channel_at x at) action_of action-text (λ x d s lo k q h. rw (← action-at x d at, ← q) h) p g) (λ z. z ∙ p.span.size) b.1,
      )

-- ---- a handshake

-- what a handshake reads
abbrev pub shaken : List Sym
shaken = Want kind.at ∷ a_channel ++ HandEnd ∷ []

-- the machine up to the channel
shakes : (ts : List ℕ) (at : ℕ) → get_or ts at 0 ≡ kind.at → (r : Read) → Follows ts (at + 1) (a_channel ++ HandEnd ∷ []) (place r) → Follows ts at shaken (place r)
shakes ts at o r f = wants ts at _ kind.at o (omega arith) (λ l. f)

module _ (ts t t₁ : List ℕ) (at used : ℕ) (o : get_or ts at 0 ≡ kind.at) {r : Read} (a : Channel ts t t₁ (at + 1) used r) where
  pub hand-fault : {k : ℕ} → r ≡ Err k → Acts shaken ts t t₁ at used (Err k)
  unfolding place Parsed
  hand-fault {k} e = (shakes ts at o (Err k) (fails ts (at + 1) k a_channel _ (fault-at e a.0)), fault-size _ _ ts t t₁ (at + 1) used e a.1)

  module _ {n left : ℕ} (e : r ≡ Ok (n, left)) where
    pub hand-stray : (get_or ts n 0 ≡ kind.bang → ⊥) → (get_or ts n 0 ≡ kind.query → ⊥) → Acts shaken ts t t₁ at used (Err n)
    unfolding place Parsed table rows_of is_may
    hand-stray x z = (shakes ts at o (Err n) (onward a_channel _ (next-at e a.0) (λ l. sticks ts n HandEnd l refl (x, (z, tt)))), (made_of e a.1).span.size)

    module _ (t₂ : List ℕ) (r' : Read) where
      pub hand-send : get_or ts n 0 ≡ kind.bang → Sending node.hand_send ts t₁ t₂ n left r' → Acts shaken ts t t₂ at used r'
      unfolding table rows_of find flat_action flat_sent Sent action_at Table.Action
      hand-send q b =
          let p = made_of e a.1 in (
            shakes ts at o r' (onward a_channel _ (next-at e a.0) (λ l. takes ts n HandEnd kind.bang q (omega arith) refl (λ i. b.0))),
            parsed-grown r' (λ i top g. made-signed (λ z. Grammar.hand_send z.0 z.1) (λ z s lo k h. h) (λ z us. ap (λ (x : ℕ). kind.at ∷ flat_channel z.0 (flat_sent x z.1 us)) (sym q)) o (omega arith) (channel-sent p _ _ g)) (λ z. z ∙ p.span.size) b.1,
          )

      pub hand-receive : get_or ts n 0 ≡ kind.query → Receiving node.hand_receive ts t₁ t₂ n left r' → Acts shaken ts t t₂ at used r'
      unfolding table rows_of find
      hand-receive q b =
          let p = made_of e a.1 in (
            shakes ts at o r' (onward a_channel _ (next-at e a.0) (λ l. takes ts n HandEnd kind.query q (omega arith) refl (λ i. b.0))),
            parsed-grown r' (λ i top g. made-signed (λ z. hand_of z.0 z.1) (λ z. hand-shown z.0 z.1 at) (λ z us. hand-text z.0 z.1 us ∙ ap (λ (x : ℕ). kind.at ∷ flat_channel z.0 (flat_heard x z.1 us)) (sym q)) o (omega arith) (channel-heard p _ _ g)) (λ z. z ∙ p.span.size) b.1,
          )
