-- An entry stands in the listing exactly when the rules derive it with its weight: each way by cases of rule and action, over the members of gathered lists.
use Prim.Native.Nat.{ℕ, ◌*◌}
use mathlib.Core.Path.{◌≡◌, refl, sym}
use mathlib.Core.List.Memᴰ
use mathlib.Core.List.{List, [], ◌∷◌, Memᴰ as In}
use mathlib.Core.Logic.{◌↔◌}
use borrow.Author.Tests.{eqb-false, ne_eqb}
use lib.IntN.{ℤ}
use Rattle.rules.specs.Offers.{Pair, Query, Action, wait, launch, kill, receive, bind, check, send, take, take_bind, Guard, bare, opened, shut, Branch, State}
use Rattle.rules.specs.Kind as kind
use Rattle.rules.specs.Rules.{Nth, Change, unchanged, label, plain, Offered, rule8, rule9, rule10, rule11, rule12, rule13, sends, takes, takes_bind, rule18, Alone, waits, launches, kills, receives, binds, checks, Key, key, rate_weight, Moves, alone, together, Derivable}
use Rattle.rules.specs.Listing.{matches, Entry, entry, key_of, weight_of, gather, when, partner_action, partner, partners_in, of_action, of_guard, of_process, entries}
use Rattle.rules.proofs.Decides.{on, off, passes, refuses, matching, any-matching}
use Rattle.rules.proofs.Gather.{gathered, gather-in, when-out, when-in, unless-out, unless-in}
use Rattle.rules.proofs.Places.{Accepts, unbound, bound, branching, chooses, acting, acts, Meeting, meeting, handshakes}

-- the entries of a binding receive, by pair
abbrev pub bindings : (i j r : ℕ) → Query → ℕ → Pair → List Entry
bindings i j r w q x = when (matches w x) (entry (key kind.bind i j 0 0 q) (rate_weight r) ∷ [])

module _ {Proc : Type 0} (branches : Proc → List (Branch Proc)) (s : State Proc) where
  -- ---- from the listing to the rules

  -- where an entry of branch j at place i comes from: an action by itself, or a send with its partners
  pub data Source (i j : ℕ) (g : Guard) (e : Entry) : Type 0 where
    single : {a : Action} {c r q : ℕ} {n : Change} {vs : List ℤ}
        → Alone a c → Offered s.pairs g (label a r q n vs) → e ≡ entry (key c i j 0 0 q) (rate_weight r) → Source i j g e
    double : {x : Pair} {r : ℕ} → Offered s.pairs g (plain (send x) r) → In e (gather (partners_in branches x r i j) s.processes) → Source i j g e

  source-action : (i j r : ℕ) (a : Action) {e : Entry} → In e (of_action branches s i j r a) → Source i j (bare a r) e
  unfolding of_action
  source-action i j r wait h = single waits rule8 (Memᴰ.eq_of_singleton h)
  source-action i j r (launch x) h = single launches rule9 (Memᴰ.eq_of_singleton h)
  source-action i j r (kill x) h = single kills rule10 (Memᴰ.eq_of_singleton h)
  source-action i j r (receive w) h =
      let o = when-out _ h in
      let m = on (any-matching w s.pairs) o.0 in
      single receives (rule11 m.0 m.1 m.2) (Memᴰ.eq_of_singleton o.1)
  source-action i j r (bind w) h =
      let g = gathered (bindings i j r w) s.pairs h in
      let o = when-out _ g.3 in
      single binds (rule12 g.2 (on (matching w g.1) o.0)) (Memᴰ.eq_of_singleton o.1)
  source-action i j r (check w) h =
      let o = unless-out _ h in
      single checks (rule13 (λ x n m. off (any-matching w s.pairs) o.0 (x, n, m))) (Memᴰ.eq_of_singleton o.1)
  source-action i j r (send x) h = double sends h
  source-action i j r (take w) h = absurd (Memᴰ.not-nil h)
  source-action i j r (take_bind w) h = absurd (Memᴰ.not-nil h)

  source-gated : {i j : ℕ} {a : Action} {r : ℕ} {e : Entry} → Source i j (bare a r) e → Source i j (opened a r) e
  source-gated (single c f e) = single c (rule18 f) e
  source-gated (double f h) = double (rule18 f) h

  pub source : (i j : ℕ) (g : Guard) {e : Entry} → In e (of_guard branches s i j g) → Source i j g e
  unfolding of_guard
  source i j (bare a r) h = source-action i j r a h
  source i j (opened a r) h = source-gated (source-action i j r a h)
  source i j shut h = absurd (Memᴰ.not-nil h)

  -- what a partner's entry comes from
  pub data Partner (x : Pair) (r i j k m : ℕ) (g : Guard) (e : Entry) : Type 0 where
    fits : {a : Action} {r₂ : ℕ} {vs : List ℤ}
        → Accepts x a vs → Offered s.pairs g (label a r₂ 0 unchanged vs) → e ≡ entry (key kind.handshake i j k m 0) (r * r₂) → Partner x r i j k m g e

  partner-action : (x : Pair) (r i j k m r₂ : ℕ) (a : Action) {e : Entry} → In e (partner_action x r i j k m r₂ a) → Partner x r i j k m (bare a r₂) e
  unfolding partner_action
  partner-action x r i j k m r₂ (take w) h = let o = when-out _ h in fits (unbound (on (matching w x) o.0)) takes (Memᴰ.eq_of_singleton o.1)
  partner-action x r i j k m r₂ (take_bind w) h = let o = when-out _ h in let b = on (matching w x) o.0 in fits (bound b) (takes_bind x b refl) (Memᴰ.eq_of_singleton o.1)
  partner-action x r i j k m r₂ wait h = absurd (Memᴰ.not-nil h)
  partner-action x r i j k m r₂ (launch y) h = absurd (Memᴰ.not-nil h)
  partner-action x r i j k m r₂ (kill y) h = absurd (Memᴰ.not-nil h)
  partner-action x r i j k m r₂ (receive w) h = absurd (Memᴰ.not-nil h)
  partner-action x r i j k m r₂ (bind w) h = absurd (Memᴰ.not-nil h)
  partner-action x r i j k m r₂ (check w) h = absurd (Memᴰ.not-nil h)
  partner-action x r i j k m r₂ (send y) h = absurd (Memᴰ.not-nil h)

  partner-gated : {x : Pair} {r i j k m r₂ : ℕ} {a : Action} {e : Entry} → Partner x r i j k m (bare a r₂) e → Partner x r i j k m (opened a r₂) e
  partner-gated (fits h f e) = fits h (rule18 f) e

  pub partner-of : (x : Pair) (r i j k m : ℕ) (g : Guard) {e : Entry} → In e (partner x r i j k m g) → Partner x r i j k m g e
  unfolding partner
  partner-of x r i j k m (bare a r₂) h = partner-action x r i j k m r₂ a h
  partner-of x r i j k m (opened a r₂) h = partner-gated (partner-action x r i j k m r₂ a h)
  partner-of x r i j k m shut h = absurd (Memᴰ.not-nil h)

  at_entry : {e : Entry} {k : Key} {w : ℕ} → e ≡ entry k w → Derivable branches s k w → Derivable branches s (key_of e) (weight_of e)
  unfolding key_of weight_of
  at_entry {e} q d = rw q d

  derives-handshake : {i j k m r : ℕ} {x : Pair} {p p' : Proc} {b b' : Branch Proc} {e : Entry}
      → Nth s.processes i p → Nth (branches p) j b → Offered s.pairs b.guard (plain (send x) r)
      → Nth s.processes k p' → Nth (branches p') m b' → (i ≡ k → ⊥) → Partner x r i j k m b'.guard e
      → Derivable branches s (key_of e) (weight_of e)
  unfolding Derivable
  derives-handshake f g h f' g' d (fits a h' q) =
      let t = handshakes branches s.pairs a d f (chooses g h) f' (chooses g' h') in
      at_entry q (unchanged, t.0, together t.1)

  derives-branch : {i j : ℕ} {p : Proc} {b : Branch Proc} {e : Entry}
      → Nth s.processes i p → Nth (branches p) j b → Source i j b.guard e → Derivable branches s (key_of e) (weight_of e)
  unfolding Derivable partners_in
  derives-branch f g (single {n = n} c h q) =
      let t = acts branches s.pairs f (chooses g h) in
      at_entry q (n, t.0, alone c t.1)
  derives-branch {i} {j} f g (double {x = x} {r = r} h q) =
      let u = gathered (partners_in branches x r i j) s.processes q in
      let o = unless-out _ u.3 in
      let v = gathered (λ (m : ℕ) (b : Branch Proc). partner x r i j u.0 m b.guard) (branches u.1) o.1 in
      derives-handshake f g h u.2 v.2 (λ t. eqb-false u.0 i o.0 (sym t)) (partner-of x r i j u.0 v.0 v.1.guard v.3)

  derives : (e : Entry) → In e (entries branches s) → Derivable branches s (key_of e) (weight_of e)
  unfolding entries of_process
  derives e h =
      let u = gathered (of_process branches s) s.processes h in
      let v = gathered (λ (j : ℕ) (b : Branch Proc). of_guard branches s u.0 j b.guard) (branches u.1) u.3 in
      derives-branch u.2 v.2 (source u.0 v.0 v.1.guard v.3)

  -- ---- from the rules to the listing
  lists-alone : (i j : ℕ) {g : Guard} {a : Action} {c r q : ℕ} {n : Change} {vs : List ℤ}
      → Offered s.pairs g (label a r q n vs) → Alone a c → In (entry (key c i j 0 0 q) (rate_weight r)) (of_guard branches s i j g)
  unfolding of_guard of_action
  lists-alone i j rule8 waits = In.head refl
  lists-alone i j rule9 launches = In.head refl
  lists-alone i j rule10 kills = In.head refl
  lists-alone i j (rule11 {w = w} x h m) receives = when-in _ (passes (any-matching w s.pairs) (x, h, m)) (In.head refl)
  lists-alone i j (rule12 {w = w} {r = r} {x = x} h m) binds = gather-in (bindings i j r w) h (when-in _ (passes (matching w x) m) (In.head refl))
  lists-alone i j (rule13 {w = w} f) checks = unless-in _ (refuses (any-matching w s.pairs) (λ h. f h.0 h.1 h.2)) (In.head refl)
  lists-alone i j (rule18 f) k = lists-alone i j f k
  lists-alone i j sends k = elim k [ ]
  lists-alone i j takes k = elim k [ ]
  lists-alone i j (takes_bind _ _ _) k = elim k [ ]

  lists-sender : (i j : ℕ) {g : Guard} {x : Pair} {r q : ℕ} {n : Change} {vs : List ℤ} {e : Entry}
      → Offered s.pairs g (label (send x) r q n vs) → In e (gather (partners_in branches x r i j) s.processes) → In e (of_guard branches s i j g)
  unfolding of_guard of_action
  lists-sender i j sends h = h
  lists-sender i j (rule18 f) h = lists-sender i j f h

  lists-partner : (x : Pair) (r i j k m : ℕ) {g : Guard} {a : Action} {r₂ q : ℕ} {n : Change} {vs us : List ℤ}
      → Offered s.pairs g (label a r₂ q n vs) → Accepts x a us → In (entry (key kind.handshake i j k m 0) (r * r₂)) (partner x r i j k m g)
  unfolding partner partner_action
  lists-partner x r i j k m (takes {w = w}) (unbound h) = when-in _ (passes (matching w x) h) (In.head refl)
  lists-partner x r i j k m (takes_bind {w = w} y b e) (bound h) = when-in _ (passes (matching w x) h) (In.head refl)
  lists-partner x r i j k m (rule18 f) a = lists-partner x r i j k m f a
  lists-partner x r i j k m rule8 a = elim a [ ]
  lists-partner x r i j k m rule9 a = elim a [ ]
  lists-partner x r i j k m rule10 a = elim a [ ]
  lists-partner x r i j k m (rule11 _ _ _) a = elim a [ ]
  lists-partner x r i j k m (rule12 _ _) a = elim a [ ]
  lists-partner x r i j k m (rule13 _) a = elim a [ ]
  lists-partner x r i j k m sends a = elim a [ ]

  lists-branch : {i j : ℕ} {p : Proc} {b : Branch Proc} {e : Entry}
      → Nth s.processes i p → Nth (branches p) j b → In e (of_guard branches s i j b.guard) → In e (entries branches s)
  unfolding entries of_process
  lists-branch f g h = gather-in (of_process branches s) f (gather-in _ g h)

  lists-meeting : {i j k m r₁ r₂ : ℕ} → Meeting branches s.pairs s.processes i j k m r₁ r₂ → In (entry (key kind.handshake i j k m 0) (r₁ * r₂)) (entries branches s)
  unfolding partners_in
  lists-meeting {i} {j} {k} {m} {r₁} t =
      let f = branching t.sender.chooses in
      let g = branching t.receiver.chooses in
      lists-branch t.sender.at f.at (lists-sender i j f.offered
      (gather-in (partners_in branches t.pair r₁ i j) t.receiver.at
      (unless-in _ (ne_eqb k i (λ e. t.apart (sym e)))
      (gather-in (λ (m : ℕ) (b : Branch Proc). partner t.pair r₁ i j k m b.guard) g.at (lists-partner t.pair r₁ i j k m g.offered t.accepts)))))

  lists : {k : Key} {w : ℕ} {n : Change} {ps : List Proc} → Moves branches s k w n ps → In (entry k w) (entries branches s)
  lists (alone c a) =
      let t = acting branches s.pairs a in
      let f = branching t.chooses in
      lists-branch t.at f.at (lists-alone _ _ f.offered c)
  lists (together h) = lists-meeting (meeting branches s.pairs h)

  -- ---- an entry stands in the listing exactly when the rules derive it with its weight
  pub listed : (k : Key) (w : ℕ) → In (entry k w) (entries branches s) ↔ Derivable branches s k w
  unfolding Derivable key_of weight_of
  listed k w = (λ h. derives (entry k w) h, λ d. lists d.2)
