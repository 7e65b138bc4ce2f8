-- The rules give one outcome for a key, and it is the step function's: by cases of the rules, and from the listing back to them.
use Prim.Native.Nat.{ℕ}
use mathlib.Core.Path.{◌≡◌, refl, ap, ◌∙◌}
use mathlib.Core.Bool.{false}
use mathlib.Core.List.{List, [], ◌∷◌, ◌++◌, Memᴰ as In}
use mathlib.Core.Logic.{◌↔◌}
use mathlib.Core.Option.{Option-elim}
use lib.Dec.{eqb}
use lib.IntN.{ℤ}
use lib.ListN.{get_elem?}
use Rattle.rules.specs.Offers.{Pair, Action, send, Guard, Branch, State}
use Rattle.rules.specs.Kind as kind
use Rattle.rules.specs.Rules.{Nth, first, later, Change, unchanged, Label, label, Offered, rule8, rule9, rule10, rule11, rule12, rule13, sends, takes, takes_bind, rule18, Chooses, rule14-this, rule14-other, Acts, rule15-this, rule15-other, Handshakes, rule16-left, rule16-right, rule17-left, rule17-right, rule15-both, Alone, waits, launches, kills, receives, binds, checks, Key, Moves, alone, together, Derivable}
use Rattle.rules.specs.Listing.{entry, entries}
use Rattle.rules.specs.Pairs.{pairs_after}
use Rattle.rules.specs.Step.{replace, replace_both, change_of, bound_by, values_at, sent_by, on_action, Outcome, stays, goes, state_after, one_acts, both_act, at_branch, step}
use Rattle.rules.proofs.Places.{Accepts, unbound, bound, branching, acting, meeting, here, there}
use Rattle.rules.proofs.Listed.{listed}

-- ---- places
pub nth-found : {A B : Type 0} {xs : List A} {n : ℕ} {x : A} (d : B) (f : A → B) → Nth xs n x → Option-elim (get_elem? xs n) d f ≡ f x
unfolding Option-elim
nth-found d f first = refl
nth-found d f (later h) = nth-found d f h

abbrev pub bound_of : Label → List ℤ
bound_of (label a r q n vs) = vs

pub chooses-goes : {Proc : Type 0} {lit : List Pair} {bs : List (Branch Proc)} {j : ℕ} {l : Label} {ks : List Proc} (c : Chooses lit bs j l ks)
    → (branching c).branch.next (bound_of l) ≡ ks
unfolding branching
chooses-goes (rule14-this f) = refl
chooses-goes (rule14-other c) = chooses-goes c

module _ {Proc : Type 0} (branches : Proc → List (Branch Proc)) (lit : List Pair) where
  pub acts-goes : {ps : List Proc} {i j : ℕ} {l : Label} {ps' : List Proc} (a : Acts branches lit ps i j l ps') → replace i (acting branches lit a).after ps ≡ ps'
  unfolding acting here there replace
  acts-goes (rule15-this c) = refl
  acts-goes (rule15-other {p = p} a) = ap (λ t. p ∷ t) (acts-goes a)

  pub handshakes-goes : {ps : List Proc} {i j k m r₁ r₂ : ℕ} {ps' : List Proc} (h : Handshakes branches lit ps i j k m r₁ r₂ ps')
      → replace_both i (meeting branches lit h).sender.after k (meeting branches lit h).receiver.after ps ≡ ps'
  unfolding meeting replace_both here there
  handshakes-goes (rule16-left {ks = ks} c a h) = ap (λ t. ks ++ t) (acts-goes a)
  handshakes-goes (rule16-right {ks = ks} a c h) = ap (λ t. ks ++ t) (acts-goes a)
  handshakes-goes (rule17-left {ks = ks} c a h) = ap (λ t. ks ++ t) (acts-goes a)
  handshakes-goes (rule17-right {ks = ks} a c h) = ap (λ t. ks ++ t) (acts-goes a)
  handshakes-goes (rule15-both {p = p} s) = ap (λ t. p ∷ t) (handshakes-goes s)

-- ---- labels
offered-change : {lit : List Pair} {g : Guard} {a : Action} {r q : ℕ} {n : Change} {vs : List ℤ} → Offered lit g (label a r q n vs) → on_action unchanged change_of g ≡ n
unfolding on_action change_of
offered-change rule8 = refl
offered-change rule9 = refl
offered-change rule10 = refl
offered-change (rule11 x h m) = refl
offered-change (rule12 h m) = refl
offered-change (rule13 f) = refl
offered-change sends = refl
offered-change takes = refl
offered-change (takes_bind x m e) = refl
offered-change (rule18 f) = offered-change f

pub offered-bound : {lit : List Pair} {g : Guard} {a : Action} {r q c : ℕ} {n : Change} {vs : List ℤ}
    → Offered lit g (label a r q n vs) → Alone a c → on_action [] (bound_by (values_at lit q)) g ≡ vs
unfolding on_action bound_by values_at
offered-bound rule8 waits = refl
offered-bound rule9 launches = refl
offered-bound rule10 kills = refl
offered-bound (rule11 x h m) receives = refl
offered-bound (rule12 h m) binds = nth-found [] (λ (x : Pair). x.values) h
offered-bound (rule13 f) checks = refl
offered-bound (rule18 f) k = offered-bound f k
offered-bound sends k = elim k [ ]
offered-bound takes k = elim k [ ]
offered-bound (takes_bind _ _ _) k = elim k [ ]

pub offered-sent : {lit : List Pair} {g : Guard} {x : Pair} {r q : ℕ} {n : Change} {vs : List ℤ} → Offered lit g (label (send x) r q n vs) → on_action [] sent_by g ≡ x.values
unfolding on_action sent_by
offered-sent sends = refl
offered-sent (rule18 f) = offered-sent f

pub offered-received : {lit : List Pair} {g : Guard} {x : Pair} {a : Action} {r q : ℕ} {n : Change} {vs : List ℤ}
    → Offered lit g (label a r q n vs) → Accepts x a vs → on_action [] (bound_by x.values) g ≡ vs
unfolding on_action bound_by
offered-received takes (unbound h) = refl
offered-received (takes_bind y m e) (bound h) = refl
offered-received (rule18 f) h = offered-received f h
offered-received rule8 h = elim h [ ]
offered-received rule9 h = elim h [ ]
offered-received rule10 h = elim h [ ]
offered-received (rule11 _ _ _) h = elim h [ ]
offered-received (rule12 _ _) h = elim h [ ]
offered-received (rule13 _) h = elim h [ ]
offered-received sends h = elim h [ ]

pub no-handshake : {a : Action} {c : ℕ} → Alone a c → eqb c kind.handshake ≡ false
no-handshake waits = refl
no-handshake launches = refl
no-handshake kills = refl
no-handshake receives = refl
no-handshake binds = refl
no-handshake checks = refl

module _ {Proc : Type 0} (branches : Proc → List (Branch Proc)) (s : State Proc) where
  at-branch : {i j : ℕ} {p : Proc} {b : Branch Proc} (f : Branch Proc → Outcome Proc)
      → Nth s.processes i p → Nth (branches p) j b → at_branch branches s i j f ≡ f b
  unfolding at_branch
  at-branch f g h = nth-found stays _ g ∙ nth-found stays f h

  -- what the rules derive with a key, the step function does
  pub steps : {k : Key} {w : ℕ} {n : Change} {ps : List Proc} → Moves branches s k w n ps → step branches s k ≡ goes n ps
  unfolding step one_acts both_act
  steps (alone k a) =
      let t = acting branches s.pairs a in
      let b = branching t.chooses in
      at-branch _ t.at b.at ∙ rw (no-handshake k, offered-change b.offered, offered-bound b.offered k, chooses-goes t.chooses, acts-goes branches s.pairs a)
  steps (together h) =
      let t = meeting branches s.pairs h in
      let b = branching t.sender.chooses in
      let b' = branching t.receiver.chooses in
      at-branch _ t.sender.at b.at ∙ at-branch _ t.receiver.at b'.at
      ∙ rw (offered-sent b.offered, offered-received b'.offered t.accepts, chooses-goes t.sender.chooses, chooses-goes t.receiver.chooses, handshakes-goes branches s.pairs h)

  -- and the state afterwards is the rules'
  pub steps-state : {k : Key} {w : ℕ} {n : Change} {ps : List Proc}
      → Moves branches s k w n ps → state_after s (step branches s k) ≡ record { processes = ps; pairs = pairs_after n s.pairs }
  unfolding state_after
  steps-state m = ap (state_after s) (steps m)

  -- a listed entry always goes on
  pub listed-goes : (k : Key) (w : ℕ) → In (entry k w) (entries branches s) → (n : Change) × (ps : List Proc) × (step branches s k ≡ goes n ps)
  unfolding Derivable
  listed-goes k w h = let d = (listed branches s k w).0 h in (d.0, d.1, steps d.2)

  -- the rules move a state with this key, weight, change and processes exactly when the entry is listed and the step function says so
  pub moves : (k : Key) (w : ℕ) (n : Change) (ps : List Proc)
      → Moves branches s k w n ps ↔ (In (entry k w) (entries branches s) × (step branches s k ≡ goes n ps))
  unfolding Derivable
  moves k w n ps = (
    λ m. ((listed branches s k w).1 (n, ps, m), steps m),
    λ h. let d = (listed branches s k w).0 h.0 in
        let e = steps d.2 in
        let a : d.0 ≡ n = cc (e, h.1) in
        let b : d.1 ≡ ps = cc (e, h.1) in
        rw (← a, ← b) d.2,
  )
