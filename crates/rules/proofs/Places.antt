-- The rules for sums and for processes in parallel come to this: a branch at a place acts, or branches at two different places do. By induction on derivations.
use Prim.Native.Nat.{ℕ, zero, suc}
use mathlib.Core.Path.{◌≡◌, refl, ap}
use mathlib.Core.List.{List, [], ◌∷◌, ◌++◌}
use native.Mathlib.Omega.{arith}
use lib.IntN.{ℤ}
use Rattle.rules.specs.Offers.{Pair, Query, Matches, Action, send, take, take_bind, Branch}
use Rattle.rules.specs.Rules.{Nth, first, later, Change, unchanged, Label, label, plain, Offered, Chooses, rule14-this, rule14-other, Acts, rule15-this, rule15-other, Handshakes, rule16-left, rule16-right, rule17-left, rule17-right, rule15-both}

-- x can be received by an action that binds vs
pub data Accepts (x : Pair) : Action → List ℤ → Type 0 where
  unbound : {w : Query} → Matches w x → Accepts x (take w) []
  bound : {w : Query} → Matches w x → Accepts x (take_bind w) x.values

module _ {Proc : Type 0} where
  -- branch j of a sum acts
  pub record Branching (lit : List Pair) (bs : List (Branch Proc)) (j : ℕ) (l : Label) : Type 0 where
    pub branch : Branch Proc
    pub at : Nth bs j branch
    pub offered : Offered lit branch.guard l

  unfoldable pub branching : {lit : List Pair} {bs : List (Branch Proc)} {j : ℕ} {l : Label} {ks : List Proc} → Chooses lit bs j l ks → Branching lit bs j l
  branching (rule14-this {b = b} f) = record { branch = b; at = first; offered = f }
  branching (rule14-other c) = let r = branching c in record { branch = r.branch; at = later r.at; offered = r.offered }

  pub chooses : {lit : List Pair} {bs : List (Branch Proc)} {j : ℕ} {b : Branch Proc} {a : Action} {r q : ℕ} {n : Change} {vs : List ℤ}
      → Nth bs j b → Offered lit b.guard (label a r q n vs) → Chooses lit bs j (label a r q n vs) (b.next vs)
  chooses first f = rule14-this f
  chooses (later h) f = rule14-other (chooses h f)

module _ {Proc : Type 0} (branches : Proc → List (Branch Proc)) (lit : List Pair) where
  -- branch j of the process at place i acts, and the process becomes `after`
  pub record Acting (ps : List Proc) (i j : ℕ) (l : Label) : Type 0 where
    pub proc : Proc
    pub at : Nth ps i proc
    pub after : List Proc
    pub chooses : Chooses lit (branches proc) j l after

  unfoldable pub here : {p : Proc} {ps ks : List Proc} {j : ℕ} {l : Label} → Chooses lit (branches p) j l ks → Acting (p ∷ ps) zero j l
  here {p} {ks = ks} c = record { proc = p; at = first; after = ks; chooses = c }

  unfoldable pub there : {p : Proc} {ps : List Proc} {i j : ℕ} {l : Label} → Acting ps i j l → Acting (p ∷ ps) (suc i) j l
  there r = record { proc = r.proc; at = later r.at; after = r.after; chooses = r.chooses }

  unfoldable pub acting : {ps : List Proc} {i j : ℕ} {l : Label} {ps' : List Proc} → Acts branches lit ps i j l ps' → Acting ps i j l
  acting (rule15-this c) = here c
  acting (rule15-other a) = there (acting a)

  pub acts : {ps : List Proc} {i j : ℕ} {l : Label} {p : Proc} {ks : List Proc}
      → Nth ps i p → Chooses lit (branches p) j l ks → (ps' : List Proc) × Acts branches lit ps i j l ps'
  acts {ks = ks} (first {xs = xs}) c = (ks ++ xs, rule15-this c)
  acts (later {x = x} h) c = let r = acts h c in (x ∷ r.0, rule15-other r.1)

  -- branch j at place i sends, branch m at another place k receives
  pub record Meeting (ps : List Proc) (i j k m r₁ r₂ : ℕ) : Type 0 where
    pub pair : Pair
    pub action : Action
    pub values : List ℤ
    pub sender : Acting ps i j (plain (send pair) r₁)
    pub receiver : Acting ps k m (label action r₂ 0 unchanged values)
    pub accepts : Accepts pair action values
    pub apart : i ≡ k → ⊥

  unfoldable pub meeting : {ps : List Proc} {i j k m r₁ r₂ : ℕ} {ps' : List Proc} → Handshakes branches lit ps i j k m r₁ r₂ ps' → Meeting ps i j k m r₁ r₂
  meeting (rule16-left {x = x} {w = w} c a h) = record { pair = x; action = take w; values = []; sender = here c; receiver = there (acting a); accepts = unbound h; apart = λ e. omega arith }
  meeting (rule16-right {x = x} {w = w} a c h) = record { pair = x; action = take w; values = []; sender = there (acting a); receiver = here c; accepts = unbound h; apart = λ e. omega arith }
  meeting (rule17-left {x = x} {w = w} c a h) = record { pair = x; action = take_bind w; values = x.values; sender = here c; receiver = there (acting a); accepts = bound h; apart = λ e. omega arith }
  meeting (rule17-right {x = x} {w = w} a c h) = record { pair = x; action = take_bind w; values = x.values; sender = there (acting a); receiver = here c; accepts = bound h; apart = λ e. omega arith }
  meeting (rule15-both s) =
      let r = meeting s in
      record { pair = r.pair; action = r.action; values = r.values; sender = there r.sender; receiver = there r.receiver; accepts = r.accepts; apart = λ e. r.apart (omega arith) }

  left : {p : Proc} {ps : List Proc} {x : Pair} {a : Action} {vs : List ℤ} {j k m r₁ r₂ : ℕ} {ks : List Proc}
      → Accepts x a vs → Chooses lit (branches p) j (plain (send x) r₁) ks → ((ps' : List Proc) × Acts branches lit ps k m (label a r₂ 0 unchanged vs) ps')
      → (ps' : List Proc) × Handshakes branches lit (p ∷ ps) zero j (suc k) m r₁ r₂ ps'
  left {ks = ks} (unbound h) c a = (ks ++ a.0, rule16-left c a.1 h)
  left {ks = ks} (bound h) c a = (ks ++ a.0, rule17-left c a.1 h)

  right : {p : Proc} {ps : List Proc} {x : Pair} {a : Action} {vs : List ℤ} {i j m r₁ r₂ : ℕ} {ks : List Proc}
      → Accepts x a vs → ((ps' : List Proc) × Acts branches lit ps i j (plain (send x) r₁) ps') → Chooses lit (branches p) m (label a r₂ 0 unchanged vs) ks
      → (ps' : List Proc) × Handshakes branches lit (p ∷ ps) (suc i) j zero m r₁ r₂ ps'
  right {ks = ks} (unbound h) a c = (ks ++ a.0, rule16-right a.1 c h)
  right {ks = ks} (bound h) a c = (ks ++ a.0, rule17-right a.1 c h)

  pub handshakes : {ps : List Proc} {i j k m r₁ r₂ : ℕ} {x : Pair} {a : Action} {vs : List ℤ} {p q : Proc} {ks ls : List Proc}
      → Accepts x a vs → (i ≡ k → ⊥)
      → Nth ps i p → Chooses lit (branches p) j (plain (send x) r₁) ks → Nth ps k q → Chooses lit (branches q) m (label a r₂ 0 unchanged vs) ls
      → (ps' : List Proc) × Handshakes branches lit ps i j k m r₁ r₂ ps'
  handshakes h d first c first e = absurd (d refl)
  handshakes h d first c (later g) e = left h c (acts g e)
  handshakes h d (later f) c first e = right h (acts f c) e
  handshakes h d (later {x = z} f) c (later g) e = let r = handshakes h (λ t. d (ap suc t)) f c g e in (z ∷ r.0, rule15-both r.1)
