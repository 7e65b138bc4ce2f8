-- A step answers questions 15 to 19 as 01 asks them, in that order, and leads where the rules do: by cases of the answers, from the theorems on draws and moves.
use mathlib.Core.Path.{◌≡◌, refl, ap, subst, ◌∙◌}
use mathlib.Core.List.{List}
use mathlib.Core.Bool.{Bool, true, false, cond}
use mathlib.Core.Logic.{◌↔◌}
use mathlib.Core.Option.{some, Option-elim}
use Prim.Native.Nat.{ℕ, ◌≤◌, ◌<◌}
use native.Mathlib.Nat.{pos_of_ne-zero}
use native.Mathlib.Omega.{arith}
use borrow.Author.Tests.{ltb-true, ltb-false, leb-true, leb-false, le-leb, lt-leb, eqb-true, eqb-false, eq-eqb, ne_eqb}
use lib.Dec.{eqb, leb, ltb}
use lib.ListN.{length, get_elem?}
use Rattle.model.specs.Resolved
use Rattle.model.specs.Opening.{process_limit}
use Rattle.rules.specs.Rules.{Nth, Change, Key, Moves, Derivable}
use Rattle.rules.specs.Listing.{Entry, entry, key_of}
use Rattle.rules.specs.Pairs.{pairs_after}
use Rattle.rules.specs.Draw.{weights, total, First, chosen}
use Rattle.rules.proofs.Decides.{Decides, holds, fails, passes, refuses}
use Rattle.rules.proofs.Chosen.{chooses-first, none-chosen}
use Rattle.rules.proofs.Once.{nth_in}
use Rattle.rules.proofs.Moved.{steps-state}
use Rattle.machine.specs.Offer.{Process, branches}
use Rattle.machine.specs.State.{State, pair_limit}
use Rattle.machine.specs.Machine.{listed_as, entry_state, Turn, refusing, accepting, taken, drawn}
use Rattle.machine.specs.Questions.{IsListing, AllGiven, Chosen, Ready, Steps, no15, no16, no17, no18, no19, yes19}
use Rattle.machine.proofs.Branches.{none-not-some, nth-get}
use Rattle.machine.proofs.OneListing.{draw-chooses}
use Rattle.machine.proofs.Arguments.{arguments-asked}

-- a draw that chooses an entry lies below the total
below : (ws : List ℕ) (d c : ℕ) → First ws d c → d < total ws
below ws d c f = go (ltb d (total ws)) refl
  where
    go : (b : Bool) → ltb d (total ws) ≡ b → d < total ws
    go true e = ltb-true d (total ws) e
    go false e = none-not-some (chosen ws d) c (none-chosen ws d (ltb-false d (total ws) e)) ((chooses-first ws d c).1 f)

-- ---- what tells answers apart
abbrev number_of : Turn State → ℕ
number_of t = t.answer.number

module _ (m : Resolved.Model) (s : State) (es : List Entry) (h : IsListing m s es) (d : ℕ) where
  -- ---- from the function to the questions
  taken-steps : {c w : ℕ} {k : Key} {n : Change} {ps : List Process} → Chosen es d c k w → Moves (branches m) s k w n ps → Steps m s es d (taken m s es c k)
  unfolding taken entry_state
  taken-steps {c} {w} {k} {n} {ps} o v =
      rw (steps-state (branches m) s v) (go (arguments-asked m s v) (leb (length ps) process_limit) refl (leb (length (pairs_after n s.pairs)) pair_limit) refl)
    where
      ready : AllGiven m s k → Ready m s es d c n ps
      ready g = record { key = k; weight = w; chosen = o; given = g; moves = v }

      go : {a : Bool} → Decides (AllGiven m s k) a → (b : Bool) → leb (length ps) process_limit ≡ b → (b' : Bool) → leb (length (pairs_after n s.pairs)) pair_limit ≡ b'
          → Steps m s es d
          (cond a (cond b (cond b' (accepting (record { processes = ps; pairs = pairs_after n s.pairs }) es c) (refusing s es 19)) (refusing s es 18)) (refusing s es 17))
      go (holds g) true e true e' = yes19 (ready g) (leb-true _ _ e) (leb-true _ _ e')
      go (holds g) true e false e' = no19 (ready g) (leb-true _ _ e) (leb-false _ _ e')
      go (holds g) false e b' e' = no18 (ready g) (leb-false _ _ e)
      go (fails g) b e b' e' = no17 o g

  -- the chosen entry's derivation
  derived : {c w : ℕ} {k : Key} → Chosen es d c k w → (n : Change) × (ps : List Process) × Moves (branches m) s k w n ps
  unfolding Derivable
  derived {w = w} {k = k} o = (h.derivable k w).0 (nth_in o.entry)

  answered : Steps m s es d (drawn m s es d)
  unfolding drawn Option-elim key_of
  answered = go (eqb (total (weights es)) 0) refl
    where
      found : (c : ℕ) (e : Entry) → chosen (weights es) d ≡ some c → Nth es c e → Steps m s es d (taken m s es c (key_of e))
      found c (entry k w) q n =
          let o : Chosen es d c k w = record { first = (chooses-first (weights es) d c).0 q; entry = n } in
          taken-steps o (derived o).2

      draw : 0 < total (weights es) → (b : Bool) → ltb d (total (weights es)) ≡ b
          → Steps m s es d
          (Option-elim (chosen (weights es) d) (refusing s es 16)
          (λ c. Option-elim (get_elem? es c) (refusing s es 16) (λ e. taken m s es c (key_of e))))
      draw l true e = let r = draw-chooses m s es h d (ltb-true _ _ e) in rw (r.2, nth-get r.3) (found r.0 r.1 r.2 r.3)
      draw l false e = rw (none-chosen (weights es) d (ltb-false _ _ e)) (no16 l (ltb-false _ _ e))

      go : (b : Bool) → eqb (total (weights es)) 0 ≡ b
          → Steps m s es d
          (cond b (refusing s es 15)
          (Option-elim (chosen (weights es) d) (refusing s es 16)
          (λ c. Option-elim (get_elem? es c) (refusing s es 16) (λ e. taken m s es c (key_of e)))))
      go true e = no15 (eqb-true _ _ e)
      go false e = draw (pos_of_ne-zero (eqb-false _ _ e)) (ltb d (total (weights es))) refl

  -- ---- and back
  drawn-taken : {c w : ℕ} {k : Key} → Chosen es d c k w → drawn m s es d ≡ taken m s es c k
  unfolding drawn Option-elim key_of
  drawn-taken {c} o =
      rw (ne_eqb (total (weights es)) 0 (λ e. omega (arith, below (weights es) d c o.first)), (chooses-first (weights es) d c).1 o.first, nth-get o.entry)

  says : {t : Turn State} → Steps m s es d t → drawn m s es d ≡ t
  unfolding drawn taken entry_state Option-elim
  says (no15 e) = rw (eq-eqb (total (weights es)) 0 e)
  says (no16 l g) = rw (ne_eqb (total (weights es)) 0 (λ e. omega arith), none-chosen (weights es) d g)
  says (no17 o g) = drawn-taken o ∙ rw (refuses (arguments-asked m s (derived o).2) g)
  says (no18 r l) = drawn-taken r.chosen ∙ rw (passes (arguments-asked m s r.moves) r.given, steps-state (branches m) s r.moves, lt-leb _ process_limit l)
  says (no19 r l f) =
      drawn-taken r.chosen
      ∙ rw (passes (arguments-asked m s r.moves) r.given, steps-state (branches m) s r.moves, le-leb _ process_limit l, lt-leb _ pair_limit f)
  says (yes19 r l f) =
      drawn-taken r.chosen
      ∙ rw (passes (arguments-asked m s r.moves) r.given, steps-state (branches m) s r.moves, le-leb _ process_limit l, le-leb _ pair_limit f)

  -- a turn is the function's exactly when the questions, in their order, come to it
  pub asked : (t : Turn State) → (drawn m s es d ≡ t) ↔ Steps m s es d t
  asked t = (λ e. rw e at answered, says)

  -- ---- the same by numbers

  -- 15 to 17 are passed, and so much holds of what the rules move
  abbrev pub SomeReady : (Change → List Process → Type 0) → Type 0
  SomeReady P = (c : ℕ) × (n : Change) × (ps : List Process) × Ready m s es d c n ps × P n ps

  -- the draw chooses an entry some argument of which has no value
  abbrev pub SomeMissing : Type 0
  SomeMissing = (c : ℕ) × (w : ℕ) × (k : Key) × Chosen es d c k w × (AllGiven m s k → ⊥)

  abbrev TooManyProcesses : Change → List Process → Type 0
  TooManyProcesses n ps = process_limit < length ps

  abbrev TooManyPairs : Change → List Process → Type 0
  TooManyPairs n ps = (length ps ≤ process_limit) × (pair_limit < length (pairs_after n s.pairs))

  abbrev Fits : Change → List Process → Type 0
  Fits n ps = (length ps ≤ process_limit) × (length (pairs_after n s.pairs) ≤ pair_limit)

  -- what must hold for an answer with this number
  abbrev Condition : ℕ → Type 0
  Condition n =
      cond (eqb n 15) (total (weights es) ≡ 0)
      (cond (eqb n 16) ((0 < total (weights es)) × (total (weights es) ≤ d))
      (cond (eqb n 17) SomeMissing
      (cond (eqb n 18) (SomeReady TooManyProcesses)
      (cond (eqb n 19) (SomeReady TooManyPairs) (SomeReady Fits)))))

  condition : {t : Turn State} → Steps m s es d t → Condition (number_of t)
  unfolding listed_as
  condition (no15 e) = e
  condition (no16 l g) = (l, g)
  condition (no17 o g) = (_, _, _, o, g)
  condition (no18 r l) = (_, _, _, r, l)
  condition (no19 r l f) = (_, _, _, r, (l, f))
  condition (yes19 r l f) = (_, _, _, r, (l, f))

  numbered : {n : ℕ} → number_of (drawn m s es d) ≡ n → Condition n
  numbered e = subst Condition e (condition answered)

  pub refused15 : ((drawn m s es d).answer.number ≡ 15) ↔ (total (weights es) ≡ 0)
  unfolding listed_as
  refused15 = (λ e. numbered e, λ f. ap number_of (says (no15 f)))

  pub refused16 : ((drawn m s es d).answer.number ≡ 16) ↔ ((0 < total (weights es)) × (total (weights es) ≤ d))
  unfolding listed_as
  refused16 = (λ e. numbered e, λ f. ap number_of (says (no16 f.0 f.1)))

  pub refused17 : ((drawn m s es d).answer.number ≡ 17) ↔ SomeMissing
  unfolding listed_as
  refused17 = (λ e. numbered e, λ f. ap number_of (says (no17 f.3 f.4)))

  pub refused18 : ((drawn m s es d).answer.number ≡ 18) ↔ SomeReady (λ n ps. process_limit < length ps)
  unfolding listed_as
  refused18 = (λ e. numbered e, λ f. ap number_of (says (no18 f.3 f.4)))

  pub refused19 : ((drawn m s es d).answer.number ≡ 19) ↔ SomeReady (λ n ps. (length ps ≤ process_limit) × (pair_limit < length (pairs_after n s.pairs)))
  unfolding listed_as
  refused19 = (λ e. numbered e, λ f. ap number_of (says (no19 f.3 f.4.0 f.4.1)))

  pub accepted : ((drawn m s es d).answer.number ≡ 0) ↔ SomeReady (λ n ps. (length ps ≤ process_limit) × (length (pairs_after n s.pairs) ≤ pair_limit))
  unfolding listed_as
  accepted = (λ e. numbered e, λ f. ap number_of (says (yes19 f.3 f.4.0 f.4.1)))

  -- refused, the state is as before
  pub refused-stays : ((drawn m s es d).answer.number ≡ 0 → ⊥) → (drawn m s es d).machine ≡ s
  unfolding listed_as
  refused-stays f = go answered f
    where
      go : {t : Turn State} → Steps m s es d t → (number_of t ≡ 0 → ⊥) → t.machine ≡ s
      go (no15 e) q = refl
      go (no16 l g) q = refl
      go (no17 o g) q = refl
      go (no18 r l) q = refl
      go (no19 r l f) q = refl
      go (yes19 r l f) q = absurd (q refl)
