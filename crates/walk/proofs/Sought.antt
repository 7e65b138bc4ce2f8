-- The wait of a name: bytes compared, and the wait that a listed entry of its kind is. By cases of the rules that derive an entry.
use mathlib.Core.Path.{◌≡◌, refl, sym, ap, ◌∙◌}
use mathlib.Core.List.{List, [], ◌∷◌}
use mathlib.Core.Bool.{Bool, false, ◌&&◌}
use mathlib.Core.Option.{Option, none, some, Option-elim}
use Prim.Native.Nat.{ℕ, ◌+◌, ◌-◌}
use native.Mathlib.Omega.{arith}
use borrow.Author.Tests.{eq-eqb, ne_eqb}
use lib.Dec.{eqb}
use lib.IntN.{ℤ}
use lib.ListN.{get_or}
use lib.Pointwise.{pointwise}
use borrow.Rule.Slice.PartMut.{mid_of}
use Rattle.token.specs.Token.{same_bytes}
use Rattle.model.specs.Resolved
use Rattle.tables.specs.Spelled.{Spells}
use Rattle.rules.specs.Offers as offers
use Rattle.rules.specs.Rules.{Change, Alone as Lone, waits, launches, kills, receives, binds, checks, key, Moves, alone, together, Derivable}
use Rattle.rules.proofs.Places.{acting, branching}
use Rattle.rules.proofs.Listed.{listed}
use Rattle.machine.specs.Evaluate.{given, eval_action, eval_pair, eval_query}
use Rattle.machine.specs.Offer.{Process, branches}
use Rattle.machine.specs.State.{State}
use Rattle.machine.specs.Machine.{is_wait, is_sought}
use Rattle.machine.proofs.Branches.{nth-get, writes}
use Rattle.machine.proofs.Offering.{comes}
use Rattle.machine.proofs.Bound.{label-action}
use Rattle.step.specs.Enter.{Lent, Acts, Acting}
use Rattle.walk.specs.Held.{Seen}

-- ---- bytes

pub same-is : (a b : List ℕ) → pointwise eqb a b ≡ same_bytes a b
unfolding same_bytes pointwise
same-is [] [] = refl
same-is [] (y ∷ b) = refl
same-is (x ∷ a) [] = refl
same-is (x ∷ a) (y ∷ b) = ap (λ (t : Bool). eqb x y && t) (same-is a b)

-- ---- the wait that an entry of its kind is

given-some : {A B : Type 0} (o : Option A) (f : A → Option B) (y : B) → given o f ≡ some y → (x : A) × (f x ≡ some y)
unfolding given
given-some none f y e = absurd (let z : ◌≡◌ {A = ℕ} 0 1 = cc in omega arith)
given-some (some x) f y e = (x, e)

waits-so : (ls : List ℤ) (a : Resolved.Action) → eval_action ls a ≡ some offers.wait → (n : ℕ) × (a ≡ Resolved.wait n)
unfolding eval_action
waits-so ls (Resolved.wait n) e = (n, refl)
waits-so ls (Resolved.launch c v) e = let r = given-some (eval_pair ls c v) (λ x. some (offers.launch x)) offers.wait e in let q = r.1 in absurd (let z : ◌≡◌ {A = ℕ} 0 1 = cc in omega arith)
waits-so ls (Resolved.kill c v) e = let r = given-some (eval_pair ls c v) (λ x. some (offers.kill x)) offers.wait e in let q = r.1 in absurd (let z : ◌≡◌ {A = ℕ} 0 1 = cc in omega arith)
waits-so ls (Resolved.receive c s) e = let r = given-some (eval_query ls c s) (λ w. some (offers.receive w)) offers.wait e in let q = r.1 in absurd (let z : ◌≡◌ {A = ℕ} 0 1 = cc in omega arith)
waits-so ls (Resolved.bind c s) e = let r = given-some (eval_query ls c s) (λ w. some (offers.bind w)) offers.wait e in let q = r.1 in absurd (let z : ◌≡◌ {A = ℕ} 0 1 = cc in omega arith)
waits-so ls (Resolved.check c s) e = let r = given-some (eval_query ls c s) (λ w. some (offers.check w)) offers.wait e in let q = r.1 in absurd (let z : ◌≡◌ {A = ℕ} 0 1 = cc in omega arith)
waits-so ls (Resolved.hand_send c v) e = let r = given-some (eval_pair ls c v) (λ x. some (offers.send x)) offers.wait e in let q = r.1 in absurd (let z : ◌≡◌ {A = ℕ} 0 1 = cc in omega arith)
waits-so ls (Resolved.hand_receive c s) e = let r = given-some (eval_query ls c s) (λ w. some (offers.take w)) offers.wait e in let q = r.1 in absurd (let z : ◌≡◌ {A = ℕ} 0 1 = cc in omega arith)
waits-so ls (Resolved.hand_bind c s) e = let r = given-some (eval_query ls c s) (λ w. some (offers.take_bind w)) offers.wait e in let q = r.1 in absurd (let z : ◌≡◌ {A = ℕ} 0 1 = cc in omega arith)

lone-wait : {a : offers.Action} {c : ℕ} → c ≡ 1 → Lone a c → a ≡ offers.wait
lone-wait e waits = refl
lone-wait e launches = absurd (omega arith)
lone-wait e kills = absurd (omega arith)
lone-wait e receives = absurd (omega arith)
lone-wait e binds = absurd (omega arith)
lone-wait e checks = absurd (omega arith)

-- a process that waits
pub record Waits (t roots scopes : List ℕ) (zs : List ℤ) (i j : ℕ) (m : Resolved.Model) (s : State) : Type 0 where
  pub process : Process
  pub branch : Resolved.Branch
  pub guard : offers.Guard
  pub token : ℕ
  pub acts : Acts t roots scopes zs i j m s process branch guard
  pub is : branch.action ≡ Resolved.wait token

module _ {t roots scopes : List ℕ} {root variables : ℕ} {zs : List ℤ} {m : Resolved.Model} {s : State} (lent : Lent t roots scopes root variables zs m s) where
  wait-moves : {c i j k n q w : ℕ} {d : Change} {ps : List Process} → c ≡ 1 → Moves (branches m) s (key c i j k n q) w d ps → Waits t roots scopes zs i j m s
  wait-moves e (together h) = absurd (omega arith)
  wait-moves e (alone {a = a} al act) =
      let p = acting (branches m) s.pairs act in
      let b = branching p.chooses in
      let w = writes m p.at b.at b.offered in
      let f : eval_action p.proc.locals w.branch.action ≡ some a = label-action w.offered (comes p.proc.locals w.branch w.guard w.evaluates) in
      let r = waits-so p.proc.locals w.branch.action (f ∙ ap some (lone-wait e al)) in
      record {
        process = p.proc;
        branch = w.branch;
        guard = w.guard;
        token = r.0;
        acts = record { root = root; variables = variables; lent = lent; at = w.at; evaluates = w.evaluates };
        is = r.1;
      }

module _ {t roots scopes text places sizes : List ℕ} {zs : List ℤ} {c i j : ℕ} {m : Resolved.Model} {s : State} {k n q w : ℕ} (h : Seen t roots scopes text places sizes zs c i j m s k n q w) where
  seen-waits : c ≡ 1 → Waits t roots scopes zs i j m s
  unfolding Derivable
  seen-waits e = wait-moves h.lent e ((listed (branches m) s (key c i j k n q) w).0 h.listed).2

  pub seen-acting : c ≡ 1 → Acting t roots scopes zs i j
  seen-acting e = let v = seen-waits e in record { model = m; state = s; process = v.process; branch = v.branch; guard = v.guard; acts = v.acts }

  pub sought-other : (x : List ℕ) → (c ≡ 1 → ⊥) → is_sought m x s (key c i j k n q) ≡ false
  unfolding is_sought
  sought-other x f = rw (ne_eqb c 1 f) refl

  pub sought-named : (x : List ℕ) (token : ℕ) (r : Bool) → c ≡ 1
      → ((m : Resolved.Model) (s : State) (p : Process) (b : Resolved.Branch) (g : offers.Guard) (n : ℕ) → Acts t roots scopes zs i j m s p b g → b.action ≡ Resolved.wait n → token ≡ n)
      → ((u : ℕ → List ℕ) → Spells u text places sizes → r ≡ same_bytes (u token) x) → r ≡ is_sought m x s (key c i j k n q)
  unfolding is_sought is_wait Option-elim
  sought-named x token r e f g =
      let v = seen-waits e in
      let p : token ≡ v.token = f m s v.process v.branch v.guard v.token v.acts v.is in
      g m.words h.spells ∙ rw (eq-eqb c 1 e, nth-get v.acts.at.place, nth-get v.acts.at.branch, v.is, p) refl

-- a token's bytes
pub word-is : (u : ℕ → List ℕ) (text places sizes : List ℕ) (token from size : ℕ) → Spells u text places sizes → from ≡ get_or places token 0 → size ≡ get_or sizes token 0
    → mid_of from (from + size - from) text ≡ u token
word-is u text places sizes token from size h a b =
    let e : from + size - from ≡ size = omega arith in
    rw (e, a, b) (sym (h.word token))
