-- Where the rules move a state, each process that acts is replaced at its place by the continuation that it enters, and no other process is touched. By cases of the rules.
use mathlib.Core.Path.{◌≡◌, ap, sym, ◌∙◌}
use mathlib.Core.List.{List, [], ◌++◌, append-nil}
use Prim.Native.Nat.{ℕ}
use lib.IntN.{ℤ}
use Rattle.model.specs.Resolved
use Rattle.rules.specs.Offers as offers
use Rattle.rules.specs.Kind as kind
use Rattle.rules.specs.Rules.{Change, unchanged, label, plain, Chooses, Key, key, Moves, alone, together}
use Rattle.rules.specs.Step.{replace, replace_both}
use Rattle.rules.proofs.Places.{Accepts, unbound, bound, acting, meeting, branching}
use Rattle.rules.proofs.Moved.{chooses-goes, acts-goes, handshakes-goes}
use Rattle.machine.specs.Offer.{Process, next_processes, branches}
use Rattle.machine.specs.State.{State}
use Rattle.machine.specs.Questions as questions
use Rattle.machine.specs.Questions.{Enters}
use Rattle.machine.proofs.Branches.{Writes, writes}

module _ (m : Resolved.Model) (s : State) where
  -- 01, Step: the processes after the entry with a key
  pub data Becomes : Key → List Process → Type 0 where
    one : {c i j q : ℕ} {ls : List ℤ} {xs : List Resolved.Part}
        → Enters m s (key c i j 0 0 q) i ls xs → Becomes (key c i j 0 0 q) (replace i (next_processes m ls xs) s.processes)
    two : {i j k n : ℕ} {ls us : List ℤ} {xs ys : List Resolved.Part}
        → Enters m s (key kind.handshake i j k n 0) i ls xs → Enters m s (key kind.handshake i j k n 0) k us ys
        → Becomes (key kind.handshake i j k n 0) (replace_both i (next_processes m ls xs) k (next_processes m us ys) s.processes)

  -- what a handshake's receiver enters, and what it becomes
  record Received (i j k n : ℕ) (ks : List Process) : Type 0 where
    locals : List ℤ
    parts : List Resolved.Part
    enters : Enters m s (key kind.handshake i j k n 0) k locals parts
    becomes : ks ≡ next_processes m locals parts

  -- nothing is bound
  unbound-next : (ls : List ℤ) (xs : List Resolved.Part) → next_processes m (ls ++ []) xs ≡ next_processes m ls xs
  unbound-next ls xs = ap (λ (us : List ℤ). next_processes m us xs) (append-nil ls)

  received : {i j k n r₁ r₂ : ℕ} {p q : Process} {a b : offers.Branch Process} {x : offers.Pair} {act : offers.Action} {vs : List ℤ}
      → Accepts x act vs → Writes m s.pairs s.processes i j p a (plain (offers.send x) r₁) → Writes m s.pairs s.processes k n q b (label act r₂ 0 unchanged vs)
      → Received i j k n (b.next vs)
  received {q = q} (unbound h) v w =
      record { locals = q.locals; parts = w.branch.next; enters = questions.receiver w.at w.evaluates w.offered; becomes = w.next [] ∙ unbound-next q.locals w.branch.next }
  received {q = q} {x = x} (bound h) v w =
      record {
        locals = q.locals ++ x.values;
        parts = w.branch.next;
        enters = questions.binder v.at v.evaluates v.offered w.at w.evaluates w.offered;
        becomes = w.next x.values;
      }

  -- what the rules say that a process becomes
  sent : {i j r : ℕ} {p : Process} {act : offers.Action} {ks : List Process} (c : Chooses s.pairs (branches m p) j (plain act r) ks)
      → (w : Writes m s.pairs s.processes i j p (branching c).branch (plain act r)) → ks ≡ next_processes m p.locals w.branch.next
  sent {p = p} c w = sym (chooses-goes c) ∙ (w.next [] ∙ unbound-next p.locals w.branch.next)

  took : {n r : ℕ} {bs : List (offers.Branch Process)} {act : offers.Action} {vs : List ℤ} {ks ls : List Process} (c : Chooses s.pairs bs n (label act r 0 unchanged vs) ks)
      → (branching c).branch.next vs ≡ ls → ks ≡ ls
  took c e = sym (chooses-goes c) ∙ e

  pub becomes : {k : Key} {w : ℕ} {n : Change} {ps : List Process} → Moves (branches m) s k w n ps → Becomes k ps
  becomes (alone {i = i} {vs = vs} c a) =
      let t = acting (branches m) s.pairs a in
      let b = branching t.chooses in
      let w = writes m t.at b.at b.offered in
      let e : t.after ≡ next_processes m (t.proc.locals ++ vs) w.branch.next = sym (chooses-goes t.chooses) ∙ w.next vs in
      rw (← (acts-goes (branches m) s.pairs a), e) (one (questions.alone c w.at w.evaluates w.offered))
  becomes (together {i = i} {k = k} h) =
      let t = meeting (branches m) s.pairs h in
      let b = branching t.sender.chooses in
      let b' = branching t.receiver.chooses in
      let v = writes m t.sender.at b.at b.offered in
      let w = writes m t.receiver.at b'.at b'.offered in
      let r = received t.accepts v w in
      let e : t.sender.after ≡ next_processes m t.sender.proc.locals v.branch.next = sent t.sender.chooses v in
      let f : t.receiver.after ≡ next_processes m r.locals r.parts = took {ls = next_processes m r.locals r.parts} t.receiver.chooses r.becomes in
      rw (← (handshakes-goes (branches m) s.pairs h), e, f) (two (questions.sender v.at) r.enters)
