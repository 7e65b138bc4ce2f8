-- What the step is lent, and what a process that acts enters (01, Step). Assumes nothing: these are definitions.
use Rattle.std.specs.Prelude.{◌≡◌, List, [], ◌∷◌, ◌++◌, Bool, cond, ℕ, ◌+◌, ◌≤◌, ◌<◌, leb, eqb, ◌||◌, ℤ, length, Err, Ok, Result, Some, None}
use Rattle.std.specs.Prelude.{Option as RustOption}
use Rattle.std.proofs.Math.Option.{some}
use Rattle.value.specs.Range.{InRange}
use Rattle.tree.specs.Node as node
use Rattle.model.specs.Resolved
use Rattle.model.specs.Opening.{process_limit}
use Rattle.model.specs.Good.{Every, GoodPart, GoodModel}
use Rattle.rules.specs.Offers as offers
use Rattle.rules.specs.Rules.{Nth, Change, unchanged, launched, killed}
use Rattle.rules.specs.Pairs.{pairs_after}
use Rattle.rules.specs.Step.{replace, replace_both, values_at, bound_by, sent_by, on_action, change_of}
use Rattle.tables.specs.Settled as Settled
use Rattle.tables.specs.Represents.{Represents}
use Rattle.machine.specs.Evaluate.{eval_branch}
use Rattle.machine.specs.Offer.{Process, next_processes}
use Rattle.machine.specs.State.{State, GoodPair, GoodState, state_numbers, pair_limit, process_room}
use Rattle.machine.specs.Questions.{BranchAt}
use Rattle.eval.specs.declared.offer.Offer.{Offer}
use Rattle.eval.specs.Next.{Next, Defines, ShowsNext, Scoped}
use Rattle.eval.specs.Shown.{ShowsPair, ShowsGuard}
use Rattle.step.specs.declared.Refusal.{Refusal}
use Rattle.step.specs.declared.Refusal.TheVariants.{Arguments, Processes, Pairs}
use Rattle.eval.specs.declared.Values.{Values}
use Rattle.eval.specs.declared.Values.TheVariants.{One, Two}
use Rattle.step.specs.declared.Entered.{Entered}
use Rattle.step.specs.declared.Moving.{Moving}

-- 01, State: zs are the numbers of a state over a model
pub record Stands (zs : List ℤ) (m : Resolved.Model) (s : State) : Type 0 where
  pub good : GoodModel m
  pub state : GoodState m s
  pub numbers : zs ≡ state_numbers s

-- the nodes and roots that hold the model, and the numbers of a state over it
pub record Lent (t roots scopes : List ℕ) (root variables : ℕ) (zs : List ℤ) (m : Resolved.Model) (s : State) : Type 0 where
  pub definitions : ℕ
  pub sums : ℕ
  pub channels : ℕ
  pub represents : Represents t roots scopes root variables definitions sums channels m
  pub stands : Stands zs m s

-- branch j of the branches at k
pub record Chain (t : List ℕ) (k j : ℕ) : Type 0 where
  pub branches : List Resolved.Branch
  pub branch : Resolved.Branch
  pub at : Settled.Branches t branches k
  pub nth : Nth branches j branch

-- the tables and a state over the model, in which branch j of the process at place i acts
pub record Acts (t roots scopes : List ℕ) (zs : List ℤ) (i j : ℕ) (m : Resolved.Model) (s : State) (p : Process) (b : Resolved.Branch) (g : offers.Guard) : Type 0 where
  pub root : ℕ
  pub variables : ℕ
  pub lent : Lent t roots scopes root variables zs m s
  pub at : BranchAt m s.processes i j p b
  pub evaluates : eval_branch p.locals b ≡ some g

-- some process acts
pub record Acting (t roots scopes : List ℕ) (zs : List ℤ) (i j : ℕ) : Type 0 where
  pub model : Resolved.Model
  pub state : State
  pub process : Process
  pub branch : Resolved.Branch
  pub guard : offers.Guard
  pub acts : Acts t roots scopes zs i j model state process branch guard

-- 01, Step: none, one or two values
unfoldable pub values_of : RustOption Values → List ℤ
values_of None = []
values_of (Some (One x)) = x ∷ []
values_of (Some (Two x y)) = x ∷ y ∷ []

-- 01, Step: the values vs where the offered action binds names, else none
unfoldable pub bound_of : RustOption Offer → RustOption Values → RustOption Values
bound_of None vs = None
bound_of (Some r) vs = cond (eqb r.kind node.bind || eqb r.kind node.hand_bind) vs None

-- 01, Step: the locals of a process, and after them the values vs where its action binds names
unfoldable pub locals_of : Process → List ℤ → offers.Guard → List ℤ
locals_of p vs g = p.locals ++ on_action [] (bound_by vs) g

-- what is shown of the process that acts: its locals ls with the names bound, its continuation and its offer
pub record Enters (t : List ℕ) (p : Process) (b : Resolved.Branch) (g : offers.Guard) (vs ls : List ℤ) (r : Entered) : Type 0 where
  pub locals : ls ≡ locals_of p vs g
  pub next : ShowsNext t b.next r.next
  pub offer : ShowsGuard t p.locals g r.offer

-- an offer of a branch that has all its values
pub record SomeOffer (r : RustOption Offer) : Type 0 where
  pub nodes : List ℕ
  pub locals : List ℤ
  pub guard : offers.Guard
  pub shows : ShowsGuard nodes locals guard r

-- ---- a continuation with its locals

-- 01, State: the numbers of as many processes as a state holds
abbrev pub fresh_length : ℕ
fresh_length = process_room

-- 01, Step: locals in range, and parts that are well formed over as many
pub record Fit (m : Resolved.Model) (ls : List ℤ) (ps : List Resolved.Part) : Type 0 where
  pub values : Every InRange ls
  pub parts : Every (GoodPart m (length ls)) ps

-- r shows some continuation that fits
pub record Continued (t : List ℕ) (ls : List ℤ) (r : Next) : Type 0 where
  pub model : Resolved.Model
  pub parts : List Resolved.Part
  pub shows : ShowsNext t parts r
  pub fit : Fit model ls parts

-- a continuation of a model whose definitions the nodes hold
pub record Defined (t : List ℕ) (root variables : ℕ) (m : Resolved.Model) (ls : List ℤ) (ps : List Resolved.Part) (r : Next) : Type 0 where
  pub good : GoodModel m
  pub defines : Defines t root variables m
  pub shows : ShowsNext t ps r
  pub fit : Fit m ls ps

-- 01, Step: the process at place i replaced by what it enters
unfoldable pub entering : Resolved.Model → State → ℕ → List ℤ → List Resolved.Part → State
entering m s i ls ps = record { processes = replace i (next_processes m ls ps) s.processes; pairs = s.pairs }

-- the process at place i can be replaced
pub record Replaces (d : Moving) (i : ℕ) (ls : List ℤ) (r : Next) (m : Resolved.Model) (s : State) (ps : List Resolved.Part) : Type 0 where
  pub scoped : Scoped d.tables.scopes.now m
  pub stands : Stands d.state.now m s
  pub defined : Defined d.tables.nodes.now d.tables.root d.tables.variables m ls ps r
  pub inside : i < length s.processes
  pub room : length s.processes + length (next_processes m ls ps) ≤ process_limit + 1

-- ---- pairs

-- an offer with values
pub record Carries (r : Offer) : Type 0 where
  pub pair : offers.Pair
  pub shows : ShowsPair r pair

-- 01, Step: what an offer does to the lit pairs
pub data ShowsChange : RustOption Offer → Change → Type 0 where
  launches : {r : Offer} {x : offers.Pair} → r.kind ≡ node.launch → ShowsPair r x → ShowsChange (Some r) (launched x)
  kills : {r : Offer} {x : offers.Pair} → r.kind ≡ node.kill → ShowsPair r x → ShowsChange (Some r) (killed x)
  neither : {r : Offer} → (r.kind ≡ node.launch → ⊥) → (r.kind ≡ node.kill → ⊥) → ShowsChange (Some r) unchanged
  nothing : ShowsChange None unchanged

-- a pair that is launched is one over the model
unfoldable pub GoodNew : Resolved.Model → Change → Type 0
GoodNew m unchanged = Unit {0}
GoodNew m (launched x) = GoodPair m x
GoodNew m (killed x) = GoodPair m x

-- 01, Step: the lit pairs changed
unfoldable pub changed : State → Change → State
changed s n = record { processes = s.processes; pairs = pairs_after n s.pairs }

-- an offer's change of the pairs of a state
pub record Changes (zs : List ℤ) (r : RustOption Offer) (m : Resolved.Model) (s : State) (n : Change) : Type 0 where
  pub stands : Stands zs m s
  pub shows : ShowsChange r n
  pub good : GoodNew m n

pub record Changing (zs : List ℤ) (r : RustOption Offer) : Type 0 where
  pub model : Resolved.Model
  pub state : State
  pub change : Change
  pub changes : Changes zs r model state change

-- ---- answers

-- 17 to 19
abbrev pub refusal_number : Refusal → ℕ
refusal_number Arguments = 17
refusal_number Processes = 18
refusal_number Pairs = 19

-- a step is taken, or refused
abbrev pub Taken : Type 0
Taken = Result (Unit {0}) Refusal

-- 01, Listing and stepping, 17 to 19: of the arguments, and of the state that an entry leads to
unfoldable pub verdict : Bool → State → Taken
verdict given s = cond given (cond (leb (length s.processes) process_limit) (cond (leb (length s.pairs) pair_limit) (Ok tt) (Err Pairs)) (Err Processes)) (Err Arguments)

-- 01, Listing and stepping: the number of an answer
unfoldable pub number_of : Taken → ℕ
number_of (Ok u) = 0
number_of (Err r) = refusal_number r

-- 01, Listing and stepping: a refusal leaves the state as it is
unfoldable pub state_of : Taken → State → State → State
state_of (Ok u) s s' = s'
state_of (Err n) s s' = s

-- r is the answer for an entry that leads from s to s', and zs are the numbers afterwards
pub record Answers (given : Bool) (s s' : State) (r : Taken) (zs : List ℤ) : Type 0 where
  pub is : r ≡ verdict given s'
  pub numbers : zs ≡ state_numbers (state_of r s s')

-- 01, Step: a process that acts by itself, with its continuation and its change of the pairs
pub record Alone (d : Moving) (i : ℕ) (ls : List ℤ) (next : Next) (offer : RustOption Offer) (m : Resolved.Model) (s : State) (ps : List Resolved.Part) (n : Change) : Type 0 where
  pub scoped : Scoped d.tables.scopes.now m
  pub stands : Stands d.state.now m s
  pub defined : Defined d.tables.nodes.now d.tables.root d.tables.variables m ls ps next
  pub inside : i < length s.processes
  pub shows : ShowsChange offer n
  pub good : GoodNew m n

-- 01, Step: both processes of a handshake replaced, judged from the state before
unfoldable pub both_entering : Resolved.Model → State → ℕ → List ℤ → List Resolved.Part → ℕ → List ℤ → List Resolved.Part → State
both_entering m s i ls ps k us qs = record { processes = replace_both i (next_processes m ls ps) k (next_processes m us qs) s.processes; pairs = s.pairs }

-- two processes, the first at i, for which there is room
pub record Both (d : Moving) (i : ℕ) (ls : List ℤ) (next : Next) (k : ℕ) (us : List ℤ) (other : Next) (m : Resolved.Model) (s : State) (ps qs : List Resolved.Part) : Type 0 where
  pub scoped : Scoped d.tables.scopes.now m
  pub stands : Stands d.state.now m s
  pub first : Defined d.tables.nodes.now d.tables.root d.tables.variables m ls ps next
  pub second : Defined d.tables.nodes.now d.tables.root d.tables.variables m us qs other
  pub order : i < k
  pub inside : k < length s.processes
  pub room : length s.processes + length (next_processes m ls ps) + length (next_processes m us qs) ≤ process_limit + 2

-- two processes at different places
pub record Meets (d : Moving) (i : ℕ) (ls : List ℤ) (next : Next) (k : ℕ) (us : List ℤ) (other : Next) (m : Resolved.Model) (s : State) (ps qs : List Resolved.Part) : Type 0 where
  pub scoped : Scoped d.tables.scopes.now m
  pub stands : Stands d.state.now m s
  pub first : Defined d.tables.nodes.now d.tables.root d.tables.variables m ls ps next
  pub second : Defined d.tables.nodes.now d.tables.root d.tables.variables m us qs other
  pub apart : i ≡ k → ⊥
  pub first-inside : i < length s.processes
  pub second-inside : k < length s.processes

-- ---- entries

-- an entry of one process: its branch, what it offers, and a continuation that fits with the values of pair q
pub record AloneEntry (d : Moving) (i j q : ℕ) (m : Resolved.Model) (s : State) (p : Process) (b : Resolved.Branch) (g : offers.Guard) : Type 0 where
  pub lent : Lent d.tables.nodes.now d.tables.roots.now d.tables.scopes.now d.tables.root d.tables.variables d.state.now m s
  pub at : BranchAt m s.processes i j p b
  pub evaluates : eval_branch p.locals b ≡ some g
  pub fit : Fit m (locals_of p (values_at s.pairs q) g) b.next
  pub good : GoodNew m (on_action unchanged change_of g)

-- a process that acts, its branch and what it offers
pub record Side : Type 0 where
  pub process : Process
  pub branch : Resolved.Branch
  pub guard : offers.Guard

-- 01, Step: the locals of a handshake's sender, and those of its receiver, whose names take the values sent
unfoldable pub sent : Side → List ℤ
sent x = locals_of x.process [] x.guard

unfoldable pub received : Side → Side → List ℤ
received x y = locals_of y.process (on_action [] sent_by x.guard) y.guard

-- an entry of a handshake: sender and receiver at different places, with continuations that fit
pub record HandEntry (d : Moving) (i j k n : ℕ) (m : Resolved.Model) (s : State) (x y : Side) : Type 0 where
  pub sender : Acts d.tables.nodes.now d.tables.roots.now d.tables.scopes.now d.state.now i j m s x.process x.branch x.guard
  pub receiver : Acts d.tables.nodes.now d.tables.roots.now d.tables.scopes.now d.state.now k n m s y.process y.branch y.guard
  pub defines : Defines d.tables.nodes.now d.tables.root d.tables.variables m
  pub apart : i ≡ k → ⊥
  pub sender-fit : Fit m (sent x) x.branch.next
  pub receiver-fit : Fit m (received x y) y.branch.next
