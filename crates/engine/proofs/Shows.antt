-- What a listing leaves, as the effect of the call says: the buffer's numbers are those of the entries, and a refusal carries no more than its number and places.
use mathlib.Core.Path.{◌≡◌, refl, sym, ap, ◌∙◌}
use mathlib.Core.List.{List, [], ◌∷◌, ◌++◌}
use mathlib.Core.Bool.{Bool, true, false, cond}
use mathlib.Core.Option.{Option, none, some, Option-elim}
use Prim.Native.Nat.{ℕ, ◌-◌, ◌*◌, ◌≤◌}
use native.Mathlib.Omega.{arith}
use lib.Dec.{leb}
use lib.IntN.{ℤ}
use lib.ListN.{length, take, replicate}
use Rattle.std.specs.Prelude.{Result}
use Rattle.model.specs.Resolved
use Rattle.model.specs.Limits.{branch_limit}
use Rattle.model.specs.Good.{GoodSum}
use Rattle.rules.specs.Rules.{key}
use Rattle.rules.specs.Listing as rules
use Rattle.rules.specs.Draw.{weights, total}
use Rattle.machine.specs.Offer.{missing, branches}
use Rattle.machine.specs.State.{State, state_length, state_numbers}
use Rattle.machine.specs.Machine as machine
use Rattle.machine.specs.Machine.{Listed, entries_are, refused_with, zeroed, no, listed_as, entry_limit, total_limit, counted, turn, showing, lists, listing_length, held, closed, holding, on_state, Request, list', acts, Part, model, state, saves, clock, two_parts, uses, is_lent, on_machine}
use Rattle.machine.proofs.Everys.{every_in, in-every}
use Rattle.state.specs.Test.{is_state}
use Rattle.offers.specs.Collect.{FewBranches, World}
use Rattle.listing.specs.Buffer.{rows, filled_numbers, Answers, Lists, Outcome as Found}
use Rattle.listing.specs.Buffer as buffer
use Rattle.buffers.specs.Listing.{entry_numbers, entries_numbers, listing_numbers, shown}
use Rattle.buffers.specs.Parts.{Engine, lent_two}
use Rattle.buffers.specs.Effect.{machine_over, left_in, leaves, requested}
use Rattle.engine.specs.declared.Told.{Told}
use Rattle.engine.specs.declared.Refusal.{Refusal}
use Rattle.engine.specs.Gives.{Gives, bare, answer_of}
use Rattle.store.specs.Tables.{Tables}
use Rattle.store.proofs.Tables.{state_of, numbers-back, state-good, left-two}
use Rattle.engine.specs.Tables.{told_by, Finds}
use Rattle.engine.specs.Tables as found

-- ---- the tables, and the state that numbers which pass are those of
module _ (t roots scopes : List ℕ) (sums channels : ℕ) (m : Resolved.Model) (h : Tables t roots scopes sums channels m) where
  few-branches : FewBranches m
  unfolding FewBranches
  few-branches = in-every (λ (s : Resolved.Sum). length s.branches ≤ branch_limit) m.sums (λ s i. (every_in (GoodSum m) m.sums h.good.sums s i).few-branches)

  module _ (zs : List ℤ) (l : length zs ≡ state_length) (e : is_state (take sums scopes) channels zs ≡ true) where
    abbrev s : State
    s = state_of t roots scopes sums channels m h zs

    pub world : World t roots scopes zs m s
    world = record {
      root = h.root;
      variables = h.variables;
      definitions = h.definitions;
      sums = sums;
      channels = channels;
      represents = h.represents;
      good = h.good;
      few = few-branches;
      state = state-good t roots scopes sums channels m h zs l e;
      numbers = sym (numbers-back t roots scopes sums channels m h zs l e);
    }

-- ---- the listing buffer
numbers-rows : (es : List rules.Entry) (rest : List ℕ) → rows es rest ≡ entries_numbers es ++ rest
unfolding rows entries_numbers entry_numbers
numbers-rows [] rest = refl
numbers-rows (rules.entry (key c i j k m q) w ∷ es) rest = ap (λ (l : List ℕ). c ∷ i ∷ j ∷ k ∷ m ∷ q ∷ w ∷ l) (numbers-rows es rest)

numbers-length : (es : List rules.Entry) → length (entries_numbers es) ≡ length es * 7
unfolding entries_numbers entry_numbers
numbers-length [] = refl
numbers-length (rules.entry (key c i j k m q) w ∷ es) = omega (arith, numbers-length es)

pub filled-numbers : (es : List rules.Entry) → filled_numbers es ≡ listing_numbers es
unfolding filled_numbers listing_numbers
filled-numbers es = numbers-rows es _ ∙ ap (λ (n : ℕ). entries_numbers es ++ replicate (listing_length - n) 0) (sym (numbers-length es))

-- ---- a refusal
pub data Refuses : Listed → Type 0 where
  entries : {es : List rules.Entry} → Refuses (entries_are es)
  refuses : (n p b : ℕ) → Refuses (refused_with (no n p b zeroed))

counted_is : (es : List rules.Entry) → Refuses (counted es)
unfolding counted
counted_is es = by (leb (length es) entry_limit) (leb (total (weights es)) total_limit)
  where
    by : (a b : Bool) → Refuses (cond a (cond b (entries_are es) (refused_with (no 14 0 0 zeroed))) (refused_with (no 13 0 0 zeroed)))
    by true true = entries
    by true false = refuses 14 0 0
    by false b = refuses 13 0 0

pub listing-is : (m : Resolved.Model) (s : State) → Refuses (machine.listing m s)
unfolding machine.listing Option-elim
listing-is m s = by (missing m 0 s.processes)
  where
    by : (o : Option (ℕ × ℕ)) → Refuses (Option-elim o (counted (rules.entries (branches m) s)) (λ ij. refused_with (no 12 ij.0 ij.1 zeroed)))
    by none = counted_is (rules.entries (branches m) s)
    by (some ij) = refuses 12 ij.0 ij.1

-- ---- what a request gives that is lent model and state

-- 01, Listing, 11: changes nothing
pub eleven-gives : (r : Request) (x : Engine) (l : List ℕ) → Gives (leaves (uses r) x l (on_machine r closed)) (bare 11 0 0) x l
unfolding leaves on_machine left_in no shown
eleven-gives r x l = record { number = refl; place = refl; branch = refl; count = refl; total = refl; chosen = refl; buffers = λ p. refl; output = refl }

pub none-gives : (r : Request) (x : Engine) (l : List ℕ) → Gives (requested r x l none) (bare 11 0 0) x l
unfolding requested machine_over
none-gives r x l = eleven-gives r x l

-- ---- what a list call gives
module _ (bs : List ℕ) (zs : List ℤ) (l : List ℕ) where
  abbrev x : Engine
  x = lent_two bs zs

  listing-gives : length l ≡ listing_length → (m : Resolved.Model) (s : State) {k : Listed} → Refuses k → state_numbers s ≡ zs → (r : Found) → Answers k r → (b : List ℕ) → b ≡ buffer.listing_numbers k
      → Gives (leaves two_parts x l (turn (holding (held m (showing s k).machine)) (showing s k).answer)) (answer_of (told_by r)) x b
  unfolding leaves showing no listed_as shown buffer.listing_numbers
  listing-gives long m s (entries {es}) e r (buffer.Answers.counts n t) b f =
      record { number = refl; place = refl; branch = refl; count = n; total = t; chosen = refl; buffers = left-two bs zs zs m s (sym e); output = f ∙ filled-numbers es }
  listing-gives long m s (refuses n p c) e r (buffer.Answers.refuses q) b f =
      record { number = q.number; place = q.place; branch = q.branch; count = refl; total = refl; chosen = refl; buffers = left-two bs zs zs m s (sym e); output = f ∙ ap (λ (i : ℕ). replicate i 0) (sym long) }

  pub lists-give : length l ≡ listing_length → (m : Resolved.Model) (s : State) (r : Found) (b : List ℕ) → state_numbers s ≡ zs → Lists (machine.listing m s) r b
      → Gives (leaves two_parts x l (on_machine list' (holding (held m s)))) (answer_of (told_by r)) x b
  unfolding on_machine acts on_state lists
  lists-give long m s r b e h = listing-gives long m s (listing-is m s) e r h.answer b h.numbers

  pub finds-give : length l ≡ listing_length → (m : Resolved.Model) (r : Result Told Refusal) (b : List ℕ) → Finds m zs l r b → Gives (requested list' x l (some m)) (answer_of r) x b
  unfolding requested
  finds-give long m r b (found.closed e q f) = rw (e bs, q, f) (eleven-gives list' x l)
  finds-give long m r b (found.holding {s} {x = y} e g z q h) = rw (e bs, q) (lists-give long m s y b (sym z) h)
