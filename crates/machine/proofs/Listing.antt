-- Listing a state answers questions 12 to 14 as 01 asks them, in that order: by cases of the answers, from question 12's search and since a state has one listing.
use mathlib.Core.Path.{◌≡◌, refl, subst}
use mathlib.Core.List.{List}
use mathlib.Core.Bool.{Bool, true, false, cond}
use mathlib.Core.Logic.{◌↔◌}
use mathlib.Core.Option.{Option, none, some, Option-elim}
use Prim.Native.Nat.{ℕ, ◌≤◌, ◌<◌}
use borrow.Author.Tests.{leb-true, leb-false, le-leb, lt-leb}
use lib.Dec.{eqb, leb}
use lib.ListN.{length}
use Rattle.model.specs.Resolved
use Rattle.rules.specs.Listing.{Entry, entries}
use Rattle.rules.specs.Draw.{weights, total}
use Rattle.machine.specs.Offer.{branches, missing}
use Rattle.machine.specs.State.{State}
use Rattle.machine.specs.Machine.{entry_limit, total_limit, zeroed, no, Listed, entries_are, refused_with, counted, listing}
use Rattle.machine.specs.Questions.{Evaluated, FirstLacking, IsListing, Lists, no12, no13, no14, yes14}
use Rattle.machine.proofs.Lacking.{nothing-lacks, first-lacks}
use Rattle.machine.proofs.OneListing.{entries-listing, one-listing}

module _ (m : Resolved.Model) (s : State) where
  -- ---- from the function to the questions
  counted-lists : Evaluated m s.processes → Lists m s (counted (entries (branches m) s))
  unfolding counted
  counted-lists e = go (leb (length es) entry_limit) refl (leb (total (weights es)) total_limit) refl
    where
      es : List Entry
      es = entries (branches m) s

      h : IsListing m s es
      h = entries-listing m s

      go : (b : Bool) → leb (length es) entry_limit ≡ b → (b' : Bool) → leb (total (weights es)) total_limit ≡ b'
          → Lists m s (cond b (cond b' (entries_are es) (refused_with (no 14 0 0 zeroed))) (refused_with (no 13 0 0 zeroed)))
      go true q true q' = yes14 e h (leb-true _ _ q) (leb-true _ _ q')
      go true q false q' = no14 e h (leb-true _ _ q) (leb-false _ _ q')
      go false q b' q' = no13 e h (leb-false _ _ q)

  answered : Lists m s (listing m s)
  unfolding listing Option-elim
  answered = go (missing m 0 s.processes) refl
    where
      go : (o : Option (ℕ × ℕ)) → missing m 0 s.processes ≡ o → Lists m s (Option-elim o (counted (entries (branches m) s)) (λ ij. refused_with (no 12 ij.0 ij.1 zeroed)))
      go none q = counted-lists ((nothing-lacks m s.processes).0 q)
      go (some (i, j)) q = no12 ((first-lacks m s.processes i j).0 q)

  -- ---- and back
  says : {l : Listed} → Lists m s l → listing m s ≡ l
  unfolding listing counted Option-elim
  says (no12 f) = rw ((first-lacks m s.processes _ _).1 f)
  says (no13 {es = es} e h l) =
      let q = one-listing m s es h in
      rw ((nothing-lacks m s.processes).1 e, ← q, lt-leb (length es) entry_limit l)
  says (no14 {es = es} e h l g) =
      let q = one-listing m s es h in
      rw ((nothing-lacks m s.processes).1 e, ← q, le-leb (length es) entry_limit l, lt-leb (total (weights es)) total_limit g)
  says (yes14 {es = es} e h l g) =
      let q = one-listing m s es h in
      rw ((nothing-lacks m s.processes).1 e, ← q, le-leb (length es) entry_limit l, le-leb (total (weights es)) total_limit g)

  -- an answer is the function's exactly when the questions, in their order, come to it
  pub asked : (l : Listed) → (listing m s ≡ l) ↔ Lists m s l
  asked l = (λ e. rw e at answered, says)

  -- ---- the same by numbers
  abbrev es : List Entry
  es = entries (branches m) s

  -- what must hold for an answer
  abbrev Condition : Listed → Type 0
  Condition (entries_are ds) = Evaluated m s.processes × IsListing m s ds × (length ds ≤ entry_limit) × (total (weights ds) ≤ total_limit)
  Condition (refused_with a) =
      cond (eqb a.number 12) (FirstLacking m s.processes a.place a.branch)
      (cond (eqb a.number 13) (Evaluated m s.processes × (entry_limit < length es))
      (Evaluated m s.processes × (length es ≤ entry_limit) × (total_limit < total (weights es))))

  condition : {l : Listed} → Lists m s l → Condition l
  unfolding no
  condition (no12 f) = f
  condition (no13 {es = ds} e h l) = let r = one-listing m s ds h in (e, rw r at l)
  condition (no14 {es = ds} e h l g) = let r = one-listing m s ds h in (e, rw r at l, rw r at g)
  condition (yes14 e h l g) = (e, h, l, g)

  answers : {l : Listed} → listing m s ≡ l → Condition l
  answers e = subst Condition e (condition answered)

  pub refused12 : (i j : ℕ) → (listing m s ≡ refused_with (no 12 i j zeroed)) ↔ FirstLacking m s.processes i j
  unfolding no
  refused12 i j = (λ e. answers e, λ f. says (no12 f))

  pub refused13 : (listing m s ≡ refused_with (no 13 0 0 zeroed)) ↔ (Evaluated m s.processes × (entry_limit < length (entries (branches m) s)))
  unfolding no
  refused13 = (λ e. answers e, λ f. says (no13 f.0 (entries-listing m s) f.1))

  pub refused14 : (listing m s ≡ refused_with (no 14 0 0 zeroed))
      ↔ (Evaluated m s.processes × (length (entries (branches m) s) ≤ entry_limit) × (total_limit < total (weights (entries (branches m) s))))
  unfolding no
  refused14 = (λ e. answers e, λ f. says (no14 f.0 (entries-listing m s) f.1 f.2))

  pub accepted : (ds : List Entry)
      → (listing m s ≡ entries_are ds) ↔ (Evaluated m s.processes × IsListing m s ds × (length ds ≤ entry_limit) × (total (weights ds) ≤ total_limit))
  accepted ds = (λ e. answers e, λ f. says (yes14 f.0 f.1 f.2 f.3))
