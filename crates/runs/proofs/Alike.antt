-- An answer says the same of two accounts of taking and refusing that agree at every state. By induction on runs. Assumes nothing.
use mathlib.Core.Bool.{Bool}
use mathlib.Core.List.{List}
use mathlib.Core.Logic.{◌↔◌}
use Prim.Native.Nat.{ℕ}
use Rattle.runs.specs.Tree.{RunOf, stay, go, PerformsOf, last, later, AnswersOf, MeetsOf, MeansOf, earliest, none_at_all, none-known, Answer}

module _ {S : Type 0} {L K : S → ℕ → Bool → S → Type 0} (f : (s : S) (e : ℕ) (h : Bool) (t : S) → L s e h t → K s e h t) where
  pub run-alike : {s t : S} {es : List ℕ} → RunOf L s es t → RunOf K s es t
  run-alike stay = stay
  run-alike (go a r) = go (f _ _ _ _ a) (run-alike r)

  pub performs-alike : {s : S} {es : List ℕ} → PerformsOf L s es → PerformsOf K s es
  performs-alike (last a) = last (f _ _ _ _ a)
  performs-alike (later a r) = later (f _ _ _ _ a) (performs-alike r)

  pub answers-alike : {s : S} {d : ℕ} {r : List ℕ} → AnswersOf L s d r → AnswersOf K s d r
  answers-alike x = record { performs = performs-alike x.performs; short = x.short }

  pub meets-alike : {R Q : S → Type 0} → ((s : S) → R s → Q s) → {s : S} {d : ℕ} → MeetsOf L R s d → MeetsOf K Q s d
  meets-alike g x = record { run = x.run; end = x.end; runs = run-alike x.runs; short = x.short; stuck = g x.end x.stuck }

module _ {S : Type 0} {L K : S → ℕ → Bool → S → Type 0} {R Q : S → Type 0}
    (f : (s : S) (e : ℕ) (h : Bool) (t : S) → L s e h t ↔ K s e h t) (g : (s : S) → R s ↔ Q s) where
  there : (s : S) (e : ℕ) (h : Bool) (t : S) → L s e h t → K s e h t
  there s e h t = (f s e h t).0

  back : (s : S) (e : ℕ) (h : Bool) (t : S) → K s e h t → L s e h t
  back s e h t = (f s e h t).1

  pub means-alike : {s : S} {d : ℕ} {a : Answer} → MeansOf L R s d a → MeansOf K Q s d a
  means-alike (earliest x o) = earliest (answers-alike there x) (λ q y. o q (answers-alike back y))
  means-alike (none_at_all n r) = none_at_all (λ q y. n q (answers-alike back y)) (λ y. r (meets-alike back (λ s. (g s).1) y))
  means-alike (none-known n y) = none-known (λ q y. n q (answers-alike back y)) (meets-alike there (λ s. (g s).0) y)
