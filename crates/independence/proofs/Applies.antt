-- From the code's answer to the claim of 02, note 14: the answer for two entries' numbers is the test of the entries, so the rule machine's claim and the buffers' claim hold.
use mathlib.Core.Path.{◌≡◌, refl, sym, ap₂, ◌∙◌}
use mathlib.Core.Bool.{true}
use mathlib.Core.Logic.{◌↔◌}
use mathlib.Core.List.{List}
use Prim.Native.Nat.{ℕ}
use lib.IntN.{ℤ}
use Rattle.model.specs.Resolved
use Rattle.rules.specs.Rules.{Key, key}
use Rattle.rules.specs.Listing.{Entry, entry, key_of}
use Rattle.rules.specs.Carried.{carried}
use Rattle.rules.specs.Independent.{Independent, is_independent}
use Rattle.rules.proofs.Judged.{independent-exactly}
use Rattle.machine.specs.Offer.{branches}
use Rattle.machine.specs.State.{State}
use Rattle.machine.specs.Machine.{Held, Machine, holding}
use Rattle.machine.specs.Independent as machine
use Rattle.machine.proofs.Independent.{independent-entries}
use Rattle.buffers.specs.Listing.{entry_numbers}
use Rattle.buffers.specs.Independent.{stepped, Passes, row_at, Takes}
use Rattle.buffers.proofs.Independent.{same_numbers}
use Rattle.independence.specs.Judged.{entry_in, judged}

-- the rows of two entries
judged-entries : (e f : Entry) → judged (entry_numbers e) (entry_numbers f) ≡ is_independent e f
unfolding judged entry_in entry_numbers
judged-entries (entry (key c i j k m q) w) (entry (key c' i' j' k' m' q') w') = refl

-- 02, note 14: yes exactly of two entries above weight zero that share no process, neither a launch nor a kill
pub judged-exactly : (e f : Entry) → (judged (entry_numbers e) (entry_numbers f) ≡ true) ↔ Independent e f
judged-exactly e f = (λ h. (independent-exactly e f).0 (sym (judged-entries e f) ∙ h), λ h. judged-entries e f ∙ (independent-exactly e f).1 h)

-- 02, note 14: where the answer is yes, both orders lead to the same machine, of every state over a model
pub judged-machine : (h : Held) (e f : Entry) → judged (entry_numbers e) (entry_numbers f) ≡ true → {x y x' y' : Machine}
    → machine.Takes (holding h) (key_of e) x → machine.Takes (holding h) (key_of f) y
    → machine.Takes x (carried (branches h.model) h.state (key_of e) (key_of f)) x' → machine.Takes y (carried (branches h.model) h.state (key_of f) (key_of e)) y' → x' ≡ y'
judged-machine h e f j = independent-entries h e f (sym (judged-entries e f) ∙ j)

-- the row that a step chose
abbrev pub chosen_row : {bs : List ℕ} {zs : List ℤ} {k : Key} {left : List ℤ} → Takes bs zs k left → List ℕ
chosen_row {bs} {zs} t = let e = stepped bs zs t.listing t.draw in row_at e.output e.answer.chosen

-- 02, note 14: where the answer for the rows that two steps chose is yes, the state buffers after both orders are equal, number for number
pub judged-numbers : {bs : List ℕ} {zs : List ℤ} {m : Resolved.Model} {s : State} → Passes bs zs m s → {k l : Key} {x y x' y' : List ℤ} (a : Takes bs zs k x) (b : Takes bs zs l y)
    → judged (chosen_row a) (chosen_row b) ≡ true → Takes bs x (carried (branches m) s k l) x' → Takes bs y (carried (branches m) s l k) y' → x' ≡ y'
unfolding key_of
judged-numbers h {k} {l} a b j a' b' =
    let i = (judged-exactly (entry k a.weight) (entry l b.weight)).0 (sym (ap₂ judged a.chosen b.chosen) ∙ j) in
    same_numbers h i.apart i.quiet.0 i.quiet.1 a b a' b'
