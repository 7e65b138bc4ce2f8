-- What opening a text gives, and which tables the calls on a held one are given, from the answers that reading the text gives.
use mathlib.Core.Path.{◌≡◌, refl, sym, ◌∙◌}
use mathlib.Core.List.{List, []}
use mathlib.Core.Option.{none}
use Prim.Native.Nat.{ℕ, ◌≤◌}
use native.Mathlib.Omega.{arith}
use lib.IntN.{ℤ, pos}
use lib.ListN.{length, replicate}
use Rattle.std.specs.Prelude.{Err, Ok}
use Rattle.token.specs.declared.Refusal.{Refusal}
use Rattle.token.specs.Questions.{text_limit, question_number}
use Rattle.clock.specs.Clock.{fresh_clock}
use Rattle.model.specs.Resolved
use Rattle.model.specs.Opening.{Opening, refused, opened}
use Rattle.model.proofs.Opened.{opened-good, opened-few}
use Rattle.model.proofs.Held.{opened-short}
use Rattle.machine.specs.State.{state_length, state_numbers}
use Rattle.machine.specs.Saves.{saves_length}
use Rattle.saves.proofs.Places.{no-saves-numbers}
use Rattle.machine.specs.Machine as machine
use Rattle.machine.specs.Machine.{model_length, search_length, no, opened_state, Part, model, state, saves, clock, search, lent_to, output_of}
use Rattle.buffers.specs.Held.{model_bytes}
use Rattle.buffers.specs.Parts.{Engine, fresh, numbers_of, lent_whole}
use Rattle.buffers.specs.Effect.{opens_with, answered}
use Rattle.engine.specs.Gives.{Gives, bare}
use Rattle.store.specs.Start as start
use Rattle.settle.specs.declared.Model.{Model}
use Rattle.opening.specs.declared.Accepted.{Accepted}
use Rattle.opening.specs.Models.{ModelOpened, Opened}
use Rattle.steady.specs.declared.Profile.{Profile}
use Rattle.steady.specs.declared.Profile.TheVariants.{Plain, Steady}
use Rattle.steady.specs.Opens.{opening_under, OpenedUnder, OpensUnder}
use Rattle.underway.specs.Buffer.{search_numbers}
use Rattle.engine.specs.Asks.{ask_under}
use Rattle.engine.proofs.Lengths.{whole_parts}

module _ (text t roots scopes : List ℕ) where
  -- ---- opening
  pub opened-is : (q : Profile) {r : Opened} {o : Accepted} → OpensUnder q text t roots scopes r → r ≡ Ok o → OpenedUnder q text t roots scopes o.model o.processes
  unfolding OpensUnder
  opened-is q d e = rw e at d

  pub refused-is : (q : Profile) {r : Opened} {x : Refusal} → OpensUnder q text t roots scopes r → r ≡ Err x → opening_under q text ≡ refused (question_number x.question) x.place
  unfolding OpensUnder
  refused-is q o e = rw e at o

  pub short : {x : Model} {k : ℕ} → ModelOpened text t roots scopes x k → length text ≤ text_limit
  short o = opened-short text o.model o.opens

  pub starts : {x : Model} {k : ℕ} (o : ModelOpened text t roots scopes x k) → start.Opens t scopes x.lists.root x.lists.variables x.lists.definitions o.model
  starts o = record {
    good = opened-good text o.model o.opens;
    scoped = record { fit = omega (arith, o.shown.sums-are, o.shown.scopes-fit); are = o.shown.scope };
    defines = o.shown.definition;
    starts = o.shown.starts;
    few = opened-few text o.model o.opens;
  }

-- 01, Opening a text, and 02, note 11: 2 to 10 and 29 zero all buffers
pub refused-gives : (text : List ℕ) {o : Opening} (n p : ℕ) (bs : List ℕ) (zs ss xs : List ℤ) → o ≡ refused n p → bs ≡ replicate model_length 0 → zs ≡ replicate state_length (pos 0) → ss ≡ replicate saves_length (pos 0) → xs ≡ replicate search_length (pos 0)
    → Gives (opens_with text o []) (bare n p 0) (lent_whole bs zs ss fresh_clock xs) []
unfolding opens_with no
refused-gives text n p bs zs ss xs e f g h i = rw e (record { number = refl; place = refl; branch = refl; count = refl; total = refl; chosen = refl; buffers = zero; output = refl })
  where
    zero : (p : Part) → lent_whole bs zs ss fresh_clock xs p ≡ fresh p
    zero model = unfold lent_whole fresh in f
    zero state = unfold lent_whole fresh in g
    zero saves = unfold lent_whole fresh in h
    zero clock = unfold lent_whole fresh in refl
    zero search = unfold lent_whole fresh in i

-- 01, Opening a text: acceptance fills model and state; 02, notes 2, 4 and 10: nothing is saved, no search is under way, and the clock is zero
pub accepted-gives : (text : List ℕ) {o : Opening} (m : Resolved.Model) (bs : List ℕ) (zs ss xs : List ℤ) → o ≡ opened m → bs ≡ model_bytes text → zs ≡ state_numbers (opened_state m) → ss ≡ replicate saves_length (pos 0) → xs ≡ replicate search_length (pos 0)
    → Gives (opens_with text o []) (bare 0 0 0) (lent_whole bs zs ss fresh_clock xs) []
unfolding opens_with no
accepted-gives text m bs zs ss xs e f g h i = rw e (record { number = refl; place = refl; branch = refl; count = refl; total = refl; chosen = refl; buffers = full; output = refl })
  where
    full : (p : Part) → lent_whole bs zs ss fresh_clock xs p ≡ numbers_of (model_bytes text) (machine.held m (opened_state m)) p
    full model = unfold lent_whole numbers_of in f
    full state = unfold lent_whole numbers_of in g
    full saves = unfold lent_whole numbers_of in h ∙ sym no-saves-numbers
    full clock = unfold lent_whole numbers_of in refl
    full search = unfold lent_whole numbers_of search_numbers in i

-- ---- what an opening is lent, and what it answers, under either profile
module _ (text : List ℕ) where
  pub under-lent : (q : Profile) → lent_to (ask_under q text) ≡ whole_parts
  under-lent Plain = refl
  under-lent Steady = refl

  pub under-output : (q : Profile) → output_of (ask_under q text) ≡ none
  under-output Plain = refl
  under-output Steady = refl

  pub under-answers : (q : Profile) (x : Engine) (l : List ℕ) → answered (ask_under q text) x l ≡ opens_with text (opening_under q text) l
  unfolding answered opening_under
  under-answers Plain x l = refl
  under-answers Steady x l = refl
