-- The answers of questions 7, 8 and 9: a token at fault, as 01 lists the faults, before which none stands; or none where there is none. From the
-- law of the least of a list, and the lists' members.
use mathlib.Core.Path.{◌≡◌, refl, sym, subst, ◌∙◌}
use mathlib.Core.List.Memᴰ.{append_right as right}
use mathlib.Core.List.Memᴰ.{head}
use mathlib.Core.List.{List, ◌++◌, Memᴰ as In}
use mathlib.Core.Bool.{Bool, true}
use mathlib.Core.Logic.{◌↔◌}
use Prim.Native.Nat.{ℕ}
use native.Mathlib.Omega.{arith}
use Rattle.token.specs.Questions.{First, Found}
use Rattle.grammar.specs.Syntax
use Rattle.model.specs.Lists.{least}
use Rattle.model.specs.Sites.{Scope, value, scale, bindings, rate_sites, gate_sites, args_sites, scale_sites, Variable, variables, definitions}
use Rattle.model.specs.Limits.{beyond}
use Rattle.model.specs.Fresh.{not_new}
use Rattle.model.specs.Given.{site_wrong, not_given}
use Rattle.model.specs.Stands.{Holds, SumIn, continued, BranchIn, SiteIn, in_gate, in_rate, in_call, branches_in}
use Rattle.model.specs.Faults.{Beyond, NotNew, Among, VariableIn, IsWhole, WholeVariableIn, NotGiven, no_value, no_scale}
use Rattle.model.proofs.Least.{least_first}
use Rattle.model.proofs.Members.{in-when, when-in, false-not, got_in}
use Rattle.model.proofs.Exceeds.{listed-beyond, beyond-listed}
use Rattle.model.proofs.Repeats.{listed-not-new, not-new-listed}
use Rattle.model.proofs.Meanings.{means}
use Rattle.model.proofs.Ungiven.{listed-not-given, not-given-listed, not-value, no_value_lem, not-scale, no-scale, one-variable}
use borrow.Author.Tests.{not-true}
use Rattle.std.specs.Prelude.{None, Some}

-- the first of faults that are told in two ways
first-like : {A B : ℕ → Type 0} (f : Found) → ((k : ℕ) → A k → B k) → ((k : ℕ) → B k → A k) → First A f → First B f
first-like (Some k) to from h = (to k h.0, λ q l b. h.1 q l (from q b))
first-like None to from h = λ q b. h q (from q b)

-- 7
pub beyond-first : (text : List ℕ) (m : Syntax.Model) → First (Beyond text m) (least (beyond text m))
beyond-first text m = first-like (least (beyond text m)) (λ k i. listed-beyond text m i) (λ k b. beyond-listed text m b) (least_first (beyond text m))

module _ (w : ℕ → List ℕ) (m : Syntax.Model) where
  -- 8
  pub new-first : First (NotNew w m) (least (not_new w m))
  new-first = first-like (least (not_new w m)) (λ k i. listed-not-new w m i) (λ k n. not-new-listed w m n) (least_first (not_new w m))

  module _ (new : (k : ℕ) → NotNew w m k → ⊥) where
    -- 9, which is asked where all names are new
    pub given-first : First (NotGiven w m) (least (not_given w m))
    given-first = first-like (least (not_given w m)) (λ k i. listed-not-given w m new i) (λ k n. not-given-listed w m new n) (least_first (not_given w m))

    -- ---- single sentences of 01

    -- a name that is used as a value is at fault exactly where it is neither a local in scope nor a whole variable
    pub value-fault : (sc : Scope) (k : ℕ) → In k (site_wrong w (variables m) (definitions m) sc (value k)) ↔ ((Among w sc k → ⊥) × (WholeVariableIn w m k → ⊥))
    unfolding site_wrong
    value-fault sc k =
        (λ i. not-value w m new sc k _ (means w k (variables m) sc) (not-true _ (in-when _ k i).0), λ h. when-in _ k (false-not _ (no_value_lem w m new sc k _ (means w k (variables m) sc) h.0 h.1)))

    -- a rate's scale is at fault exactly where it is neither a local in scope nor a variable
    pub scale-fault : (sc : Scope) (k : ℕ) → In k (site_wrong w (variables m) (definitions m) sc (scale k)) ↔ ((Among w sc k → ⊥) × (VariableIn w m k → ⊥))
    unfolding site_wrong
    scale-fault sc k =
        (λ i. not-scale w m new sc k _ (means w k (variables m) sc) (not-true _ (in-when _ k i).0), λ h. when-in _ k (false-not _ (no-scale w m new sc k _ (means w k (variables m) sc) h.0 h.1)))

    -- a decimal variable's name is no value in an expression, and is one as a rate's scale
    pub decimal-fault : (sc : Scope) (k : ℕ) (v : Variable) (b : Bool) (j : ℕ) → In v (variables m) → v.number ≡ Syntax.number b true j → w v.name ≡ w k → (Among w sc k → ⊥)
        → In k (site_wrong w (variables m) (definitions m) sc (value k)) × (In k (site_wrong w (variables m) (definitions m) sc (scale k)) → ⊥)
    unfolding IsWhole
    decimal-fault sc k v b j i d e n =
        ((value-fault sc k).1 (n, λ x. no_whole (subst (λ (u : Variable). IsWhole u.number) (one-variable w m new x.named.member i (x.named.same ∙ sym e)) x.whole)), λ l. ((scale-fault sc k).0 l).1 (record { variable = v; member = i; same = e }))
      where
        no_whole : IsWhole v.number → ⊥
        no_whole x = let z : ◌≡◌ {A = ℕ} 0 1 = cc x.2 in omega arith

  -- a prefix's rate and gate don't see the names that it binds: such a name there is at fault, unless it is given before
  pub rate-unseen : {sc : Scope} {i j : ℕ} {g : Syntax.Gate} {a : Syntax.Action} {n : Syntax.Next} (k : ℕ) → BranchIn m sc i (Syntax.branch j g a (Syntax.plain (Syntax.named_scale k)) n)
      → (Among w sc k → ⊥) → (VariableIn w m k → ⊥) → NotGiven w m k
  unfolding rate_sites scale_sites
  rate-unseen k h n v = no_scale (in_rate h (head refl)) n v

  pub gate-unseen : {sc : Scope} {i j : ℕ} {g : Syntax.Gate} {a : Syntax.Action} {r : Syntax.Rate} {n : Syntax.Next} (k : ℕ) → BranchIn m sc i (Syntax.branch j g a r n)
      → In (value k) (gate_sites g) → (Among w sc k → ⊥) → (WholeVariableIn w m k → ⊥) → NotGiven w m k
  gate-unseen k h l n v = no_value (in_gate h l) n v

  -- what follows it sees them, groups included: sums, and the values of calls
  pub sum-sees : {sc : Scope} {i j : ℕ} {g : Syntax.Gate} {a : Syntax.Action} {r : Syntax.Rate} {c : Syntax.Cont} {t : Syntax.Sum} (k : ℕ)
      → BranchIn m sc i (Syntax.branch j g a r (Syntax.dot c)) → Holds (Syntax.proceed t) c → In k (bindings a) → SumIn m (sc ++ bindings a) t × Among w (sc ++ bindings a) k
  sum-sees {sc} {i} k h l b = (continued h.stands (got_in (branches_in h.sum) i h.place) l, record { token = k; member = right sc b; same = refl })

  pub call-sees : {sc : Scope} {i j q : ℕ} {g : Syntax.Gate} {a : Syntax.Action} {r : Syntax.Rate} {c : Syntax.Cont} {es : Syntax.Args} (k : ℕ)
      → BranchIn m sc i (Syntax.branch j g a r (Syntax.dot c)) → Holds (Syntax.call q es) c → In (value k) (args_sites es) → Among w (bindings a) k → SiteIn w m (sc ++ bindings a) (value k) × Among w (sc ++ bindings a) k
  call-sees {sc} k h l i b = (in_call h l i, record { token = b.token; member = right sc b.member; same = b.same })
