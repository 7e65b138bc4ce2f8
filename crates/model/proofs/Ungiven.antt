-- Given.antt lists the names that are not given as they are used, provided that all names are new: question 9 is asked after question 8.
-- By what a name stands for (Meanings.antt) at each site.
use mathlib.Core.Path.{◌≡◌, refl, sym, ap, subst, ◌∙◌}
use mathlib.Core.List.Memᴰ.{append_cases}
use mathlib.Core.List.Memᴰ.{append_left as left}
use mathlib.Core.List.Memᴰ.{append_right as right}
use mathlib.Core.List.Memᴰ.{not-nil as nowhere}
use mathlib.Core.List.{List, Memᴰ as In}
use mathlib.Core.Bool.{true, false}
use mathlib.Core.Option.{Option}
use mathlib.Core.Logic.{◌⊎◌, inl, inr}
use Prim.Native.Nat.{ℕ, ◌-◌}
use lib.ListN.{length, get_or}
use borrow.Author.Tests.{eqb-false, ne_eqb, not-true}
use Rattle.grammar.specs.Syntax
use Rattle.model.specs.Lists.{each}
use Rattle.model.specs.Sites.{Scope, Site, whole, value, scale, bound, branch, call, Variable, variables, Definition, definitions, starts, names, titles, over_sites}
use Rattle.model.specs.Given.{Meaning, variable, is_value, is_given, takes, count_starts, meaning, is_callable, site_wrong, start_wrong, not_given}
use Rattle.model.specs.Stands.{SiteIn}
use Rattle.model.specs.Faults.{NotNew, Among, VariableIn, IsWhole, WholeVariableIn, DefinitionIn, NotGiven, no_value, no_scale, no_call, no_start, uneven, start_name, start_list}
use Rattle.model.specs.Faults as faults
use Rattle.model.proofs.Members.{not-both, false-not, not_so, in-each, each_in, in-when, when-in, got_in}
use Rattle.model.proofs.Sited.{over-in, in-over}
use Rattle.model.proofs.Meanings.{only_one, Means, a_local, a_variable, unknown, means, Defines, found, absent, defines}

-- a variable's number is a value in an expression exactly where it is whole
number-value : (v : Syntax.Number) → is_value (variable v) ≡ true → IsWhole v
unfolding is_value IsWhole
number-value (Syntax.number b false k) e = (b, k, refl)
number-value (Syntax.number b true k) e = not-both e refl

pub whole-value : (v : Syntax.Number) → IsWhole v → is_value (variable v) ≡ true
unfolding is_value IsWhole
whole-value v h = ap (λ (x : Syntax.Number). is_value (variable x)) h.2

module _ (w : ℕ → List ℕ) (m : Syntax.Model) (new : (k : ℕ) → NotNew w m k → ⊥) where
  pub one-variable : {v u : Variable} → In v (variables m) → In u (variables m) → w v.name ≡ w u.name → v ≡ u
  unfolding names
  one-variable i j e = only_one w (λ v. v.name) (variables m) (λ k a. new k (faults.variable a)) i j e

  one-definition : {d e : Definition} → In d (definitions m) → In e (definitions m) → w d.name ≡ w e.name → d ≡ e
  unfolding titles
  one-definition i j e = only_one w (λ d. d.name) (definitions m) (λ k a. new k (faults.definition a)) i j e

  module _ (sc : Scope) (k : ℕ) where
    -- ---- a value: a local in scope or a whole variable
    abbrev here : Meaning
    here = meaning w (variables m) sc k

    pub not-value : (o : Meaning) → Means w k (variables m) sc o → is_value o ≡ false → (Among w sc k → ⊥) × (WholeVariableIn w m k → ⊥)
    unfolding is_value
    not-value o (a_local i g e) f = not-both refl f
    not-value o (a_variable {v = v} n i e) f =
        (n, λ x. not-both (whole-value v.number (subst (λ (u : Variable). IsWhole u.number) (one-variable x.named.member i (x.named.same ∙ e)) x.whole)) f)
    not-value o (unknown n h) f = (n, λ x. h x.named.variable x.named.member (sym x.named.same))

    pub no_value_lem : (o : Meaning) → Means w k (variables m) sc o → (Among w sc k → ⊥) → (WholeVariableIn w m k → ⊥) → is_value o ≡ false
    unfolding is_value
    no_value_lem o (a_local {j = j} i g e) n h = absurd (n (record { token = j; member = got_in sc i g; same = sym e }))
    no_value_lem o (a_variable {v = v} l i e) n h =
        not_so (is_value (variable v.number)) (λ t. h (record { named = record { variable = v; member = i; same = sym e }; whole = number-value v.number t }))
    no_value_lem o (unknown l f) n h = refl

    -- ---- a rate's scale: a local in scope or a variable
    pub not-scale : (o : Meaning) → Means w k (variables m) sc o → is_given o ≡ false → (Among w sc k → ⊥) × (VariableIn w m k → ⊥)
    unfolding is_given
    not-scale o (a_local i g e) f = not-both refl f
    not-scale o (a_variable n i e) f = not-both refl f
    not-scale o (unknown n h) f = (n, λ x. h x.variable x.member (sym x.same))

    pub no-scale : (o : Meaning) → Means w k (variables m) sc o → (Among w sc k → ⊥) → (VariableIn w m k → ⊥) → is_given o ≡ false
    unfolding is_given
    no-scale o (a_local {j = j} i g e) n h = absurd (n (record { token = j; member = got_in sc i g; same = sym e }))
    no-scale o (a_variable {v = v} l i e) n h = absurd (h (record { variable = v; member = i; same = sym e }))
    no-scale o (unknown l f) n h = refl

  -- ---- a call, or an item of the system line
  module _ (k n : ℕ) where
    not-callable : (o : Option (ℕ × Definition)) → Defines w k (definitions m) 0 o → takes n o ≡ false → DefinitionIn w m k n → ⊥
    unfolding takes
    not-callable o (found {d = d} q g e) f x =
        let s = one-definition x.member (got_in (definitions m) q g) (x.same ∙ e) in
        eqb-false (length d.params) n f (ap (λ (y : Definition). length y.params) (sym s) ∙ x.parameters)
    not-callable o (absent h) f x = h x.definition x.member (sym x.same)

    no-callable : (o : Option (ℕ × Definition)) → Defines w k (definitions m) 0 o → (DefinitionIn w m k n → ⊥) → takes n o ≡ false
    unfolding takes
    no-callable o (found {d = d} q g e) h =
        ne_eqb (length d.params) n (λ f. h (record { definition = d; member = got_in (definitions m) q g; same = sym e; parameters = f }))
    no-callable o (absent f) h = refl

    pub callable-wrong : is_callable w (definitions m) k n ≡ false → DefinitionIn w m k n → ⊥
    unfolding is_callable
    callable-wrong f = not-callable _ (defines w k 0 (definitions m)) f

    pub wrong-callable : (DefinitionIn w m k n → ⊥) → is_callable w (definitions m) k n ≡ false
    unfolding is_callable
    wrong-callable h = no-callable _ (defines w k 0 (definitions m)) h

  -- ---- question 9

  site-wrong : {j : ℕ} (sc : Scope) (x : Site) → SiteIn w m sc x → In j (site_wrong w (variables m) (definitions m) sc x) → NotGiven w m j
  unfolding site_wrong
  site-wrong sc (whole b k) h i = absurd (nowhere i)
  site-wrong sc (value k) h i =
      let t = in-when _ k i in
      let f = not-value sc k _ (means w k (variables m) sc) (not-true _ t.0) in
      subst (λ (z : ℕ). NotGiven w m z) (sym t.1) (no_value h f.0 f.1)
  site-wrong sc (scale k) h i =
      let t = in-when _ k i in
      let f = not-scale sc k _ (means w k (variables m) sc) (not-true _ t.0) in
      subst (λ (z : ℕ). NotGiven w m z) (sym t.1) (no_scale h f.0 f.1)
  site-wrong sc (bound ks n) h i =
      let t = in-when _ (get_or ks 0 0 - 1) i in
      subst (λ (z : ℕ). NotGiven w m z) (sym t.1) (uneven h (eqb-false (length ks) n (not-true _ t.0)))
  site-wrong sc (branch p k) h i = absurd (nowhere i)
  site-wrong sc (call k n) h i =
      let t = in-when _ k i in
      subst (λ (z : ℕ). NotGiven w m z) (sym t.1) (no_call h (callable-wrong k n (not-true _ t.0)))

  start-wrong : {j : ℕ} (s : Syntax.Start) → In s (starts m) → In j (start_wrong w (definitions m) s) → NotGiven w m j
  unfolding start_wrong start_name start_list
  start-wrong (Syntax.once k s) h i =
      let t = in-when _ k i in
      subst (λ (z : ℕ). NotGiven w m z) (sym t.1) (no_start h (callable-wrong k (count_starts s) (not-true _ t.0)))
  start-wrong (Syntax.counted c k s) h i =
      let t = in-when _ k i in
      subst (λ (z : ℕ). NotGiven w m z) (sym t.1) (no_start h (callable-wrong k (count_starts s) (not-true _ t.0)))

  abbrev in_sites : List ℕ
  in_sites = over_sites w (site_wrong w (variables m) (definitions m)) m

  -- a token that is listed is not given
  pub listed-not-given : {k : ℕ} → In k (not_given w m) → NotGiven w m k
  unfolding not_given
  listed-not-given {k} i = by (append_cases in_sites i)
    where
      by : In k in_sites ⊎ In k (each (start_wrong w (definitions m)) (starts m)) → NotGiven w m k
      by (inl l) = let s = in-over w m (site_wrong w (variables m) (definitions m)) l in site-wrong s.0.scope s.0.site s.1 s.2
      by (inr l) = let s = in-each (start_wrong w (definitions m)) (starts m) l in start-wrong s.0 s.1 s.2

  start-listed : (s : Syntax.Start) → (DefinitionIn w m (start_name s) (count_starts (start_list s)) → ⊥) → In (start_name s) (start_wrong w (definitions m) s)
  unfolding start_wrong start_name start_list
  start-listed (Syntax.once k s) h = when-in _ k (false-not _ (wrong-callable k (count_starts s) h))
  start-listed (Syntax.counted c k s) h = when-in _ k (false-not _ (wrong-callable k (count_starts s) h))

  at-site : {k : ℕ} {sc : Scope} {x : Site} → SiteIn w m sc x → In k (site_wrong w (variables m) (definitions m) sc x) → In k (not_given w m)
  unfolding not_given
  at-site h i = left _ (over-in w m (site_wrong w (variables m) (definitions m)) h i)

  -- a token that is not given is listed
  pub not-given-listed : {k : ℕ} → NotGiven w m k → In k (not_given w m)
  unfolding not_given site_wrong
  not-given-listed (no_value {sc = sc} {k = k} h n f) = at-site h (when-in _ k (false-not _ (no_value_lem sc k _ (means w k (variables m) sc) n f)))
  not-given-listed (no_scale {sc = sc} {k = k} h n f) = at-site h (when-in _ k (false-not _ (no-scale sc k _ (means w k (variables m) sc) n f)))
  not-given-listed (no_call {k = k} {n = n} h f) = at-site h (when-in _ k (false-not _ (wrong-callable k n f)))
  not-given-listed (no_start {s = s} h f) = right in_sites (each_in (start_wrong w (definitions m)) (starts m) h (start-listed s f))
  not-given-listed (uneven {ks = ks} {n = n} h f) = at-site h (when-in _ _ (false-not _ (ne_eqb (length ks) n f)))
