-- Fresh.antt lists the names that are not new: those that a name before them has. From the law that equal runs of bytes are the same; by
-- induction on the lists.
use mathlib.Core.Path.{◌≡◌, sym, ap, ◌∙◌}
use mathlib.Core.List.Memᴰ.{append_cases}
use mathlib.Core.List.Memᴰ.{append_left as left}
use mathlib.Core.List.Memᴰ.{append_right as right}
use mathlib.Core.List.Memᴰ.{not-nil as nowhere}
use mathlib.Core.List.{List, [], ◌∷◌, ◌++◌, append_assoc, append-nil, Memᴰ as In}
use mathlib.Core.Bool.{true}
use mathlib.Core.Logic.{◌⊎◌, inl, inr}
use Prim.Native.Nat.{ℕ}
use Rattle.token.proofs.Words.{same-is, is_same_lem}
use Rattle.grammar.specs.Syntax
use Rattle.model.specs.Lists.{each, when, any}
use Rattle.model.specs.Sites.{Scope, Site, whole, value, scale, bound, branch, call, variables, definitions, names, titles, over_sites}
use Rattle.model.specs.Words.{same}
use Rattle.model.specs.Fresh.{repeated, site_repeated, definition_repeated, not_new}
use Rattle.model.specs.Stands.{SiteIn}
use Rattle.model.specs.Faults.{parameters, received, Again, NotNew, variable, definition, local}
use Rattle.model.proofs.Members.{in-each, each_in, in-when, when-in, any-in, in-any}
use Rattle.model.proofs.Sited.{over-in, in-over}

module _ (w : ℕ → List ℕ) where
  -- ---- two names are the same where their bytes are equal

  pub same_bytes_lem : (j k : ℕ) → same w j k ≡ true → w j ≡ w k
  unfolding same
  same_bytes_lem j k e = same-is (w j) (w k) e

  pub bytes_same : (j k : ℕ) → w j ≡ w k → same w j k ≡ true
  unfolding same
  bytes_same j k e = rw e (is_same_lem (w k))

  -- ---- a list of names

  in-repeated : {k : ℕ} (known ks : List ℕ) → In k (repeated w known ks) → Again w known ks k
  unfolding repeated
  in-repeated known [] i = absurd (nowhere i)
  in-repeated {k} known (j ∷ ks) i = by (λ (l : In k (repeated w (known ++ j ∷ []) ks)). in-repeated (known ++ j ∷ []) ks l) (append_cases _ i)
    where
      by : (In k (repeated w (known ++ j ∷ []) ks) → Again w (known ++ j ∷ []) ks k) → In k (when (any (same w j) known) j) ⊎ In k (repeated w (known ++ j ∷ []) ks) → Again w known (j ∷ ks) k
      by r (inl l) =
          let t = in-when (any (same w j) known) j l in
          let s = any-in (same w j) known t.0 in
          record {
            before = [];
            after = ks;
            list = ap (λ (x : ℕ). x ∷ ks) (sym t.1);
            first = s.0;
            earlier = left [] s.1;
            same = sym (same_bytes_lem j s.0 s.2) ∙ ap w (sym t.1);
          }
      by r (inr l) =
          let a = r l in
          record {
            before = j ∷ a.before;
            after = a.after;
            list = ap (λ (xs : List ℕ). j ∷ xs) a.list;
            first = a.first;
            earlier = rw (append_assoc known (j ∷ []) a.before) at a.earlier;
            same = a.same;
          }

  repeats-at : {first k : ℕ} (known before after : List ℕ) → In first (known ++ before) → w first ≡ w k → In k (repeated w known (before ++ k ∷ after))
  unfolding repeated
  repeats-at {first} {k} known [] after i e =
      left _ (when-in (any (same w k) known) k (in-any (same w k) known (rw (append-nil known) at i) (bytes_same k first (sym e))))
  repeats-at known (j ∷ before) after i e =
      right (when (any (same w j) known) j) (repeats-at (known ++ j ∷ []) before after (rw (append_assoc known (j ∷ []) before) i) e)

  again-in : {k : ℕ} (known ks : List ℕ) → Again w known ks k → In k (repeated w known ks)
  again-in known ks a = rw a.list (repeats-at known a.before a.after a.earlier a.same)

  -- ---- question 8

  module _ (m : Syntax.Model) where
    abbrev vars : List ℕ
    vars = names (variables m)

    site-again : {k : ℕ} (sc : Scope) (x : Site) → SiteIn w m sc x → In k (site_repeated w vars sc x) → NotNew w m k
    unfolding site_repeated
    site-again sc (whole b j) h i = absurd (nowhere i)
    site-again sc (value j) h i = absurd (nowhere i)
    site-again sc (scale j) h i = absurd (nowhere i)
    site-again sc (bound ks n) h i = local (received h) (in-repeated (vars ++ sc) ks i)
    site-again sc (branch p j) h i = absurd (nowhere i)
    site-again sc (call j n) h i = absurd (nowhere i)

    -- a token that is listed is not new
    pub listed-not-new : {k : ℕ} → In k (not_new w m) → NotNew w m k
    unfolding not_new definition_repeated
    listed-not-new {k} i = by (append_cases (repeated w [] vars ++ repeated w [] (titles (definitions m))) i)
      where
        names-again : In k (repeated w [] vars) ⊎ In k (repeated w [] (titles (definitions m))) → NotNew w m k
        names-again (inl l) = variable (in-repeated [] vars l)
        names-again (inr l) = definition (in-repeated [] (titles (definitions m)) l)

        locals-again : In k (each (definition_repeated w vars) (definitions m)) ⊎ In k (over_sites w (site_repeated w vars) m) → NotNew w m k
        locals-again (inl l) = let d = in-each (definition_repeated w vars) (definitions m) l in local (parameters d.1) (rw (append-nil vars) (in-repeated vars d.0.params d.2))
        locals-again (inr l) = let s = in-over w m (site_repeated w vars) l in site-again s.0.scope s.0.site s.1 s.2

        by : In k (repeated w [] vars ++ repeated w [] (titles (definitions m))) ⊎ In k (each (definition_repeated w vars) (definitions m) ++ over_sites w (site_repeated w vars) m) → NotNew w m k
        by (inl l) = names-again (append_cases (repeated w [] vars) l)
        by (inr l) = locals-again (append_cases (each (definition_repeated w vars) (definitions m)) l)

    -- the variables and definitions among them
    abbrev named : List ℕ
    named = repeated w [] vars ++ repeated w [] (titles (definitions m))

    -- a token that is not new is listed
    pub not-new-listed : {k : ℕ} → NotNew w m k → In k (not_new w m)
    unfolding not_new definition_repeated site_repeated
    not-new-listed (variable a) = left _ (left _ (again-in [] vars a))
    not-new-listed (definition a) = left _ (right (repeated w [] vars) (again-in [] (titles (definitions m)) a))
    not-new-listed (local (parameters {d = d} i) a) =
        right named (left _ (each_in (definition_repeated w vars) (definitions m) i (again-in vars d.params (rw (append-nil vars) at a))))
    not-new-listed (local (received {sc = sc} {ks = ks} h) a) =
        right named (right (each (definition_repeated w vars) (definitions m)) (over-in w m (site_repeated w vars) h (again-in (vars ++ sc) ks a)))
