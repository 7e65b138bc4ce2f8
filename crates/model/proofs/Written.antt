-- In the resolved model a sum's definition is the number of the definition whose text holds it, continuations and groups included (02, note 6): every
-- number is that of a sum of the text, and the text of one definition holds it. From where the sums stand.
use mathlib.Core.Path.{◌≡◌, sym, ap, subst, ◌∙◌}
use mathlib.Core.List.{List}
use mathlib.Core.Option.{some}
use Prim.Native.Nat.{ℕ, ◌<◌}
use lib.ListN.{length, get_elem?}
use Rattle.grammar.specs.Grammar as derived
use Rattle.grammar.specs.Syntax
use Rattle.grammar.specs.Syntax.{syntax_of}
use Rattle.model.specs.Sites.{Scope, variables, definitions}
use Rattle.model.specs.Resolved
use Rattle.model.specs.Resolved.{sum_number, channel_names, resolve_branches, resolved}
use Rattle.model.specs.Stands.{SumIn, WrittenIn, own, following}
use Rattle.model.specs.Sums.{SumIs}
use Rattle.model.proofs.Members.{got-below}
use Rattle.model.proofs.Numbered.{numbered}
use Rattle.model.proofs.Located.{located-in, located-sum, in-definition}
use Rattle.model.proofs.Ordered.{every-number, as_many}

-- its number is that of a definition
pub below-definitions : (m : Syntax.Model) {n : ℕ} {s : Syntax.Sum} → WrittenIn m n s → n < length (definitions m)
below-definitions m {n} (own e i) = got-below (definitions m) n e
below-definitions m (following h i k) = below-definitions m h

module _ (w : ℕ → List ℕ) (m : derived.Model) where
  abbrev model : Resolved.Model
  model = resolved w (syntax_of m)

  -- a sum that the text of definition n holds has n for its definition
  pub definition-is : {n : ℕ} {s : Syntax.Sum} → WrittenIn (syntax_of m) n s → (x : Resolved.Sum) × (get_elem? model.sums (sum_number s) ≡ some x) × (x.definition ≡ n)
  unfolding resolved
  definition-is h = located-in w (variables (syntax_of m)) (definitions (syntax_of m)) (channel_names w (variables (syntax_of m)) (definitions (syntax_of m))) (syntax_of m) (numbered m) h

  -- so no other definition's text holds it
  pub one-definition : {n k : ℕ} {s : Syntax.Sum} → WrittenIn (syntax_of m) n s → WrittenIn (syntax_of m) k s → n ≡ k
  one-definition h g =
      let a = definition-is h in
      let b = definition-is g in
      let e : a.0 ≡ b.0 = cc (a.1, b.1) in
      sym a.2 ∙ ap (λ (x : Resolved.Sum). x.definition) e ∙ b.2

  -- every sum of the model is one of the text, and its definition's text holds it
  pub held_by : (k : ℕ) (x : Resolved.Sum) → get_elem? model.sums k ≡ some x → (s : Syntax.Sum) × (sum_number s ≡ k) × WrittenIn (syntax_of m) x.definition s
  held_by k x e =
      let l = got-below model.sums k e in
      let f = every-number m k (subst (λ (n : ℕ). k < n) (as_many m w) l) in
      let i = in-definition w (variables (syntax_of m)) (definitions (syntax_of m)) (channel_names w (variables (syntax_of m)) (definitions (syntax_of m))) (syntax_of m) (numbered m) f.2 in
      let d = definition-is i.1 in
      let q : d.0 ≡ x = cc (d.1, f.3, e) in
      (f.1, f.3, subst (λ (n : ℕ). WrittenIn (syntax_of m) n f.1) (sym d.2 ∙ ap (λ (y : Resolved.Sum). y.definition) q) i.1)

  -- sum number k of the model is the text's sum k, branches included, in its scope, with its definition
  pub sum_is : (k : ℕ) (x : Resolved.Sum) → get_elem? model.sums k ≡ some x → SumIs w (syntax_of m) k x
  unfolding resolved sum_number
  sum_is k x e =
      let l = got-below model.sums k e in
      let f = every-number m k (subst (λ (n : ℕ). k < n) (as_many m w) l) in
      by f.0 f.1 f.2 f.3
    where
      by : (sc : Scope) (s : Syntax.Sum) → SumIn (syntax_of m) sc s → sum_number s ≡ k → SumIs w (syntax_of m) k x
      by sc (Syntax.sum j b) h q =
          let g : SumIn (syntax_of m) sc (Syntax.sum k b) = subst (λ (n : ℕ). SumIn (syntax_of m) sc (Syntax.sum n b)) q h in
          let p = located-sum w (variables (syntax_of m)) (definitions (syntax_of m)) (channel_names w (variables (syntax_of m)) (definitions (syntax_of m))) (syntax_of m) (numbered m) g in
          let d : record { locals = length sc; definition = p.0; branches = resolve_branches w (variables (syntax_of m)) (definitions (syntax_of m)) (channel_names w (variables (syntax_of m)) (definitions (syntax_of m))) sc b } ≡ x = cc (p.2, e) in
          record {
            scope = sc;
            tree = b;
            stands = g;
            written = subst (λ (n : ℕ). WrittenIn (syntax_of m) n (Syntax.sum k b)) (ap (λ (y : Resolved.Sum). y.definition) d) p.1;
            locals = ap (λ (y : Resolved.Sum). y.locals) (sym d);
            branches = ap (λ (y : Resolved.Sum). y.branches) (sym d);
          }
