-- The rows of a continuation, by the kind of its node. From what stands there and the laws of rows.
use mathlib.Core.Path.{◌≡◌, refl, sym, ap, ap₂, subst, ◌∙◌}
use mathlib.Core.List.{List, [], ◌∷◌, ◌++◌, map, append-nil}
use mathlib.Core.Option.{some, Option-elim}
use Prim.Native.Nat.{ℕ, ◌+◌, ◌-◌, ◌*◌, ◌≤◌, ◌<◌}
use native.Mathlib.Omega.{arith}
use lib.IntN.{ℤ, pos}
use lib.ListN.{length, get_or, get_elem?, take, replicate, length-append, length-map}
use lib.Seq.{sets}
use Rattle.value.specs.Range.{InRange}
use Rattle.tree.specs.Node.{kind_of, token_of, left_of, third_of}
use Rattle.model.specs.Limits.{local_limit}
use Rattle.model.specs.Resolved
use Rattle.model.specs.Scope.{definition_in}
use Rattle.model.proofs.Scope.{definition-in}
use Rattle.rules.proofs.Inside.{nth_inside}
use Rattle.machine.specs.Evaluate.{eval_expr}
use Rattle.tables.specs.Settled as Settled
use Rattle.tables.specs.Settled.{Called, Parts, entered, called-bare, called, grouped, items}
use Rattle.tables.specs.Represents.{Sums}
use Rattle.model.specs.Good.{Every, GoodPart, GoodDefined, GoodSum, GoodModel, SumWith}
use Rattle.machine.specs.Offer as machine
use Rattle.machine.specs.Offer.{Process, part_processes, next_processes}
use Rattle.machine.specs.State.{GoodProcess, process_width}
use Rattle.machine.proofs.Branches.{get_nth}
use Rattle.machine.proofs.Everys.{every-nth}
use Rattle.machine.proofs.Continues.{next-good}
use Rattle.eval.specs.Next as become
use Rattle.eval.specs.Next.{arguments, Scoped, SumsFit, CallFits, Continues, Rows, Spaced}
use Rattle.eval.proofs.Continuations.{next-append, group-continues, items-continue, sum-part, call-part, body}
use Rattle.eval.proofs.Rows.{Few, filled, rows_then}

-- ---- few locals
sum-few : (m : Resolved.Model) → GoodModel m → (n k : ℕ) → SumWith m n k → n ≤ local_limit
sum-few m g n k s = omega (arith, (every-nth (GoodSum m) g.sums (get_nth m.sums k s.exists)).few, s.scope)

pub processes-few : (m : Resolved.Model) → GoodModel m → (ps : List Process) → Every (GoodProcess m) ps → Few ps
unfolding Every
processes-few m g [] h = tt
processes-few m g (p ∷ ps) h = (sum-few m g (length p.locals) p.sum h.0.sum, processes-few m g ps h.1)

-- a definition with sums has few parameters
defined-few : (m : Resolved.Model) → GoodModel m → (t : List ℕ) (k d : ℕ) (e : Resolved.Defined) → get_elem? m.definitions d ≡ some e → Sums t e.sums k → e.params ≤ local_limit
unfolding Sums Every
defined-few m g t k d e x s = go e.sums s (every-nth (GoodDefined m) g.definitions (get_nth m.definitions d x)).sums
  where
    go : (ns : List ℕ) → Sums t ns k → Every (SumWith m e.params) ns → e.params ≤ local_limit
    go [] a h = absurd a
    go (n ∷ ns) a h = sum-few m g e.params n h.0

-- ---- what is known of a sum
module _ (m : Resolved.Model) (good : GoodModel m) (scopes : List ℕ) (c : Scoped scopes m) where
  sum_below : (l n : ℕ) → SumWith m l n → n < length scopes
  sum_below l n s = omega (arith, nth_inside (get_nth m.sums n s.exists), c.fit)

  sum-known : (l n : ℕ) → SumWith m l n → (vs : List ℤ) → machine.process_at m n vs ≡ become.known scopes n vs
  unfolding machine.process_at machine.definition_of become.known Option-elim
  sum-known l n s vs =
      let few = (every-nth (GoodSum m) good.sums (get_nth m.sums n s.exists)).few in
      let e : definition_in (get_or scopes n 0) ≡ s.sum.definition = ap definition_in (c.are n s.sum s.exists) ∙ definition-in s.sum few in
      rw (s.exists, e)

  pub sums-below : (l : ℕ) (ns : List ℕ) → Every (SumWith m l) ns → Every (λ (n : ℕ). n < length scopes) ns
  unfolding Every
  sums-below l [] h = tt
  sums-below l (n ∷ ns) h = (sum_below l n h.0, sums-below l ns h.1)

  pub sums-known : (l : ℕ) (ns : List ℕ) → Every (SumWith m l) ns → (vs : List ℤ) → map (λ (n : ℕ). machine.process_at m n vs) ns ≡ become.entered scopes ns vs
  unfolding Every become.entered
  sums-known l [] h vs = refl
  sums-known l (n ∷ ns) h vs = ap₂ (λ (p : Process) (ps : List Process). p ∷ ps) (sum-known l n h.0 vs) (sums-known l ns h.1 vs)

  defined-sums : (d : ℕ) (e : Resolved.Defined) → get_elem? m.definitions d ≡ some e → Every (SumWith m e.params) e.sums
  defined-sums d e x = (every-nth (GoodDefined m) good.definitions (get_nth m.definitions d x)).sums

  -- ---- what a call becomes
  call_next : (ls : List ℤ) (d : ℕ) (es : List Resolved.Expr) (e : Resolved.Defined) → get_elem? m.definitions d ≡ some e
      → next_processes m ls (Resolved.call d es ∷ []) ≡ become.entered scopes e.sums (arguments ls es)
  unfolding next_processes part_processes machine.called Option-elim arguments
  call_next ls d es e x = rw x (append-nil _ ∙ sums-known e.params e.sums (defined-sums d e x) (map (λ (f : Resolved.Expr). machine.or_zero (eval_expr ls f)) es))

module _ (t : List ℕ) (root variables : ℕ) (ls : List ℤ) (good : Every InRange ls) (scopes : List ℕ) where
  pub few-next : (m : Resolved.Model) (ps : List Resolved.Part) (k : ℕ) → Continues t root variables (length ls) m ps k → Few (next_processes m ls ps)
  few-next m ps k s = processes-few m s.good (next_processes m ls ps) (next-good m s.good ls good ps s.fit)

  -- f becomes g, and the next row is r, whatever continuation stands at k
  abbrev pub Puts : ℕ → List ℤ → ℕ → List ℤ → ℕ → Type 0
  Puts k f at g r = (m : Resolved.Model) (ps : List Resolved.Part) → Continues t root variables (length ls) m ps k → Scoped scopes m → Rows f at (next_processes m ls ps) g r

  module _ (k kind : ℕ) (is : kind ≡ kind_of (get_or t k 0)) (size at : ℕ) where
    -- a group
    module _ (h : kind ≡ 53) where
      pub group-puts : (f g : List ℤ) (r : ℕ) → Puts (k - 1) f at g r → Puts k f at g r
      group-puts f g r w m ps s c = w m ps (group-continues t root variables (length ls) m ps k s (sym is ∙ h)).1 c

    -- items
    module _ (h : kind ≡ 54) where
      pub first-spaced : Spaced t scopes root variables ls k size at → (1 ≤ k) × (left_of (get_or t k 0) < k) × Spaced t scopes root variables ls (left_of (get_or t k 0)) size at
      first-spaced s =
          let b = items-continue t root variables (length ls) s.model s.parts k s.holds (sym is ∙ h) in
          let xs = next_processes s.model ls b.split.first in
          let ys = next_processes s.model ls b.split.second in
          let e : length (next_processes s.model ls s.parts) ≡ length xs + length ys = ap (λ (z : List Resolved.Part). length (next_processes s.model ls z)) b.split.is ∙ (ap length (next-append s.model ls b.split.first b.split.second) ∙ length-append xs ys) in
          (b.split.above, b.split.below, record { model = s.model; scoped = s.scoped; parts = b.split.first; holds = b.first; fits = omega (arith, s.fits) })

      pub second-spaced : (f g : List ℤ) (r : ℕ) → Spaced t scopes root variables ls k size at → Puts (left_of (get_or t k 0)) f at g r → Spaced t scopes root variables ls (k - 1) size r
      second-spaced f g r s w =
          let b = items-continue t root variables (length ls) s.model s.parts k s.holds (sym is ∙ h) in
          let xs = next_processes s.model ls b.split.first in
          let ys = next_processes s.model ls b.split.second in
          let e : length (next_processes s.model ls s.parts) ≡ length xs + length ys = ap (λ (z : List Resolved.Part). length (next_processes s.model ls z)) b.split.is ∙ (ap length (next-append s.model ls b.split.first b.split.second) ∙ length-append xs ys) in
          let q = (w s.model b.split.first b.first s.scoped).next in
          record { model = s.model; scoped = s.scoped; parts = b.split.second; holds = b.second; fits = omega (arith, s.fits) }

      pub items-put : (f g b : List ℤ) (n r : ℕ) → Puts (left_of (get_or t k 0)) f at g n → Puts (k - 1) g n b r → Puts k f at b r
      items-put f g b n r v w m ps s c =
          let x = items-continue t root variables (length ls) m ps k s (sym is ∙ h) in
          let xs = x.split.first in
          let ys = x.split.second in
          let e : next_processes m ls ps ≡ next_processes m ls xs ++ next_processes m ls ys = ap (next_processes m ls) x.split.is ∙ next-append m ls xs ys in
          subst (λ (z : List Process). Rows f at z b r) (sym e)
          (rows_then f g b at n r (next_processes m ls xs) (next_processes m ls ys) (few-next m xs (left_of (get_or t k 0)) x.first) (v m xs x.first c) (w m ys x.second c))

    -- a sum
    module _ (h : kind ≡ 49) where
      -- and it has few locals
      pub entered-few : Spaced t scopes root variables ls k size at → length ls ≤ local_limit
      unfolding Every GoodPart
      entered-few s =
          let e = (sum-part t s.parts k (sym is ∙ h) s.holds.at).is in
          let w = (subst (Every (GoodPart s.model (length ls))) e s.holds.fit).0 in
          sum-few s.model s.holds.good (length ls) (token_of (get_or t k 0)) w

      pub sum-spaced : Spaced t scopes root variables ls k size at → (at + 1) * process_width ≤ size
      unfolding next_processes part_processes
      sum-spaced s =
          let e = ap (λ (z : List Resolved.Part). length (next_processes s.model ls z)) (sum-part t s.parts k (sym is ∙ h) s.holds.at).is in
          omega (arith, s.fits, e)

      entered-with : (m : Resolved.Model) (ps : List Resolved.Part) → Continues t root variables (length ls) m ps k → SumWith m (length ls) (token_of (get_or t k 0))
      unfolding Every GoodPart
      entered-with m ps s = (subst (Every (GoodPart m (length ls))) (sum-part t ps k (sym is ∙ h) s.at).is s.fit).0

      -- its number is one of those that something is known of
      pub entered_below : Spaced t scopes root variables ls k size at → token_of (get_or t k 0) < length scopes
      entered_below s = sum_below s.model s.holds.good scopes s.scoped (length ls) (token_of (get_or t k 0)) (entered-with s.model s.parts s.holds)

      pub sum-puts : (f g : List ℤ) (r : ℕ) → Rows f at (become.known scopes (token_of (get_or t k 0)) ls ∷ []) g r → Puts k f at g r
      unfolding next_processes part_processes
      sum-puts f g r w m ps s c =
          let q = ap (next_processes m ls) (sum-part t ps k (sym is ∙ h) s.at).is in
          let u = sum-known m s.good scopes c (length ls) (token_of (get_or t k 0)) (entered-with m ps s) ls in
          subst (λ (z : List Process). Rows f at z g r) (sym (q ∙ ap (λ (p : Process). p ∷ []) u)) w

    -- a call, of which the sums lie at body
    abbrev pub body_at : ℕ
    body_at = left_of (get_or t (root - variables - token_of (get_or t k 0)) 0) - 1

    pub body-fits : (s : Spaced t scopes root variables ls k size at) (es : List Resolved.Expr) → s.parts ≡ Resolved.call (token_of (get_or t k 0)) es ∷ [] → SumsFit t (length scopes) body_at size at
    unfolding become.entered
    body-fits s es e =
        let b = body t root variables (length ls) s.model s.parts k s.holds es e in
        let q = ap (λ (z : List Resolved.Part). length (next_processes s.model ls z)) e ∙ (ap length (call_next s.model s.holds.good scopes s.scoped ls (token_of (get_or t k 0)) es b.definition b.exists) ∙ length-map b.definition.sums _) in
        let below = sums-below s.model s.holds.good scopes s.scoped b.definition.params b.definition.sums (defined-sums s.model s.holds.good scopes s.scoped (token_of (get_or t k 0)) b.definition b.exists) in
        record { sums = b.definition.sums; holds = b.sums; below = below; fits = omega (arith, s.fits, q) }

    pub call-puts : (f g : List ℤ) (r : ℕ) (m : Resolved.Model) (ps : List Resolved.Part) (s : Continues t root variables (length ls) m ps k) → Scoped scopes m → (es : List Resolved.Expr) → ps ≡ Resolved.call (token_of (get_or t k 0)) es ∷ []
        → ((ns : List ℕ) → Sums t ns body_at → Rows f at (become.entered scopes ns (arguments ls es)) g r) → Rows f at (next_processes m ls ps) g r
    call-puts f g r m ps s c es e w =
        let b = body t root variables (length ls) m ps k s es e in
        let q = ap (next_processes m ls) e ∙ call_next m s.good scopes c ls (token_of (get_or t k 0)) es b.definition b.exists in
        subst (λ (z : List Process). Rows f at z g r) (sym q) (w b.definition.sums b.sums)

    -- without values
    module _ (h : kind ≡ 50) where
      pub bare-call : (ps : List Resolved.Part) (j : ℕ) → kind_of (get_or t j 0) ≡ 50 → Parts t ps j → ps ≡ Resolved.call (token_of (get_or t j 0)) [] ∷ []
      bare-call ps j e (entered i) = absurd (omega (arith, i.kind-is))
      bare-call ps j e (called-bare i) = rw i.index_is
      bare-call ps j e (called c) = absurd (omega (arith, c.call-is.kind-is))
      bare-call ps j e (grouped x p) = absurd (omega arith)
      bare-call ps j e (items x b p r) = absurd (omega arith)

      pub bare-fits : Spaced t scopes root variables ls k size at → SumsFit t (length scopes) body_at size at
      bare-fits s = body-fits s [] (bare-call s.parts k (sym is ∙ h) s.holds.at)

      pub bare-puts : (f g : List ℤ) (r : ℕ) → ((ns : List ℕ) → Sums t ns body_at → Rows f at (become.entered scopes ns []) g r) → Puts k f at g r
      unfolding arguments
      bare-puts f g r w m ps s c = call-puts f g r m ps s c [] (bare-call ps k (sym is ∙ h) s.at) w

    -- with values
    module _ (h : kind ≡ 51) where
      value-call : (ps : List Resolved.Part) → Parts t ps k → (es : List Resolved.Expr) × (ps ≡ Resolved.call (token_of (get_or t k 0)) es ∷ []) × Called t (token_of (get_or t k 0)) es k
      value-call ps a =
          let c = call-part t ps k (sym is ∙ h) a in
          let e : c.definition ≡ token_of (get_or t k 0) = sym c.call.call-is.index_is in
          (c.values, c.is ∙ ap (λ (d : ℕ). Resolved.call d c.values ∷ []) e, subst (λ (d : ℕ). Called t d c.values k) e c.call)

      pub call_fits : Spaced t scopes root variables ls k size at → CallFits t (length scopes) (length ls) k body_at size at
      unfolding Every GoodPart
      call_fits s =
          let v = value-call s.parts s.holds.at in
          let b = body t root variables (length ls) s.model s.parts k s.holds v.0 v.1 in
          let g : Every (GoodPart s.model (length ls)) (Resolved.call (token_of (get_or t k 0)) v.0 ∷ []) = subst (Every (GoodPart s.model (length ls))) v.1 s.holds.fit in
          let l = defined-few s.model s.holds.good t body_at (token_of (get_or t k 0)) b.definition b.exists b.sums in
          record {
            definition = token_of (get_or t k 0);
            values = v.0;
            call = v.2;
            fit = g.0.1;
            few = omega (arith, l, b.params);
            sums = body-fits s v.0 v.1;
          }

      pub value-puts : (f g : List ℤ) (r : ℕ)
          → ((d : ℕ) (es : List Resolved.Expr) (ns : List ℕ) → Called t d es k → Sums t ns body_at → Rows f at (become.entered scopes ns (arguments ls es)) g r) → Puts k f at g r
      value-puts f g r w m ps s c =
          let v = value-call ps s.at in
          call-puts f g r m ps s c v.0 v.1 (λ ns a. w (token_of (get_or t k 0)) v.0 ns v.2 a)

-- ---- the values of a call
module _ (t : List ℕ) (count n k body size at : ℕ) (c : CallFits t count n k body size at) where
  -- what is lent of the array is the values of whatever call stands there
  pub values-are : (ls v : List ℤ) → ((es : List Resolved.Expr) → Settled.Arguments t es (k - 1) → v ≡ sets (replicate local_limit (pos 0)) 0 (arguments ls es))
      → (d : ℕ) (es : List Resolved.Expr) → Called t d es k → take (third_of (get_or t k 0)) v ≡ arguments ls es
  unfolding arguments
  values-are ls v w d es a =
      let e : a.root ≡ k - 1 = omega (arith, a.above) in
      let q = w es (subst (Settled.Arguments t es) e a.holds) in
      let l : length (arguments ls es) ≡ length es = length-map es _ in
      let s : third_of (get_or t k 0) ≡ length (arguments ls es) = a.count-is ∙ sym l in
      rw (q, s) (filled (replicate local_limit (pos 0)) (arguments ls es) (omega (arith, c.few, c.call.count-is)))

-- what is left after the other kinds
pub last-kind : (t : List ℕ) (ps : List Resolved.Part) (k : ℕ) → (kind_of (get_or t k 0) ≡ 53 → ⊥) → (kind_of (get_or t k 0) ≡ 54 → ⊥) → (kind_of (get_or t k 0) ≡ 49 → ⊥) → (kind_of (get_or t k 0) ≡ 50 → ⊥)
    → Parts t ps k → kind_of (get_or t k 0) ≡ 51
last-kind t ps k g i s c (entered j) = absurd (s j.kind-is)
last-kind t ps k g i s c (called-bare j) = absurd (c j.kind-is)
last-kind t ps k g i s c (called d) = d.call-is.kind-is
last-kind t ps k g i s c (grouped e p) = absurd (g e)
last-kind t ps k g i s c (items e b p r) = absurd (i e)
