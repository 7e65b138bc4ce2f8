-- The tokens that Unsteady.antt lists are those that offend, and 29's place is the first of them. By induction on the tree one way, on where a sum stands the other
-- way; where all names are new, as question 8 has asked.
use mathlib.Core.Path.{◌≡◌, refl, sym, subst, ◌∙◌}
use mathlib.Core.List.Memᴰ.{append_cases}
use mathlib.Core.List.Memᴰ.{append_left as left}
use mathlib.Core.List.Memᴰ.{append_right as right}
use mathlib.Core.List.Memᴰ.{cases_cons as cases}
use mathlib.Core.List.Memᴰ.{head}
use mathlib.Core.List.Memᴰ.{not-nil as nowhere}
use mathlib.Core.List.Memᴰ.{tail}
use mathlib.Core.List.{List, ◌++◌, Memᴰ as In}
use mathlib.Core.Bool.{true, false}
use mathlib.Core.Option.{Option, Option-elim}
use mathlib.Core.Logic.{⊎_elim}
use Prim.Native.Nat.{ℕ, ◌<◌}
use borrow.Author.Tests.{ltb-true, lt-ltb}
use lib.ListN.{length}
use Rattle.std.specs.Prelude.{None, Some}
use Rattle.token.specs.Questions.{First, Found}
use Rattle.grammar.specs.Syntax
use Rattle.model.specs.Lists.{when, least}
use Rattle.model.specs.Sites.{Scope, bindings, Definition, definitions, titles}
use Rattle.model.specs.Stands.{branches_of, branches_in, items_of, sums_of, Holds, itself, grouped, SumIn, defined, continued}
use Rattle.model.specs.Faults.{NotNew}
use Rattle.model.specs.Faults as faults
use Rattle.model.proofs.Least.{least_first}
use Rattle.model.proofs.Members.{not-both, in-each, each_in, in-when, when-in, got_in}
use Rattle.model.proofs.Meanings.{only_one, Defines, found, absent, defines}
use Rattle.profile.specs.Unsteady.{Follows, Offends, grouping, calling, several, several_sums, branch_unsteady, next_unsteady, branches_unsteady, sum_unsteady, cont_unsteady, conts_unsteady, sums_unsteady, unsteady}

module _ {A : Type 0} (xs : List A) where
  pub is-several : several xs ≡ true → 1 < length xs
  unfolding several
  is-several e = ltb-true 1 (length xs) e

  pub several-is : 1 < length xs → several xs ≡ true
  unfolding several
  several-is h = lt-ltb 1 (length xs) h

module _ (w : ℕ → List ℕ) (m : Syntax.Model) where
  abbrev ds : List Definition
  ds = definitions m

  -- ---- calls

  -- a name whose definition has several sums
  called-by : (k : ℕ) (o : Option (ℕ × Definition)) → Defines w k ds 0 o → Option-elim o false (λ d. several (sums_of d.1.sums)) ≡ true → (d : Definition) × In d ds × (w k ≡ w d.name) × (1 < length (sums_of d.sums))
  unfolding Option-elim
  called-by k o (found {d = d} q g e) s = (d, got_in ds q g, e, is-several (sums_of d.sums) s)
  called-by k o (absent h) s = not-both s refl

  calls-several : (k : ℕ) → several_sums w ds k ≡ true → (d : Definition) × In d ds × (w k ≡ w d.name) × (1 < length (sums_of d.sums))
  unfolding several_sums
  calls-several k e = called-by k _ (defines w k 0 ds) e

  -- ---- what is listed, offends

  module _ {q : ℕ} where
    call-lists : (k : ℕ) (es : Syntax.Args) → Follows m (Syntax.call k es) → In q (when (several_sums w ds k) k) → Offends w m q
    call-lists k es f i =
        let t = in-when _ k i in
        let d = calls-several k t.0 in
        subst (λ (z : ℕ). Offends w m z) (sym t.1) (calling f d.1 d.2 d.3)

    group-lists : (k : ℕ) (cs : Syntax.Conts) → Follows m (Syntax.group k cs) → In q (when (several (items_of cs)) k) → Offends w m q
    group-lists k cs f i =
        let t = in-when _ k i in
        subst (λ (z : ℕ). Offends w m z) (sym t.1) (grouping f (is-several (items_of cs) t.0))

    mutual
      unfolding branch_unsteady next_unsteady branches_unsteady sum_unsteady cont_unsteady conts_unsteady branches_of branches_in items_of

      branch-lists : (b : Syntax.Branch) (sc : Scope) (s : Syntax.Sum) → SumIn m sc s → In b (branches_in s) → In q (branch_unsteady w ds b) → Offends w m q
      branch-lists (Syntax.branch k g a r n) sc s h i l = next-lists n sc s k g a r h i l

      next-lists : (n : Syntax.Next) (sc : Scope) (s : Syntax.Sum) (k : ℕ) (g : Syntax.Gate) (a : Syntax.Action) (r : Syntax.Rate) → SumIn m sc s → In (Syntax.branch k g a r n) (branches_in s) → In q (next_unsteady w ds n) → Offends w m q
      next-lists Syntax.stop sc s k g a r h i l = absurd (nowhere l)
      next-lists (Syntax.dot c) sc s k g a r h i l =
          cont-lists c (sc ++ bindings a) (λ t y. continued h i y)
          (λ x y. record { scope = sc; sum = s; stands = h; first = k; gate = g; action = a; rate = r; cont = c; branch = i; held = y }) l

      branches-list : (b : Syntax.Branches) (sc : Scope) (s : Syntax.Sum) → SumIn m sc s → ((x : Syntax.Branch) → In x (branches_of b) → In x (branches_in s)) → In q (branches_unsteady w ds b) → Offends w m q
      branches-list (Syntax.last_branch b) sc s h f l = branch-lists b sc s h (f b (head refl)) l
      branches-list (Syntax.next_branch b r) sc s h f l =
          ⊎_elim (λ (i : In q (branch_unsteady w ds b)). branch-lists b sc s h (f b (head refl)) i)
          (λ (i : In q (branches_unsteady w ds r)). branches-list r sc s h (λ x j. f x (tail j)) i) (append_cases _ l)

      sum-lists : (s : Syntax.Sum) (sc : Scope) → SumIn m sc s → In q (sum_unsteady w ds s) → Offends w m q
      sum-lists (Syntax.sum n b) sc h l = branches-list b sc (Syntax.sum n b) h (λ x i. i) l

      cont-lists : (c : Syntax.Cont) (sc : Scope) → ((t : Syntax.Sum) → Holds (Syntax.proceed t) c → SumIn m sc t) → ((x : Syntax.Cont) → Holds x c → Follows m x) → In q (cont_unsteady w ds c) → Offends w m q
      cont-lists (Syntax.proceed s) sc f g l = sum-lists s sc (f s (itself refl)) l
      cont-lists (Syntax.call k es) sc f g l = call-lists k es (g (Syntax.call k es) (itself refl)) l
      cont-lists (Syntax.group k cs) sc f g l =
          ⊎_elim (λ (i : In q (when (several (items_of cs)) k)). group-lists k cs (g (Syntax.group k cs) (itself refl)) i)
          (λ (i : In q (conts_unsteady w ds cs)). conts-list cs sc (λ c j t y. f t (grouped j y)) (λ c j x y. g x (grouped j y)) i) (append_cases _ l)

      conts-list : (cs : Syntax.Conts) (sc : Scope) → ((c : Syntax.Cont) → In c (items_of cs) → (t : Syntax.Sum) → Holds (Syntax.proceed t) c → SumIn m sc t) → ((c : Syntax.Cont) → In c (items_of cs) → (x : Syntax.Cont) → Holds x c → Follows m x) → In q (conts_unsteady w ds cs) → Offends w m q
      conts-list (Syntax.last_cont c) sc f g l = cont-lists c sc (f c (head refl)) (g c (head refl)) l
      conts-list (Syntax.next_cont c r) sc f g l =
          ⊎_elim (λ (i : In q (cont_unsteady w ds c)). cont-lists c sc (f c (head refl)) (g c (head refl)) i)
          (λ (i : In q (conts_unsteady w ds r)). conts-list r sc (λ x j. f x (tail j)) (λ x j. g x (tail j)) i) (append_cases _ l)

    sums-list : (ss : Syntax.Sums) (sc : Scope) → ((s : Syntax.Sum) → In s (sums_of ss) → SumIn m sc s) → In q (sums_unsteady w ds ss) → Offends w m q
    unfolding sums_unsteady sums_of
    sums-list (Syntax.last_sum s) sc f l = sum-lists s sc (f s (head refl)) l
    sums-list (Syntax.next_sum s r) sc f l =
        ⊎_elim (λ (i : In q (sum_unsteady w ds s)). sum-lists s sc (f s (head refl)) i)
        (λ (i : In q (sums_unsteady w ds r)). sums-list r sc (λ x j. f x (tail j)) i) (append_cases _ l)

    -- a token that is listed offends
    pub listed-offends : In q (unsteady w m) → Offends w m q
    unfolding unsteady
    listed-offends i = let d = in-each (λ d. sums_unsteady w ds d.sums) ds i in sums-list d.0.sums d.0.params (λ s j. defined d.1 j) d.2

  -- ---- what offends, is listed

  module _ {q : ℕ} where
    in-branches : {b : Syntax.Branch} (bs : Syntax.Branches) → In b (branches_of bs) → In q (branch_unsteady w ds b) → In q (branches_unsteady w ds bs)
    unfolding branches_unsteady branches_of
    in-branches {b} (Syntax.last_branch c) i l = ⊎_elim (λ (e : b ≡ c). rw e at l) (λ j. absurd (nowhere j)) (cases i)
    in-branches {b} (Syntax.next_branch c r) i l =
        ⊎_elim (λ (e : b ≡ c). left (branches_unsteady w ds r) (rw e at l)) (λ (j : In b (branches_of r)). right (branch_unsteady w ds c) (in-branches r j l)) (cases i)

    in_sum : {b : Syntax.Branch} (s : Syntax.Sum) → In b (branches_in s) → In q (branch_unsteady w ds b) → In q (sum_unsteady w ds s)
    unfolding sum_unsteady branches_in
    in_sum (Syntax.sum n b) i l = in-branches b i l

    in-conts : {c : Syntax.Cont} (cs : Syntax.Conts) → In c (items_of cs) → In q (cont_unsteady w ds c) → In q (conts_unsteady w ds cs)
    unfolding conts_unsteady items_of
    in-conts {c} (Syntax.last_cont x) i l = ⊎_elim (λ (e : c ≡ x). rw e at l) (λ j. absurd (nowhere j)) (cases i)
    in-conts {c} (Syntax.next_cont x r) i l =
        ⊎_elim (λ (e : c ≡ x). left (conts_unsteady w ds r) (rw e at l)) (λ (j : In c (items_of r)). right (cont_unsteady w ds x) (in-conts r j l)) (cases i)

    in-cont : {x c : Syntax.Cont} → Holds x c → In q (cont_unsteady w ds x) → In q (cont_unsteady w ds c)
    unfolding cont_unsteady
    in-cont (itself e) l = rw e l
    in-cont (grouped {k = k} {cs = cs} i h) l = right (when (several (items_of cs)) k) (in-conts cs i (in-cont h l))

    in-sums : {s : Syntax.Sum} (ss : Syntax.Sums) → In s (sums_of ss) → In q (sum_unsteady w ds s) → In q (sums_unsteady w ds ss)
    unfolding sums_unsteady sums_of
    in-sums {s} (Syntax.last_sum x) i l = ⊎_elim (λ (e : s ≡ x). rw e at l) (λ j. absurd (nowhere j)) (cases i)
    in-sums {s} (Syntax.next_sum x r) i l =
        ⊎_elim (λ (e : s ≡ x). left (sums_unsteady w ds r) (rw e at l)) (λ (j : In s (sums_of r)). right (sum_unsteady w ds x) (in-sums r j l)) (cases i)

    in-next : {x c : Syntax.Cont} (k : ℕ) (g : Syntax.Gate) (a : Syntax.Action) (r : Syntax.Rate) → Holds x c → In q (cont_unsteady w ds x) → In q (branch_unsteady w ds (Syntax.branch k g a r (Syntax.dot c)))
    unfolding branch_unsteady next_unsteady
    in-next k g a r h l = in-cont h l

    sum-listed : {sc : Scope} {s : Syntax.Sum} → SumIn m sc s → In q (sum_unsteady w ds s) → In q (unsteady w m)
    unfolding unsteady cont_unsteady
    sum-listed (defined {d = d} i j) l = each_in (λ d. sums_unsteady w ds d.sums) ds i (in-sums d.sums j l)
    sum-listed (continued {s = s} {k = k} {g = g} {a = a} {r = r} h i y) l = sum-listed h (in_sum s i (in-next k g a r y l))

    follows-listed : {x : Syntax.Cont} → Follows m x → In q (cont_unsteady w ds x) → In q (unsteady w m)
    follows-listed f l = sum-listed f.stands (in_sum f.sum f.branch (in-next f.first f.gate f.action f.rate f.held l))

  module _ (new : (k : ℕ) → NotNew w m k → ⊥) where
    one-definition : {d e : Definition} → In d ds → In e ds → w d.name ≡ w e.name → d ≡ e
    unfolding titles
    one-definition i j e = only_one w (λ d. d.name) ds (λ k a. new k (faults.definition a)) i j e

    by_name : (k : ℕ) (o : Option (ℕ × Definition)) → Defines w k ds 0 o → {d : Definition} → In d ds → w k ≡ w d.name → 1 < length (sums_of d.sums) → Option-elim o false (λ d. several (sums_of d.1.sums)) ≡ true
    unfolding Option-elim
    by_name k o (found {d = x} q g e) {d} i f s =
        let z : d ≡ x = one-definition i (got_in ds q g) (sym f ∙ e) in
        several-is (sums_of x.sums) (subst (λ (y : Definition). 1 < length (sums_of y.sums)) z s)
    by_name k o (absent h) {d} i f s = absurd (h d i f)

    -- a token that offends is listed
    pub offends-listed : {k : ℕ} → Offends w m k → In k (unsteady w m)
    unfolding cont_unsteady several_sums
    offends-listed (grouping {k = k} {cs = cs} f h) = follows-listed f (left (conts_unsteady w ds cs) (when-in _ k (several-is (items_of cs) h)))
    offends-listed (calling {k = k} f i e h) = follows-listed f (when-in _ k (by_name k _ (defines w k 0 ds) i e h))

    -- 02, note 11: 29's place is an offender's, and none before it is one
    pub offends-first : First (Offends w m) (least (unsteady w m))
    offends-first = by (least (unsteady w m)) (least_first (unsteady w m))
      where
        by : (f : Found) → First (λ k. In k (unsteady w m)) f → First (Offends w m) f
        by (Some k) h = (listed-offends h.0, λ q l b. h.1 q l (offends-listed b))
        by None h = λ q b. h q (offends-listed b)
