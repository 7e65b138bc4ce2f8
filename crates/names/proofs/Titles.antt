-- Lists of names, variables' numbers and the whole tree: what each return, and each turn of the loops, needs. From the laws of look-ups and the forms of a tree.
use mathlib.Core.Path.{◌≡◌, refl, sym, ap, ap₂, ◌∙◌, subst}
use mathlib.Core.List.{List, [], ◌∷◌, ◌++◌, append-nil, append_assoc}
use mathlib.Core.Bool.{Bool, true, ◌||◌}
use Prim.Native.Nat.{ℕ, zero, suc, ◌+◌, ◌-◌, ◌≤◌, ◌<◌, min}
use native.Mathlib.Numerals.{add-one}
use native.Mathlib.Omega.{arith}
use lib.ListN.{length, drop, drop_of_length-le}
use lib.Seq.{drop-cons}
use Rattle.std.specs.Prelude.{None, Some, is_some, map}
use Rattle.std.specs.Bool.{then_some}
use Rattle.std.specs.List.{reduce, filter_map, range_with_len}
use mathlib.Core.Logic.{◌⊎◌, inl, inr}
use Rattle.token.specs.Questions.{Found}
use Rattle.grammar.specs.Syntax
use Rattle.tree.specs.Table
use Rattle.model.specs.Lists.{each, when, any, earlier, least}
use Rattle.model.specs.Sites.{Site, Definition, number_sites, names, titles, variables, definitions, definitions_in, system, system_in, starts, starts_in, definition_sites, sites, over_sites}
use Rattle.model.specs.Words.{same}
use Rattle.model.specs.Limits.{local_limit, variable_limit, definition_limit, site_beyond, variable_beyond, definition_beyond, start_beyond, tree_beyond}
use Rattle.model.specs.Fresh.{repeated, definition_repeated, not_new}
use Rattle.model.specs.Given.{place_in, start_wrong, not_given}
use Rattle.names.specs.declared.Question.{Question}
use Rattle.names.specs.declared.Question.TheVariants.{Limits, Fresh, Given}
use Rattle.names.specs.declared.Lists.{Lists}
use Rattle.names.specs.declared.scope.Scope.{Scope}
use Rattle.names.specs.Faults.{earlier_of, asks_names, site_faults, tree_faults}
use Rattle.names.specs.Leaves.{site_at, between}
use Rattle.names.specs.Lists.{packed, found_of, is_found, name_at, names_down}
use Rattle.names.specs.Placed.{IsName, Named}
use Rattle.names.specs.Settings.{World, Setting, faults_at}
use Rattle.names.specs.Walks.{faults_over, Ground, list_faults, number_faults, param_faults, definition_faults, start_faults, lines_faults, lines_judged, LinesRoom, TreeRoom}
use Rattle.names.proofs.Earliest.{least-append, least_picked, nothing_right, assoc, swap, nothing-second, told}
use Rattle.names.proofs.Lookups.{found-some}
use Rattle.tree.proofs.Holds.{number-low}
use Rattle.names.proofs.Between.{number-lies}
use Rattle.names.proofs.Chains.{variable-names, definition-names}
use Rattle.names.proofs.Lookups.{down-length, down-at}
use Rattle.names.proofs.Namings.{any-placed}
use Rattle.names.proofs.Settled.{vs-at, ds-at, vs-named, ds-named}
use Rattle.names.proofs.Lines.{setting-none}

-- ---- the names past a limit
module _ (t : List ℕ) (first n : ℕ) where
  down-next : (j : ℕ) → j < n → drop j (names_down t first n) ≡ name_at t (first - j) ∷ drop (j + 1) (names_down t first n)
  down-next j l = drop-cons (names_down t first n) j 0 (omega (arith, down-length t first n)) ∙ rw (down-at t first n j l, add-one j)

  down-end : (j : ℕ) → n ≤ j → drop j (names_down t first n) ≡ []
  down-end j l = drop_of_length-le (names_down t first n) {i = j} (omega (arith, down-length t first n))

  past_picked : (j m : ℕ) → j + m ≡ n → reduce min (map (λ i. name_at t (first - i)) (range_with_len j m)) ≡ least (drop j (names_down t first n))
  unfolding least earlier_of
  past_picked j zero e = rw (down-end j (omega arith))
  past_picked j (suc m) e =
      rw (down-next j (omega arith)) (least_picked (Some (name_at t (first - j))) (map (λ i. name_at t (first - i)) (range_with_len (j + 1) m)) ∙ ap (earlier (name_at t (first - j))) (past_picked (j + 1) m (omega arith)))

  past_none : (j : ℕ) → n ≤ j → reduce min (map (λ i. name_at t (first - i)) (range_with_len j 0)) ≡ least (drop j (names_down t first n))
  unfolding least
  past_none j l = rw (down-end j l)

  pub past_least : (j : ℕ) → reduce min (map (λ i. name_at t (first - i)) (range_with_len j (n - j))) ≡ least (drop j (names_down t first n))
  past_least j = by (n - j) refl
    where
      by : (m : ℕ) → n - j ≡ m → reduce min (map (λ i. name_at t (first - i)) (range_with_len j m)) ≡ least (drop j (names_down t first n))
      by zero e = past_none j (omega arith)
      by (suc m) e = past_picked j (suc m) (omega arith)

  down-more : (i j : ℕ) → names_down t i (j + 1) ≡ names_down t i j ++ (name_at t (i - j) ∷ [])
  unfolding names_down
  down-more i zero = let e : i - 0 ≡ i = omega arith in rw e
  down-more i (suc j) =
      let e : suc j + 1 ≡ suc (j + 1) = omega arith in
      let f : i - 1 - j ≡ i - suc j = omega arith in
      rw e (ap (λ (l : List ℕ). name_at t i ∷ l) (down-more (i - 1) j ∙ ap (λ (x : ℕ). names_down t (i - 1) j ++ (name_at t x ∷ [])) f))

-- ---- the names that stand there before
abbrev pub again_at : (ℕ → List ℕ) → List ℕ → ℕ → ℕ → Found
again_at w t first j = least (when (any (same w (name_at t (first - j))) (names_down t first j)) (name_at t (first - j)))

module _ (t : List ℕ) (first : ℕ) (w : ℕ → List ℕ) (n : ℕ) where
  twice_picked : (j m : ℕ) → j + m ≡ n → reduce min (filter_map (again_at w t first) (range_with_len j m)) ≡ least (repeated w (names_down t first j) (drop j (names_down t first n)))
  unfolding repeated least
  twice_picked j zero e = rw (down-end t first n j (omega arith))
  twice_picked j (suc m) e =
      let k = name_at t (first - j) in
      let here = when (any (same w k) (names_down t first j)) k in
      let rest = repeated w (names_down t first j ++ (k ∷ [])) (drop (j + 1) (names_down t first n)) in
      rw (down-next t first n j (omega arith))
      (least_picked (again_at w t first j) (filter_map (again_at w t first) (range_with_len (j + 1) m)) ∙ ap (earlier_of (again_at w t first j)) (twice_picked (j + 1) m (omega arith) ∙ rw (down-more t first n first j) refl) ∙ sym (least-append here rest))

  pub twice_least : reduce min (filter_map (again_at w t first) (range_with_len 0 n)) ≡ least (repeated w [] (names_down t first n))
  unfolding names_down
  twice_least = twice_picked 0 n (omega arith)

-- ---- the cases of `again_fault`
module _ (w : ℕ → List ℕ) (ks : List ℕ) (k m : ℕ) (is : k ≡ m) (f : Found) (e : f ≡ found_of (place_in w k 0 ks)) where
  any-is : any (same w m) ks ≡ is_found f
  any-is = rw is at (any-placed w k 0 ks ∙ ap is_found (sym e))

  pub again : then_some (is_some f) k ≡ least (when (any (same w m) ks) m)
  again = told (is_some f) k ∙ rw (any-is, found-some f, is)

-- ---- the cases of `NameList::fault`
module _ (w : ℕ → List ℕ) (limit : ℕ) (ks : List ℕ) (q : Question) (r : Found) where
  pub list-limits : q ≡ Limits → r ≡ least (drop limit ks) → r ≡ least (list_faults q w limit ks)
  unfolding list_faults
  list-limits e f = rw e f

  pub list-fresh : q ≡ Fresh → r ≡ least (repeated w [] ks) → r ≡ least (list_faults q w limit ks)
  unfolding list_faults
  list-fresh e f = rw e f

pub list-given : (w : ℕ → List ℕ) (limit : ℕ) (ks : List ℕ) (q : Question) → q ≡ Given → None ≡ least (list_faults q w limit ks)
unfolding list_faults least
list-given w limit ks q e = rw e

-- ---- where variables and definitions stand
module _ (t : List ℕ) where
  -- variables' numbers are the first nodes, one each
  pub numbers-lie : (m : Syntax.Model) (lo k : ℕ) → Table.Model t m lo k → between t lo (length (variables m)) ≡ each (λ v. number_sites v.number) (variables m)
  unfolding Table.Model variables each between
  numbers-lie (Syntax.definitions d) lo k h = refl
  numbers-lie (Syntax.variable n v m) lo k h =
      let e = number-low t v lo h.left h.holds-first in
      let f : between t lo 1 ≡ number_sites v = (number-lies t v).leaves h.holds-first 1 (omega arith) in
      ap₂ (λ (a b : List Site). a ++ b) (sym (append-nil (site_at t lo)) ∙ f) (rw e at (numbers-lie m (h.left + 1) h.right h.holds-second))

  -- definitions stand between them and the nodes of variables
  pub lines-below : (m : Syntax.Model) (lo k : ℕ) → Table.Model t m lo k → (d : Syntax.Definitions) × Table.Definitions t d (lo + length (variables m)) (k - length (variables m)) × (definitions m ≡ definitions_in d) × (system m ≡ system_in d)
  unfolding Table.Model variables definitions system
  lines-below (Syntax.definitions d) lo k h =
      let e : k - 0 ≡ k = omega arith in
      let f : lo + 0 ≡ lo = omega arith in
      (d, rw (e, f) h, refl, refl)
  lines-below (Syntax.variable n v m) lo k h =
      let l = number-low t v lo h.left h.holds-first in
      let r = lines-below m (h.left + 1) h.right h.holds-second in
      let e : h.right - length (variables m) ≡ k - suc (length (variables m)) = omega (arith, h.above) in
      let f : h.left + 1 + length (variables m) ≡ lo + suc (length (variables m)) = omega arith in
      (r.0, rw (e, f) at r.1, r.2, r.3)

-- lists of lists
each-join : {B : Type 0} (f : B → List ℕ) (xs ys : List B) → each f (xs ++ ys) ≡ each f xs ++ each f ys
unfolding each
each-join f [] ys = refl
each-join f (x ∷ xs) ys = ap (λ (l : List ℕ). f x ++ l) (each-join f xs ys) ∙ sym (append_assoc (f x) (each f xs) (each f ys))

each-each : {A B : Type 0} (f : B → List ℕ) (g : A → List B) (xs : List A) → each f (each g xs) ≡ each (λ x. each f (g x)) xs
unfolding each
each-each f g [] = refl
each-each f g (x ∷ xs) = each-join f (g x) (each g xs) ∙ ap (λ (l : List ℕ). each f (g x) ++ l) (each-each f g xs)

-- ---- the cases of `numbers_fault`
module _ (low high nodes : List ℕ) (lists : Lists) where
  abbrev NumbersAnswer : Found → Question → Type 0
  NumbersAnswer r q = (h : World q low high nodes lists) → r ≡ least (number_faults q h.word (variables h.model))

  numbers-limits' : (s : Scope) → (length s.names ≡ local_limit) × (s.count ≡ 0) → {r : Found} → ((h : Setting Limits low high nodes lists s) → r ≡ least (each (faults_at h) (between nodes 0 (lists.variables - 0)))) → NumbersAnswer r Limits
  unfolding number_faults setting-none faults_at site_faults variable_beyond
  numbers-limits' s none f h =
      let e : lists.variables - 0 ≡ length (variables h.model) = omega (arith, h.gathered.variables-are) in
      f (setting-none h s none)
      ∙ ap (λ (l : List Site). least (each (site_beyond h.word []) l)) (rw e (numbers-lie nodes h.model 0 lists.root h.holds))
      ∙ ap least (each-each (site_beyond h.word []) (λ v. number_sites v.number) (variables h.model))

  pub numbers-limits : (s : Scope) → (length s.names ≡ local_limit) × (s.count ≡ 0) → {q : Question} {r : Found} → q ≡ Limits → ((h : Setting q low high nodes lists s) → r ≡ least (each (faults_at h) (between nodes 0 (lists.variables - 0)))) → NumbersAnswer r q
  numbers-limits s none {r = r} e f =
      subst (NumbersAnswer r) (sym e) (numbers-limits' s none (subst (λ (q : Question). (h : Setting q low high nodes lists s) → r ≡ least (each (faults_at h) (between nodes 0 (lists.variables - 0)))) e f))

  numbers-fresh' : NumbersAnswer None Fresh
  unfolding number_faults least
  numbers-fresh' h = refl

  numbers-given' : NumbersAnswer None Given
  unfolding number_faults least
  numbers-given' h = refl

  pub numbers-free : {q : Question} → (q ≡ Fresh) ⊎ (q ≡ Given) → NumbersAnswer None q
  numbers-free (inl e) = subst (NumbersAnswer None) (sym e) numbers-fresh'
  numbers-free (inr e) = subst (NumbersAnswer None) (sym e) numbers-given'

-- ---- the whole tree
-- answers in another order
exchange : (a b c d : Found) → earlier_of (earlier_of a b) (earlier_of c d) ≡ earlier_of (earlier_of a c) (earlier_of b d)
exchange a b c d =
    assoc a b (earlier_of c d)
    ∙ ap (earlier_of a) (sym (assoc b c d) ∙ ap (λ (x : Found). earlier_of x d) (swap b c) ∙ assoc c b d)
    ∙ sym (assoc a c (earlier_of b d))

reorder : (a b c d e f : Found) → earlier_of (earlier_of (earlier_of a b) (earlier_of c d)) (earlier_of e f) ≡ earlier_of a (earlier_of c (earlier_of b (earlier_of (earlier_of d e) f)))
reorder a b c d e f =
    ap (λ (x : Found). earlier_of x (earlier_of e f)) (exchange a b c d ∙ assoc a c (earlier_of b d))
    ∙ assoc a (earlier_of c (earlier_of b d)) (earlier_of e f)
    ∙ ap (earlier_of a) (assoc c (earlier_of b d) (earlier_of e f))
    ∙ ap (λ (x : Found). earlier_of a (earlier_of c x)) (assoc b d (earlier_of e f) ∙ ap (earlier_of b) (sym (assoc d e f)))

-- two faults of each
each_both : {A : Type 0} (f g : A → List ℕ) (xs : List A) → least (each (λ x. f x ++ g x) xs) ≡ earlier_of (least (each f xs)) (least (each g xs))
unfolding each least earlier_of
each_both f g [] = refl
each_both f g (x ∷ xs) =
    least-append (f x ++ g x) (each (λ x. f x ++ g x) xs)
    ∙ ap₂ earlier_of (least-append (f x) (g x)) (each_both f g xs)
    ∙ exchange (least (f x)) (least (g x)) (least (each f xs)) (least (each g xs))
    ∙ ap₂ earlier_of (sym (least-append (f x) (each f xs))) (sym (least-append (g x) (each g xs)))

none_each : {A : Type 0} (f : A → List ℕ) (xs : List A) → ((x : A) → f x ≡ []) → each f xs ≡ []
unfolding each
none_each f [] e = refl
none_each f (x ∷ xs) e = rw (e x) (none_each f xs e)

module _ (w : ℕ → List ℕ) (m : Syntax.Model) (d : Syntax.Definitions) (ds-is : definitions m ≡ definitions_in d) (system-is : system m ≡ system_in d) where
  abbrev all_sites : Question → List ℕ
  all_sites q = each (λ s. site_faults q w (variables m) (definitions m) s.scope s.site) (each (definition_sites w) (definitions m))

  lines-law : (q : Question) → least (lines_faults q w (variables m) (definitions m) d) ≡ earlier_of (earlier_of (least (each (λ x. param_faults q w (names (variables m)) x.params) (definitions m))) (least (all_sites q))) (least (each (start_faults q w (definitions m)) (starts_in (system m))))
  unfolding lines_faults definition_faults faults_over
  lines-law q =
      rw (system-is, ← ds-is)
      (least-append (each (definition_faults q w (variables m) (definitions m)) (definitions m)) (each (start_faults q w (definitions m)) (starts_in (system_in d)))
      ∙ ap (λ (x : Found). earlier_of x (least (each (start_faults q w (definitions m)) (starts_in (system_in d)))))
      (each_both (λ x. param_faults q w (names (variables m)) x.params) (λ x. faults_over q w (variables m) (definitions m) (definition_sites w x)) (definitions m)
      ∙ ap (λ (l : List ℕ). earlier_of (least (each (λ x. param_faults q w (names (variables m)) x.params) (definitions m))) (least l)) (sym (each-each (λ s. site_faults q w (variables m) (definitions m) s.scope s.site) (definition_sites w) (definitions m)))))

  -- a tree's faults: of the list of variables, of the list of definitions, of the variables' numbers, of the lines
  abbrev pub Whole : Question → Type 0
  Whole q = least (tree_faults q w m) ≡ earlier_of (least (list_faults q w variable_limit (names (variables m)))) (earlier_of (least (list_faults q w definition_limit (titles (definitions m)))) (earlier_of (least (number_faults q w (variables m))) (least (lines_faults q w (variables m) (definitions m) d))))

  pub whole : (q : Question) → Whole q
  unfolding tree_faults list_faults number_faults tree_beyond not_new not_given over_sites sites starts param_faults start_faults site_faults definition_beyond definition_repeated earlier_of least
  whole Limits =
      let a = drop variable_limit (names (variables m)) in
      let b = each (variable_beyond w) (variables m) in
      let c = drop definition_limit (titles (definitions m)) in
      let p = each definition_beyond' (definitions m) in
      let s = all_sites Limits in
      let z = each (start_beyond w) (starts_in (system m)) in
      least-append ((a ++ b) ++ (c ++ p)) (s ++ z)
      ∙ ap₂ earlier_of (least-append (a ++ b) (c ++ p) ∙ ap₂ earlier_of (least-append a b) (least-append c p)) (least-append s z)
      ∙ reorder (least a) (least b) (least c) (least p) (least s) (least z)
      ∙ ap (λ (x : Found). earlier_of (least a) (earlier_of (least c) (earlier_of (least b) x))) (sym (lines-law Limits))
    where
      definition_beyond' : Definition → List ℕ
      definition_beyond' x = definition_beyond w x
  whole Fresh =
      let a = repeated w [] (names (variables m)) in
      let c = repeated w [] (titles (definitions m)) in
      let p = each (definition_repeated w (names (variables m))) (definitions m) in
      let s = all_sites Fresh in
      let none : least (lines_faults Fresh w (variables m) (definitions m) d) ≡ earlier_of (least p) (least s) = lines-law Fresh ∙ ap (λ (l : List ℕ). earlier_of (earlier_of (least p) (least s)) (least l)) (none_each (start_faults Fresh w (definitions m)) (starts_in (system m)) (λ x. refl)) ∙ nothing_right (earlier_of (least p) (least s)) in
      least-append (a ++ c) (p ++ s)
      ∙ ap₂ earlier_of (least-append a c) (least-append p s)
      ∙ assoc (least a) (least c) (earlier_of (least p) (least s))
      ∙ ap (λ (x : Found). earlier_of (least a) (earlier_of (least c) x)) (sym none)
  whole Given =
      let s = all_sites Given in
      let z = each (start_wrong w (definitions m)) (starts_in (system m)) in
      least-append s z
      ∙ sym (lines-law Given ∙ ap (λ (l : List ℕ). earlier_of (earlier_of (least l) (least s)) (least z)) (none_each (λ x. param_faults Given w (names (variables m)) x.params) (definitions m) (λ x. refl)))

-- lists of packed names are lists of names
module _ (ts : List ℕ) (v w : ℕ → List ℕ) where
  abbrev Alike : Type 0
  Alike = (j k : ℕ) → IsName ts j → IsName ts k → same v j k ≡ same w j k

  any-alike : Alike → (k : ℕ) → IsName ts k → (ks : List ℕ) → Named ts ks → any (same v k) ks ≡ any (same w k) ks
  unfolding any
  any-alike a k e [] h = refl
  any-alike a k e (j ∷ ks) h = ap₂ ◌||◌ (a k j e h.0) (any-alike a k e ks h.1)

  named-join : (ks ls : List ℕ) → Named ts ks → Named ts ls → Named ts (ks ++ ls)
  named-join [] ls h g = g
  named-join (k ∷ ks) ls h g = (h.0, named-join ks ls h.1 g)

  repeated-alike : Alike → (seen ks : List ℕ) → Named ts seen → Named ts ks → repeated v seen ks ≡ repeated w seen ks
  unfolding repeated
  repeated-alike a seen [] g h = refl
  repeated-alike a seen (k ∷ ks) g h =
      ap₂ (λ (b : Bool) (l : List ℕ). when b k ++ l) (any-alike a k h.0 seen g) (repeated-alike a (seen ++ k ∷ []) ks (named-join seen (k ∷ []) g (h.0, tt)) h.1)

  pub list-alike : (q : Question) → (asks_names q ≡ true → Alike) → (limit : ℕ) (ks : List ℕ) → Named ts ks → list_faults q v limit ks ≡ list_faults q w limit ks
  unfolding list_faults asks_names
  list-alike Limits a limit ks h = refl
  list-alike Fresh a limit ks h = repeated-alike (a refl) [] ks tt h
  list-alike Given a limit ks h = refl

-- ---- the case of `tree_fault`
module _ {question : Question} {kinds low high nodes : List ℕ} {lists : Lists} (h : Ground question kinds low high nodes lists) where
  abbrev g : World question low high nodes lists
  g = h.world

  abbrev pub lines : Syntax.Definitions
  lines = (lines-below nodes g.model 0 lists.root g.holds).0

  pub lines-hold : Table.Definitions nodes lines lists.variables (lists.root - lists.variables)
  lines-hold =
      let e : 0 + length (variables g.model) ≡ lists.variables = omega (arith, g.gathered.variables-are) in
      let f : lists.root - length (variables g.model) ≡ lists.root - lists.variables = omega (arith, g.gathered.variables-are) in
      rw (e, f) at (lines-below nodes g.model 0 lists.root g.holds).1

  whole-tree : (q : Question) → Whole g.word g.model lines (lines-below nodes g.model 0 lists.root g.holds).2 (lines-below nodes g.model 0 lists.root g.holds).3 q
  whole-tree q = whole g.word g.model lines (lines-below nodes g.model 0 lists.root g.holds).2 (lines-below nodes g.model 0 lists.root g.holds).3 q

  pub lines-room : TreeRoom h → LinesRoom h lines
  unfolding lines_judged
  lines-room room e = nothing-second _ _ (nothing-second _ _ (nothing-second _ _ (sym (whole-tree Limits) ∙ room e)))

  names-as : names_down nodes lists.root lists.variables ≡ names (variables g.model)
  names-as = ap (names_down nodes lists.root) g.gathered.variables-are ∙ variable-names nodes (variables g.model) lists.root (vs-at g)

  titles-as : names_down nodes (lists.root - lists.variables) lists.definitions ≡ titles (definitions g.model)
  titles-as = ap (names_down nodes (lists.root - lists.variables)) g.gathered.definitions-are ∙ definition-names nodes (definitions g.model) (lists.root - lists.variables) (ds-at g)

  pub tree-judged : (a c b l x y r : Found) → a ≡ least (list_faults question (packed low high) variable_limit (names_down nodes lists.root lists.variables)) → c ≡ least (list_faults question (packed low high) definition_limit (names_down nodes (lists.root - lists.variables) lists.definitions)) → b ≡ least (number_faults question g.word (variables g.model)) → l ≡ least (lines_judged h question lines) → x ≡ earlier_of b l → y ≡ earlier_of c x → r ≡ earlier_of a y → r ≡ least (tree_faults question g.word g.model)
  unfolding lines_judged
  tree-judged a c b l x y r a-is c-is b-is l-is x-is y-is r-is =
      let p : a ≡ least (list_faults question g.word variable_limit (names (variables g.model))) = a-is ∙ ap (λ (ks : List ℕ). least (list_faults question (packed low high) variable_limit ks)) names-as ∙ ap least (list-alike g.kinds (packed low high) g.word question g.alike variable_limit (names (variables g.model)) (vs-named g)) in
      let q : c ≡ least (list_faults question g.word definition_limit (titles (definitions g.model))) = c-is ∙ ap (λ (ks : List ℕ). least (list_faults question (packed low high) definition_limit ks)) titles-as ∙ ap least (list-alike g.kinds (packed low high) g.word question g.alike definition_limit (titles (definitions g.model)) (ds-named g)) in
      rw (r-is, y-is, x-is, p, q, b-is, l-is) (sym (whole-tree question))
