-- A search answers what notes 8 and 9 ask: the moves it goes over are the entries taken and the refusals met as the questions say, and over them the walk's theorem holds.
use mathlib.Core.Path.{◌≡◌, refl, sym, ap, ap₂, subst, ◌∙◌}
use mathlib.Core.List.{List, [], ◌∷◌, map}
use mathlib.Core.Bool.{Bool, true, false, cond, ◌&&◌}
use mathlib.Core.Logic.{◌↔◌, ◌⊎◌, inl, inr, ⊎_elim}
use mathlib.Core.Option.{Option, none, some, Option-elim}
use Prim.Native.Nat.{ℕ, zero, suc, ◌≤◌, ◌<◌}
use native.Mathlib.Nat.{pos_of_ne-zero}
use native.Mathlib.Omega.{arith}
use borrow.Author.Tests.{leb-true, leb-false, le-leb, lt-leb, eqb-true, eqb-false, ne_eqb}
use lib.Dec.{eqb, leb}
use lib.ListN.{length, get_or, get_elem?}
use Rattle.value.proofs.Kit.{true-not-false}
use Rattle.token.specs.Token.{same_bytes}
use Rattle.token.proofs.Words.{same-is, is_same_lem}
use Rattle.model.specs.Resolved
use Rattle.model.specs.Opening.{process_limit}
use Rattle.rules.specs.Kind as kind
use Rattle.rules.specs.Rules.{Nth, first, later, Change, Key, key, Moves, Derivable}
use Rattle.rules.specs.Listing.{Entry, entry}
use Rattle.rules.specs.Pairs.{pairs_after}
use Rattle.rules.proofs.Decides.{Decides, holds, fails, passes, refuses, both, equal}
use Rattle.rules.proofs.Once.{nth_in}
use Rattle.rules.proofs.Moved.{steps-state}
use Rattle.runs.specs.Tree as tree
use Rattle.runs.specs.Tree.{way_in, MeansOf}
use Rattle.runs.specs.Walk as walk
use Rattle.runs.proofs.Judged as judged
use Rattle.runs.proofs.Alike.{means-alike}
use Rattle.machine.specs.Offer.{Process, branches_of, branches}
use Rattle.machine.specs.State.{State, pair_limit}
use Rattle.machine.specs.Machine.{as_lent, Answer, no, Listed, entries_are, refused_with, listing, listed_as, entry_arguments, entry_state, refusing, accepting, taken, is_wait, is_sought, way_taken, way_of, moves_of, moves_to, depth_limit, is_depth, searched_as, searches}
use Rattle.machine.specs.Questions.{BranchAt, Lists, IsListing, AllGiven}
use Rattle.machine.specs.Searching.{Above, IsWait, waits, Tells, is, is-not, Takes, Refuses, under12-14, under17, under18, under19, Searches, no26, yes26}
use Rattle.machine.proofs.Branches.{none-not-some, nth-get, get_nth}
use Rattle.machine.proofs.Arguments.{arguments-asked}
use Rattle.machine.proofs.Listing as listing

-- ---- entries by their numbers

nth-way : {A B : Type 0} {xs : List A} {n : ℕ} {x : A} (f : A → B) (d : B) → Nth xs n x → get_or (map f xs) n d ≡ f x
nth-way f d first = refl
nth-way f d (later h) = nth-way f d h

way-nth : {A B : Type 0} (f : A → B) (d : B) (xs : List A) (n : ℕ) → (get_or (map f xs) n d ≡ d) ⊎ ((x : A) × Nth xs n x)
way-nth f d [] n = inl refl
way-nth f d (x ∷ xs) zero = inr (x, first)
way-nth f d (x ∷ xs) (suc n) = ⊎_elim inl (λ r. inr (r.0, later r.1)) (way-nth f d xs n)

some_same : {A : Type 0} {a b : A} → some a ≡ some b → a ≡ b
some_same e = cc

-- ---- the wait of a name

same-so : (x y : List ℕ) → Decides (x ≡ y) (same_bytes x y)
same-so x y = by (same_bytes x y) refl
  where
    by : (b : Bool) → same_bytes x y ≡ b → Decides (x ≡ y) b
    by true e = holds (same-is x y e)
    by false e = fails (λ q. true-not-false (sym (is_same_lem y) ∙ ap (λ (z : List ℕ). same_bytes z y) (sym q) ∙ e))

module _ (m : Resolved.Model) (x : List ℕ) where
  -- an action is the wait
  abbrev Named : Resolved.Action → Type 0
  Named a = (t : ℕ) × (a ≡ Resolved.wait t) × (m.words t ≡ x)

  named-so : (a : Resolved.Action) → Decides (Named a) (is_wait m x a)
  unfolding is_wait
  named-so (Resolved.wait k) = by (same-so (m.words k) x)
    where
      by : {b : Bool} → Decides (m.words k ≡ x) b → Decides (Named (Resolved.wait k)) b
      by (holds e) = holds (k, refl, e)
      by (fails n) = fails (λ r. let e : k ≡ r.0 = cc in n (ap m.words e ∙ r.2))
  named-so (Resolved.launch c v) = fails (λ r. absurd (let e = r.1 in let z : ◌≡◌ {A = ℕ} 0 1 = cc in omega arith))
  named-so (Resolved.kill c v) = fails (λ r. absurd (let e = r.1 in let z : ◌≡◌ {A = ℕ} 0 1 = cc in omega arith))
  named-so (Resolved.receive c q) = fails (λ r. absurd (let e = r.1 in let z : ◌≡◌ {A = ℕ} 0 1 = cc in omega arith))
  named-so (Resolved.bind c q) = fails (λ r. absurd (let e = r.1 in let z : ◌≡◌ {A = ℕ} 0 1 = cc in omega arith))
  named-so (Resolved.check c q) = fails (λ r. absurd (let e = r.1 in let z : ◌≡◌ {A = ℕ} 0 1 = cc in omega arith))
  named-so (Resolved.hand_send c v) = fails (λ r. absurd (let e = r.1 in let z : ◌≡◌ {A = ℕ} 0 1 = cc in omega arith))
  named-so (Resolved.hand_receive c q) = fails (λ r. absurd (let e = r.1 in let z : ◌≡◌ {A = ℕ} 0 1 = cc in omega arith))
  named-so (Resolved.hand_bind c q) = fails (λ r. absurd (let e = r.1 in let z : ◌≡◌ {A = ℕ} 0 1 = cc in omega arith))

  module _ (s : State) where
    -- a branch at a place is the wait
    abbrev NamedAt : ℕ → ℕ → Type 0
    NamedAt i j = (p : Process) × (b : Resolved.Branch) × BranchAt m s.processes i j p b × Named b.action

    at-so : (i j : ℕ) → Decides (NamedAt i j) (Option-elim (get_elem? s.processes i) false (λ p. Option-elim (get_elem? (branches_of m p) j) false (λ b. is_wait m x b.action)))
    unfolding Option-elim
    at-so i j = process (get_elem? s.processes i) refl
      where
        branch : (p : Process) → Nth s.processes i p → (o : Option Resolved.Branch) → get_elem? (branches_of m p) j ≡ o → Decides (NamedAt i j) (Option-elim o false (λ b. is_wait m x b.action))
        branch p h none e = fails (λ r. let q : r.0 ≡ p = some_same (sym (nth-get r.2.place) ∙ nth-get h) in none-not-some none r.1 refl (sym e ∙ ap (λ (u : Process). get_elem? (branches_of m u) j) (sym q) ∙ nth-get r.2.branch))
        branch p h (some b) e = by (named-so b.action)
          where
            by : {d : Bool} → Decides (Named b.action) d → Decides (NamedAt i j) d
            by (holds r) = holds (p, b, record { place = h; branch = get_nth (branches_of m p) j e }, r)
            by (fails n) =
                fails
                (λ r.
                let q : r.0 ≡ p = some_same (sym (nth-get r.2.place) ∙ nth-get h) in
                let c : r.1 ≡ b = some_same (sym (nth-get r.2.branch) ∙ ap (λ (u : Process). get_elem? (branches_of m u) j) q ∙ e) in
                n (subst (λ (u : Resolved.Branch). Named u.action) c r.3))

        process : (o : Option Process) → get_elem? s.processes i ≡ o → Decides (NamedAt i j) (Option-elim o false (λ p. Option-elim (get_elem? (branches_of m p) j) false (λ b. is_wait m x b.action)))
        process none e = fails (λ r. none-not-some none r.0 refl (sym e ∙ nth-get r.2.place))
        process (some p) e = branch p (get_nth s.processes i e) (get_elem? (branches_of m p) j) refl

    apart : {c i j k n q : ℕ} → IsWait m x s (key c i j k n q) → (c ≡ kind.wait) × NamedAt i j
    apart (waits {t = t} {p = p} {b = b} h a e) = (refl, (p, b, h, (t, a, e)))

    sought-so : (k : Key) → Decides (IsWait m x s k) (is_sought m x s k)
    unfolding is_sought
    sought-so (key c i j k n q) = by (both (equal c kind.wait) (at-so i j))
      where
        by : {b : Bool} → Decides ((c ≡ kind.wait) × NamedAt i j) b → Decides (IsWait m x s (key c i j k n q)) b
        by (holds r) = holds (rw r.0 (waits r.1.2 r.1.3.1 r.1.3.2))
        by (fails f) = fails (λ w. f (apart w))

-- ---- taking an entry

told_same : {P : Type 0} {b h : Bool} → Decides P b → Tells P h → b ≡ h
told_same (holds p) (is q) = refl
told_same (holds p) (is-not n) = absurd (n p)
told_same (fails n) (is q) = absurd (n q)
told_same (fails n) (is-not q) = refl

tells : {P : Type 0} {b : Bool} → Decides P b → Tells P b
tells (holds p) = is p
tells (fails n) = is-not n

module _ (m : Resolved.Model) (x : List ℕ) (s : State) where
  -- the state that the rules move to
  abbrev Moved : Change → List Process → State
  Moved n ps = record { processes = ps; pairs = pairs_after n s.pairs }

  -- 17 to 19 by their tests
  abbrev way : List Entry → Key → Change → List Process → Bool → Bool → Bool → tree.Way State
  way es k n ps a b c = way_taken (is_sought m x s k) (cond a (cond b (cond c (accepting (Moved n ps) es 0) (refusing s es 19)) (refusing s es 18)) (refusing s es 17))

  idle-is : (es : List Entry) (k : Key) (w : ℕ) → w ≡ 0 → way_of m x s es (entry k w) ≡ tree.idle
  unfolding way_of
  idle-is es k w e = rw e refl

  -- an entry above weight zero
  way-is : (es : List Entry) {k : Key} {w : ℕ} {n : Change} {ps : List Process} → 0 < w → Moves (branches m) s k w n ps
      → way_of m x s es (entry k w) ≡ way es k n ps (entry_arguments m s k) (leb (length ps) process_limit) (leb (length (pairs_after n s.pairs)) pair_limit)
  unfolding way_of taken entry_state
  way-is es {w = w} l v = rw (ne_eqb w 0 (λ e. omega arith), steps-state (branches m) s v)

  derived : {es : List Entry} {e w : ℕ} {k : Key} → IsListing m s es → Nth es e (entry k w) → (n : Change) × (ps : List Process) × Moves (branches m) s k w n ps
  unfolding Derivable
  derived {w = w} {k = k} h o = (h.derivable k w).0 (nth_in o)

  -- what taking an entry comes to: said by the questions
  data Comes (e : ℕ) : tree.Way State → Type 0 where
    comes-idle : Comes e tree.idle
    comes-refused : Refuses m s → Comes e tree.refused
    comes-leads : {h : Bool} {t : State} → Takes m x s e h t → Comes e (tree.leads h t)

  comes : (es : List Entry) → Lists m s (entries_are es) → IsListing m s es → (e : ℕ) → Comes e (get_or (map (way_of m x s es) es) e tree.idle)
  unfolding way_taken listed_as
  comes es l h e = ⊎_elim (λ q. rw q comes-idle) (λ r. rw (nth-way (way_of m x s es) tree.idle r.1) (entries r.0 r.1)) (way-nth (way_of m x s es) tree.idle es e)
    where
      go : {k : Key} {w : ℕ} {n : Change} {ps : List Process} → Nth es e (entry k w) → 0 < w → Moves (branches m) s k w n ps
          → {a : Bool} → Decides (AllGiven m s k) a → (b : Bool) → leb (length ps) process_limit ≡ b → (c : Bool) → leb (length (pairs_after n s.pairs)) pair_limit ≡ c
          → Comes e (way es k n ps a b c)
      go {k} {w} {n} {ps} o u v (holds g) true p true q =
          comes-leads
          (record {
            key = k;
            weight = w;
            change = n;
            processes = ps;
            ready = record { entry = record { entries = es; listed = l; at = o; above = u }; given = g; moves = v };
            few = leb-true _ _ p;
            few-pairs = leb-true _ _ q;
            leads-to = refl;
            wait = tells (sought-so m x s k);
          })
      go o u v (holds g) true p false q = comes-refused (under19 (record { entry = record { entries = es; listed = l; at = o; above = u }; given = g; moves = v }) (leb-true _ _ p) (leb-false _ _ q))
      go o u v (holds g) false p c q = comes-refused (under18 (record { entry = record { entries = es; listed = l; at = o; above = u }; given = g; moves = v }) (leb-false _ _ p))
      go o u v (fails g) b p c q = comes-refused (under17 (record { entries = es; listed = l; at = o; above = u }) g)

      entries : (y : Entry) → Nth es e y → Comes e (way_of m x s es y)
      entries (entry k w) o = by (eqb w 0) refl
        where
          by : (b : Bool) → eqb w 0 ≡ b → Comes e (way_of m x s es (entry k w))
          by true z = rw (idle-is es k w (eqb-true w 0 z)) comes-idle
          by false z =
              let u : 0 < w = pos_of_ne-zero (eqb-false w 0 z) in
              let r = derived h o in
              rw (way-is es u r.2) (go o u r.2 (arguments-asked m s r.2) (leb (length r.1) process_limit) refl (leb (length (pairs_after r.0 s.pairs)) pair_limit) refl)

  -- ---- what is taken, and what is refused

  came-led : {e : ℕ} {w : tree.Way State} {h : Bool} {t : State} → Comes e w → w ≡ tree.leads h t → Takes m x s e h t
  came-led comes-idle q = absurd (let z : ◌≡◌ {A = ℕ} 0 1 = cc in omega arith)
  came-led (comes-refused r) q = absurd (let z : ◌≡◌ {A = ℕ} 0 1 = cc in omega arith)
  came-led {e = e} {h = h} {t = t} (comes-leads {h = g} {t = u} k) q =
      let a : g ≡ h = cc in let b : u ≡ t = cc in subst (λ (y : State). Takes m x s e h y) b (subst (λ (y : Bool). Takes m x s e y u) a k)

  came_refused : {e : ℕ} {w : tree.Way State} → Comes e w → w ≡ tree.refused → Refuses m s
  came_refused comes-idle q = absurd (let z : ◌≡◌ {A = ℕ} 0 1 = cc in omega arith)
  came_refused (comes-refused r) q = r
  came_refused (comes-leads k) q = absurd (let z : ◌≡◌ {A = ℕ} 0 1 = cc in omega arith)

  -- an entry of an accepted listing
  comes-listed : (es : List Entry) → listing m s ≡ entries_are es → (e : ℕ) → Comes e (get_or (map (way_of m x s es) es) e tree.idle)
  comes-listed es q = comes es ((listing.asked m s (entries_are es)).0 q) ((listing.accepted m s es).0 q).1

  moves-listed : (es : List Entry) → Lists m s (entries_are es) → moves_to m x s ≡ tree.lists (map (way_of m x s es) es)
  unfolding moves_to moves_of
  moves-listed es l = rw ((listing.asked m s (entries_are es)).1 l) refl

  -- what taking an entry above weight zero comes to
  above-way : {e w : ℕ} {k : Key} {n : Change} {ps : List Process} → (a : Above m s e k w) → Moves (branches m) s k w n ps
      → way_in (moves_to m x s) e ≡ way a.entries k n ps (entry_arguments m s k) (leb (length ps) process_limit) (leb (length (pairs_after n s.pairs)) pair_limit)
  unfolding way_in
  above-way {e = e} a v =
      ap (λ (l : tree.Listed State). way_in l e) (moves-listed a.entries a.listed) ∙ nth-way (way_of m x s a.entries) tree.idle a.at ∙ way-is a.entries a.above v

  -- 02, note 8: an entry of what is walked leads exactly where it is taken
  pub takes-so : (e : ℕ) (h : Bool) (t : State) → (way_in (moves_to m x s) e ≡ tree.leads h t) ↔ Takes m x s e h t
  unfolding moves_to moves_of way_in way_taken listed_as
  takes-so e h t = (λ q. there (listing m s) refl q, back)
    where
      there : (l : Listed) → listing m s ≡ l → way_in (moves_of m x s l) e ≡ tree.leads h t → Takes m x s e h t
      there (entries_are es) r q = came-led (comes-listed es r e) q
      there (refused_with a) r q = absurd (let z : ◌≡◌ {A = ℕ} 0 1 = cc in omega arith)

      back : Takes m x s e h t → way_in (moves_to m x s) e ≡ tree.leads h t
      back k =
          above-way k.ready.entry k.ready.moves
          ∙ rw (passes (arguments-asked m s k.ready.moves) k.ready.given, le-leb _ process_limit k.few, le-leb _ pair_limit k.few-pairs)
          (ap₂ (λ (b : Bool) (u : State). tree.leads b u) (told_same (sought-so m x s k.key) k.wait) (sym k.leads-to))

  -- 02, note 8: it meets a refusal exactly where the listing or a taking is refused
  pub refuses-so : tree.Stuck (moves_to m x) s ↔ Refuses m s
  unfolding moves_to moves_of way_in way_taken listed_as
  refuses-so = (there, back)
    where
      unlisted : (l : Listed) → listing m s ≡ l → moves_of m x s l ≡ tree.unlisted → Refuses m s
      unlisted (entries_are es) r q = absurd (let z : ◌≡◌ {A = ℕ} 0 1 = cc in omega arith)
      unlisted (refused_with a) r q = under12-14 ((listing.asked m s (refused_with a)).0 r)

      untaken : (e : ℕ) (l : Listed) → listing m s ≡ l → way_in (moves_of m x s l) e ≡ tree.refused → Refuses m s
      untaken e (entries_are es) r q = came_refused (comes-listed es r e) q
      untaken e (refused_with a) r q = absurd (let z : ◌≡◌ {A = ℕ} 0 1 = cc in omega arith)

      there : tree.Stuck (moves_to m x) s → Refuses m s
      there (tree.no-listing q) = unlisted (listing m s) refl q
      there (tree.no-taking e q) = untaken e (listing m s) refl q

      moves : {e w : ℕ} {k : Key} → (a : Above m s e k w) → (n : Change) × (ps : List Process) × Moves (branches m) s k w n ps
      moves a = derived ((listing.accepted m s a.entries).0 ((listing.asked m s (entries_are a.entries)).1 a.listed)).1 a.at

      back : Refuses m s → tree.Stuck (moves_to m x) s
      back (under12-14 {a = a} l) = tree.no-listing (rw ((listing.asked m s (refused_with a)).1 l) refl)
      back (under17 {e = e} a g) = let v = moves a in tree.no-taking e (above-way a v.2 ∙ rw (refuses (arguments-asked m s v.2) g) refl)
      back (under18 {e = e} r l) = tree.no-taking e (above-way r.entry r.moves ∙ rw (passes (arguments-asked m s r.moves) r.given, lt-leb _ process_limit l) refl)
      back (under19 {e = e} r l f) =
          tree.no-taking e (above-way r.entry r.moves ∙ rw (passes (arguments-asked m s r.moves) r.given, le-leb _ process_limit l, lt-leb _ pair_limit f) refl)

-- ---- the search

module _ (m : Resolved.Model) (x : List ℕ) (s : State) (d : ℕ) where
  means-so : (a : tree.Answer) → (walk.search (moves_to m x) s d ≡ a) ↔ MeansOf (Takes m x) (Refuses m) s d a
  means-so a = (
    λ e. means-alike (takes-so m x) (refuses-so m x) ((judged.exactly (moves_to m x) s d a).0 e),
    λ k. (judged.exactly (moves_to m x) s d a).1 (means-alike (λ s e h t. ((takes-so m x s e h t).1, (takes-so m x s e h t).0)) (λ s. ((refuses-so m x s).1, (refuses-so m x s).0)) k),
  )

  -- 02, notes 8 and 9: a search answers exactly what they say, for every model, name, state and depth
  pub asked : (a : Answer) → ((searches x d m s).answer ≡ a) ↔ Searches m x s d a
  unfolding searches is_depth
  asked a = (λ e. rw e at (answered (leb 1 d) refl (leb d depth_limit) refl), says)
    where
      answered : (b : Bool) → leb 1 d ≡ b → (c : Bool) → leb d depth_limit ≡ c → Searches m x s d (cond (b && c) (searched_as (walk.search (moves_to m x) s d)) (no 26 0 0 as_lent))
      answered true e true f = yes26 (leb-true _ _ e) (leb-true _ _ f) ((means-so (walk.search (moves_to m x) s d)).0 refl)
      answered true e false f = no26 (λ l. let g : depth_limit < d = leb-false _ _ f in let h : d ≤ depth_limit = l.1 in omega arith)
      answered false e c f = no26 (λ l. let g : d < 1 = leb-false _ _ e in let h : 1 ≤ d = l.0 in omega arith)

      unfit : ((1 ≤ d) × (d ≤ depth_limit) → ⊥) → (b : Bool) → leb 1 d ≡ b → (c : Bool) → leb d depth_limit ≡ c → (b && c) ≡ false
      unfit n true e true f = absurd (n (leb-true _ _ e, leb-true _ _ f))
      unfit n true e false f = refl
      unfit n false e c f = refl

      says : {a : Answer} → Searches m x s d a → (searches x d m s).answer ≡ a
      says (no26 n) = rw (unfit n (leb 1 d) refl (leb d depth_limit) refl) refl
      says (yes26 {a = w} l u k) = rw (le-leb 1 d l, le-leb d depth_limit u, (means-so w).1 k) refl
