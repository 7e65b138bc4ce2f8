-- Two moves that share no process and change no pair can be made in either order and lead to the same state (02, note 14): the rules derive the second entry, with its
-- places moved, from what the first leaves, since its processes still stand there; and changes at different places come to both at once.
use Prim.Native.Nat.{ℕ, zero, suc, ◌+◌, ◌*◌, ◌<◌}
use mathlib.Core.Path.{◌≡◌, refl, sym, ap, ap₂, ◌∙◌}
use mathlib.Core.Bool.{Bool, true, false, cond}
use mathlib.Core.List.{List, [], ◌∷◌, ◌++◌, map, Memᴰ as In}
use mathlib.Core.Logic.{◌⊎◌, inl, inr, ⊎_elim}
use mathlib.Core.Option.{Option, none, some, Option-elim}
use native.Mathlib.Omega.{arith}
use borrow.Author.Tests.{ltb-true, ltb-false, eqb-true, eqb-false, eq-eqb, ne_eqb}
use lib.Dec.{eqb, ltb, eqb-suc-suc}
use lib.IntN.{ℤ}
use lib.ListN.{length}
use Rattle.rules.specs.Offers.{Pair, Action, send, Guard, Branch, State}
use Rattle.rules.specs.Kind as kind
use Rattle.rules.specs.Rules.{Nth, first, later, Change as Written, unchanged, Label, label, plain, Offered, rule8, rule9, rule10, rule11, rule12, rule13, sends, takes, takes_bind, rule18, Chooses, Acts, rule15-this, rule15-other, Handshakes, rule16-left, rule16-right, rule17-left, rule17-right, rule15-both, Alone, waits, launches, kills, receives, binds, checks, Key, key, rate_weight, Moves, alone, together, Derivable}
use Rattle.rules.specs.Listing.{entry, gather, entries}
use Rattle.rules.specs.Pairs.{pairs_after}
use Rattle.rules.specs.Step.{replace, replace_both, sent_by, on_action, state_after, step}
use Rattle.rules.specs.Carried.{places, Apart, Quiet, Change, becomes, size, place_after, of_branch, becoming, moved, placed, carried}
use Rattle.rules.proofs.Places.{Accepts, unbound, bound, branching, Acting, acting, Meeting, meeting}
use Rattle.rules.proofs.Moved.{nth-found, chooses-goes, acts-goes, handshakes-goes, offered-bound, offered-sent, offered-received, no-handshake, steps-state}
use Rattle.rules.proofs.Listed.{listed}
use Rattle.rules.proofs.Rewritten.{or_self, rewritten, gather-same, place-grows, nth-moves, untouched, Through, one-after-other, either_way}
use Rattle.rules.proofs.Rewritten as changes

-- ---- changes by place

-- changes at other places
abbrev shifted : {A : Type 0} → (ℕ → ℕ) → List (Change A) → List (Change A)
shifted {A} f xs = map (λ (x : Change A). (f x.0, x.1)) xs

-- their places
abbrev pub places_of : {A : Type 0} → List (Change A) → List ℕ
places_of {A} xs = map (λ (x : Change A). x.0) xs

size_none : {A : Type 0} (o : Option (List A)) → o ≡ none → size o ≡ 1
unfolding Option-elim
size_none o e = rw e refl

size-some : {A : Type 0} (o : Option (List A)) (ks : List A) → o ≡ some ks → size o ≡ length ks
unfolding Option-elim
size-some o ks e = rw e refl

module _ {A : Type 0} (f : ℕ → Option (List A)) where
  abbrev over : ℕ → ℕ
  over n = place_after (λ m. size (f m)) n

  -- places that stay places move apart
  over-apart : (n i : ℕ) → f n ≡ none → f i ≡ none → (n ≡ i → ⊥) → over n ≡ over i → ⊥
  over-apart n i e e' d q = go (ltb n i) refl
    where
      go : (b : Bool) → ltb n i ≡ b → ⊥
      go true l = omega (arith, place-grows (λ m. size (f m)) n i (ltb-true n i l), size_none (f n) e)
      go false l = let h : i < n = omega (arith, ltb-false n i l, d) in omega (arith, place-grows (λ m. size (f m)) i n h, size_none (f i) e')

  -- and not among what is new
  over-fresh : (n m i : ℕ) (ks : List A) → f n ≡ some ks → m < length ks → f i ≡ none → over n + m ≡ over i → ⊥
  over-fresh n m i ks e l e' q = go (ltb n i) refl
    where
      differ : n ≡ i → ⊥
      differ r = let z : ◌≡◌ {A = ℕ} 0 1 = cc (ap f r, e, e') in omega arith

      go : (b : Bool) → ltb n i ≡ b → ⊥
      go true h = omega (arith, place-grows (λ m. size (f m)) n i (ltb-true n i h), size-some (f n) ks e)
      go false h = let g : i < n = omega (arith, ltb-false n i h, differ) in omega (arith, place-grows (λ m. size (f m)) i n g, size_none (f i) e')

  over-same : (n i : ℕ) → f n ≡ none → f i ≡ none → eqb (over n) (over i) ≡ eqb n i
  over-same n i e e' = go (eqb n i) refl
    where
      go : (b : Bool) → eqb n i ≡ b → eqb (over n) (over i) ≡ b
      go true q = eq-eqb (over n) (over i) (ap over (eqb-true n i q))
      go false q = ne_eqb (over n) (over i) (over-apart n i e e' (eqb-false n i q))

  same_place : (n i : ℕ) → f n ≡ none → f i ≡ none → over n ≡ over i → n ≡ i
  same_place n i e e' q = go (eqb n i) refl
    where
      go : (b : Bool) → eqb n i ≡ b → n ≡ i
      go true r = eqb-true n i r
      go false r = absurd (over-apart n i e e' (eqb-false n i r) q)

  kept : (ys : List (Change A)) → ((i : ℕ) → In i (places_of ys) → f i ≡ none) → (n : ℕ) → f n ≡ none → becomes (shifted over ys) (over n) ≡ becomes ys n
  unfolding becomes
  kept [] h n e = refl
  kept (y ∷ ys) h n e =
      rw (over-same n y.0 e (h y.0 (In.head refl)), kept ys (λ i m. h i (In.tail m)) n e) refl

  fresh : (ys : List (Change A)) → ((i : ℕ) → In i (places_of ys) → f i ≡ none) → (n m : ℕ) (ks : List A) → f n ≡ some ks → m < length ks
      → becomes (shifted over ys) (over n + m) ≡ none
  unfolding becomes
  fresh [] h n m ks e l = refl
  fresh (y ∷ ys) h n m ks e l =
      rw (ne_eqb (over n + m) (over y.0) (over-fresh n m y.0 ks e l (h y.0 (In.head refl))), fresh ys (λ i g. h i (In.tail g)) n m ks e l) refl

  through : (ys : List (Change A)) → ((i : ℕ) → In i (places_of ys) → f i ≡ none) → Through f (becomes ys) (becomes (shifted over ys))
  through ys h = record { kept = kept ys h; fresh = fresh ys h }

-- nothing becomes of another place
untaken : {A : Type 0} (ys : List (Change A)) (n : ℕ) → (In n (places_of ys) → ⊥) → becomes ys n ≡ none
unfolding becomes
untaken [] n h = refl
untaken (y ∷ ys) n h = rw (ne_eqb n y.0 (λ e. h (In.head e)), untaken ys n (λ m. h (In.tail m))) refl

taken : {A : Type 0} (ys : List (Change A)) (n : ℕ) → becomes ys n ≡ none ⊎ In n (places_of ys)
unfolding becomes
taken [] n = inl refl
taken (y ∷ ys) n = go (eqb n y.0) refl (taken ys n)
  where
    go : (b : Bool) → eqb n y.0 ≡ b → becomes ys n ≡ none ⊎ In n (places_of ys) → cond b (some y.1) (becomes ys n) ≡ none ⊎ In n (y.0 ∷ places_of ys)
    go true e r = inr (In.head (eqb-true n y.0 e))
    go false e r = ⊎_elim inl (λ h. inr (In.tail h)) r

-- ---- one replacement, and two at once, as changes
not-zero : (n : ℕ) → eqb (suc n) 0 ≡ false
not-zero n = ne_eqb (suc n) 0 (λ e. omega arith)

module _ {A : Type 0} where
  same-rewritten : (f g : ℕ → Option (List A)) (xs : List A) → ((n : ℕ) → f n ≡ g n) → rewritten f xs ≡ rewritten g xs
  same-rewritten f g xs h = gather-same _ _ xs (λ n x. ap (λ o. or_self o x) (h n))

  none-rewritten : (f : ℕ → Option (List A)) (xs : List A) → ((n : ℕ) → f n ≡ none) → rewritten f xs ≡ xs
  none-rewritten f xs h = untouched f xs (λ m l. h m)

  -- the changes behind the first place
  abbrev rest : List (Change A) → ℕ → Option (List A)
  rest xs n = becomes xs (suc n)

  pub replaced : (i : ℕ) (ks ps : List A) → replace i ks ps ≡ rewritten (becomes ((i, ks) ∷ [])) ps
  unfolding replace gather becomes Option-elim
  replaced zero ks [] = refl
  replaced zero ks (p ∷ ps) = ap (λ t. ks ++ t) (sym (none-rewritten (rest ((0, ks) ∷ [])) ps (λ n. rw (not-zero n) refl)))
  replaced (suc i) ks [] = refl
  replaced (suc i) ks (p ∷ ps) =
      rw (ne_eqb 0 (suc i) (λ e. omega arith))
      (ap (λ t. p ∷ t) (replaced i ks ps ∙ same-rewritten (becomes ((i, ks) ∷ [])) (rest ((suc i, ks) ∷ [])) ps (λ n. rw (eqb-suc-suc n i) refl)))

  pub replaced-both : (i : ℕ) (ks : List A) (k : ℕ) (ls ps : List A) → (i ≡ k → ⊥) → replace_both i ks k ls ps ≡ rewritten (becomes ((i, ks) ∷ (k, ls) ∷ [])) ps
  unfolding replace_both gather becomes Option-elim
  replaced-both zero ks zero ls ps d = absurd (d refl)
  replaced-both zero ks (suc k) ls [] d = refl
  replaced-both zero ks (suc k) ls (p ∷ ps) d =
      ap (λ t. ks ++ t) (replaced k ls ps ∙ same-rewritten (becomes ((k, ls) ∷ [])) (rest ((0, ks) ∷ (suc k, ls) ∷ [])) ps (λ n. rw (not-zero n, eqb-suc-suc n k) refl))
  replaced-both (suc i) ks zero ls [] d = refl
  replaced-both (suc i) ks zero ls (p ∷ ps) d =
      rw (ne_eqb 0 (suc i) (λ e. omega arith))
      (ap (λ t. ls ++ t) (replaced i ks ps ∙ same-rewritten (becomes ((i, ks) ∷ [])) (rest ((suc i, ks) ∷ (0, ls) ∷ [])) ps (λ n. rw (not-zero n, eqb-suc-suc n i) refl)))
  replaced-both (suc i) ks (suc k) ls [] d = refl
  replaced-both (suc i) ks (suc k) ls (p ∷ ps) d =
      rw (ne_eqb 0 (suc i) (λ e. omega arith), ne_eqb 0 (suc k) (λ e. omega arith))
      (ap (λ t. p ∷ t)
      (replaced-both i ks k ls ps (λ e. d (ap suc e))
      ∙ same-rewritten (becomes ((i, ks) ∷ (k, ls) ∷ [])) (rest ((suc i, ks) ∷ (suc k, ls) ∷ [])) ps (λ n. rw (eqb-suc-suc n i, eqb-suc-suc n k) refl)))

-- ---- the rules at given places
module _ {Proc : Type 0} (branches : Proc → List (Branch Proc)) (lit : List Pair) where
  acts-at : {ps : List Proc} {i j : ℕ} {l : Label} {p : Proc} {ks : List Proc} → Nth ps i p → Chooses lit (branches p) j l ks → Acts branches lit ps i j l (replace i ks ps)
  unfolding replace
  acts-at first c = rule15-this c
  acts-at (later h) c = rule15-other (acts-at h c)

  left : {p : Proc} {ps ks ls : List Proc} {x : Pair} {a : Action} {vs : List ℤ} {j k m r₁ r₂ : ℕ}
      → Accepts x a vs → Chooses lit (branches p) j (plain (send x) r₁) ks → Acts branches lit ps k m (label a r₂ 0 unchanged vs) ls
      → Handshakes branches lit (p ∷ ps) zero j (suc k) m r₁ r₂ (ks ++ ls)
  left (unbound h) c a = rule16-left c a h
  left (bound h) c a = rule17-left c a h

  right : {p : Proc} {ps ks ls : List Proc} {x : Pair} {a : Action} {vs : List ℤ} {i j m r₁ r₂ : ℕ}
      → Accepts x a vs → Acts branches lit ps i j (plain (send x) r₁) ls → Chooses lit (branches p) m (label a r₂ 0 unchanged vs) ks
      → Handshakes branches lit (p ∷ ps) (suc i) j zero m r₁ r₂ (ks ++ ls)
  right (unbound h) a c = rule16-right a c h
  right (bound h) a c = rule17-right a c h

  handshakes-at : {ps : List Proc} {i j k m r₁ r₂ : ℕ} {x : Pair} {a : Action} {vs : List ℤ} {p q : Proc} {ks ls : List Proc}
      → Accepts x a vs → (i ≡ k → ⊥)
      → Nth ps i p → Chooses lit (branches p) j (plain (send x) r₁) ks → Nth ps k q → Chooses lit (branches q) m (label a r₂ 0 unchanged vs) ls
      → Handshakes branches lit ps i j k m r₁ r₂ (replace_both i ks k ls ps)
  unfolding replace_both
  handshakes-at h d first c first e = absurd (d refl)
  handshakes-at h d first c (later g) e = left h c (acts-at g e)
  handshakes-at h d (later f) c first e = right h (acts-at f c) e
  handshakes-at h d (later f) c (later g) e = rule15-both (handshakes-at h (λ t. d (ap suc t)) f c g e)

-- the state with other processes
abbrev with : {Proc : Type 0} → State Proc → List Proc → State Proc
with s ps = record { processes = ps; pairs = s.pairs }

module _ {Proc : Type 0} (branches : Proc → List (Branch Proc)) (s : State Proc) where
  of-branch : {B : Type 0} {i j : ℕ} {p : Proc} {b : Branch Proc} (d : B) (f : Branch Proc → B) → Nth s.processes i p → Nth (branches p) j b → of_branch branches s d i j f ≡ f b
  unfolding of_branch
  of-branch d f g h = nth-found d _ g ∙ nth-found d f h

  -- a move seen from its places: where its processes stand, wherever they stand, the rules move them so
  pub record Seen (k : Key) (w : ℕ) (n : Written) (ps : List Proc) : Type 0 where
    pub acted : places_of (becoming branches s k) ≡ places k
    pub goes : ps ≡ rewritten (becomes (becoming branches s k)) s.processes
    pub again : (f : ℕ → ℕ) (qs : List Proc)
        → ((i : ℕ) (p : Proc) → In i (places k) → Nth s.processes i p → Nth qs (f i) p)
        → ((i j : ℕ) → In i (places k) → In j (places k) → f i ≡ f j → i ≡ j)
        → Moves branches (with s qs) (placed f k) w n (rewritten (becomes (shifted f (becoming branches s k))) qs)

  pub one-becomes : {a : Action} {c i j r q : ℕ} {n : Written} {vs : List ℤ} {ps : List Proc} → Alone a c → (v : Acts branches s.pairs s.processes i j (label a r q n vs) ps)
      → becoming branches s (key c i j 0 0 q) ≡ (i, (acting branches s.pairs v).after) ∷ []
  unfolding becoming
  one-becomes {i = i} k v =
      let t = acting branches s.pairs v in
      let b = branching t.chooses in
      rw (no-handshake k) (ap (λ ks. (i, ks) ∷ []) (of-branch [] _ t.at b.at ∙ rw (offered-bound b.offered k) (chooses-goes t.chooses)))

  pub two-become : {i j k m r₁ r₂ : ℕ} {ps : List Proc} (v : Handshakes branches s.pairs s.processes i j k m r₁ r₂ ps)
      → becoming branches s (key kind.handshake i j k m 0) ≡ (i, (meeting branches s.pairs v).sender.after) ∷ (k, (meeting branches s.pairs v).receiver.after) ∷ []
  unfolding becoming
  two-become {i} {k = k} v =
      let t = meeting branches s.pairs v in
      let b = branching t.sender.chooses in
      let b' = branching t.receiver.chooses in
      ap₂ (λ ks ls. (i, ks) ∷ (k, ls) ∷ []) (of-branch [] _ t.sender.at b.at ∙ chooses-goes t.sender.chooses)
      (of-branch [] _ t.receiver.at b'.at
      ∙ rw (of-branch {B = List ℤ} [] (λ (a : Branch Proc). on_action [] sent_by a.guard) t.sender.at b.at, offered-sent b.offered, offered-received b'.offered t.accepts) (chooses-goes t.receiver.chooses))

  seen_one : {a : Action} {c i j r q : ℕ} {n : Written} {vs : List ℤ} {ps : List Proc} → Alone a c → Acts branches s.pairs s.processes i j (label a r q n vs) ps
      → Seen (key c i j 0 0 q) (rate_weight r) n ps
  unfolding places placed
  seen_one {a} {c} {i} {j} {r} {q} {n} {vs} {ps} c' v = record {
    acted = rw (e, h) refl;
    goes = rw e (sym (acts-goes branches s.pairs v) ∙ replaced i t.after s.processes);
    again = λ f qs g d. rw (h, e, ← (replaced (f i) t.after qs)) (alone c' (acts-at branches s.pairs (g i t.proc (rw h (In.head refl)) t.at) t.chooses));
  }
    where
      t : Acting branches s.pairs s.processes i j (label a r q n vs)
      t = acting branches s.pairs v

      e : becoming branches s (key c i j 0 0 q) ≡ (i, t.after) ∷ []
      e = one-becomes c' v

      h : eqb c kind.handshake ≡ false
      h = no-handshake c'

  seen-two : {i j k m r₁ r₂ : ℕ} {ps : List Proc} → Handshakes branches s.pairs s.processes i j k m r₁ r₂ ps → Seen (key kind.handshake i j k m 0) (r₁ * r₂) unchanged ps
  unfolding places placed
  seen-two {i} {j} {k} {m} {r₁} {r₂} {ps} v = record {
    acted = rw e refl;
    goes = rw e (sym (handshakes-goes branches s.pairs v) ∙ replaced-both i t.sender.after k t.receiver.after s.processes t.apart);
    again = λ f qs g d.
        let apart : f i ≡ f k → ⊥ = λ q. t.apart (d i k (In.head refl) (In.tail (In.head refl)) q) in
        rw (e, ← (replaced-both (f i) t.sender.after (f k) t.receiver.after qs apart))
        (together
        (handshakes-at branches s.pairs t.accepts apart (g i t.sender.proc (In.head refl) t.sender.at) t.sender.chooses
        (g k t.receiver.proc (In.tail (In.head refl)) t.receiver.at) t.receiver.chooses));
  }
    where
      t : Meeting branches s.pairs s.processes i j k m r₁ r₂
      t = meeting branches s.pairs v

      e : becoming branches s (key kind.handshake i j k m 0) ≡ (i, t.sender.after) ∷ (k, t.receiver.after) ∷ []
      e = two-become v

  pub seen : {k : Key} {w : ℕ} {n : Written} {ps : List Proc} → Moves branches s k w n ps → Seen k w n ps
  seen (alone c v) = seen_one c v
  seen (together v) = seen-two v

  -- how an entry changes the processes
  abbrev change : Key → ℕ → Option (List Proc)
  change k = becomes (becoming branches s k)

  -- a process of one entry isn't replaced by another's move that shares none
  stays : {k l : Key} {v : ℕ} {n : Written} {ps : List Proc} → Apart k l → Moves branches s k v n ps → (i : ℕ) → In i (places l) → change k i ≡ none
  stays {k} d m i h = untaken (becoming branches s k) i (λ g. d.none-shared i (rw (seen m).acted at g) h)

  -- 01, Step: later places move; a process that doesn't act stands at its moved place afterwards
  pub others-stand : {k : Key} {w : ℕ} {n : Written} {ps : List Proc} → Moves branches s k w n ps → {i : ℕ} {p : Proc} → (In i (places k) → ⊥) → Nth s.processes i p → Nth ps (moved branches s k i) p
  unfolding moved
  others-stand {k} m {i} d a = let g = (seen m).goes in rw g (nth-moves (change k) a (untaken (becoming branches s k) i (λ h. d (rw (seen m).acted at h))))

  -- the rules move the second entry, at its moved places, from what the first leaves, and both changes are made
  pub after_first : {k l : Key} {v w : ℕ} {n n' : Written} {ps qs : List Proc} → Apart k l → Moves branches s k v n ps → Moves branches s l w n' qs
      → Moves branches (with s ps) (carried branches s k l) w n' (rewritten (changes.together (change k) (change l)) s.processes)
  unfolding carried moved
  after_first {k} {l} d m m' =
      let f = change k in
      let e = one-after-other f (change l) (becomes (shifted (over f) (becoming branches s l))) s.processes
      (through f (becoming branches s l) (λ i h. stays d m i (rw (seen m').acted at h))) in
      let g = (seen m).goes in
      rw (← e, g)
      ((seen m').again (over f) (rewritten f s.processes) (λ i p h a. nth-moves f a (stays d m i h))
      (λ i j a b q. same_place f i j (stays d m i a) (stays d m j b) q))

  -- and so in the other order
  pub independent : {k l : Key} {v w : ℕ} {n n' : Written} {ps qs : List Proc} → Apart k l → Moves branches s k v n ps → Moves branches s l w n' qs
      → (rs : List Proc) × Moves branches (with s ps) (carried branches s k l) w n' rs × Moves branches (with s qs) (carried branches s l k) v n rs
  independent {k} {l} d m m' =
      let e = either_way (change l) (change k) (λ i. apart-at i) s.processes in
      (rewritten (changes.together (change k) (change l)) s.processes, after_first d m m', rw e at (after_first turned m' m))
    where
      turned : Apart l k
      turned = record { none-shared = λ i a b. d.none-shared i b a }

      apart-at : (i : ℕ) → change l i ≡ none ⊎ change k i ≡ none
      apart-at i = ⊎_elim inl (λ h. inr (stays d m i (rw (seen m').acted at h))) (taken (becoming branches s l) i)

-- ---- neither a launch nor a kill changes no pair
quiet-offered : {lit : List Pair} {g : Guard} {a : Action} {r q c : ℕ} {n : Written} {vs : List ℤ}
    → Offered lit g (label a r q n vs) → Alone a c → (c ≡ kind.launch → ⊥) → (c ≡ kind.kill → ⊥) → n ≡ unchanged
quiet-offered rule8 waits f g = refl
quiet-offered rule9 launches f g = absurd (f refl)
quiet-offered rule10 kills f g = absurd (g refl)
quiet-offered (rule11 x h m) receives f g = refl
quiet-offered (rule12 h m) binds f g = refl
quiet-offered (rule13 h) checks f g = refl
quiet-offered (rule18 o) a f g = quiet-offered o a f g
quiet-offered sends a f g = elim a [ ]
quiet-offered takes a f g = elim a [ ]
quiet-offered (takes_bind _ _ _) a f g = elim a [ ]

-- a move that changes no pair leads to a state with its processes
leads : {Proc : Type 0} (branches : Proc → List (Branch Proc)) (s : State Proc) {k : Key} {w : ℕ} {n : Written} {ps : List Proc}
    → n ≡ unchanged → Moves branches s k w n ps → state_after s (step branches s k) ≡ with s ps
unfolding pairs_after
leads branches s {ps = ps} e m = steps-state branches s m ∙ ap (λ (c : Written). record { processes = ps; pairs = pairs_after c s.pairs }) e

module _ {Proc : Type 0} (branches : Proc → List (Branch Proc)) (s : State Proc) where
  pub quiet : {k : Key} {w : ℕ} {n : Written} {ps : List Proc} → Quiet k → Moves branches s k w n ps → n ≡ unchanged
  unfolding Quiet
  quiet q (alone c v) = quiet-offered (branching (acting branches s.pairs v).chooses).offered c q.0 q.1
  quiet q (together v) = refl

  -- the state afterwards
  abbrev pub to : Key → State Proc
  to k = state_after s (step branches s k)

  -- 02, note 14: two entries of one listing that share no process, neither a launch nor a kill. After either the other is listed, at its moved places and with its weight; and
  -- taking it then leads to the same state.
  pub record Commutes (k l : Key) (v w : ℕ) : Type 0 where
    pub second-listed : In (entry (carried branches s k l) w) (entries branches (to k))
    pub first-listed : In (entry (carried branches s l k) v) (entries branches (to l))
    pub same : state_after (to k) (step branches (to k) (carried branches s k l)) ≡ state_after (to l) (step branches (to l) (carried branches s l k))

  pub commutes : (k l : Key) (v w : ℕ) → In (entry k v) (entries branches s) → In (entry l w) (entries branches s) → Apart k l → Quiet k → Quiet l → Commutes k l v w
  unfolding Derivable pairs_after
  commutes k l v w h g d q r =
      let a = (listed branches s k v).0 h in
      let b = (listed branches s l w).0 g in
      let x = quiet q a.2 in
      let y = quiet r b.2 in
      let i = independent branches s d a.2 b.2 in
      let e = leads branches s x a.2 in
      let e' = leads branches s y b.2 in
      record {
        second-listed = rw e ((listed branches (with s a.1) (carried branches s k l) w).1 (b.0, i.0, i.1));
        first-listed = rw e' ((listed branches (with s b.1) (carried branches s l k) v).1 (a.0, i.0, i.2));
        same = rw (e, e') (leads branches (with s a.1) y i.1 ∙ sym (leads branches (with s b.1) x i.2));
      }
