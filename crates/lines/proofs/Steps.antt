-- One more byte of a script: the line it is in, and where the script stands then; from the definitions and what reading a line promises.
use Rattle.std.proofs.Common.{◌≡◌, ℕ, ◌+◌, ◌%◌, ◌<◌, ◌≤◌, true, List, [], ◌∷◌, ◌++◌, sym, refl, ap, ◌∙◌, subst, append_assoc, append-nil, arith, length-append, ne_eqb}
use Rattle.std.specs.Prelude.{Ok, Some}
use mathlib.Core.Option.{some}
use native.Mathlib.Nat.{mod-add-mod}
use Rattle.token.specs.Bytes.{line_feed}
use Rattle.lines.specs.declared.line.Line.{Line}
use Rattle.lines.specs.declared.line.Line.TheVariants.{Open, Steady, List as Listing, Step, State, Report, Save, Return, Forget, Time, Wait, Clock, Independent, Search, Word, Run, Begin, Carry}
use Rattle.lines.specs.declared.line.Reading.{Reading}
use Rattle.lines.specs.declared.script.Part.TheVariants.{InLine, InText}
use Rattle.lines.specs.declared.script.Script.{Script}
use Rattle.lines.specs.declared.script.Pushed.{Pushed}
use Rattle.lines.specs.Limit.{limit}
use Rattle.lines.specs.Two.{run}
use Rattle.lines.specs.Line.{line_of, empty, rest_of, packed, head_of, after_of, further_of, kept, Reads}
use Rattle.lines.proofs.Heads.{none_read, some_read}
use Rattle.lines.specs.Script.{breaks, number_after, is_short, text_of, Items, LineBegun, TextBegun, Stands, Misplaced, Pushes, Cut, next, fresh, ended}

-- ---- lines are counted
breaks-append : (s t : List ℕ) → breaks (s ++ t) ≡ breaks s + breaks t
unfolding breaks
breaks-append [] t = omega arith
breaks-append (b ∷ s) t = let e = breaks-append s t in omega arith

break-one : breaks (line_feed ∷ []) ≡ 1
unfolding breaks
break-one = refl

break-none : (b : ℕ) → (b ≡ line_feed → ⊥) → breaks (b ∷ []) ≡ 0
unfolding breaks
break-none b n = simp (ne_eqb b line_feed n)

same_number : (s t : List ℕ) → breaks t ≡ breaks s → number_after s ≡ number_after t
same_number s t e = ap (λ (x : ℕ). (1 + x) % limit) (sym e)

next-number : (s t : List ℕ) → breaks t ≡ breaks s + 1 → next (number_after s) ≡ number_after t
next-number s t e = mod-add-mod (1 + breaks s) limit 1 ∙ ap (λ (x : ℕ). x % limit) (omega arith)

pub after-break : (s : List ℕ) (b line : ℕ) → b ≡ line_feed → line ≡ number_after s → next line ≡ number_after (s ++ (b ∷ []))
after-break s b line e h =
    ap next h
    ∙ next-number s (s ++ (b ∷ [])) (breaks-append s (b ∷ []) ∙ ap (λ (x : ℕ). breaks s + breaks (x ∷ [])) e ∙ ap (λ (x : ℕ). breaks s + x) break-one)

pub after-other : (s : List ℕ) (b line : ℕ) → (b ≡ line_feed → ⊥) → line ≡ number_after s → line ≡ number_after (s ++ (b ∷ []))
after-other s b line n h = h ∙ same_number s (s ++ (b ∷ [])) (let e = breaks-append s (b ∷ []) in let z = break-none b n in omega arith)

-- ---- no byte of a line
empty-reads : Reads [] empty
unfolding head_of packed rest_of after_of further_of kept run
empty-reads = record { bytes = tt; head = refl; early = refl; rest = refl; after = refl; mid = refl; late = refl; further = refl; kept = refl; two = refl }

no-breaks : breaks [] ≡ 0
unfolding breaks
no-breaks = refl

-- an item has ended, and nothing of the next has come
pub begins : {s : List ℕ} {qs : List Line} {line : ℕ} → Items s qs → line ≡ number_after s → Stands s qs (fresh line)
begins {s} h e =
    record { line-is = e; begun = record { items = s; line = []; is = sym (append-nil s); whole = h; unbroken = no-breaks; reads = empty-reads; from_is = e } }

pub starts : Stands [] [] (fresh 1)
unfolding breaks
starts = begins Items.none refl

-- ---- in a line
module _ {s : List ℕ} {qs : List Line} {from : ℕ} {r : Reading} (x : LineBegun s qs from r) (b : ℕ) where
  line_on : s ++ (b ∷ []) ≡ x.items ++ (x.line ++ (b ∷ []))
  line_on = ap (λ (u : List ℕ). u ++ (b ∷ [])) x.is ∙ append_assoc x.items x.line (b ∷ [])

  from-here : from ≡ number_after s
  from-here = x.from_is ∙ same_number x.items s (ap breaks x.is ∙ breaks-append x.items x.line ∙ (let u = x.unbroken in omega arith))

  pub line-goes : {line : ℕ} {r' : Reading} → line ≡ number_after s → (b ≡ line_feed → ⊥) → Reads (x.line ++ (b ∷ [])) r' → Stands (s ++ (b ∷ [])) qs (record { line = line; from = from; part = InLine r' })
  line-goes {line} e n h =
      record {
        line-is = after-other s b line n e;
        begun =
            record {
              items = x.items;
              line = x.line ++ (b ∷ []);
              is = line_on;
              whole = x.whole;
              unbroken = breaks-append x.line (b ∷ []) ∙ (let u = x.unbroken in let z = break-none b n in omega arith);
              reads = h;
              from_is = x.from_is;
            };
      }

  line-short : {q : Line} → b ≡ line_feed → line_of x.line ≡ Some q → is_short q ≡ true → Stands (s ++ (b ∷ [])) (qs ++ (q ∷ [])) (fresh (next from))
  line-short {q} e h k =
      begins
      (subst (λ (u : List ℕ). Items u (qs ++ (q ∷ []))) (ap (λ (y : ℕ). x.items ++ (x.line ++ (y ∷ []))) (sym e) ∙ sym line_on) (Items.short x.line x.whole x.unbroken h k))
      (after-break s b from e from-here)

  line-open : {q : Line} {n : ℕ} → b ≡ line_feed → line_of x.line ≡ Some q → text_of q ≡ some n → Stands (s ++ (b ∷ [])) qs (record { line = next from; from = from; part = InText (record { asked = q; size = n; taken = 0 }) })
  line-open e h a =
      record {
        line-is = after-break s b from e from-here;
        begun =
            record {
              items = x.items;
              line = x.line;
              text = [];
              is = line_on ∙ ap (λ (y : ℕ). x.items ++ (x.line ++ (y ∷ []))) e;
              whole = x.whole;
              unbroken = x.unbroken;
              opens = h;
              asks = a;
              size = refl;
              fits = omega arith;
              from_is = x.from_is;
            };
      }

  -- by what the line says
  ends_so : (l : Line) → b ≡ line_feed → line_of x.line ≡ Some l → Pushes s qs b (Ok (ended from l).0) (ended from l).1
  ends_so (Open n) e h = line-open e h refl
  ends_so (Steady n) e h = line-open e h refl
  ends_so Listing e h = line-short e h refl
  ends_so (Step d) e h = line-short e h refl
  ends_so State e h = line-short e h refl
  ends_so Report e h = line-short e h refl
  ends_so (Save n) e h = line-short e h refl
  ends_so (Return n) e h = line-short e h refl
  ends_so (Forget n) e h = line-short e h refl
  ends_so (Time d) e h = line-short e h refl
  ends_so (Wait d) e h = line-short e h refl
  ends_so Clock e h = line-short e h refl
  ends_so (Independent i j) e h = line-short e h refl
  ends_so (Search d n) e h = line-short e h refl
  ends_so (Word w) e h = line-short e h refl
  ends_so (Run n) e h = line-short e h refl
  ends_so (Begin d n) e h = line-short e h refl
  ends_so (Carry n) e h = line-short e h refl

  pub line-ends : {l : Line} {y : Pushed} {z : Script} → b ≡ line_feed → line_of x.line ≡ Some l → (y, z) ≡ ended from l → Pushes s qs b (Ok y) z
  line-ends {l} e h t = subst (λ (u : Pushed × Script). Pushes s qs b (Ok u.0) u.1) (sym t) (ends_so l e h)

-- ---- in a text
module _ {s : List ℕ} {qs : List Line} {from : ℕ} {q : Line} {n k : ℕ} (x : TextBegun s qs from q n k) (b : ℕ) where
  text-on : s ++ (b ∷ []) ≡ x.items ++ (x.line ++ (line_feed ∷ (x.text ++ (b ∷ []))))
  text-on =
      ap (λ (u : List ℕ). u ++ (b ∷ [])) x.is
      ∙ append_assoc x.items (x.line ++ (line_feed ∷ x.text)) (b ∷ [])
      ∙ ap (λ (u : List ℕ). x.items ++ u) (append_assoc x.line (line_feed ∷ x.text) (b ∷ []))

  pub text-goes : {line : ℕ} → k < n → line ≡ number_after (s ++ (b ∷ [])) → Stands (s ++ (b ∷ [])) qs (record { line = line; from = from; part = InText (record { asked = q; size = n; taken = k + 1 }) })
  text-goes l e =
      record {
        line-is = e;
        begun =
            record {
              items = x.items;
              line = x.line;
              text = x.text ++ (b ∷ []);
              is = text-on;
              whole = x.whole;
              unbroken = x.unbroken;
              opens = x.opens;
              asks = x.asks;
              size = ap (λ (y : ℕ). y + 1) x.size ∙ sym (length-append x.text (b ∷ []));
              fits = omega arith;
              from_is = x.from_is;
            };
      }

  pub text-ends : {line : ℕ} → n ≤ k → b ≡ line_feed → line ≡ number_after s → Stands (s ++ (b ∷ [])) (qs ++ (q ∷ [])) (fresh (next line))
  text-ends {line} l e h =
      let f = x.fits in
      let z = x.size in
      begins
      (subst (λ (u : List ℕ). Items u (qs ++ (q ∷ []))) (ap (λ (y : ℕ). x.items ++ (x.line ++ (line_feed ∷ (x.text ++ (y ∷ []))))) (sym e) ∙ sym text-on)
      (Items.text x.line x.text x.whole x.unbroken x.opens x.asks (omega arith)))
      (after-break s b line e h)

  pub text-wrong : n ≤ k → (b ≡ line_feed → ⊥) → Misplaced s b from
  text-wrong l h = Misplaced.of-text (subst (λ (y : ℕ). TextBegun s qs from q y k) same x) h
    where
      same : n ≡ k
      same = let f = x.fits in omega arith

-- ---- at the end
module _ {s : List ℕ} {qs : List Line} {from : ℕ} {r : Reading} (x : LineBegun s qs from r) where
  pub line-done : r.head ≡ 1 → Items s qs
  line-done e = subst (λ (u : List ℕ). Items u qs) (sym (x.is ∙ ap (λ (u : List ℕ). x.items ++ u) (none_read x.reads e) ∙ append-nil x.items)) x.whole

  pub line-cut : (r.head ≡ 1 → ⊥) → Cut s from
  line-cut n = Cut.in-line x (some_read x.reads n)
