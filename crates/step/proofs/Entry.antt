-- What an entry's processes enter, put together with what the numbers show. From the laws of offers.
use mathlib.Core.Path.{◌≡◌, sym, ap, subst, ◌∙◌}
use mathlib.Core.List.{List, []}
use mathlib.Core.Bool.{◌&&◌}
use Prim.Native.Nat.{ℕ}
use lib.IntN.{ℤ}
use Rattle.model.specs.Resolved
use Rattle.rules.specs.Offers as offers
use Rattle.rules.specs.Rules.{unchanged}
use Rattle.rules.specs.Step.{values_at, sent_by, on_action, change_of}
use Rattle.rules.proofs.Inside.{nth_inside}
use Rattle.machine.specs.Offer.{Process, arguments_given}
use Rattle.machine.specs.State.{State}
use Rattle.eval.specs.declared.Values.{Values}
use Rattle.std.specs.Prelude.{Option as RustOption}
use Rattle.step.specs.declared.Entered.{Entered}
use Rattle.step.specs.declared.Moving.{Moving}
use Rattle.step.specs.Enter.{Acts, Enters, values_of, locals_of, Fit, Alone, AloneEntry, Answers, entering, changed, both_entering, Meets, Side, sent, received, HandEntry, Taken}
use Rattle.step.proofs.Offers.{shows-change}
use Rattle.step.proofs.Tables.{scoped_of}

module _ {d : Moving} {i j q : ℕ} {m : Resolved.Model} {s : State} {p : Process} {b : Resolved.Branch} {g : offers.Guard}
    (h : AloneEntry d i j q m s p b g) where
  pub acts-of : Acts d.tables.nodes.now d.tables.roots.now d.tables.scopes.now d.state.now i j m s p b g
  acts-of = record { root = d.tables.root; variables = d.tables.variables; lent = h.lent; at = h.at; evaluates = h.evaluates }

  module _ (us : RustOption Values) (v : values_of us ≡ values_at s.pairs q) (ls : List ℤ) (r : Entered) (w : Enters d.tables.nodes.now p b g (values_of us) ls r) where
    pub locals-bound : ls ≡ locals_of p (values_at s.pairs q) g
    locals-bound = w.locals ∙ ap (λ (x : List ℤ). locals_of p x g) v

    pub alone_of : Alone d i ls r.next r.offer m s b.next (on_action unchanged change_of g)
    alone_of = record {
      scoped = scoped_of h.lent;
      stands = h.lent.stands;
      defined = record {
        good = h.lent.stands.good;
        defines = h.lent.represents.definition;
        shows = w.next;
        fit = subst (λ (x : List ℤ). Fit m x b.next) (sym locals-bound) h.fit;
      };
      inside = nth_inside h.at.place;
      shows = shows-change d.tables.nodes.now p.locals r.offer g w.offer;
      good = h.good;
    }

    pub alone-answers : (a : Taken) (zs' : List ℤ) → Answers (arguments_given ls b.next) s (changed (entering m s i ls b.next) (on_action unchanged change_of g)) a zs'
        → Answers (arguments_given (locals_of p (values_at s.pairs q) g) b.next) s (changed (entering m s i (locals_of p (values_at s.pairs q) g) b.next) (on_action unchanged change_of g)) a zs'
    alone-answers a zs' x = subst (λ (y : List ℤ). Answers (arguments_given y b.next) s (changed (entering m s i y b.next) (on_action unchanged change_of g)) a zs') locals-bound x

module _ {d : Moving} {i j k n : ℕ} {m : Resolved.Model} {s : State} {x y : Side}
    (h : HandEntry d i j k n m s x y) where
  module _ (us : RustOption Values) (u : values_of us ≡ []) (ls : List ℤ) (r : Entered) (w : Enters d.tables.nodes.now x.process x.branch x.guard (values_of us) ls r) where
    pub sender-locals : ls ≡ sent x
    unfolding sent
    sender-locals = w.locals ∙ ap (λ (z : List ℤ). locals_of x.process z x.guard) u

    module _ (vs : RustOption Values) (v : values_of vs ≡ on_action [] sent_by x.guard) (ks : List ℤ) (q : Entered) (e : Enters d.tables.nodes.now y.process y.branch y.guard (values_of vs) ks q) where
      pub receiver-locals : ks ≡ received x y
      unfolding received
      receiver-locals = e.locals ∙ ap (λ (z : List ℤ). locals_of y.process z y.guard) v

      pub meets-of : Meets d i ls r.next k ks q.next m s x.branch.next y.branch.next
      meets-of = record {
        scoped = scoped_of h.sender.lent;
        stands = h.sender.lent.stands;
        first = record { good = h.sender.lent.stands.good; defines = h.defines; shows = w.next; fit = subst (λ (z : List ℤ). Fit m z x.branch.next) (sym sender-locals) h.sender-fit };
        second = record { good = h.sender.lent.stands.good; defines = h.defines; shows = e.next; fit = subst (λ (z : List ℤ). Fit m z y.branch.next) (sym receiver-locals) h.receiver-fit };
        apart = h.apart;
        first-inside = nth_inside h.sender.at.place;
        second-inside = nth_inside h.receiver.at.place;
      }

      pub meets-answers : (a : Taken) (zs' : List ℤ)
          → Answers (arguments_given ls x.branch.next && arguments_given ks y.branch.next) s (both_entering m s i ls x.branch.next k ks y.branch.next) a zs'
          → Answers (arguments_given (sent x) x.branch.next && arguments_given (received x y) y.branch.next) s (both_entering m s i (sent x) x.branch.next k (received x y) y.branch.next) a zs'
      meets-answers a zs' f =
          subst (λ (z : List ℤ). Answers (arguments_given (sent x) x.branch.next && arguments_given z y.branch.next) s (both_entering m s i (sent x) x.branch.next k z y.branch.next) a zs') receiver-locals
          (subst (λ (z : List ℤ). Answers (arguments_given z x.branch.next && arguments_given ks y.branch.next) s (both_entering m s i z x.branch.next k ks y.branch.next) a zs') sender-locals f)
