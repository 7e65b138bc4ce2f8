-- The three tests, of the pairs, of their order and of what follows them.
use mathlib.Core.Path.{◌≡◌, sym, ap, ◌∙◌}
use Prim.Native.Nat.{◌*◌}
use borrow.Author.Tests.{tests}
use Rattle.std.proofs.Common.{rules}
use Rattle.std.proofs.lemmas.Iterator.{YieldsList-from_slice}
use Rattle.std.proofs.lemmas.Iterator.Search.{all_from_yields_List}
use Rattle.machine.specs.State.{pair_width}
use Rattle.state.specs.Test.{every, rows, is_zero, is_pair, ascends}
use Rattle.state.proofs.Part.{tail-part}
use Rattle.state.proofs.Tests.{every_all, pairs-fail, pairs-unordered, pairs-rest}
use Rattle.state.proofs.are_pairs.Goals as goal

pub returns-then-is_ascending : goal.returns-then-is_ascending
returns-then-is_ascending c =
    let t = is_pair c.args.channels in
    let h : c.all.result ≡ every t (rows pair_width c.args.n c.args.s.now) =
    all_from_yields_List t _ _ _ c.all.ensures.ran (YieldsList-from_slice c.first_rows-pairs.result.now cc) (λ x b q k. (search (rules, tests), search (rules, tests)))
    ∙ every_all t c.first_rows-pairs.result.now ∙ ap (every t) c.first_rows-pairs.ensures.0 in
    let o : c.is_ascending.result ≡ ascends (rows pair_width c.args.n c.args.s.now) = c.is_ascending.ensures ∙ ap ascends c.first_rows-pairs.ensures.0 in
    c.all_zero.ensures ∙ ap (every is_zero) (tail-part (c.args.n * pair_width) c.args.s.now) ∙ sym (pairs-rest c.args.channels c.args.n c.args.s.now (sym h ∙ c.if-all.true) (sym o ∙ c.if-is_ascending.true))

pub returns-else-is_ascending : goal.returns-else-is_ascending
returns-else-is_ascending c =
    let t = is_pair c.args.channels in
    let h : c.all.result ≡ every t (rows pair_width c.args.n c.args.s.now) =
    all_from_yields_List t _ _ _ c.all.ensures.ran (YieldsList-from_slice c.first_rows-pairs.result.now cc) (λ x b q k. (search (rules, tests), search (rules, tests)))
    ∙ every_all t c.first_rows-pairs.result.now ∙ ap (every t) c.first_rows-pairs.ensures.0 in
    let o : c.is_ascending.result ≡ ascends (rows pair_width c.args.n c.args.s.now) = c.is_ascending.ensures ∙ ap ascends c.first_rows-pairs.ensures.0 in
    c.if-is_ascending.false ∙ sym (pairs-unordered c.args.channels c.args.n c.args.s.now (sym h ∙ c.if-all.true) (sym o ∙ c.if-is_ascending.false))

pub returns-else-all : goal.returns-else-all
returns-else-all c =
    let t = is_pair c.args.channels in
    let h : c.all.result ≡ every t (rows pair_width c.args.n c.args.s.now) =
    all_from_yields_List t _ _ _ c.all.ensures.ran (YieldsList-from_slice c.first_rows-pairs.result.now cc) (λ x b q k. (search (rules, tests), search (rules, tests)))
    ∙ every_all t c.first_rows-pairs.result.now ∙ ap (every t) c.first_rows-pairs.ensures.0 in
    c.if-all.false ∙ sym (pairs-fail c.args.channels c.args.n c.args.s.now (sym h ∙ c.if-all.false))
