-- `judge_names` meets its contract: the first question that says no, or none.
use mathlib.Core.Path.{sym, ◌∙◌}
use Rattle.names.specs.declared.Question.TheVariants.{Fresh, Given}
use Rattle.names.proofs.Judging.{with-lists, limits-ready, names-ready, judged-beyond, judged-new, judged-given, raised}
use Rattle.names.proofs.judge_names.Goals as goal

pub tree_fault-tree-requires : goal.tree_fault-tree-requires
tree_fault-tree-requires c =
    limits-ready (with-lists (record { contents = c.args.contents; nodes = c.args.nodes; lists = c.lists_of.result }) c.requires.2 (c.lists_of.ensures c.requires.1 0 c.requires.2.holds))

pub returns-in_err-answer : goal.returns-in_err-answer
returns-in_err-answer c =
    λ text s h. rw (raised c.from_residual.ensures.1) (judged-beyond (with-lists (record { contents = c.args.contents; nodes = c.args.nodes; lists = c.lists_of.result }) h (c.lists_of.ensures s 0 h.holds)) (c.words_fault-words.ensures text h.tabled) c.tree_fault-tree.ensures c.earlier.ensures (sym c.answer.ensures ∙ c.in_err-answer.was))

pub tree_fault-requires : goal.tree_fault-requires
tree_fault-requires c =
    names-ready (with-lists (record { contents = c.args.contents; nodes = c.args.nodes; lists = c.lists_of.result }) c.requires.2 (c.lists_of.ensures c.requires.1 0 c.requires.2.holds)) (c.words_fault-words.ensures c.requires.0 c.requires.2.tabled) c.tree_fault-tree.ensures c.earlier.ensures (sym c.answer.ensures ∙ c.in_ok-answer.was) Fresh

pub returns-in_err-answer-2 : goal.returns-in_err-answer-2
returns-in_err-answer-2 c =
    λ text s h. rw (raised c.from_residual-in_err-answer-2.ensures.1) (judged-new (with-lists (record { contents = c.args.contents; nodes = c.args.nodes; lists = c.lists_of.result }) h (c.lists_of.ensures s 0 h.holds)) (c.words_fault-words.ensures text h.tabled) c.tree_fault-tree.ensures c.earlier.ensures (sym c.answer.ensures ∙ c.in_ok-answer.was) c.tree_fault.ensures (sym c.answer-2.ensures ∙ c.in_err-answer-2.was))

pub tree_fault-requires-2 : goal.tree_fault-requires-2
tree_fault-requires-2 c =
    names-ready (with-lists (record { contents = c.args.contents; nodes = c.args.nodes; lists = c.lists_of.result }) c.requires.2 (c.lists_of.ensures c.requires.1 0 c.requires.2.holds)) (c.words_fault-words.ensures c.requires.0 c.requires.2.tabled) c.tree_fault-tree.ensures c.earlier.ensures (sym c.answer.ensures ∙ c.in_ok-answer.was) Given

pub returns : goal.returns
returns c =
    λ text s h. rw c.answer-3.ensures (judged-given (with-lists (record { contents = c.args.contents; nodes = c.args.nodes; lists = c.lists_of.result }) h (c.lists_of.ensures s 0 h.holds)) (c.words_fault-words.ensures text h.tabled) c.tree_fault-tree.ensures c.earlier.ensures (sym c.answer.ensures ∙ c.in_ok-answer.was) c.tree_fault.ensures (sym c.answer-2.ensures ∙ c.in_ok-answer-2.was) c.tree_fault-2.ensures)
