-- `NameList::fault` meets its contract: by the question.
use Rattle.names.specs.Lists.{packed_in, names_down}
use Rattle.names.proofs.Titles.{list-limits, list-fresh, list-given}
use Rattle.names.proofs.list.NameList.fault.Goals as goal

pub returns-in-Limits : goal.returns-in-Limits
returns-in-Limits c =
    let l = c.args.self in
    list-limits (packed_in l.contents.now) c.args.limit (names_down l.nodes.now l.first l.count) c.args.question c.past_fault.result c.in-Limits.is c.past_fault.ensures

pub returns-in-Fresh : goal.returns-in-Fresh
returns-in-Fresh c =
    let l = c.args.self in
    list-fresh (packed_in l.contents.now) c.args.limit (names_down l.nodes.now l.first l.count) c.args.question c.twice_fault.result c.in-Fresh.is c.twice_fault.ensures

pub returns-in-Given : goal.returns-in-Given
returns-in-Given c =
    let l = c.args.self in
    list-given (packed_in l.contents.now) c.args.limit (names_down l.nodes.now l.first l.count) c.args.question c.in-Given.is
