-- `names::branch_fault` meets its contract: by the question; only 7 asks about branches.
use Rattle.names.proofs.Scopes.{branch-asked, branch-free}
use Rattle.names.proofs.branch_fault.Goals as goal

pub returns-in-Limits : goal.returns-in-Limits
returns-in-Limits c =
    branch-asked c.args.i c.args.k c.in-Limits.is c.then_some.ensures

pub returns-in-Fresh : goal.returns-in-Fresh
returns-in-Fresh c =
    branch-free c.args.i c.args.k c.in-Fresh.is
