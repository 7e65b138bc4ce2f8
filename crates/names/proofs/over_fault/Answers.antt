-- `names::over_fault` meets its contract: by whether there is room for all.
use Rattle.names.proofs.Scopes.{all_fit, one-over}
use Rattle.names.proofs.over_fault.Goals as goal

pub returns-then-n-room : goal.returns-then-n-room
returns-then-n-room c =
    all_fit c.args.room c.args.first c.args.n c.if-n-room.true

pub returns : goal.returns
returns c =
    one-over c.args.room c.args.first c.args.n c.if-n-room.false
