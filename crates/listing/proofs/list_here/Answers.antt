-- `listing::list_here` meets its contract: by a small table, or by a large one.
use mathlib.Core.Path.{refl, ap, ◌∙◌}
use Rattle.std.specs.Prelude.{Err, Ok}
use Rattle.listing.proofs.Finished.{all_done, never_full}
use Rattle.listing.proofs.list_here.Goals as goal

pub past_full-requires : goal.past_full-requires
past_full-requires c = never_full refl (c.list_in-in-Err-Full.ensures c.requires.0.0 c.requires.0.1 c.requires.0.2)

pub returns-in-Ok : goal.returns-in-Ok
returns-in-Ok c = λ m s w. all_done (Ok c.in-Ok.listed) c.in-Ok.is (c.list_in.ensures m s w)

pub returns-in-Err-Refused : goal.returns-in-Err-Refused
returns-in-Err-Refused c = λ m s w. all_done (Err c.in-Err-Refused.refusal) (c.in-Err-Refused.is ∙ ap Err c.in-Err-Refused.field-0-is) (c.list_in.ensures m s w)

pub returns-in-Err-Full : goal.returns-in-Err-Full
returns-in-Err-Full c = λ m s w. all_done _ c.past_full.ensures (c.list_in-in-Err-Full.ensures m s w)
