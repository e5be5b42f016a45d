use Rattle.std.proofs.Common.{refl}
use Rattle.type_model.proofs.SameTypes.{NamesBelow-same}
use Rattle.needs_of_made_calls.proofs.started.future_def.Goals as goal

pub returns-clause-is : goal.returns-clause-is
returns-clause-is c = (c.in_ok-copy.field-0, c.in_ok-copy.ensures, refl)

pub returns-clause-below : goal.returns-clause-below
returns-clause-below c = λ n h. NamesBelow-same n c.args.given.now c.in_ok-copy.field-0 c.in_ok-copy.ensures h
