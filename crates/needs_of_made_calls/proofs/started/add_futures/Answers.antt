use Rattle.std.proofs.Common.{length}
use Rattle.checks.proofs.Steps.{ran_out}
use Rattle.type_model.proofs.Kept.{KeepsTypes-same}
use Rattle.needs_of_made_calls.proofs.Giving.{futures-added}
use Rattle.needs_of_made_calls.proofs.started.add_futures.Goals as goal

pub add_one-requires-clause-named : goal.add_one-requires-clause-named
add_one-requires-clause-named g c = c.in-Ok.ensures.below (length (g.T.Types.atoms c.args.types.now)) c.requires

pub returns-in-Ok-clause-comes : goal.returns-in-Ok-clause-comes
returns-in-Ok-clause-comes g c = futures-added g.T.Types.passes c.args.given.now c.in-Ok.def c.args.at _ _ c.add_one.result c.in-Ok.ensures.is c.add_one.ensures.comes

pub returns-in-Err-clause-kept : goal.returns-in-Err-clause-kept
returns-in-Err-clause-kept g c = KeepsTypes-same _

pub returns-in-Err-clause-comes : goal.returns-in-Err-clause-comes
returns-in-Err-clause-comes g c = ran_out _ _ _
