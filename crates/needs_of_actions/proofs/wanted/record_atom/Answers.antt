use Rattle.std.proofs.Common.{length}
use Rattle.type_model.proofs.Kept.{KeepsTypes-same}
use Rattle.needs_of_actions.proofs.Awaited.{record-adds}
use Rattle.needs_of_actions.proofs.wanted.record_atom.Goals as goal

pub add_one-requires-clause-named : goal.add_one-requires-clause-named
add_one-requires-clause-named g c = c.in-Ok.ensures.below (length (g.T.Types.atoms c.args.types.now)) c.requires

pub returns-in-Ok-clause-comes : goal.returns-in-Ok-clause-comes
returns-in-Ok-clause-comes g c =
    record-adds c.args.keys.items c.args.known.now c.args.at (g.T.Types.atoms c.args.types.now) (g.T.Types.atoms c.add_one.new.types) c.in-Ok.def c.add_one.result c.in-Ok.ensures.is c.add_one.ensures.comes

pub returns-in-Err-clause-kept : goal.returns-in-Err-clause-kept
returns-in-Err-clause-kept g c = KeepsTypes-same _
