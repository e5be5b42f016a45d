use Rattle.std.proofs.Common.{length}
use Rattle.flow_narrowing.proofs.Joining.{unions-are, unions-below}
use Rattle.flow_narrowing.proofs.Written.{either-below}
use Rattle.flow_narrowing.proofs.flow.written_union.Goals as goal

pub compact-requires : goal.compact-requires
compact-requires g c =
    either-below (length (g.T.Types.atoms c.args.types.now)) c.args.s.now.sem c.args.t.now.sem c.in_ok-shapes.shapes c.in_ok-shapes.ensures c.requires.first.0 c.requires.second.0

pub returns-clause-defined : goal.returns-clause-defined
returns-clause-defined g c =
    unions-below (length (g.T.Types.atoms c.args.types.now)) c.args.s.now c.args.t.now c.in_ok-sem.sem c.with_choices_of_both.result c.in_ok-sem.ensures.defined c.requires.first
    c.requires.second c.with_choices_of_both.ensures

pub returns-clause-union : goal.returns-clause-union
returns-clause-union g c =
    unions-are (g.T.Types.atoms c.args.types.now) c.args.s.now c.args.t.now c.in_ok-shapes.shapes c.in_ok-sem.sem c.with_choices_of_both.result c.in_ok-shapes.ensures
    c.in_ok-sem.ensures.shapes c.with_choices_of_both.ensures
