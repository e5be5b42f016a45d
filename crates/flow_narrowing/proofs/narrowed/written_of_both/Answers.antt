use Rattle.std.proofs.Common.{length}
use Rattle.flow_narrowing.proofs.Failing.{gives-both}
use Rattle.flow_narrowing.proofs.Written.{both-below}
use Rattle.flow_narrowing.proofs.narrowed.written_of_both.Goals as goal

pub compact-requires : goal.compact-requires
compact-requires g c =
    both-below (length (g.T.Types.atoms c.args.types.now)) c.args.s.now c.args.t.now c.in_ok-shapes.shapes c.in_ok-shapes.ensures c.requires.left c.requires.right

pub returns-clause-both : goal.returns-clause-both
returns-clause-both g c =
    gives-both (g.T.Types.atoms c.args.types.now) c.args.s.now c.args.t.now c.in_ok-shapes.shapes c.in_ok-sem.sem c.args.choices.now c.with_choices_of.result
    c.in_ok-shapes.ensures c.in_ok-sem.ensures.shapes c.with_choices_of.ensures
