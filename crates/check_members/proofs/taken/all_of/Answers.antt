use Rattle.std.proofs.Common.{Err, Ok, Some}
use Rattle.bal_base.specs.declared.fault.FaultCode.TheVariants.{NoField}
use Rattle.checks.specs.Questions.{is_below}
use Rattle.type_model.specs.declared.basic.SemType.{Atom}
use Rattle.check_words.specs.Words.{asking, unless}
use Rattle.check_kinds.proofs.Over.{over-asks, over-on, over-stops}
use Rattle.check_members.proofs.taken.all_of.Goals as goal

pub returns-in-Ok-clause-comes : goal.returns-in-Ok-clause-comes
returns-in-Ok-clause-comes g c =
    over-on (asking (is_below g.T.Types.passes c.args.t.now (Atom c.args.atom) (Some c.args.at))) (λ there. unless there NoField c.args.at) (g.T.Types.atoms c.args.types.now) (g.T.Types.atoms c.is_below.new.types) (g.T.Types.atoms c.is_below.new.types) c.in-Ok.there c.needed.result
    (over-asks (is_below g.T.Types.passes c.args.t.now (Atom c.args.atom) (Some c.args.at)) (g.T.Types.atoms c.args.types.now) (g.T.Types.atoms c.is_below.new.types) (Ok c.in-Ok.there) c.in-Ok.ensures.comes) (c.needed.ensures (g.T.Types.atoms c.is_below.new.types))

pub returns-clause-comes : goal.returns-clause-comes
returns-clause-comes g c =
    over-stops (asking (is_below g.T.Types.passes c.args.t.now (Atom c.args.atom) (Some c.args.at))) (λ there. unless there NoField c.args.at) (g.T.Types.atoms c.args.types.now) (g.T.Types.atoms c.is_below.new.types) c.in-Err.stop
    (over-asks (is_below g.T.Types.passes c.args.t.now (Atom c.args.atom) (Some c.args.at)) (g.T.Types.atoms c.args.types.now) (g.T.Types.atoms c.is_below.new.types) (Err c.in-Err.stop) c.in-Err.ensures.comes)
