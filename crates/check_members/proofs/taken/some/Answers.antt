use Rattle.std.proofs.Common.{Err, Ok, Some}
use Rattle.checks.specs.Questions.{has_some}
use Rattle.check_words.specs.Words.{asking}
use Rattle.check_kinds.proofs.Over.{over-asks, over-on, over-stops}
use Rattle.check_members.specs.Taken.{if_there}
use Rattle.check_members.proofs.taken.some.Goals as goal

pub returns-in-Ok-clause-defined : goal.returns-in-Ok-clause-defined
returns-in-Ok-clause-defined g c = c.given_if.ensures.defined (g.T.Types.atoms c.args.types.now) c.requires

pub returns-in-Ok-clause-comes : goal.returns-in-Ok-clause-comes
returns-in-Ok-clause-comes g c =
    over-on (asking (has_some g.T.Types.passes c.args.found (Some c.args.at))) (λ there. if_there there c.args.found c.args.at) (g.T.Types.atoms c.args.types.now) (g.T.Types.atoms c.has_some.new.types) (g.T.Types.atoms c.has_some.new.types) c.in-Ok.there c.given_if.result
    (over-asks (has_some g.T.Types.passes c.args.found (Some c.args.at)) (g.T.Types.atoms c.args.types.now) (g.T.Types.atoms c.has_some.new.types) (Ok c.in-Ok.there) c.in-Ok.ensures.comes) (c.given_if.ensures.comes (g.T.Types.atoms c.has_some.new.types))

pub returns-in-Err-clause-comes : goal.returns-in-Err-clause-comes
returns-in-Err-clause-comes g c =
    over-stops (asking (has_some g.T.Types.passes c.args.found (Some c.args.at))) (λ there. if_there there c.args.found c.args.at) (g.T.Types.atoms c.args.types.now) (g.T.Types.atoms c.has_some.new.types) c.in-Err.stop
    (over-asks (has_some g.T.Types.passes c.args.found (Some c.args.at)) (g.T.Types.atoms c.args.types.now) (g.T.Types.atoms c.has_some.new.types) (Err c.in-Err.stop) c.in-Err.ensures.comes)
