use Rattle.std.proofs.Common.{map}
use Rattle.check_words.proofs.Blocks.{stops-come}
use Rattle.check_words.proofs.Entering.{stopped-stands}
use Rattle.check_work.specs.Views.{state_of, unit_of}
use Rattle.check_work.proofs.Noting.{at-hand}
use Rattle.needs_of_statements.proofs.blocks.stop.Goals as goal

pub returns-clause-stands : goal.returns-clause-stands
returns-clause-stands c = λ env h.
    stopped-stands (state_of env c.args.work.now) h (map unit_of c.args.work.now.around.items) (unit_of c.in_ok-unit.unit) (at-hand _ _ _ c.in_ok-unit.ensures) _ _ c.stop.ensures

pub returns-clause-comes : goal.returns-clause-comes
returns-clause-comes c = λ env.
    stops-come (state_of env c.args.work.now) (map unit_of c.args.work.now.around.items) (unit_of c.in_ok-unit.unit) (at-hand _ _ _ c.in_ok-unit.ensures) _ c.stop.ensures
