use Rattle.check_words.proofs.Stepping.{part-taken, rest-stands, taken-below}
use Rattle.check_work.specs.Views.{state_of}
use Rattle.check_work.proofs.steps.take_part.Goals as goal

pub returns-clause-stands : goal.returns-clause-stands
returns-clause-stands c = λ env h. rest-stands (state_of env c.args.work.now) c.in_ok-part.part _ c.in_ok-part.ensures.part c.in_ok-part.ensures.kept h

pub returns-clause-below : goal.returns-clause-below
returns-clause-below c = λ env h. taken-below (state_of env c.args.work.now) c.in_ok-part.part _ c.in_ok-part.ensures.part c.in_ok-part.ensures.kept h

pub returns-clause-comes : goal.returns-clause-comes
returns-clause-comes c = λ env. part-taken (state_of env c.args.work.now) c.in_ok-part.part _ c.in_ok-part.ensures.part c.in_ok-part.ensures.kept
