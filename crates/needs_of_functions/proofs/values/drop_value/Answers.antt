use Rattle.std.proofs.Common.{refl}
use Rattle.check_words.proofs.Coming.{became-this}
use Rattle.check_words.proofs.Standing.{stands-beside}
use Rattle.check_work.specs.Views.{state_of}
use Rattle.needs_of_functions.proofs.values.drop_value.Goals as goal

pub returns-clause-stands : goal.returns-clause-stands
returns-clause-stands c = λ env h. stands-beside (state_of env c.args.work.now) h _ _ _ _

pub returns-clause-comes : goal.returns-clause-comes
returns-clause-comes c = λ env number value at. became-this _ (state_of env c.args.work.now) _ refl
