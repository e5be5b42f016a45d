use Rattle.std.proofs.Common.{refl}
use Rattle.check_words.proofs.Coming.{became-this}
use Rattle.check_work.specs.Views.{state_of}
use Rattle.needs_of_units.proofs.Opening.{stands-site}
use Rattle.needs_of_units.proofs.modules.enter_file.Goals as goal

pub returns-clause-stands : goal.returns-clause-stands
returns-clause-stands c = λ env h. stands-site (state_of env c.args.work.now) h _ h.site

pub returns-clause-comes : goal.returns-clause-comes
returns-clause-comes c = λ env. became-this _ (state_of env c.args.work.now) _ refl
