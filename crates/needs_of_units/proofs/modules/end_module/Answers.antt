use Rattle.std.proofs.Common.{◌∙◌, ap, option_map, sym}
use Rattle.check_work.specs.Views.{initials_of, state_of}
use Rattle.needs_of_units.proofs.Ending.{empty-ends, module-ends}
use Rattle.needs_of_units.proofs.modules.end_module.Goals as goal

pub returns-in_ok-push-in-Some-clause-comes : goal.returns-in_ok-push-in-Some-clause-comes
returns-in_ok-push-in-Some-clause-comes c = λ env.
    module-ends c.args.number (state_of env c.args.work.now) (initials_of c.in-Some.initials) _ _ (ap (option_map initials_of) (sym c.replace.ensures.value ∙ c.in-Some.is))
    c.in_ok-initialiser-in-Some.ensures c.in_ok-push-in-Some.ensures.items _ (ap (option_map initials_of) c.replace.ensures.after)

pub returns-in-None-clause-comes : goal.returns-in-None-clause-comes
returns-in-None-clause-comes c = λ env. empty-ends c.args.number (state_of env c.args.work.now) (ap (option_map initials_of) (sym c.replace.ensures.value ∙ c.in-None.is)) _ (ap (option_map initials_of) c.replace.ensures.after)
