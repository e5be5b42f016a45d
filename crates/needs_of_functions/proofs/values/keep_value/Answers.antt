use Rattle.std.proofs.Common.{ap, option_map, refl}
use Rattle.check_work.specs.Views.{initials_of, state_of, unit_of}
use Rattle.needs_of_functions.proofs.Storing.{kept-stands, value-kept}
use Rattle.needs_of_functions.proofs.values.keep_value.Goals as goal

pub returns-clause-stands : goal.returns-clause-stands
returns-clause-stands c = λ env below h. kept-stands (state_of env c.args.work.now) h (unit_of c.args.unit) _ _ refl below

pub returns-clause-comes : goal.returns-clause-comes
returns-clause-comes c = λ env.
    value-kept (state_of env c.args.work.now) (initials_of c.in_ok-initials.initials) (unit_of c.args.unit) c.args.value.variable c.args.value.value.value c.args.value.at c.args.value _ _
    (ap (option_map initials_of) c.in_ok-initials.ensures) (refl, refl, refl) c.in_ok-push.ensures.items refl
