use Rattle.std.proofs.Common.{true, false, Ok, OnOk, subst, sym}
use Rattle.checks.specs.Checks.{Comes}
use Rattle.check_words.specs.Units.{ends_value}
use Rattle.check_work.specs.Views.{state_of, unit_of}
use Rattle.needs_of_functions.proofs.Storing.{ends-by}
use Rattle.needs_of_functions.proofs.values.end_value.Goals as goal

pub returns-in-true-clause-comes : goal.returns-in-true-clause-comes
returns-in-true-clause-comes c = λ env.
    subst
    (λ b. OnOk c.keep_value.result (Comes (ends_value b (unit_of c.args.unit) c.args.value.variable c.args.value.value.value c.args.value.at) (state_of env c.args.work.now) (Ok tt) (state_of env c.keep_value.new.work)))
    (sym c.in-true.is) (c.keep_value.ensures.comes env)

pub returns-in-false-clause-comes : goal.returns-in-false-clause-comes
returns-in-false-clause-comes c = λ env.
    ends-by false c.args.kept (unit_of c.args.unit) c.args.value.variable c.args.value.value.value c.args.value.at (state_of env c.args.work.now) _ c.in-false.is
    (c.drop_value.ensures.comes env c.args.value.variable c.args.value.value.value c.args.value.at)
