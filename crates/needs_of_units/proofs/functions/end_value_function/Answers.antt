use Rattle.std.proofs.Common.{subst, sym}
use Rattle.check_words.specs.Units.{IsValueBody}
use Rattle.check_words.proofs.Standing.{others-have, stands-wants}
use Rattle.check_work.specs.Views.{state_of, unit_of}
use Rattle.needs_of_units.proofs.Finishing.{function-stands, less-wanted, value-function-ends}
use Rattle.needs_of_units.proofs.functions.end_value_function.Goals as goal

pub returns-clause-stands : goal.returns-clause-stands
returns-clause-stands c = λ env h.
    function-stands _ c.in_ok-f.f _ c.in_ok-push.ensures.items _ c.leave_function.ensures _ c.new-none.ensures.items
    (c.in_ok-unit.ensures.stands env (less-wanted _ (c.in_ok-value.ensures.stands env h) _ c.drop_last.ensures))

pub returns-clause-comes : goal.returns-clause-comes
returns-clause-comes c = λ env.
    value-function-ends c.args.d.now (unit_of c.in_ok-unit.unit) c.in_ok-f.f _ _ _ c.in_ok-push.ensures.items c.leave_function.ensures _ c.new-none.ensures.items c.in_ok-f.ensures.is
    (state_of env c.args.work.now) _ c.in_ok-value.value _ (c.in_ok-value.ensures.comes env) c.drop_last.ensures (c.in_ok-unit.ensures.comes env)
    (subst (IsValueBody c.in_ok-value.value) (sym c.in_ok-f.ensures.body) c.in_ok-body.ensures)
