use Rattle.std.proofs.Common.{◌∙◌, ap, refl}
use Rattle.check_work.specs.Views.{block_of, state_of, unit_of}
use Rattle.needs_of_units.proofs.Finishing.{block-function-added, function-stands}
use Rattle.needs_of_units.proofs.functions.add_block_function.Goals as goal

pub returns-clause-stands : goal.returns-clause-stands
returns-clause-stands c = λ env h.
    function-stands _ c.in_ok-f.f _ c.in_ok-push.ensures.items _ c.leave_function.ensures _ (ap (λ v. v.items) c.replace-workers.ensures.after ∙ c.new-none.ensures.items) (c.in_ok-initial.ensures.stands env (c.in_ok-rest.ensures.stands env h))

pub returns-clause-comes : goal.returns-clause-comes
returns-clause-comes c = λ env.
    block-function-added c.args.d.now (unit_of c.args.unit) c.in_ok-f.f _ _ _ c.in_ok-push.ensures.items c.leave_function.ensures _ (ap (λ v. v.items) c.replace-workers.ensures.after ∙ c.new-none.ensures.items) c.in_ok-f.ensures.is c.args.close
    (state_of env c.args.work.now) _ (block_of c.in_ok-rest.rest) (block_of c.in_ok-initial.initial) (c.in_ok-rest.ensures.comes env) (c.in_ok-initial.ensures.comes env)
    _ _ _ c.in_ok-f.ensures.body refl (ap (λ v. v.items) c.replace-workers.ensures.value) refl
