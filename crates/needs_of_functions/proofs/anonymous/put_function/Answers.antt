use Rattle.check_work.specs.Views.{state_of}
use Rattle.needs_of_functions.proofs.FunctionsMade.{function-put, function-stands}
use Rattle.needs_of_functions.proofs.anonymous.put_function.Goals as goal

pub returns-clause-stands : goal.returns-clause-stands
returns-clause-stands c = λ env below h.
    function-stands (state_of env c.args.work.now) c.in_ok-value.value c.in_ok-e.e _ _ c.in_ok-value.ensures.part c.in_ok-value.ensures.kept c.in_ok-push.ensures.items c.args.f c.args.ty c.args.at
    c.in_ok-e.ensures h below

pub returns-clause-comes : goal.returns-clause-comes
returns-clause-comes c = λ env isolated u first same own.
    function-put (state_of env c.args.work.now) c.in_ok-value.value c.in_ok-e.e _ _ c.in_ok-value.ensures.part c.in_ok-value.ensures.kept c.in_ok-push.ensures.items c.args.f c.args.ty c.args.at
    c.in_ok-e.ensures isolated u first same own
