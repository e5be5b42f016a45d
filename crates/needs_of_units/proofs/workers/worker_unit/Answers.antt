use Rattle.check_work.specs.Views.{unit_of}
use Rattle.needs_of_units.proofs.Working.{worker-below, worker-from-bare}
use Rattle.needs_of_units.proofs.workers.worker_unit.Goals as goal

pub returns-clause-is : goal.returns-clause-is
returns-clause-is c = λ t same.
    worker-from-bare c.args.number c.args.worker c.in_ok-own.own t c.args.gives _ _ _ c.args.uses.now _ _ _ _ c.in_ok-own.ensures c.in_ok-found.ensures c.as_slice-variables.ensures.value
    c.as_slice-all.ensures.value c.empty_unit-unit.ensures c.in_ok-capture_all.ensures same

pub returns-clause-below : goal.returns-clause-below
returns-clause-below c = λ n below flow.
    worker-below c.args.number c.args.worker c.in_ok-own.own c.args.gives c.args.gives _ _ _ c.args.uses.now _ _ _ _ c.in_ok-own.ensures c.in_ok-found.ensures
    c.as_slice-variables.ensures.value c.as_slice-all.ensures.value c.empty_unit-unit.ensures c.in_ok-capture_all.ensures n below flow
