use Rattle.std.proofs.Common.{◌∙◌, ap, slice_get, sym}
use Rattle.check_work.specs.Views.{state_of}
use Rattle.needs_of_units.proofs.Working.{found-at, result-below, result-is}
use Rattle.needs_of_units.proofs.workers.worker_result.Goals as goal

pub returns-in-Some-clause-gives : goal.returns-in-Some-clause-gives
returns-in-Some-clause-gives c = λ env.
    result-is c.args.number (state_of env c.args.work.now) c.in-Some.found.now c.known.result (found-at _ _ _ _ c.deref.ensures.value c.in-Some.ensures.lookup.3.0 c.in-Some.ensures.lookup.1) c.known.ensures
