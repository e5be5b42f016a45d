use Rattle.worker_pairing.specs.Faults.{most_events, most_workers, within_limit}
use Rattle.checks.proofs.Steps.{goes_on, stops}
use Rattle.worker_faults.proofs.limits.within_limits.Goals as goal

pub returns-in-Ok : goal.returns-in-Ok
returns-in-Ok c env =
    goes_on (within_limit most_workers c.args.named c.args.at) (λ _. within_limit most_events c.args.events c.args.at) env env env tt _ (c.in-Ok.ensures env) (c.within_limit_of-in-Ok.ensures env)

pub returns-in-Err : goal.returns-in-Err
returns-in-Err c env =
    stops (within_limit most_workers c.args.named c.args.at) (λ _. within_limit most_events c.args.events c.args.at) env env c.in-Err.stop (c.in-Err.ensures env)
