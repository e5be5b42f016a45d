use Rattle.std.proofs.Common.{arith, length, rules, ◌<◌, ◌≤◌}
use Rattle.stmt_needs.specs.PackageTable.{worker_needs}
use Rattle.stmt_needs.proofs.Walking.{all-numbered, next-numbered, none-numbered}
use Rattle.stmt_needs.proofs.units.workers.Goals as goal

pub loop-w-init : goal.loop-w-init
loop-w-init g c = record { stands = c.requires; met = none-numbered _ worker_needs 1 c.args.ws.now _ }

pub loop-w-preserved : goal.loop-w-preserved
loop-w-preserved g c =
    let lt : c.loop-w.w < length c.args.ws.now = search rules in
    record {
      stands = c.worker.ensures.stands;
      met = next-numbered _ worker_needs 1 c.args.ws.now c.loop-w.w _ c.index-ws-w.result _ _ _ lt c.index-ws-w.is (search (rules, arith)) c.loop-w.invariant.met
          c.worker.ensures.met;
    }

pub returns-clause-met : goal.returns-clause-met
returns-clause-met g c =
    let le : length c.args.ws.now ≤ c.loop-w.w = search rules in
    all-numbered _ worker_needs 1 c.args.ws.now c.loop-w.w _ _ le c.loop-w.invariant.met
