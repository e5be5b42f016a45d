use Rattle.std.proofs.Common.{arith}
use Rattle.descriptors.proofs.Yielding.{kept-then}
use Rattle.type_model.proofs.Kept.{KeepsTypes-same}
use Rattle.needs_of_functions.proofs.InTurn.{results-next, results-none}
use Rattle.needs_of_functions.proofs.results.add_results.Goals as goal

pub loop-worker-init : goal.loop-worker-init
loop-worker-init g c =
    let env = g.T.Types.atoms c.args.types.now in
    (results-none c.args.names.now c.args.scope env c.args.results.now.items, KeepsTypes-same env, c.requires)

pub loop-worker-preserved : goal.loop-worker-preserved
loop-worker-preserved g c =
    let a = g.T.Types.atoms c.args.types.now in
    let b = g.T.Types.atoms c.loop-worker.types in
    let new = g.T.Types.atoms c.add_found.new.types in
    let kept = c.in_ok-add_found.ensures.kept in
    let inv = c.loop-worker.invariant in (
      results-next c.args.names.now c.args.scope c.args.workers.now c.loop-worker.worker-index c.worker-item.result a b new _ _ _ (omega arith) c.worker-item.is inv.0
          c.in_ok-add_found.ensures.adds kept,
      kept-then a b new inv.1 kept,
      c.in_ok-add_found.ensures.names,
    )

pub returns-in_err-add_found-clause-kept : goal.returns-in_err-add_found-clause-kept
returns-in_err-add_found-clause-kept g c =
    kept-then (g.T.Types.atoms c.args.types.now) (g.T.Types.atoms c.loop-worker.types) (g.T.Types.atoms c.add_found.new.types) c.loop-worker.invariant.1 c.in_err-add_found.ensures.kept
