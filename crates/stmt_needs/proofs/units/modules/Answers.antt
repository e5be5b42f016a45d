use Rattle.std.proofs.Common.{arith, length, rules, subst, ◌<◌, ◌≤◌}
use Rattle.needs.specs.Needs.{Runs}
use Rattle.stmt_needs.specs.PackageTable.{module_needs, module_needs_if}
use Rattle.stmt_needs.proofs.Walking.{all-numbered, next-numbered, none-numbered}
use Rattle.stmt_needs.proofs.units.modules.Goals as goal

pub loop-m-init : goal.loop-m-init
loop-m-init g c = record { stands = c.requires; met = none-numbered _ (module_needs c.args.main) 0 c.args.ms.now _ }

pub loop-m-preserved : goal.loop-m-preserved
loop-m-preserved g c =
    let m = c.loop-m.m in
    let x = c.index-ms-m.result in
    let lt : m < length c.args.ms.now = search rules in
    record {
      stands = c.module.ensures.stands;
      met = next-numbered _ (module_needs c.args.main) 0 c.args.ms.now m m x _ _ _ lt c.index-ms-m.is (search (rules, arith)) c.loop-m.invariant.met
          (subst (λ kept. Runs g.M.MeetsExprs.meaning (module_needs_if kept m x) (g.M.MeetsExprs.going c.loop-m.work) (g.M.MeetsExprs.going c.module.new.work))
          c.is_kept.ensures c.module.ensures.met);
    }

pub returns-clause-met : goal.returns-clause-met
returns-clause-met g c =
    let le : length c.args.ms.now ≤ c.loop-m.m = search rules in
    all-numbered _ (module_needs c.args.main) 0 c.args.ms.now c.loop-m.m _ _ le c.loop-m.invariant.met
