use Rattle.std.proofs.Common.{arith, length, rules, ◌<◌, ◌≤◌}
use Rattle.stmt_needs.specs.PackageTable.{file_needs}
use Rattle.stmt_needs.proofs.Walking.{all-numbered, next-numbered, none-numbered}
use Rattle.stmt_needs.proofs.units.files.Goals as goal

pub loop-f-init : goal.loop-f-init
loop-f-init g c = record { stands = c.requires; met = none-numbered _ (file_needs c.args.kept c.args.number) 0 c.args.fs.now _ }

pub loop-f-preserved : goal.loop-f-preserved
loop-f-preserved g c =
    let lt : c.loop-f.f < length c.args.fs.now = search rules in
    record {
      stands = c.file.ensures.stands;
      met = next-numbered _ (file_needs c.args.kept c.args.number) 0 c.args.fs.now c.loop-f.f _ c.index-fs-f.result _ _ _ lt c.index-fs-f.is (search (rules, arith)) c.loop-f.invariant.met
          c.file.ensures.met;
    }

pub returns-clause-met : goal.returns-clause-met
returns-clause-met g c =
    let le : length c.args.fs.now ≤ c.loop-f.f = search rules in
    all-numbered _ (file_needs c.args.kept c.args.number) 0 c.args.fs.now c.loop-f.f _ _ le c.loop-f.invariant.met
