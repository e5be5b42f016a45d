use Rattle.std.proofs.Common.{rules, subst}
use Rattle.value_model.specs.Table.{IsExact}
use Rattle.value_model.proofs.Lookups.{fillers_at}
use Rattle.value_model.proofs.tests.Tests.fillers.Goals as goal

pub index-requires : goal.index-requires
index-requires c =
    let at = fillers_at c.args.self.now c.row.result c.args.atom (subst IsExact c.self.view_is c.self.invariant) c.row.ensures in
    let h = at.0 in search (rules, h)

pub returns : goal.returns
returns c =
    let at = fillers_at c.args.self.now c.row.result c.args.atom (subst IsExact c.self.view_is c.self.invariant) c.row.ensures in
    let h = at.1 in search (rules, h)
