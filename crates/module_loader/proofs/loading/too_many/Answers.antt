use Rattle.std.proofs.Common.{[], subst, sym}
use Rattle.module_loader.specs.Faults.{too_large}
use Rattle.module_loader.specs.inner.Linked.{IsStopBy}
use Rattle.module_loader.proofs.loading.too_many.Goals as goal

pub returns-in-Ok : goal.returns-in-Ok
returns-in-Ok c = subst (IsStopBy (too_large c.args.count) []) (sym c.refused.ensures) (c.in-Ok.ensures, c.new.ensures.items)
