use Rattle.std.proofs.Common.{IfOk, subst, sym}
use Rattle.value_model.specs.declared.filler.Filler.{Filler}
use Rattle.filler_tables.specs.Values.{IsKindOf}
use Rattle.filler_tables.proofs.values.kind_of.Goals as goal

pub returns-in-Bool : goal.returns-in-Bool
returns-in-Bool c = subst (λ (f : Filler). IfOk c.of_booleans.result (IsKindOf f)) (sym c.in-Bool.is) (c.of_booleans.ensures c.in-Bool.field-0)
