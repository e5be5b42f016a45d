use Rattle.std.proofs.Common.{subst}
use Rattle.std.specs.Prelude.{IsSomeAnd, slice_get}
use Rattle.type_model.specs.SameType.{IsSameType}
use Rattle.held_operations.specs.Operation.{type_of}
use Rattle.code_assembly.specs.Known.{stock_of}
use Rattle.code_assembly.proofs.Stocks.{there-if}
use Rattle.code_assembly.proofs.tables.Tables.tested.Goals as goal

pub returns-in-Some : goal.returns-in-Some
returns-in-Some c =
    there-if (stock_of c.args.self.now) (type_of c.args.t) c.in-Some.place _ c.narrow_length.ensures
    (subst (λ l. IsSomeAnd (slice_get l c.in-Some.place) (IsSameType (type_of c.args.t))) c.deref.ensures.value c.in-Some.ensures.found)
