use Rattle.std.proofs.Common.{rules, refl, ap}
use Rattle.bal_tree.specs.ExprRules.{primary_is_formed}
use Rattle.bal_tree.specs.NamePieces.{name_pieces}
use Rattle.bal_tree.specs.ExprPieces.{primary_pieces}
use Rattle.bal_tree.specs.declared.expr.Primary.TheVariants.{Name}
use Rattle.parse_expr.proofs.ExprReadings.{expr_readings}
use Rattle.parse_expr.proofs.reader.ExprReader.int_name.Goals as goal

pub returns-clause-reads : goal.returns-clause-reads
returns-clause-reads c =
    let named = rw c.in-Some.is at c.int_name.ensures.reads in
    let here = named c.args.self.middle in
    search (rules, expr_readings)
