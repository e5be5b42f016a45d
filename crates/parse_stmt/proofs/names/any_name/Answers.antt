use Rattle.std.proofs.Common.{false, true, refl, sym}
use Rattle.bal_tree.specs.NamePieces.{name_pieces}
use Rattle.bal_tree.specs.TypeRules.{name_fits}
use Rattle.parse_types.proofs.Readings.{reads-as}
use Rattle.parse_stmt.proofs.names.any_name.Goals as goal

pub returns-clause-reads : goal.returns-clause-reads
returns-clause-reads c =
    let found = c.in-Some-int_name.found in
    let r = c.in-Some-int_name.ensures.reads false in
    reads-as c.args.file c.args.tokens.now found.1.now (name_fits false found.0.prefix) true (name_pieces found.0) (name_pieces found.0) (sym r.formed) refl r
