use Rattle.std.proofs.Common.{◌++◌, map, sym, subst}
use Rattle.bal_tree.specs.DefPieces.{import_pieces}
use Rattle.bal_tree.specs.Pieces.{joined}
use Rattle.bal_tree.specs.Spells.{Spells, kinds_of}
use Rattle.parse_types.proofs.Commas.{spells-joined}
use Rattle.parse_types.proofs.Holding.{leaves-missing}
use Rattle.parse_stmt.specs.Reaches.{import}
use Rattle.parse_stmt.proofs.reader.StmtReader.imports.Goals as goal

pub loop-imports-preserved : goal.loop-imports-preserved
loop-imports-preserved c =
    let old = c.loop-imports.imports.items in
    let rest = c.loop-imports.rest.now in
    let after = c.in-Some.after.now in
    let next = c.in-Some.next in
    let ok = rw c.in-Some.is at c.in_ok-next.ensures in
    let reads = rw ok at c.import.ensures.reads in
    let items = c.in_ok-push.ensures.items in
    subst (λ l. Spells c.args.self.file (joined (map import_pieces l)) c.args.tokens.now after) (sym items) (spells-joined import_pieces c.args.self.file old next c.args.tokens.now rest after c.loop-imports.invariant reads.spells)

pub returns-clause-stops : goal.returns-clause-stops
returns-clause-stops c =
    let missing = rw c.in_default.is at c.in_ok-next.ensures in
    leaves-missing (import (kinds_of c.loop-imports.rest.now)) c.import.result missing.0 missing.1 c.import.ensures.end
