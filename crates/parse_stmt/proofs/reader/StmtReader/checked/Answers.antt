use Rattle.std.proofs.Common.{rules, ◌≡◌, ◌&&◌, true, false, refl, sym, ap, ◌∙◌, subst, arith}
use Rattle.bal_tree.specs.ExprPieces.{expr_pieces}
use Rattle.bal_tree.proofs.ExprLayers.{expr_layers}
use Rattle.parse_types.proofs.Readings.{reads-as}
use Rattle.parse_stmt.proofs.CallReadings.{prefixed-pieces, prefixed-formed}
use Rattle.parse_stmt.proofs.reader.StmtReader.checked.Goals as goal

pub returns-clause-reads : goal.returns-clause-reads
returns-clause-reads c =
    let operand = c.in_ok-operand.operand in
    let same = c.in_ok-operand.ensures.ok in
    let made = c.in_ok-e.ensures in
    record {
      behind = expr_pieces c.in_ok-e.e;
      is = prefixed-pieces c.args.op operand c.args.at c.in_ok-e.e same;
      reads = record {
        formed = prefixed-formed c.args.op operand c.args.at c.in_ok-e.e same made.tight made.reads.formed;
        spells = made.reads.spells;
        shorter = made.reads.shorter;
      };
    }
