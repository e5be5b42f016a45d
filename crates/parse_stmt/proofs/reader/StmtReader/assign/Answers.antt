use Rattle.std.proofs.Common.{◌&&◌, true, refl, arith}
use Rattle.bal_tree.specs.ActionRules.{rhs_is_formed}
use Rattle.bal_tree.specs.Pieces.{starts, ◌&◌, sign}
use Rattle.bal_tree.specs.StmtPieces.{stmt_pieces, assign_sign, ended, target_pieces}
use Rattle.bal_tree.specs.StmtRules.{stmt_is_formed, target_is_formed}
use Rattle.bal_tree.specs.declared.stmt.Stmt.TheVariants.{Assign}
use Rattle.parse_types.proofs.Readings.{both-true, reads-as}
use Rattle.parse_stmt.proofs.Making.{assign-pieces, assign-formed}
use Rattle.parse_stmt.proofs.ChosenMaking.{assign-chosen}
use Rattle.parse_stmt.proofs.reader.StmtReader.assign.Goals as goal

pub returns-clause-reads : goal.returns-clause-reads
returns-clause-reads c =
    let file = c.args.self.file in
    let tokens = c.args.tokens.now in
    let target = c.in_ok-target.target in
    let op = c.in_ok-op.op in
    let value = c.in_ok-value.value in
    let at = c.place-at.result in
    let t = c.in_ok-target.ensures.reads in
    let o = c.in_ok-op.ensures.reads file in
    let v = c.in_ok-value.ensures.reads in
    reads-as file tokens c.in_ok-value.rest.now ((target_is_formed target && rhs_is_formed value) && true) (stmt_is_formed (Assign target op value at)) (starts at & target_pieces target & sign (assign_sign op) & ended value) (stmt_pieces (Assign target op value at)) (assign-formed target op value at) (assign-pieces target op value at)
    record {
      formed = both-true (target_is_formed target && rhs_is_formed value) true (both-true (target_is_formed target) (rhs_is_formed value) t.formed v.formed) refl;
      spells = (tokens, (c.place-at.ensures, refl), (c.in_ok-target.rest.now, t.spells, (c.in_ok-op.rest.now, o.spells, v.spells)));
      shorter = omega (arith, t.shorter, o.shorter, v.shorter);
    }

pub returns-clause-chosen : goal.returns-clause-chosen
returns-clause-chosen c = assign-chosen c.in_ok-target.target c.in_ok-op.op c.in_ok-value.value c.place-at.result
