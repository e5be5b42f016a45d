use Rattle.std.proofs.Common.{rules, ◌≡◌, true, false, refl, sym, ap, ◌∙◌, subst}
use Rattle.bal_tree.specs.declared.expr.Expr.{Expr}
use Rattle.bal_tree.specs.ExprPieces.{expr_pieces}
use Rattle.bal_tree.specs.Spells.{kinds_of}
use Rattle.parse_stmt.specs.Reaches.{is_target}
use Rattle.parse_stmt.specs.Shapes.{last_of, operators}
use Rattle.parse_stmt.proofs.StmtReadings.{target-here}
use Rattle.parse_stmt.proofs.reader.StmtReader.target.Goals as goal

pub returns-in_default-clause-end : goal.returns-in_default-clause-end
returns-in_default-clause-end c =
    let e = c.in_ok-e.e.value in
    let same : c.into_inner.result ≡ e = search rules in
    let none = ap last_of (sym same) ∙ c.in_default.ensures in
    target-here c.args.self.file e c.args.tokens.now c.in_ok-e.rest.now c.in_ok-e.ensures.reads.spells c.in_ok-e.ensures.reaches false (ap is_target none)

pub returns-in-Some-target_of-clause-end : goal.returns-in-Some-target_of-clause-end
returns-in-Some-target_of-clause-end c =
    let e = c.in_ok-e.e.value in
    let same : c.into_inner.result ≡ e = search rules in
    let one = ap last_of (sym same) ∙ c.in-Some.ensures.0 in
    target-here c.args.self.file e c.args.tokens.now c.in_ok-e.rest.now c.in_ok-e.ensures.reads.spells c.in_ok-e.ensures.reaches true (ap is_target one ∙ c.in-Some-target_of.ensures.0)

pub returns-in-None-clause-end : goal.returns-in-None-clause-end
returns-in-None-clause-end c =
    let e = c.in_ok-e.e.value in
    let same : c.into_inner.result ≡ e = search rules in
    let one = ap last_of (sym same) ∙ c.in-Some.ensures.0 in
    target-here c.args.self.file e c.args.tokens.now c.in_ok-e.rest.now c.in_ok-e.ensures.reads.spells c.in_ok-e.ensures.reaches false (ap is_target one ∙ c.in-None.ensures)
