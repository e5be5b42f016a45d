use Rattle.std.proofs.Common.{◌≡◌, [], ◌∷◌, ◌++◌, map, length, refl, sym, ap, ◌∙◌, subst, arith}
use Rattle.bal_base.specs.declared.token.Sign.TheVariants.{Bar}
use Rattle.bal_tree.specs.ActionRules.{has_members}
use Rattle.bal_tree.specs.Pieces.{separated}
use Rattle.bal_tree.specs.NamePieces.{name_pieces}
use Rattle.bal_tree.specs.Spells.{Spells, kinds_of}
use Rattle.parse_types.proofs.Holding.{leaves-missing, leaves-found}
use Rattle.parse_types.proofs.Levels.{loop-more, loop-done}
use Rattle.parse_types.proofs.Readings.{kinds-less}
use Rattle.parse_stmt.specs.Reaches.{names, bar_name}
use Rattle.parse_stmt.proofs.StmtReadings.{spells-separated, has-one-more}
use Rattle.parse_stmt.proofs.reader.StmtReader.names.Goals as goal

pub loop-names-preserved : goal.loop-names-preserved
loop-names-preserved c =
    let front = c.loop-names.invariant in
    let old = c.loop-names.names.items in
    let rest = c.loop-names.rest.now in
    let after = c.in-Some.after.now in
    let next = c.in-Some.next in
    let ok = rw c.in-Some.is at c.in_ok-next.ensures in
    let found = leaves-found (bar_name (kinds_of rest)) c.bar_name.result (next, c.in-Some.after) ok c.bar_name.ensures.end in
    let reads = rw ok at c.bar_name.ensures.reads in
    let items = c.in_ok-push-2.ensures.items in
    record {
      goes = loop-more length bar_name (names (kinds_of c.args.tokens.now)) (kinds_of rest) (kinds_of after) front.goes (sym found) (kinds-less after rest reads.shorter);
      formed = ap has_members items ∙ has-one-more old next;
      spells = subst (λ l. Spells c.args.self.file (separated Bar (map name_pieces l)) c.args.tokens.now after) (sym items) (spells-separated name_pieces Bar c.args.self.file old next c.args.tokens.now rest after front.formed front.spells reads.spells);
      shorter = omega (arith, reads.shorter, front.shorter);
    }

pub returns-clause-end : goal.returns-clause-end
returns-clause-end c =
    let rest = c.loop-names.rest.now in
    let missing = rw c.in_default.is at c.in_ok-next.ensures in
    let none = leaves-missing (bar_name (kinds_of rest)) c.bar_name.result missing.0 missing.1 c.bar_name.ensures.end in
    loop-done length bar_name (names (kinds_of c.args.tokens.now)) (kinds_of rest) c.loop-names.invariant.goes (sym none)
