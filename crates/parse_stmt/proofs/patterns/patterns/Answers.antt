use Rattle.std.proofs.Common.{◌≡◌, [], ◌∷◌, ◌++◌, map, length, refl, sym, ap, ◌∙◌, subst, arith}
use Rattle.bal_base.specs.declared.token.Sign.TheVariants.{Bar}
use Rattle.bal_tree.specs.ActionRules.{has_members}
use Rattle.bal_tree.specs.Pieces.{separated}
use Rattle.bal_tree.specs.StmtPieces.{pattern_pieces}
use Rattle.bal_tree.specs.Spells.{Spells, kinds_of}
use Rattle.parse_types.proofs.Holding.{leaves-missing, leaves-found}
use Rattle.parse_types.proofs.Levels.{loop-more, loop-done}
use Rattle.parse_types.proofs.Readings.{kinds-less}
use Rattle.parse_stmt.specs.Reaches.{patterns, bar_pattern}
use Rattle.parse_stmt.proofs.StmtReadings.{spells-separated, has-one-more}
use Rattle.parse_stmt.proofs.patterns.patterns.Goals as goal

pub loop-patterns-preserved : goal.loop-patterns-preserved
loop-patterns-preserved c =
    let front = c.loop-patterns.invariant in
    let old = c.loop-patterns.patterns.items in
    let rest = c.loop-patterns.rest.now in
    let after = c.in-Some.after.now in
    let next = c.in-Some.next in
    let ok = rw c.in-Some.is at c.in_ok-next.ensures in
    let found = leaves-found (bar_pattern (kinds_of rest)) c.bar_pattern.result (next, c.in-Some.after) ok c.bar_pattern.ensures.end in
    let reads = rw ok at c.bar_pattern.ensures.reads in
    let items = c.in_ok-push-2.ensures.items in
    record {
      goes = loop-more length bar_pattern (patterns (kinds_of c.args.tokens.now)) (kinds_of rest) (kinds_of after) front.goes (sym found) (kinds-less after rest reads.shorter);
      formed = ap has_members items ∙ has-one-more old next;
      spells = subst (λ l. Spells c.args.file (separated Bar (map pattern_pieces l)) c.args.tokens.now after) (sym items) (spells-separated pattern_pieces Bar c.args.file old next c.args.tokens.now rest after front.formed front.spells reads.spells);
      shorter = omega (arith, reads.shorter, front.shorter);
    }

pub returns-clause-end : goal.returns-clause-end
returns-clause-end c =
    let rest = c.loop-patterns.rest.now in
    let missing = rw c.in_default.is at c.in_ok-next.ensures in
    let none = leaves-missing (bar_pattern (kinds_of rest)) c.bar_pattern.result missing.0 missing.1 c.bar_pattern.ensures.end in
    loop-done length bar_pattern (patterns (kinds_of c.args.tokens.now)) (kinds_of rest) c.loop-patterns.invariant.goes (sym none)
