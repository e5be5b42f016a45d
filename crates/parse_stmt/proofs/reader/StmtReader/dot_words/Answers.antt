use Rattle.std.proofs.Common.{◌≡◌, ◌++◌, map, length, sym, subst, arith}
use Rattle.bal_base.specs.declared.token.Sign.TheVariants.{Dot}
use Rattle.bal_tree.specs.NamePieces.{word_pieces}
use Rattle.bal_tree.specs.Pieces.{behind}
use Rattle.bal_tree.specs.Spells.{Spells, kinds_of}
use Rattle.parse_types.proofs.Readings.{kinds-less}
use Rattle.parse_stmt.specs.Reaches.{dot_word}
use Rattle.parse_stmt.proofs.StmtReadings.{on-goes, on-done, spells-behind}
use Rattle.parse_stmt.proofs.reader.StmtReader.dot_words.Goals as goal

pub loop-next-preserved : goal.loop-next-preserved
loop-next-preserved c =
    let front = c.loop-next.invariant in
    let old = c.loop-next.words.items in
    let rest = c.loop-next.rest.now in
    let after = c.in-Some.after.now in
    let next = c.in-Some.next in
    let reads = c.in-Some.ensures.reads in
    let items = c.in_ok-push.ensures.items in
    record {
      goes = on-goes dot_word (kinds_of c.args.tokens.now) (kinds_of rest) (kinds_of after) front.goes (sym c.in-Some.ensures.end) (kinds-less after rest reads.shorter);
      spells = subst (λ l. Spells c.args.self.file (behind Dot (map word_pieces l)) c.args.tokens.now after) (sym items) (spells-behind word_pieces Dot c.args.self.file old next c.args.tokens.now rest after front.spells reads.spells);
      no_longer = omega (arith, reads.shorter, front.no_longer);
    }

pub returns-clause-end : goal.returns-clause-end
returns-clause-end c =
    let rest = c.loop-next.rest.now in
    on-done dot_word (kinds_of c.args.tokens.now) (kinds_of rest) c.loop-next.invariant.goes (sym c.in_default.ensures.end)
