use Rattle.std.proofs.Common.{arith}
use Rattle.name_resolution.specs.Tables.{number_in}
use Rattle.name_resolution.proofs.Numbers.{defined-more}
use Rattle.name_resolution.proofs.table.NameTable.of.Goals as goal

pub loop-number-preserved : goal.loop-number-preserved
loop-number-preserved c =
    defined-more c.args.outlines.now c.loop-number.number c.index-outlines-number.result (number_in c.loop-number.table.numbers) (number_in c.note.new.self.numbers) (grind (arith, c.loop-number-test.true)) c.index-outlines-number.is c.loop-number.invariant c.in_ok-note.ensures
