use Rattle.std.proofs.Common.{length, take}
use Rattle.type_diagrams.specs.Tables.{condition}
use Rattle.type_diagrams.specs.Whole.{Extends}
use Rattle.empty_arrow.specs.Results.{AreResults}
use Rattle.empty_arrow.proofs.futures.results.Given as goal

abbrev pub invariant-loop-atom : goal.invariant-loop-atom
invariant-loop-atom g l =
    Extends (length l.context.env.now) l.fn.dia l.dia × AreResults l.context.env.now (condition l.fn.dia l.all) (take l.atom-index l.unwanted) l.found.items
