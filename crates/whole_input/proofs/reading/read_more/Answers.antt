use Rattle.std.proofs.Common.{subst}
use Rattle.bal_io.specs.Content.{ReadsLine, Told}
use Rattle.op_model.specs.Limits.{most_line_bytes}
use Rattle.whole_input.proofs.Telling.{told-line-lost}
use Rattle.whole_input.proofs.reading.read_more.Goals as goal

pub returns-in-Ok-Some-clause-err : goal.returns-in-Ok-Some-clause-err
returns-in-Ok-Some-clause-err g c =
    let old = g.S.Source.rest c.args.source.now in
    let new = g.S.Source.rest c.read_line.new.self in
    told-line-lost c.in-Ok-Some.line old new (subst (λ l. Told (ReadsLine most_line_bytes l) old new) c.in-Ok-Some.field-0-is c.in-Ok-Some.ensures.line)
