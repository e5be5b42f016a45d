use Rattle.std.proofs.Common.{◌++◌}
use Rattle.parse_stmt.specs.Chosen.{led_in_stmts, led_in_workers}
use Rattle.parse_stmt.proofs.ChosenMaking.{both-chosen}
use Rattle.parse_stmt.proofs.StmtTree.{chosen-back, chosen-front}
use Rattle.parse_stmt.proofs.reader.StmtReader.block_body.Goals as goal

pub returns-clause-chosen : goal.returns-clause-chosen
returns-clause-chosen c =
    let stmts = led_in_stmts c.in_ok-stmts.stmts.items in
    let workers = led_in_workers c.in_ok-workers.workers.items in
    let rest = led_in_stmts c.in_ok-workers.rest.items in
    let behind = c.in_ok-workers.ensures.chosen in
    both-chosen (stmts ++ workers) rest (both-chosen stmts workers c.in_ok-stmts.ensures.chosen (chosen-front workers rest behind)) (chosen-back workers rest behind)
