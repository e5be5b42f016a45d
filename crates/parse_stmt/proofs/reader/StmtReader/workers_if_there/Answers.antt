use Rattle.std.proofs.Common.{rules, ◌≡◌, [], ◌++◌, map, refl, sym, subst}
use Rattle.bal_tree.specs.DefPieces.{worker_pieces}
use Rattle.bal_tree.specs.Pieces.{joined}
use Rattle.bal_tree.specs.Spells.{Spells}
use Rattle.bal_tree.specs.StmtPieces.{stmt_pieces}
use Rattle.parse_stmt.specs.Chosen.{AreChosen, led_in_stmts, led_in_workers}
use Rattle.parse_stmt.proofs.ChosenMaking.{both-chosen, none-chosen}
use Rattle.parse_stmt.proofs.reader.StmtReader.workers_if_there.Goals as goal

pub returns-then-is_none-clause-spells : goal.returns-then-is_none-clause-spells
returns-then-is_none-clause-spells c =
    let file = c.args.self.file in
    let tokens = c.args.tokens.now in
    let workers : c.new-workers.result.items ≡ [] = search rules in
    let rest : c.new-rest.result.items ≡ [] = search rules in
    (tokens, subst (λ l. Spells file (joined (map worker_pieces l)) tokens tokens) (sym workers) refl, subst (λ l. Spells file (joined (map stmt_pieces l)) tokens tokens) (sym rest) refl)

pub returns-then-is_none-clause-chosen : goal.returns-then-is_none-clause-chosen
returns-then-is_none-clause-chosen c =
    let workers : c.new-workers.result.items ≡ [] = search rules in
    let rest : c.new-rest.result.items ≡ [] = search rules in
    subst (λ l. AreChosen (led_in_workers l ++ led_in_stmts c.new-rest.result.items)) (sym workers) (subst (λ l. AreChosen (led_in_stmts l)) (sym rest) none-chosen)

pub returns-clause-chosen : goal.returns-clause-chosen
returns-clause-chosen c =
    both-chosen (led_in_workers c.in_ok-workers.workers.items) (led_in_stmts c.in_ok-rest.rest.items) c.in_ok-workers.ensures.chosen c.in_ok-rest.ensures.chosen
