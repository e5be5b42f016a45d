-- The last steps of needs that make a statement.
use Rattle.bal_base.specs.declared.place.Place.{Place}
use Rattle.checks.specs.Checks.{◌▷◌}
use Rattle.check_words.specs.Statements.{adds_stmt, closes_block, stops, takes_part}
use Rattle.check_words.specs.StmtViews.{IsIf, IsReturnNil, IsWhile}
use Rattle.check_words.specs.Words.{Step}

-- the last two blocks are the ways of a branch, and the last part is its condition
abbrev pub builds_if : Place → Step
builds_if at =
    closes_block ▷ λ second. closes_block ▷ λ first. takes_part ▷ λ condition. adds_stmt (IsIf condition first.stmts second.stmts at)

-- the last block is the body of a loop, and the last part is its condition
abbrev pub builds_while : Place → Step
builds_while at = closes_block ▷ λ body. takes_part ▷ λ condition. adds_stmt (IsWhile condition body.stmts at)

-- `return;`, behind which no way goes on
abbrev pub ends_with_nil : Place → Step
ends_with_nil at = adds_stmt (IsReturnNil at) ▷ λ v. stops
