-- Loops that are put together, behind their choices.
use Rattle.std.specs.Prelude.{ℕ}
use Rattle.bal_base.specs.declared.place.Place.{Place}
use Rattle.bal_tree.specs.declared.stmt.RangeOp.{RangeOp}
use Rattle.checks.specs.Checks.{gives_some, ◌▷◌}
use Rattle.typed_tree.specs.Exprs.{type_of}
use Rattle.expr_needs.specs.declared.kind.Kind.TheVariants as kind
use Rattle.check_words.specs.Branches.{kind_slot, range_end}
use Rattle.check_words.specs.Statements.{adds_stmt, closes_block, takes_part}
use Rattle.check_words.specs.StmtViews.{IsForeach, IsListSource, IsRangeSource}
use Rattle.check_words.specs.Words.{Step, last_two, new_slot, takes}

-- the last block is the body of a loop over the last part, whose variable has this slot
abbrev pub adds_foreach : ℕ → Place → Step
adds_foreach slot at =
    closes_block ▷ λ body. takes_part ▷ λ list. new_slot (type_of list) ▷ λ own. kind_slot kind.Integer ▷ λ index.
    gives_some (λ s over. IsListSource own list over) ▷ λ over. adds_stmt (IsForeach slot over body.stmts at)

-- the same over the ints between the last two parts
abbrev pub adds_range : RangeOp → ℕ → Place → Step
adds_range op slot at =
    closes_block ▷ λ body. last_two ▷ λ p. takes 2 ▷ λ parts. kind_slot kind.Integer ▷ λ own. kind_slot kind.Integer ▷ λ last. kind_slot kind.Truth ▷ λ left.
    gives_some (λ s over. IsRangeSource own (range_end op) p.0 p.1 over) ▷ λ over. adds_stmt (IsForeach slot over body.stmts at)
