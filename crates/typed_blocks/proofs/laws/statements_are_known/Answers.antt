use Rattle.typed_blocks.proofs.Trees.{all-trees-are-known}
use Rattle.typed_blocks.proofs.laws.statements_are_known.Goals as goal

pub returns : goal.returns
returns g c =
    all-trees-are-known g.T.Types.passes c.positions_are_kept.ensures c.stmt_positions_are_kept.ensures c.runs_go_on.ensures c.runs_are_typed.ensures c.statements_line_by_line.ensures c.flows_are_kept.ensures.values c.flows_are_kept.ensures.blocks
