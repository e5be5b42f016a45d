use Rattle.code_needs.specs.Combining.{need}
use Rattle.code_needs.specs.Needs.{Has, PartIn}
use Rattle.needs_of_rows.proofs.Finding.{found-then}
use Rattle.needs_of_rows.proofs.members.part_or.Goals as goal

pub returns : goal.returns
returns c =
    found-then (need (PartIn c.args.whole.now c.args.keys.now c.args.r.now)) (need (Has c.args.r.now c.args.kind)) _ _ _ c.ask.ensures c.has_kind.ensures
