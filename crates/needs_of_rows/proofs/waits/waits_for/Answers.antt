use Rattle.std.specs.Option.{option_copied}
use Rattle.code_needs.specs.Combining.{◌&◌, need, of_some}
use Rattle.code_needs.specs.declared.kind.Kind.TheVariants.{Errors, Futures}
use Rattle.code_needs.specs.Needs.{Has, PartIn}
use Rattle.code_needs.specs.RowNeeds.{within}
use Rattle.needs_of_rows.proofs.Finding.{found-then}
use Rattle.needs_of_rows.proofs.waits.waits_for.Goals as goal

pub returns : goal.returns
returns c =
    found-then (within c.args.f.now Futures) (of_some (option_copied c.args.given) (λ r. need (PartIn c.args.f.now c.args.keys.now r) & need (Has r Errors))) _ _ _ c.within.ensures c.has_part_or.ensures
