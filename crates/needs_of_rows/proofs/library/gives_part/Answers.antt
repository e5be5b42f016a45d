use Rattle.std.specs.Option.{option_copied}
use Rattle.code_needs.specs.Combining.{absent, need, of_some}
use Rattle.code_needs.specs.Needs.{PartIn}
use Rattle.needs_of_rows.proofs.Finding.{found-then}
use Rattle.needs_of_rows.proofs.library.gives_part.Goals as goal

pub returns : goal.returns
returns c =
    found-then (absent c.args.atom) (of_some (option_copied c.args.given) (λ r. need (PartIn c.args.whole.now c.args.keys.now r))) _ _ _ c.no_atom.ensures c.has_part.ensures
