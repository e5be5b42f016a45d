use Rattle.std.specs.Option.{option_copied}
use Rattle.code_needs.specs.Combining.{absent}
use Rattle.code_needs.specs.RowNeeds.{has_all}
use Rattle.needs_of_rows.proofs.Finding.{found-then}
use Rattle.needs_of_rows.proofs.library.gives_type.Goals as goal

pub returns : goal.returns
returns c =
    found-then (absent c.args.atom) (has_all (option_copied c.args.given) c.args.t.now) _ _ _ c.no_atom.ensures c.has_all.ensures
