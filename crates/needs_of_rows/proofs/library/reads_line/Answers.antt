use Rattle.std.specs.Option.{option_copied}
use Rattle.code_needs.specs.declared.kind.Kind.TheVariants.{Strings}
use Rattle.code_needs.specs.RowNeeds.{has, makes_none, prompted}
use Rattle.needs_of_rows.proofs.Finding.{found-then}
use Rattle.needs_of_rows.proofs.library.reads_line.Goals as goal

pub returns : goal.returns
returns c =
    found-then (prompted c.args.operands.now) (makes_none c.args.atom (has (option_copied c.args.given) Strings)) _ _ _ c.prompted.ensures c.gives_kind.ensures
