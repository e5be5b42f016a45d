use Rattle.std.specs.Option.{option_copied}
use Rattle.code_needs.specs.declared.kind.Kind.TheVariants.{Strings}
use Rattle.code_needs.specs.RowNeeds.{has, makes_none, part_of}
use Rattle.needs_of_rows.proofs.Finding.{found-then}
use Rattle.needs_of_rows.proofs.library.takes_substring.Goals as goal

pub returns : goal.returns
returns c =
    found-then (part_of Strings c.args.operands.now) (makes_none c.args.atom (has (option_copied c.args.given) Strings)) _ _ _ c.part_of.ensures c.gives_kind.ensures
