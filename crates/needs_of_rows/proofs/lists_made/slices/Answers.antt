use Rattle.std.proofs.Common.{List}
use Rattle.type_model.specs.declared.basic.SemType.{SemType}
use Rattle.std.specs.Option.{option_copied}
use Rattle.code_needs.specs.Combining.{need, one_and_more}
use Rattle.code_needs.specs.declared.kind.Kind.TheVariants.{Lists}
use Rattle.code_needs.specs.Needs.{PartIn}
use Rattle.code_needs.specs.RowNeeds.{part_of}
use Rattle.needs_of_rows.specs.ListsMade.{list_with}
use Rattle.needs_of_rows.proofs.Finding.{found-then}
use Rattle.needs_of_rows.proofs.lists_made.slices.Goals as goal

pub returns : goal.returns
returns c =
    found-then (part_of Lists c.args.operands.now) (one_and_more c.args.operands.now (λ (l : SemType) (bounds : List SemType). list_with (option_copied c.args.list.def) (λ t. need (PartIn l c.args.keys.now t)) c.args.list.own.now (option_copied c.args.given))) _ _ _ c.part_of.ensures c.sliced.ensures
