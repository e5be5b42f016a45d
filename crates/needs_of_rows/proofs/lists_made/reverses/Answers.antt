use Rattle.type_model.specs.declared.basic.SemType.{SemType}
use Rattle.std.specs.Option.{option_copied}
use Rattle.code_needs.specs.Combining.{◌&◌, need}
use Rattle.code_needs.specs.declared.kind.Kind.TheVariants.{Lists}
use Rattle.code_needs.specs.Needs.{PartIn}
use Rattle.code_needs.specs.RowNeeds.{within}
use Rattle.needs_of_rows.specs.ListsMade.{list_with}
use Rattle.needs_of_rows.proofs.Finding.{found-at-one, found-not-one, found-then}
use Rattle.needs_of_rows.proofs.lists_made.reverses.Goals as goal

pub returns-in-Some : goal.returns-in-Some
returns-in-Some c =
    found-at-one (λ (l : SemType). within l Lists & list_with (option_copied c.args.list.def) (λ t. need (PartIn l c.args.keys.now t)) c.args.list.own.now (option_copied c.args.given)) c.args.operands.now c.in-Some.l.now _ _ c.in-Some.ensures
    (found-then (within c.in-Some.l.now Lists) (list_with (option_copied c.args.list.def) (λ t. need (PartIn c.in-Some.l.now c.args.keys.now t)) c.args.list.own.now (option_copied c.args.given)) _ _ _ c.within.ensures c.gives_list.ensures)

pub returns-in-None : goal.returns-in-None
returns-in-None c =
    found-not-one (λ (l : SemType). within l Lists & list_with (option_copied c.args.list.def) (λ t. need (PartIn l c.args.keys.now t)) c.args.list.own.now (option_copied c.args.given)) c.args.operands.now _ _ c.in-None.ensures c.refuse.ensures
