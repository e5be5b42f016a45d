use Rattle.type_model.specs.declared.basic.SemType.{SemType}
use Rattle.std.specs.Option.{option_copied}
use Rattle.code_needs.specs.Combining.{◌&◌, need}
use Rattle.code_needs.specs.Needs.{Has}
use Rattle.code_needs.specs.RowNeeds.{within}
use Rattle.needs_of_rows.specs.ListsMade.{list_with}
use Rattle.needs_of_rows.proofs.Finding.{found-at-one, found-not-one, found-then}
use Rattle.needs_of_rows.proofs.lists_made.lists_kind.Goals as goal

pub returns-in-Some : goal.returns-in-Some
returns-in-Some c =
    found-at-one (λ (a : SemType). within a c.args.kind & list_with (option_copied c.args.list.def) (λ t. need (Has t c.args.wanted)) c.args.list.own.now (option_copied c.args.given)) c.args.operands.now c.in-Some.a.now _ _ c.in-Some.ensures
    (found-then (within c.in-Some.a.now c.args.kind) (list_with (option_copied c.args.list.def) (λ t. need (Has t c.args.wanted)) c.args.list.own.now (option_copied c.args.given)) _ _ _ c.within.ensures c.gives_list.ensures)

pub returns-in-None : goal.returns-in-None
returns-in-None c =
    found-not-one (λ (a : SemType). within a c.args.kind & list_with (option_copied c.args.list.def) (λ t. need (Has t c.args.wanted)) c.args.list.own.now (option_copied c.args.given)) c.args.operands.now _ _ c.in-None.ensures c.refuse.ensures
