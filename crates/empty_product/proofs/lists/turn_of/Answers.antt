use Rattle.std.proofs.Common.{sym, subst}
use Rattle.bal_base.specs.declared.shape.Shapes.{Shapes}
use Rattle.type_diagrams.specs.declared.turn.Turn.TheVariants.{Shape as Found}
use Rattle.empty_product.specs.Lists.{IsListTurn}
use Rattle.empty_product.proofs.lists.turn_of.Goals as goal

pub returns-in_ok-list-in-Parts : goal.returns-in_ok-list-in-Parts
returns-in_ok-list-in-Parts c =
    let items : Shapes = record { items = c.in_ok-items-in-Parts.items } in
    subst (λ f. IsListTurn c.args.mark f (Found c.in_ok-list-in-Parts.field-0)) (sym c.in-Parts.is)
    (items, c.in_ok-list-in-Parts.ensures, c.in_ok-items-in-Parts.ensures)
