use Rattle.std.specs.Option.{option_copied}
use Rattle.code_needs.specs.Combining.{◌&◌, as_many, at_most, each, need, of_list, of_some}
use Rattle.code_needs.specs.Needs.{HasMade}
use Rattle.code_needs.specs.RowNeeds.{items_fit, may_stand}
use Rattle.needs_of_rows.proofs.Finding.{found-four}
use Rattle.needs_of_rows.proofs.structures.makes_list.Goals as goal

pub returns : goal.returns
returns c =
    found-four (as_many c.args.items.now c.args.making.count) (of_list (option_copied c.args.def) (λ fixed rest. at_most fixed c.args.making.count & items_fit c.args.items.now 0 fixed rest)) (each (may_stand c.args.making.immutable) c.args.items.now) (of_some (option_copied c.args.given) (λ r. need (HasMade r c.args.making.atom c.args.making.immutable))) _ _ _ _ _
    c.as_many.ensures c.list_items.ensures c.may_stand_each.ensures c.has_made.ensures
