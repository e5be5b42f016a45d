use Rattle.std.proofs.Common.{Option, ap}
use Rattle.std.specs.Option.{option_copied}
use Rattle.type_model.specs.declared.atoms.AtomDef.{AtomDef}
use Rattle.code_needs.specs.Combining.{◌&◌, as_many, at_most, each, need, of_list, of_some}
use Rattle.code_needs.specs.Needs.{HasMade}
use Rattle.code_needs.specs.RowNeeds.{items_fit, may_stand}
use Rattle.needs_of_rows.proofs.Finding.{found-as}
use Rattle.needs_of_places.proofs.made.list_row.Goals as goal

pub returns : goal.returns
returns c =
    found-as _ _ _ _ (ap (λ (o : Option AtomDef). as_many c.args.taken.operands.now c.args.making.count & of_list o (λ fixed rest. at_most fixed c.args.making.count & items_fit c.args.taken.operands.now 0 fixed rest) & each (may_stand c.args.making.immutable) c.args.taken.operands.now & of_some (option_copied c.args.taken.given) (λ r. need (HasMade r c.args.making.atom c.args.making.immutable))) c.atom_at.ensures) c.makes_list.ensures
