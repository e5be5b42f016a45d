use Rattle.typed_packages.proofs.Law.{checked-units-are-typed}
use Rattle.typed_packages.proofs.laws.checked_packages_have_typed_units.Goals as goal

pub returns : goal.returns
returns g c =
    checked-units-are-typed g.T.Types.passes c.whole_functions_are_typed.ensures c.initial_values_are_typed.ensures c.functions_end_whole.ensures c.bodies_make_typed_units.ensures
