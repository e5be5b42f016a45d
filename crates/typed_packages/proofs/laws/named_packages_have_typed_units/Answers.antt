use Rattle.typed_packages.proofs.Law.{named-units-are-typed}
use Rattle.typed_packages.proofs.laws.named_packages_have_typed_units.Goals as goal

pub returns : goal.returns
returns g c =
    named-units-are-typed g.T.Types.passes c.whole_functions_are_typed.ensures c.initial_values_are_typed.ensures c.functions_end_whole.ensures c.bodies_make_typed_units.ensures
    c.placed_crews.ensures.crewed
