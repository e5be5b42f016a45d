-- Names that are seen.
use Rattle.std.specs.Prelude.{Bool}
use Rattle.std.specs.List.{list_any}
use Rattle.bal_base.specs.declared.text.Name.{Name}
use Rattle.type_model.specs.Places.{is_same_text}
use Rattle.check_words.specs.State.{UnitAtWork}

-- a variable of the unit has the name
abbrev pub has_variable : Name → UnitAtWork → Bool
has_variable name u = list_any (λ v. is_same_text v.name name) u.flow.variables
