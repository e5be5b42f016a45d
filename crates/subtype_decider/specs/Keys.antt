-- Tests of the keys of a mapping.
use Rattle.std.specs.Prelude.{Bool, List, ◌||◌}
use Rattle.std.specs.List.{list_any, list_all}
use Rattle.bal_base.specs.declared.text.Text.{Text}
use Rattle.bal_base.specs.declared.shape.Shape.{Shape}
use Rattle.type_model.specs.declared.atoms.FieldDef.{FieldDef}
use Rattle.type_model.specs.Places.{is_same_text}

-- whether a member has the key
abbrev pub has_key : List (Text × Shape) → Text → Bool
has_key members key = list_any (λ m. is_same_text m.0 key) members

-- whether each field that isn't optional is there
abbrev pub has_required : List FieldDef → List (Text × Shape) → Bool
has_required fields members = list_all (λ f. f.optional || has_key members f.name) fields
