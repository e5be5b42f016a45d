-- What a call of the library needs of a list that it makes.
use Rattle.std.specs.Prelude.{Option}
use Rattle.type_model.specs.declared.atoms.AtomDef.{AtomDef}
use Rattle.type_model.specs.declared.basic.SemType.{SemType}
use Rattle.code_needs.specs.Combining.{Needs, ◌&◌, none, of_list, of_some}
use Rattle.code_needs.specs.RowNeeds.{has_all}

-- a list of the atom with this definition and this type, whose items need so much of theirs
abbrev pub list_with : Option AtomDef → (SemType → Needs) → SemType → Option SemType → Needs
list_with def f own result = of_list def (λ fixed rest. none fixed & of_some rest (λ t. f t.sem)) & has_all result own
