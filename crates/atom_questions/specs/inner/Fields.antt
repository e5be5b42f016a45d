-- Fields one by one.
use Rattle.std.specs.Prelude.{◌≡◌, [], ◌∷◌, false, List}
use Rattle.bal_base.specs.declared.text.Text.{Text}
use Rattle.type_model.specs.declared.atoms.FieldDef.{FieldDef}
use Rattle.type_model.specs.declared.basic.Ty.{Ty}

-- one required field of this name and type
abbrev pub IsOneField : Text → Ty → List FieldDef → Type 0
IsOneField name ty fields = (f : FieldDef) × (fields ≡ f ∷ []) × (f.name ≡ name) × (f.optional ≡ false) × (f.ty ≡ ty)
