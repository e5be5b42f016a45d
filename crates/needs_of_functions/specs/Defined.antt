-- What the module at hand defines under a name.
use Rattle.std.specs.Prelude.{◌≡◌, ℕ, Bool, Option, Some}
use Rattle.descriptors.specs.declared.names.Entry.{Entry}
use Rattle.descriptors.specs.declared.names.Meaning.{Meaning}
use Rattle.descriptors.specs.declared.names.Meaning.TheVariants as meaning
use Rattle.type_model.specs.declared.basic.Ty.{Ty}

abbrev pub IsDefinedAs : Option Entry → Meaning → Type 0
IsDefinedAs e m = (x : Entry) × (e ≡ Some x) × (x.meaning ≡ m)

-- a variable with this number and this type
abbrev pub IsVariable : Option Entry → ℕ → Ty → Type 0
IsVariable e number t = (final : Bool) × IsDefinedAs e (meaning.Variable number final t)
