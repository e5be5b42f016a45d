-- What wanted mapping atoms ask together at the keys that they name, and which atoms that tells to be out of play.
use Rattle.std.specs.Prelude.{◌≡◌, ◌↔◌, ℕ, List, [], ◌∷◌, map, All, Any, IsTrue, Option, Some, None, false}
use Rattle.type_model.specs.declared.basic.Ty.{Ty}
use Rattle.type_model.specs.declared.atoms.FieldDef.{FieldDef}
use Rattle.type_model.specs.declared.atoms.AtomDef.{AtomDef}
use Rattle.bal_base.specs.declared.text.Text.{Text}
use Rattle.type_diagrams.specs.Atoms.{parts_of, mapping_parts}
use Rattle.type_diagrams.specs.Conditions.{IsNothing, and_of, asks}
use Rattle.type_diagrams.specs.Members.{ArePlainlyApart, Requires, member_of}
use Rattle.type_diagrams.specs.Tables.{Table, condition}
use Rattle.type_diagrams.specs.Whole.{Gives}
use Rattle.empty_product.specs.declared.mapping_atoms.KeyBase.{KeyBase}

-- the fields among the parts of a mapping atom
abbrev pub fields_in : Option (List FieldDef × Option Ty) → List FieldDef
fields_in (Some d) = d.0
fields_in None = []

module _ (env : List AtomDef) where
  -- the fields of a mapping atom
  abbrev pub fields_of : ℕ → List FieldDef
  fields_of a = fields_in (parts_of mapping_parts env a)

  -- the question is about what these atoms ask at the key, which one of them requires, or none does
  pub record IsBase (table : Table) (wanted : List ℕ) (b : KeyBase) : Type 0 where
    pub question : Gives table (asks (map (member_of env b.key) wanted) []) b.question
    pub required : IsTrue b.required ↔ Any (Requires env b.key) wanted

  -- there is one for each key that one of them requires
  pub record AreBases (table : Table) (wanted : List ℕ) (bases : List KeyBase) : Type 0 where
    pub each : All (IsBase table wanted) bases
    pub all : (key : Text) → Any (Requires env key) wanted → Any (λ b. b.key ≡ key) bases

  -- the atom has no shape in common with the others at the key, which one of these requires
  abbrev pub IsApartAt : Table → ℕ → KeyBase → Type 0
  IsApartAt table a b = IsTrue b.required × IsNothing (and_of (member_of env b.key a) (condition table b.question))

  -- the atom has none in common with the others at the key of a field, which it requires
  abbrev pub IsApartBy : List ℕ → ℕ → FieldDef → Type 0
  IsApartBy wanted a f = (f.optional ≡ false) × ArePlainlyApart (map (member_of env f.name) (a ∷ wanted))
