-- The definitions of atoms that members make.
use Rattle.std.specs.Prelude.{◌≡◌, ◌∷◌, [], ℕ, Bool, true, false, List, Any, None, Option, Some, length}
use Rattle.bal_base.specs.declared.text.Text.{Text}
use Rattle.descriptors.specs.Described.{IsPlain}
use Rattle.type_model.specs.declared.atoms.AtomDef.{AtomDef}
use Rattle.type_model.specs.declared.atoms.AtomDef.TheVariants.{Mapping as MappingAtom, Error as ErrorAtom}
use Rattle.type_model.specs.declared.basic.SemType.{Atom}
use Rattle.type_model.specs.declared.basic.Ty.{Ty}
use Rattle.type_model.specs.Defined.{TyBelow}
use Rattle.type_model.specs.Membership.{In}
use Rattle.check_words.specs.Constructors.{all_known, fields_with}
use Rattle.check_words.specs.Words.{Atoms}

-- the shapes of any of these types
abbrev pub AnyOf : List Ty → Atoms → Ty → Type 0
AnyOf types env = IsPlain (λ x. Any (λ u. In env x u.sem) types) env

-- the definition that members with these keys and types have: a closed record, or where a key is computed a map of a type that names only atoms
-- that are there
abbrev pub IsDefBy : Bool → List (Option Text) → List Ty → Atoms → AtomDef → Type 0
IsDefBy true keys types env def = def ≡ MappingAtom (fields_with keys types) None
IsDefBy false keys types env def = (t : Ty) × AnyOf types env t × TyBelow (length env) t × (def ≡ MappingAtom [] (Some t))

abbrev pub IsDefOf : List (Option Text) → List Ty → Atoms → AtomDef → Type 0
IsDefOf keys types = IsDefBy (all_known keys) keys types

-- that definition alone
abbrev pub IsGroupOf : List (Option Text) → List Ty → Atoms → Atoms → Type 0
IsGroupOf keys types env defs = (def : AtomDef) × IsDefOf keys types env def × (defs ≡ def ∷ [])

-- the detail of an error, whose number this is, and the error
abbrev pub error_defs : List (Option Text) → List Ty → ℕ → List AtomDef
error_defs keys types first = MappingAtom (fields_with keys types) None ∷ ErrorAtom (Atom first) ∷ []
