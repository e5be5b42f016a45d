-- The steps by which the type of a member is found.
use Rattle.std.specs.Prelude.{◌<◌, ℕ, Bool, false, List, [], ◌∷◌, All, Some, length}
use Rattle.bal_base.specs.declared.fault.Fault.{Fault}
use Rattle.bal_base.specs.declared.fault.FaultCode.TheVariants.{NoField}
use Rattle.bal_base.specs.declared.fault.Kept.TheVariants.{Nothing as ShowsNothing}
use Rattle.bal_base.specs.declared.place.Place.{Place}
use Rattle.bal_base.specs.declared.stop.Stop.{Stop}
use Rattle.bal_base.specs.declared.stop.Stop.TheVariants.{Memory, Fault as OwnFault}
use Rattle.bal_base.specs.declared.text.Text.{Text}
use Rattle.checks.specs.Checks.{Check, gives, ◌▷◌}
use Rattle.checks.specs.Questions.{IsFault, has_some, is_below}
use Rattle.descriptors.specs.Described.{plain}
use Rattle.type_model.specs.declared.answers.TypeLimit.{TypeLimit}
use Rattle.type_model.specs.declared.atoms.AtomDef.{AtomDef}
use Rattle.type_model.specs.declared.atoms.AtomDef.TheVariants.{Mapping as MappingAtom}
use Rattle.type_model.specs.declared.basic.SemType.{SemType, Atom}
use Rattle.type_model.specs.Calls.{Asked}
use Rattle.type_model.specs.Defined.{IsDefinedGroup}
use Rattle.type_model.specs.Places.{HasDistinctFields}
use Rattle.check_words.specs.Members.{HaveField}
use Rattle.check_words.specs.State.{State}
use Rattle.check_words.specs.Words.{Atoms, Step, asking, unless}

-- the stop is the fault that there is no such field
abbrev pub IsNoField : Place → Stop Fault → Type 0
IsNoField at Memory = ⊥
IsNoField at (OwnFault f) = IsFault NoField (Some at) ShowsNothing f

-- the mappings with a field of this type, and any number of others
abbrev pub with_field_of : Text → SemType → SemType → List AtomDef
with_field_of name t rest = MappingAtom (record { name = name; ty = plain t; optional = false } ∷ []) (Some (plain rest)) ∷ []

-- all mappings that have the field, as a group of atoms
pub record AreHaving (name : Text) (defs : List AtomDef) : Type 0 where
  pub have : HaveField name defs
  pub named : (env : Atoms) → IsDefinedGroup env defs
  pub distinct : All HasDistinctFields defs
  pub some : 0 < length defs

abbrev pub if_there : Bool → SemType → Place → Check State SemType
if_there there t at = unless there NoField at ▷ λ u. gives t

module _ (passes : List AtomDef → Asked → TypeLimit → Type 0) where
  abbrev pub some_of : SemType → Place → Check State SemType
  some_of t at = asking (has_some passes t (Some at)) ▷ λ there. if_there there t at

  abbrev pub all_below : SemType → ℕ → Place → Step
  all_below t atom at = asking (is_below passes t (Atom atom) (Some at)) ▷ λ there. unless there NoField at
