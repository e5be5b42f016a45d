-- Which unwanted atoms stay in play.
use Rattle.std.specs.Prelude.{◌≡◌, ◌⊎◌, ℕ, List, All, Contains, true, slice_get}
use Rattle.type_model.specs.declared.atoms.AtomDef.{AtomDef}
use Rattle.type_diagrams.specs.declared.kind.Kind.TheVariants.{List as Lists, Mapping as Mappings}
use Rattle.type_diagrams.specs.Conditions.{is_def_of}

module _ (env : List AtomDef) where
  abbrev pub IsListAtom : ℕ → Type 0
  IsListAtom a = is_def_of Lists (slice_get env a) ≡ true

  abbrev pub IsMappingAtom : ℕ → Type 0
  IsMappingAtom a = is_def_of Mappings (slice_get env a) ≡ true

-- those of the unwanted atoms that are in play
pub record AreInPlay (IsOut : ℕ → Type 0) (unwanted playing : List ℕ) : Type 0 where
  pub among : All (λ a. Contains unwanted a × (¬ IsOut a)) playing
  pub others : All (λ a. IsOut a ⊎ Contains playing a) unwanted
