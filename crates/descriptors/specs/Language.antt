-- The types that the language itself names, and the atoms that they need.
use Rattle.std.specs.Prelude.{◌≡◌, ◌⊎◌, ◌+◌, ◌<◌, ℕ, List, [], ◌∷◌, length, Some, None, true, ⊤}
use Rattle.bal_base.specs.declared.shape.Shape.{Shape, Nil, Bool as BoolShape, Int, Str, List', Mapping', Error', Function, Future'}
use Rattle.type_model.specs.declared.atoms.AtomDef.{AtomDef}
use Rattle.type_model.specs.declared.atoms.AtomDef.TheVariants.{List as ListAtom, Mapping as MappingAtom, Arrow}
use Rattle.type_model.specs.declared.basic.BasicSet.TheVariants.{Never}
use Rattle.type_model.specs.declared.basic.SemType.{SemType, Basic, Atom}
use Rattle.type_model.specs.Defined.{NamesBelow}
use Rattle.type_model.specs.Inclusion.{HasExactly}
use Rattle.type_model.specs.Membership.{In}
use Rattle.checks.specs.Checks.{Check, ◌▷◌, gives_some}
use Rattle.checks.specs.Questions.{adds}
use Rattle.descriptors.specs.declared.names.OwnTypes.{OwnTypes}
use Rattle.descriptors.specs.Described.{Atoms, plain}
use Rattle.descriptors.specs.Steps.{AreOwnTypes}

-- nil, booleans, ints and strings
abbrev pub IsSimple : Shape → Type 0
IsSimple Nil = ⊤
IsSimple (BoolShape b) = ⊤
IsSimple (Int i) = ⊤
IsSimple (Str t) = ⊤
IsSimple (List' mark _ items) = ⊥
IsSimple (Mapping' mark _ fields) = ⊥
IsSimple (Error' _ detail) = ⊥
IsSimple (Function isolated graph) = ⊥
IsSimple (Future' _ results) = ⊥

-- anydata, by the atoms of its lists and of its mappings
pub record IsAnydataOver (lists mappings : ℕ) (t : SemType) : Type 0 where
  pub shapes : (env : List AtomDef) → HasExactly env t (λ x. IsSimple x ⊎ (In env x (Atom lists) ⊎ In env x (Atom mappings)))
  pub defined : (n : ℕ) → lists < n → mappings < n → NamesBelow n t

-- every shape
pub record IsEverything (t : SemType) : Type 0 where
  pub shapes : (env : List AtomDef) → HasExactly env t (λ x. ⊤)
  pub defined : (n : ℕ) → NamesBelow n t

-- The five atoms, numbered from `first`: lists of anydata, mappings of anydata, all lists, all mappings, and all isolated
-- functions, since no arguments are in `never`. No member has constructor choices.
pub record IsOwnGroup (first : ℕ) (group : List AtomDef) : Type 0 where
  pub members : SemType
  pub fields : SemType
  pub any_members : SemType
  pub any_fields : SemType
  pub is : group ≡ ListAtom [] (Some (plain members)) ∷ MappingAtom [] (Some (plain fields)) ∷ ListAtom [] (Some (plain any_members))
      ∷ MappingAtom [] (Some (plain any_fields)) ∷ Arrow (Basic Never) (Basic Never) true ∷ []
  pub members_are : IsAnydataOver first (first + 1) members
  pub fields_are : IsAnydataOver first (first + 1) fields
  pub any_members_are : IsEverything any_members
  pub any_fields_are : IsEverything any_fields

-- which atoms of such a group the types name
pub record AreNumbered (first : ℕ) (own : OwnTypes) : Type 0 where
  pub any_members : own.any_members ≡ first + 2
  pub any_fields : own.any_fields ≡ first + 3
  pub isolated : own.isolated ≡ first + 4

-- the types over such a group
pub record AreOver (first : ℕ) (own : OwnTypes) : Type 0 where
  pub lists : own.anydata.lists ≡ []
  pub maps : own.anydata.maps ≡ []
  pub anydata : IsAnydataOver first (first + 1) own.anydata.sem
  pub numbers : AreNumbered first own

-- Such a group more, which no descriptor asked for, so that a limit has no place; and then the types over it.
abbrev pub own_types : Check Atoms OwnTypes
own_types = adds (λ old group. IsOwnGroup (length old) group) None ▷ λ first. gives_some (λ env own. AreOwnTypes env own × AreOver first own)
