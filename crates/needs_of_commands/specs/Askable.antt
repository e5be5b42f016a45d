-- Which needs may be asked about: their types name atoms that are there, and fields have names of their own.
use Rattle.std.specs.Prelude.{◌<◌, ℕ, List, All, length, ⊤}
use Rattle.type_model.specs.declared.atoms.AtomDef.{AtomDef}
use Rattle.type_model.specs.declared.atoms.AtomDef.TheVariants.{Mapping as MappingAtom}
use Rattle.type_model.specs.Defined.{IsDefined}
use Rattle.type_model.specs.Places.{HasDistinctFields}
use Rattle.operations.specs.Uses.{units_valued, use_of}
use Rattle.stack_code.specs.declared.code.Code.{Code}
use Rattle.stack_code.specs.Tables.{DoesSo, HasTypes, IsCallable}
use Rattle.code_needs.specs.Needs.{Need, Below, Within, Has, HasConstant, HasBoth, HasMade, PartIn, PartHas, ItemIn, ItemHas, MemberIn, MemberHas, HasField, Ordered, Applies, Gives, GivesFuture, FitsFields, Names, HasErrorsOf}
use Rattle.atom_questions.specs.Kept.{NeedDefined}

abbrev pub HasOwnNames : Need → Type 0
HasOwnNames (FitsFields fields rest pair) = HasDistinctFields (MappingAtom fields rest)
HasOwnNames (Below s t) = ⊤
HasOwnNames (Within s kind) = ⊤
HasOwnNames (Has r kind) = ⊤
HasOwnNames (HasConstant r c) = ⊤
HasOwnNames (HasBoth r s t) = ⊤
HasOwnNames (HasMade r atom immutable) = ⊤
HasOwnNames (PartIn s keys r) = ⊤
HasOwnNames (PartHas s keys v) = ⊤
HasOwnNames (ItemIn l i r) = ⊤
HasOwnNames (ItemHas l i v) = ⊤
HasOwnNames (MemberIn m k r) = ⊤
HasOwnNames (MemberHas m k v) = ⊤
HasOwnNames (HasField m name) = ⊤
HasOwnNames (Ordered a b) = ⊤
HasOwnNames (Applies f args) = ⊤
HasOwnNames (Gives f args r) = ⊤
HasOwnNames (GivesFuture f args r) = ⊤
HasOwnNames (Names pairs name) = ⊤
HasOwnNames (HasErrorsOf r pairs) = ⊤

abbrev pub MayBeAsked : List AtomDef → Need → Type 0
MayBeAsked env need = NeedDefined env need × HasOwnNames need

-- what is known of a code before a need is asked about: its types and those of its maps name atoms that are there, and what is
-- inherent is an atom
pub record HasDefined (code : Code) : Type 0 where
  pub types : HasTypes code
  pub maps : All (λ m. All (IsDefined code.atoms) m.stack) code.maps
  pub inherent : All (λ a. a < length code.atoms) code.inherent

-- of what function values and futures are made at the place can be called
abbrev pub MakesCallable : Code → ℕ → Type 0
MakesCallable code p = DoesSo code p (λ o. All (IsCallable code) (units_valued (use_of o)))
