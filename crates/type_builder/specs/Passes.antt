-- The passes over the definitions of a package.
use Rattle.std.specs.Prelude.{◌≡◌, ◌+◌, ◌<◌, ◌≤◌, ◌∷◌, [], ℕ, true, false, List, length, All, AllPairs, None, Some, Result, Ok, Err, cond, ⊤}
use Rattle.std.specs.List.{AllZip}
use Rattle.bal_base.specs.declared.fault.Fault.{Fault}
use Rattle.bal_base.specs.declared.limits.TheConstants.{MOST_ATOMS}
use Rattle.bal_base.specs.declared.place.Place.{Place}
use Rattle.bal_base.specs.declared.stop.Stop.{Stop}
use Rattle.bal_base.specs.declared.stop.Stop.TheVariants.{Memory, Fault as OwnFault}
use Rattle.bal_base.specs.declared.text.Name.{Name}
use Rattle.bal_tree.specs.declared.def.Def.{Def}
use Rattle.bal_tree.specs.declared.def.Def.TheVariants.{«Type» as TypeOf, Const, Variable as VariableOf, Function as FunctionOf}
use Rattle.bal_tree.specs.declared.def.TypeDef.{TypeDef}
use Rattle.bal_tree.specs.declared.package.Module.{Module}
use Rattle.bal_tree.specs.declared.package.Package.{Package}
use Rattle.checks.specs.Checks.{Gives, Refuses}
use Rattle.descriptors.specs.Described.{plain, value_set}
use Rattle.descriptors.specs.Descriptors.{descriptor_of}
use Rattle.descriptors.specs.Drafts.{AreNamesBelow, drafted, next_of}
use Rattle.descriptors.specs.Naming.{entry_in}
use Rattle.descriptors.specs.declared.draft.Draft.{Draft}
use Rattle.descriptors.specs.declared.names.Entry.{Entry}
use Rattle.descriptors.specs.declared.names.Meaning.{Meaning}
use Rattle.descriptors.specs.declared.names.Meaning.TheVariants.{TypeName, Constant, Variable}
use Rattle.descriptors.specs.declared.names.Names.{Names}
use Rattle.descriptors.specs.declared.names.ModuleNames.{ModuleNames}
use Rattle.std.specs.HashMap.{get_by}
use Rattle.type_model.specs.Places.{is_same_text}
use Rattle.descriptors.specs.declared.names.OwnTypes.{OwnTypes}
use Rattle.name_resolution.specs.Faults.{AreNamed as HaveNames}
use Rattle.package_imports.specs.InPackage.{Linked, linked}
use Rattle.name_resolution.specs.Outlines.{outlines_of}
use Rattle.type_builder.specs.AtomPlaces.{def_places, package_places}
use Rattle.type_builder.specs.Building.{IsModule, first_entry}
use Rattle.type_builder.specs.Flat.{IsFlatType}
use Rattle.name_resolution.specs.Definitions.{Placed, defines, definitions_of, is_public, name_of, scope_at}
use Rattle.type_model.specs.Defined.{TyBelow}
use Rattle.type_model.specs.declared.basic.BasicSet.TheVariants.{Never}
use Rattle.type_model.specs.declared.basic.SemType.{Basic}
use Rattle.type_model.specs.declared.basic.Ty.{Ty}

-- ---- what is known where names are without fault

-- no definition has a fault in names
abbrev pub AreNamed : Package → Type 0
AreNamed p = HaveNames (outlines_of p)

-- each definition is the first of its name
abbrev pub AreApart : List Placed → Type 0
AreApart = AllPairs (λ q p. defines p.«module» (name_of p.def) q ≡ false)

-- ---- definitions with the numbers of their first atoms

abbrev pub placed_places : List Place → Placed → List Place
placed_places before p = def_places before p.def

-- each behind the atoms of those before it, which are at these places and numbered from `first` on
abbrev pub started : ℕ → List Place → List Placed → List (Placed × ℕ)
started first before [] = []
started first before (p ∷ ps) = (p, first + length before) ∷ started first (placed_places before p) ps

-- those of the language's own types that descriptors need name only the first n atoms
abbrev pub IsOwnBelow : ℕ → OwnTypes → Type 0
IsOwnBelow n own = TyBelow n own.anydata × (own.isolated < n)

-- the number behind the last atom of a package whose atoms are numbered from `first` on
abbrev pub end_of : ℕ → Package → ℕ
end_of first p = first + length (package_places p)

-- there is room for the atoms of a package from this number on
abbrev pub HaveRoom : ℕ → Package → Type 0
HaveRoom first p = end_of first p ≤ MOST_ATOMS

-- ---- names

-- what the names of a package stand for, by the entries of its definitions in text order
pub record AreEntries (p : Package) (own : OwnTypes) (es : List Entry) (names : Names) : Type 0 where
  pub own_are : names.own ≡ own
  pub files : AllZip (IsModule (linked p)) p.modules names.modules.items
  pub named : (m : ℕ) (name : Name) → entry_in names name m ≡ first_entry m name (definitions_of p) es

-- no name stands for anything
abbrev pub AreEmpty : List ModuleNames → Type 0
AreEmpty = All (λ m. (name : Name) → get_by (is_same_text name) m.entries ≡ None)

abbrev pub entry_for : Placed → Meaning → Entry
entry_for p m = record { public = is_public p.def; meaning = m }

-- what a definition's name stands for before its type is known: a constant for that of its value
abbrev pub first_meaning : Def → Meaning
first_meaning (TypeOf d) = TypeName (plain (Basic Never))
first_meaning (Const d) = Constant (plain (Basic (value_set d.value)))
first_meaning (VariableOf d) = Variable 0 d.is_final (plain (Basic Never))
first_meaning (FunctionOf d) = Variable 0 true (plain (Basic Never))

abbrev pub first_of : Placed → Entry
first_of p = entry_for p (first_meaning p.def)

-- the name of a definition stands for this, and all other names for what they did
pub record IsNoted (p : Placed) (m : Meaning) (old new : Names) : Type 0 where
  pub own : new.own ≡ old.own
  pub files : (home : Linked) (ms : List Module) → AllZip (IsModule home) ms old.modules.items → AllZip (IsModule home) ms new.modules.items
  pub entries : (home : ℕ) (name : Name) → entry_in new name home ≡ cond (defines home name p) (Some (entry_for p m)) (entry_in old name home)

-- ---- the first pass: types by themselves

-- a draft without atoms, from this number on
abbrev pub IsEmptyFrom : ℕ → Draft → Type 0
IsEmptyFrom first d = (d.first ≡ first) × (d.atoms.items ≡ [])

-- the type is drafted from this number on, over these names, and kept with its union flat
pub record IsDraftedFrom (first : ℕ) (names : Names) (p : Placed) (d : TypeDef) (t : Ty) : Type 0 where
  pub start : Draft
  pub empty : IsEmptyFrom first start
  pub end : Draft
  pub written : Ty
  pub comes : drafted names (scope_at p) (descriptor_of d.ty.value) start (Gives written) end
  pub flat : IsFlatType written t
  pub below : (n : ℕ) → next_of end ≤ n → AreNamesBelow names n → TyBelow n t

-- the draft of a type refuses
pub record IsRefusedFrom (first : ℕ) (names : Names) (p : Placed) (d : TypeDef) (f : Fault) : Type 0 where
  pub start : Draft
  pub empty : IsEmptyFrom first start
  pub end : Draft
  pub comes : drafted names (scope_at p) (descriptor_of d.ty.value) start (Refuses f) end

-- The name of a type definition stands for the type that is drafted from its own first atom on; other definitions are left.
abbrev pub IsKeptBy : ℕ → Placed → Names → Names → Def → Result (Unit {0}) (Stop Fault) → Type 0
IsKeptBy first p old new (TypeOf d) (Ok u) = (t : Ty) × IsDraftedFrom first old p d t × IsNoted p (TypeName t) old new
IsKeptBy first p old new (Const d) (Ok u) = new ≡ old
IsKeptBy first p old new (VariableOf d) (Ok u) = new ≡ old
IsKeptBy first p old new (FunctionOf d) (Ok u) = new ≡ old
IsKeptBy first p old new (TypeOf d) (Err (OwnFault f)) = IsRefusedFrom first old p d f
IsKeptBy first p old new (Const d) (Err (OwnFault f)) = ⊥
IsKeptBy first p old new (VariableOf d) (Err (OwnFault f)) = ⊥
IsKeptBy first p old new (FunctionOf d) (Err (OwnFault f)) = ⊥
IsKeptBy first p old new (TypeOf d) (Err Memory) = ⊤
IsKeptBy first p old new (Const d) (Err Memory) = ⊤
IsKeptBy first p old new (VariableOf d) (Err Memory) = ⊤
IsKeptBy first p old new (FunctionOf d) (Err Memory) = ⊤

abbrev pub IsKept : ℕ → Placed → Names → Result (Unit {0}) (Stop Fault) → Names → Type 0
IsKept first p old r new = IsKeptBy first p old new p.def r

-- ---- the second pass: all atoms, variables and functions

-- The name of a variable or a function stands for this; types and constants are left as they are.
abbrev pub IsValueNoted : Placed → Def → Meaning → Names → Names → Type 0
IsValueNoted p (TypeOf d) m old new = new ≡ old
IsValueNoted p (Const d) m old new = new ≡ old
IsValueNoted p (VariableOf d) m old new = IsNoted p m old new
IsValueNoted p (FunctionOf d) m old new = IsNoted p m old new
