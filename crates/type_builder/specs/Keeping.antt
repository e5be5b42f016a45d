-- What is kept by the first pass.
use Rattle.std.specs.Prelude.{◌≡◌, ℕ, List, [], length, Some, slice_get}
use Rattle.bal_tree.specs.declared.def.Def.{Def}
use Rattle.bal_tree.specs.declared.def.Def.TheVariants.{«Type» as TypeOf, Const, Variable as VariableOf, Function as FunctionOf}
use Rattle.bal_tree.specs.declared.package.Package.{Package}
use Rattle.bal_tree.specs.declared.def.TypeDef.{TypeDef}
use Rattle.descriptors.specs.declared.names.Entry.{Entry}
use Rattle.descriptors.specs.declared.names.Meaning.TheVariants.{TypeName}
use Rattle.descriptors.specs.declared.names.Names.{Names}
use Rattle.descriptors.specs.declared.names.OwnTypes.{OwnTypes}
use Rattle.graphs.specs.Cycles.{Follows}
use Rattle.name_resolution.specs.Outlines.{outlines_of}
use Rattle.name_resolution.specs.Resolved.{parts}
use Rattle.name_resolution.specs.Definitions.{Placed, definitions_of}
use Rattle.type_builder.specs.Passes.{AreEntries, IsDraftedFrom, entry_for, first_of, started}
use Rattle.type_model.specs.declared.basic.Ty.{Ty}

-- Where the type of the definition with this number was kept: these were the entries then, and those of its parts are the same still.
pub record WasKept (p : Package) (own : OwnTypes) (es : List Entry) (n start : ℕ) (q : Placed) (d : TypeDef) (t : Ty) : Type 0 where
  pub earlier : List Entry
  pub long : length earlier ≡ length (definitions_of p)
  pub names : Names
  pub were : AreEntries p own earlier names
  pub drafted : IsDraftedFrom start names q d t
  pub same : (i : ℕ) → Follows (parts (outlines_of p)) n i → slice_get earlier i ≡ slice_get es i

-- the entry of a type definition
abbrev pub IsKeptType : Package → OwnTypes → List Entry → ℕ → ℕ → Placed → Entry → TypeDef → Type 0
IsKeptType p own es n start q e d = (t : Ty) × (e ≡ entry_for q (TypeName t)) × WasKept p own es n start q d t

-- that of any: a type is the one that was kept, and the others are as at first
abbrev pub IsKeptAs : Package → OwnTypes → List Entry → ℕ → ℕ → Placed → Entry → Def → Type 0
IsKeptAs p own es n start q e (TypeOf d) = IsKeptType p own es n start q e d
IsKeptAs p own es n start q e (Const d) = e ≡ first_of q
IsKeptAs p own es n start q e (VariableOf d) = e ≡ first_of q
IsKeptAs p own es n start q e (FunctionOf d) = e ≡ first_of q

-- What the names of a package stand for where types and constants are known: each type was drafted from its own first atom on.
pub record AreKept (p : Package) (own : OwnTypes) (first : ℕ) (names : Names) : Type 0 where
  pub es : List Entry
  pub entries : AreEntries p own es names
  pub long : length es ≡ length (definitions_of p)
  pub kept : (n start : ℕ) (q : Placed) (e : Entry) → slice_get (started first [] (definitions_of p)) n ≡ Some (q, start) → slice_get es n ≡ Some e
      → IsKeptAs p own es n start q e q.def
