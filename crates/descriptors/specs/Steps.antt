-- A check in which atoms are added, and what names need of the atoms that are there.
use Rattle.std.specs.Prelude.{◌≡◌, ℕ, ◌<◌, List, length, Option, IfOk, IfSome, Some, Result, Ok, Err, All}
use Rattle.bal_base.specs.declared.fault.Fault.{Fault}
use Rattle.bal_base.specs.declared.stop.Memory.{Memory as NoMemory}
use Rattle.bal_base.specs.declared.stop.Stop.{Stop}
use Rattle.bal_base.specs.declared.stop.Stop.TheVariants.{Memory}
use Rattle.bal_base.specs.declared.text.Name.{Name}
use Rattle.bal_tree.specs.declared.name.QualifiedName.{QualifiedName}
use Rattle.type_model.specs.declared.atoms.AtomDef.{AtomDef}
use Rattle.type_model.specs.declared.atoms.FieldDef.{FieldDef}
use Rattle.type_model.specs.declared.basic.BasicSet.TheVariants.{ListAll, MappingAll}
use Rattle.type_model.specs.declared.basic.SemType.{Atom}
use Rattle.type_model.specs.declared.basic.Ty.{Ty}
use Rattle.type_model.specs.Anydata.{IsAnydata}
use Rattle.type_model.specs.Basic.{InBasic}
use Rattle.type_model.specs.Calls.{KeepsTypes}
use Rattle.type_model.specs.Defined.{TyBelow}
use Rattle.checks.specs.Checks.{Check, Comes}
use Rattle.descriptors.specs.declared.names.Entry.{Entry}
use Rattle.descriptors.specs.declared.names.Meaning.{Meaning}
use Rattle.descriptors.specs.declared.names.Meaning.TheVariants.{TypeName, Constant, Variable, Function}
use Rattle.descriptors.specs.declared.names.Names.{Names}
use Rattle.descriptors.specs.declared.names.OwnTypes.{OwnTypes}
use Rattle.descriptors.specs.declared.names.Scope.{Scope}
use Rattle.descriptors.specs.declared.names.Signature.{Signature}
use Rattle.descriptors.specs.Described.{Atoms, IsPlain, IsIsolatedFunction, plain}
use Rattle.descriptors.specs.Naming.{entry_in, type_named}

-- the call is the check, types keep their shapes, and what it gives is defined over the atoms that are there then
pub record Yields {A : Type 0} (IsOver : ℕ → A → Type 0) (check : Check Atoms A) (old : List AtomDef) (r : Result A (Stop Fault)) (new : List AtomDef) : Type 0 where
  pub comes : Comes check old r new
  pub kept : KeepsTypes old new
  pub over : IfOk r (IsOver (length new))

-- what was made for a check, which may want memory
abbrev pub lifted : {A : Type 0} → Result A NoMemory → Result A (Stop Fault)
lifted (Ok a) = Ok a
lifted (Err m) = Err Memory

-- the same of an atom's number, of lists and of what may be absent
abbrev pub IsAtom : ℕ → ℕ → Type 0
IsAtom n atom = atom < n

abbrev pub AllBelow : ℕ → List Ty → Type 0
AllBelow n = All (TyBelow n)

abbrev pub FieldsBelow : ℕ → List FieldDef → Type 0
FieldsBelow n = All (λ f. TyBelow n f.ty)

abbrev pub FieldBelow : ℕ → FieldDef → Type 0
FieldBelow n f = TyBelow n f.ty

abbrev pub IfBelow : ℕ → Option Ty → Type 0
IfBelow n t = IfSome t (TyBelow n)

abbrev pub ParamsBelow : ℕ → List Ty × Option Ty → Type 0
ParamsBelow n params = AllBelow n params.0 × IfBelow n params.1

abbrev pub scope_of : ℕ → Option ℕ → Scope
scope_of m file = record { «module» = m; file = file }

-- the language's own types over the atoms that are there
pub record AreOwnTypes (env : List AtomDef) (own : OwnTypes) : Type 0 where
  pub anydata : IsPlain IsAnydata env own.anydata
  pub anydata_defined : TyBelow (length env) own.anydata
  pub any_members : IsPlain (λ x. InBasic x ListAll) env (plain (Atom own.any_members))
  pub any_members_defined : own.any_members < length env
  pub any_fields : IsPlain (λ x. InBasic x MappingAll) env (plain (Atom own.any_fields))
  pub any_fields_defined : own.any_fields < length env
  pub isolated : IsPlain IsIsolatedFunction env (plain (Atom own.isolated))
  pub isolated_defined : own.isolated < length env

-- ---- which atoms meanings name

abbrev pub SignatureBelow : ℕ → Signature → Type 0
SignatureBelow n s = All (TyBelow n) s.params × IfSome s.rest (TyBelow n) × TyBelow n s.result × (s.arrow < n) × (s.lists < n) × (s.future < n)

abbrev pub MeaningBelow : ℕ → Meaning → Type 0
MeaningBelow n (TypeName t) = TyBelow n t
MeaningBelow n (Constant t) = TyBelow n t
MeaningBelow n (Variable number final t) = TyBelow n t
MeaningBelow n (Function s) = SignatureBelow n s

-- What holds of names over atoms: what a name stands for, in a descriptor and elsewhere, names only atoms that are
-- there, and the language's own types are what they are.
pub record AreNames (env : List AtomDef) (names : Names) : Type 0 where
  pub types : (scope : Scope) (name : QualifiedName) (t : Ty) → type_named names scope name ≡ Ok t → TyBelow (length env) t
  pub meanings : (m : ℕ) (name : Name) (e : Entry) → entry_in names name m ≡ Some e → MeaningBelow (length env) e.meaning
  pub own : AreOwnTypes env names.own
