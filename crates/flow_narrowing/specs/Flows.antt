-- What is known of variables at a place, and what is known where two ways meet.
use Rattle.std.specs.Prelude.{◌≡◌, ◌||◌, ◌<◌, ℕ, Bool, true, false, List, Option, Some, None, ⊤, All, length, slice_get, IsSomeAnd}
use Rattle.type_model.specs.declared.atoms.AtomDef.{AtomDef}
use Rattle.type_model.specs.declared.basic.Ty.{Ty}
use Rattle.type_model.specs.Defined.{TyBelow}
use Rattle.typed_tree.specs.SharedTypes.{Shared}
use Rattle.descriptors.specs.Described.{IsUnion}
use Rattle.flow_narrowing.specs.declared.flow.Flow.{Flow}
use Rattle.flow_narrowing.specs.declared.flow.Joins.{Joins}
use Rattle.flow_narrowing.specs.declared.flow.Joins.TheVariants.{First, Second, Both}
use Rattle.flow_narrowing.specs.declared.flow.Variable.{Variable}

-- the type that a variable has at the place: the narrowed one, or else the declared one
abbrev pub or_declared : Option Shared → Shared → Ty
or_declared (Some t) declared = t.value
or_declared None declared = declared.value

abbrev pub now : Variable → Ty
now v = or_declared v.narrowed v.declared

-- ---- types that are there

abbrev pub IfShared : (Ty → Type 0) → Option Shared → Type 0
IfShared P None = ⊤
IfShared P (Some t) = P t.value

-- the types of the variable name atoms that are there
pub record VariableBelow (n : ℕ) (v : Variable) : Type 0 where
  pub declared : TyBelow n v.declared.value
  pub narrowed : IfShared (TyBelow n) v.narrowed

abbrev pub VariablesBelow : ℕ → List Variable → Type 0
VariablesBelow n vs = All (VariableBelow n) vs

-- ---- where two ways meet

-- which of the two are joined: those that go on, or both where neither does
abbrev pub joins : Bool → Bool → Joins
joins true true = Both
joins true false = First
joins false true = Second
joins false false = Both

-- the same type, or none both times
abbrev pub AreSame : Option Shared → Option Shared → Type 0
AreSame None None = ⊤
AreSame (Some s) (Some t) = t.value ≡ s.value
AreSame None (Some t) = ⊥
AreSame (Some s) None = ⊥

-- a variable of the types s and t in the two ways, narrowed or not: the declared type in both ways stays; else it has the union, with the
-- choices of the first and then those of the second, each atom once
abbrev pub UnionOf : List AtomDef → Ty → Ty → Option Shared → Option Shared → Option Shared → Type 0
UnionOf env s t None None u = u ≡ None
UnionOf env s t (Some first) second u = IsSomeAnd u (λ x. IsUnion s t env x.value)
UnionOf env s t None (Some second) u = IsSomeAnd u (λ x. IsUnion s t env x.value)

abbrev pub NarrowedTo : List AtomDef → Joins → Variable → Variable → Option Shared → Type 0
NarrowedTo env First v w u = AreSame v.narrowed u
NarrowedTo env Second v w u = AreSame w.narrowed u
NarrowedTo env Both v w u = UnionOf env (now v) (now w) v.narrowed w.narrowed u

-- the same variable, whatever its narrowed type
pub record IsSameVariable (v u : Variable) : Type 0 where
  pub name : u.name ≡ v.name
  pub slot : u.slot ≡ v.slot
  pub declared : u.declared.value ≡ v.declared.value
  pub fixed : u.fixed ≡ v.fixed
  pub assigned : u.assigned ≡ v.assigned
  pub captured : u.captured ≡ v.captured

-- what is known of one variable, of which v and w are known in the two ways
pub record IsJoined (env : List AtomDef) (which : Joins) (v w u : Variable) : Type 0 where
  pub same : IsSameVariable v u
  pub narrowed : NarrowedTo env which v w u.narrowed

-- so many variables are joined, one by one
pub record AreJoined (env : List AtomDef) (which : Joins) (count : ℕ) (vs ws us : List Variable) : Type 0 where
  pub length : length us ≡ count
  pub each : (i : ℕ) (v w : Variable) → i < count → slice_get vs i ≡ Some v → slice_get ws i ≡ Some w → IsSomeAnd (slice_get us i) (IsJoined env which v w)

-- what is known where two ways of the same variables meet: ways of more or of fewer variables meet nowhere
pub record IsJoin (env : List AtomDef) (f g h : Flow) : Type 0 where
  pub as_many : length g.variables ≡ length f.variables
  pub variables : AreJoined env (joins f.reached g.reached) (length f.variables) f.variables g.variables h.variables
  pub reached : h.reached ≡ (f.reached || g.reached)
