-- Types whose unions are flat and have each member once.
use Rattle.std.specs.Prelude.{◌≡◌, ◌⊎◌, ◌↔◌, Bool, true, false, List, [], ◌∷◌, ◌++◌, map, Option, None, Some, ⊤, if◌then◌else◌}
use Rattle.type_model.specs.declared.basic.BasicSet.{BasicSet}
use Rattle.type_model.specs.declared.basic.BasicSet.TheVariants.{Nil, Bool as BoolOne, IntRange, StringOne, StringAll, ListAll, MappingAll, ErrorAll, FunctionAll, FutureAll, Readonly, Never}
use Rattle.type_model.specs.declared.basic.SemType.{SemType, Basic, Atom, Or', And', Not'}
use Rattle.type_model.specs.declared.basic.Ty.{Ty}
use Rattle.type_model.specs.SameType.{IsSameType}
use Rattle.type_builder.specs.declared.flat.Found.{Found}
use Rattle.type_builder.specs.declared.flat.MemberKey.{MemberKey}
use Rattle.type_builder.specs.declared.flat.MemberKey.TheVariants.{Atom as AtomKey, Nil as NilKey, Bool as BoolKey, Ints, Text as TextKey, Strings, Lists, Mappings, Errors, Functions, Futures, Readonly as ReadonlyKey, Never as NeverKey}

abbrev pub is_never : BasicSet → Bool
is_never Nil = false
is_never (BoolOne b) = false
is_never (IntRange low high) = false
is_never (StringOne text) = false
is_never StringAll = false
is_never ListAll = false
is_never MappingAll = false
is_never ErrorAll = false
is_never FunctionAll = false
is_never FutureAll = false
is_never Readonly = false
is_never Never = true

-- the members of a union in the order in which they are written, `never` left out; of another type, the type itself
abbrev pub members_of : SemType → List SemType
members_of (Basic b) = if is_never b then [] else Basic b ∷ []
members_of (Atom n) = Atom n ∷ []
members_of (Or' _ s _ t) = members_of s ++ members_of t
members_of (And' a s b t) = And' a s b t ∷ []
members_of (Not' a t) = Not' a t ∷ []

-- two members are one: the same set, or the same atom
abbrev pub IsSameMember : SemType → SemType → Type 0
IsSameMember (Basic b) (Basic c) = b ≡ c
IsSameMember (Basic b) _ = ⊥
IsSameMember (Atom m) (Atom n) = m ≡ n
IsSameMember (Atom m) _ = ⊥
IsSameMember (Or' _ s _ t) _ = ⊥
IsSameMember (And' _ s _ t) _ = ⊥
IsSameMember (Not' _ t) _ = ⊥

abbrev pub IsAmong : List SemType → SemType → Type 0
IsAmong [] t = ⊥
IsAmong (m ∷ ms) t = IsSameMember m t ⊎ IsAmong ms t

-- a member behind the others, unless it is one of them
abbrev pub AddsMember : List SemType → SemType → List SemType → Type 0
AddsMember old t new = (IsAmong old t × (new ≡ old)) ⊎ ((IsAmong old t → ⊥) × (new ≡ old ++ t ∷ []))

-- several, one after another
abbrev pub AddsMembers : List SemType → List SemType → List SemType → Type 0
AddsMembers old [] new = new ≡ old
AddsMembers old (t ∷ ts) new = (mid : List SemType) × AddsMember old t mid × AddsMembers mid ts new

-- types that are the same, one by one
abbrev pub AreSameTypes : List SemType → List SemType → Type 0
AreSameTypes [] [] = ⊤
AreSameTypes [] (u ∷ us) = ⊥
AreSameTypes (t ∷ ts) [] = ⊥
AreSameTypes (t ∷ ts) (u ∷ us) = IsSameType t u × AreSameTypes ts us

-- the union of the members of t, each once
pub record IsFlat (t u : SemType) : Type 0 where
  pub once : List SemType
  pub are : AddsMembers [] (members_of t) once
  pub same : AreSameTypes once (members_of u)

-- the same of a type with its choices
pub record IsFlatType (t u : Ty) : Type 0 where
  pub sem : IsFlat t.sem u.sem
  pub lists : u.lists ≡ t.lists
  pub maps : u.maps ≡ t.maps

abbrev pub IsFlatIf : Option Ty → Option Ty → Type 0
IsFlatIf None None = ⊤
IsFlatIf None (Some u) = ⊥
IsFlatIf (Some t) None = ⊥
IsFlatIf (Some t) (Some u) = IsFlatType t u

-- ---- how members are told apart

abbrev pub set_key : BasicSet → MemberKey
set_key Nil = NilKey
set_key (BoolOne b) = BoolKey b
set_key (IntRange low high) = Ints low high
set_key (StringOne text) = TextKey text
set_key StringAll = Strings
set_key ListAll = Lists
set_key MappingAll = Mappings
set_key ErrorAll = Errors
set_key FunctionAll = Functions
set_key FutureAll = Futures
set_key Readonly = ReadonlyKey
set_key Never = NeverKey

abbrev pub key_of : SemType → Option MemberKey
key_of (Atom n) = Some (AtomKey n)
key_of (Basic b) = Some (set_key b)
key_of (Or' _ s _ t) = None
key_of (And' _ s _ t) = None
key_of (Not' _ t) = None

abbrev pub HasKey : List MemberKey → MemberKey → Type 0
HasKey [] k = ⊥
HasKey (j ∷ ks) k = (j ≡ k) ⊎ HasKey ks k

-- a key is there exactly where a member with this key is
abbrev pub AreKeysOf : List SemType → List MemberKey → Type 0
AreKeysOf ms ks = (t : SemType) (k : MemberKey) → key_of t ≡ Some k → HasKey ks k ↔ IsAmong ms t

-- ---- steps

abbrev pub found_in : Found → List SemType
found_in f = map (λ m. m.now) f.members.items

-- these are found behind those that were, each once
pub record Gathers (ts : List SemType) (old new : Found) : Type 0 where
  pub keys : AreKeysOf (found_in old) old.keys.keys → AreKeysOf (found_in new) new.keys.keys
  pub adds : AreKeysOf (found_in old) old.keys.keys → AddsMembers (found_in old) ts (found_in new)
