-- Narrowing is sound: which values belong to what it gives (Ballerina's inherent types).
use Rattle.std.specs.Prelude.{◌≡◌, ℕ, List, IfSome, All, slice_get, ⊤}
use Rattle.type_model.specs.declared.atoms.AtomDef.{AtomDef}
use Rattle.type_model.specs.declared.atoms.AtomDef.TheVariants.{List as ListAtom, Mapping as MappingAtom, Arrow, Error as ErrorAtom, Future as FutureAtom}
use Rattle.type_model.specs.declared.basic.Ty.{Ty}
use Rattle.value_model.specs.declared.value.Value.{Value}
use Rattle.value_model.specs.Heap.{Heap}
use Rattle.value_model.specs.Stands.{OwnTypes, Belongs}

-- ---- what values are made with

-- the atom of a structure is one of lists or of mappings
abbrev pub IsOfStructures : AtomDef → Type 0
IsOfStructures (ListAtom fixed rest) = ⊤
IsOfStructures (MappingAtom fields rest) = ⊤
IsOfStructures (Arrow args outcome alone) = ⊥
IsOfStructures (ErrorAtom detail) = ⊥
IsOfStructures (FutureAtom outcome) = ⊥

abbrev pub IsOfFunctions : AtomDef → Type 0
IsOfFunctions (ListAtom fixed rest) = ⊥
IsOfFunctions (MappingAtom fields rest) = ⊥
IsOfFunctions (Arrow args outcome alone) = ⊤
IsOfFunctions (ErrorAtom detail) = ⊥
IsOfFunctions (FutureAtom outcome) = ⊥

abbrev pub IsOfFutures : AtomDef → Type 0
IsOfFutures (ListAtom fixed rest) = ⊥
IsOfFutures (MappingAtom fields rest) = ⊥
IsOfFutures (Arrow args outcome alone) = ⊥
IsOfFutures (ErrorAtom detail) = ⊥
IsOfFutures (FutureAtom outcome) = ⊤

abbrev pub AtomIs : List AtomDef → (AtomDef → Type 0) → ℕ → Type 0
AtomIs atoms P atom = IfSome (slice_get atoms atom) P

-- each structure has an atom of structures, and each unit an arrow and a future
pub record AreMade (own : OwnTypes) (h : Heap) : Type 0 where
  pub structures : All (λ s. IfSome s.atom (AtomIs own.atoms IsOfStructures)) h.structures
  pub functions : All (λ u. AtomIs own.atoms IsOfFunctions u.0) own.units
  pub futures : All (λ u. AtomIs own.atoms IsOfFutures u.1) own.units

-- ---- which values belong

-- each value over these atoms of which P holds belongs to u
abbrev pub EachBelongs : List AtomDef → (OwnTypes → Heap → Value → Type 0) → Ty → Type 0
EachBelongs env P u = (own : OwnTypes) (h : Heap) (v : Value) → own.atoms ≡ env → P own h v → Belongs own h v u.sem

-- a value that belongs to s and to t
abbrev pub Passes : Ty → Ty → OwnTypes → Heap → Value → Type 0
Passes s t own h v = Belongs own h v s.sem × Belongs own h v t.sem

-- a value that belongs to s and not to t
abbrev pub Fails : Ty → Ty → OwnTypes → Heap → Value → Type 0
Fails s t own h v = AreMade own h × Belongs own h v s.sem × (¬ Belongs own h v t.sem)
