-- What is known of the slots of a unit at a point of its body, and what follows from what (Ballerina specification, "Type narrowing").
use Rattle.std.specs.Prelude.{◌≡◌, ◌⊎◌, ◌==◌, ℕ, List, [], ◌∷◌, fold, Option, option_map, Some, None, slice_get, slice_set, if◌then◌else◌, ⊤}
use Rattle.std.specs.List.{AllZip}
use Rattle.type_model.specs.declared.atoms.AtomDef.{AtomDef}
use Rattle.type_model.specs.declared.basic.SemType.{SemType}
use Rattle.type_model.specs.Inclusion.{IsEmpty, Sub}

-- by slot: nothing, or that it holds a value of this type
abbrev pub Known : Type 0
Known = List (Option SemType)

-- none: the point isn't reached
abbrev pub Flow : Type 0
Flow = Option Known

pub record Point : Type 0 where
  pub flow : Flow
  -- and what is known where the last operand is true, and where it is false
  pub on_true : Flow
  pub on_false : Flow
  -- the last operand is what this slot holds
  pub of : Option ℕ
  -- the first slot holds what the second one does
  pub twin : Option (ℕ × ℕ)
  -- what is known wherever a panic lands, where a trap is open
  pub base : Option Flow

-- ---- points

-- nothing is known of the last operand
abbrev pub plain : Flow → Option Flow → Point
plain flow base = record { flow = flow; on_true = flow; on_false = flow; of = None; twin = None; base = base }

-- the last operand is what the slot holds
abbrev pub loaded : ℕ → Point → Point
loaded slot p = record { flow = p.flow; on_true = p.flow; on_false = p.flow; of = Some slot; twin = p.twin; base = p.base }

-- the last operand says something of slots
abbrev pub told : (on_true on_false : Flow) → Point → Point
told on_true on_false p = record { flow = p.flow; on_true = on_true; on_false = on_false; of = None; twin = p.twin; base = p.base }

-- the last operand is taken; what it said is known
abbrev pub way : Flow → Point → Point
way flow p = record { flow = flow; on_true = flow; on_false = flow; of = None; twin = p.twin; base = p.base }

-- ---- changes

abbrev pub set_in : ℕ → SemType → Flow → Flow
set_in slot t f = option_map (λ ks. slice_set ks slot (Some t)) f

-- the last operand, which is of the type, is put into the slot; where it is what another slot holds, both hold the same then
abbrev pub stored : ℕ → SemType → Point → Point
stored slot t p = record (plain (set_in slot t p.flow) p.base) { twin = option_map (λ other. (slot, other)) p.of }

-- the slot, and the one that holds the same
abbrev pub with_twin : ℕ → Option (ℕ × ℕ) → List ℕ
with_twin slot None = slot ∷ []
with_twin slot (Some (one, other)) = if one == slot then slot ∷ other ∷ [] else slot ∷ []

abbrev pub narrowed : List ℕ → SemType → Known → Known
narrowed slots t ks = fold (λ js slot. slice_set js slot (Some t)) ks slots

-- ---- what follows from what

module _ (env : List AtomDef) where
  abbrev pub SlotBelow : Option SemType → Option SemType → Type 0
  SlotBelow (Some s) (Some t) = Sub env s t
  SlotBelow (Some s) None = ⊤
  SlotBelow None (Some t) = ⊥
  SlotBelow None None = ⊤

  abbrev pub KnownBelow : Known → Known → Type 0
  KnownBelow ks js = AllZip SlotBelow ks js

  abbrev pub HoldsNone : Option SemType → Type 0
  HoldsNone None = ⊥
  HoldsNone (Some t) = IsEmpty env t

  -- some slot would hold a value of a type that has none
  abbrev pub IsImpossible : Known → Type 0
  IsImpossible [] = ⊥
  IsImpossible (k ∷ ks) = HoldsNone k ⊎ IsImpossible ks

  abbrev pub KnownWithin : Known → Flow → Type 0
  KnownWithin ks None = ⊥
  KnownWithin ks (Some js) = KnownBelow ks js

  -- where the first is known, so is the second
  abbrev pub FlowBelow : Flow → Flow → Type 0
  FlowBelow None f = ⊤
  FlowBelow (Some ks) f = IsImpossible ks ⊎ KnownWithin ks f

  abbrev pub BaseBelow : Flow → Option Flow → Type 0
  BaseBelow f None = ⊤
  BaseBelow f (Some g) = FlowBelow f g

  pub record Below (p q : Point) : Type 0 where
    pub flow : FlowBelow p.flow q.flow
    pub on_true : FlowBelow p.on_true q.on_true
    pub on_false : FlowBelow p.on_false q.on_false
    pub of : (q.of ≡ None) ⊎ (q.of ≡ p.of)
    pub twin : (q.twin ≡ None) ⊎ (q.twin ≡ p.twin)
    pub base : q.base ≡ p.base

-- ---- what is known of a slot

-- nothing
abbrev pub IsFreeIn : ℕ → Flow → Type 0
IsFreeIn slot None = ⊤
IsFreeIn slot (Some ks) = slice_get ks slot ≡ Some None

abbrev pub IsFree : ℕ → Option Flow → Type 0
IsFree slot None = ⊤
IsFree slot (Some f) = IsFreeIn slot f

-- it holds a value of a type of which this holds
abbrev pub Has : (SemType → Type 0) → ℕ → Known → Type 0
Has P slot ks = (s : SemType) × (slice_get ks slot ≡ Some (Some s)) × P s

abbrev pub HasSome : List AtomDef → (SemType → Type 0) → ℕ → Flow → Type 0
HasSome env P slot None = ⊤
HasSome env P slot (Some ks) = IsImpossible env ks ⊎ Has P slot ks
