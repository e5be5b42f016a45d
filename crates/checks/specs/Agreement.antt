-- Two runs of one check come to the same, but for a limit that either may meet, and for what a fault shows.
use Rattle.std.specs.Prelude.{◌≡◌, ◌⊎◌, ◌↔◌, List, length, Option}
use Rattle.bal_base.specs.declared.fault.Fault.{Fault}
use Rattle.bal_base.specs.declared.fault.FaultCode.TheVariants.{TypeLimit as TooLarge, AtomLimit as TooManyAtoms}
use Rattle.bal_base.specs.declared.place.Place.{Place}
use Rattle.bal_base.specs.declared.shape.Shape.{Shape}
use Rattle.bal_base.specs.Valid.{IsValid}
use Rattle.type_model.specs.declared.answers.Keys.{Keys}
use Rattle.type_model.specs.declared.answers.TypeLimit.{TypeLimit}
use Rattle.type_model.specs.declared.atoms.AtomDef.{AtomDef}
use Rattle.type_model.specs.declared.basic.SemType.{SemType}
use Rattle.type_model.specs.Calls.{Asked}
use Rattle.type_model.specs.Defined.{IsClosed, IsDefined}
use Rattle.type_model.specs.Membership.{In}
use Rattle.checks.specs.Checks.{Check, Outcome, Gives, Refuses, ◌▷◌}
use Rattle.checks.specs.Questions.{adds, applied, below, has_some, is_below, member}

-- a question was too large, or there would be too many atoms: this may stand in the place of any outcome
abbrev pub IsLimit : Fault → Type 0
IsLimit f = (f.code ≡ TooLarge) ⊎ (f.code ≡ TooManyAtoms)

-- the same code at the same place; what is shown is free
pub record SameFault (f g : Fault) : Type 0 where
  pub code : f.code ≡ g.code
  pub at : f.at ≡ g.at

-- which answers correspond, each in its state
abbrev pub Corresponds : Type 0 → Type 0 → Type 0 → Type 1
Corresponds S A B = S → A → S → B → Type 0

-- two outcomes, each with the state behind it: both give what corresponds, or both refuse with one fault, or one met a limit
abbrev pub Agree : {S A B : Type 0} → Corresponds S A B → S → Outcome A → S → Outcome B → Type 0
Agree R m (Gives a) n (Gives b) = R m a n b
Agree R m (Refuses f) n (Refuses g) = IsLimit f ⊎ (IsLimit g ⊎ SameFault f g)
Agree R m (Gives a) n (Refuses g) = IsLimit g
Agree R m (Refuses f) n (Gives b) = IsLimit f

-- from these two states whatever the two checks come to agrees
abbrev pub Alike : {S A B : Type 0} → Corresponds S A B → S → S → Check S A → Check S B → Type 0
Alike {S} {A} {B} R m n c d = (o : Outcome A) (p : Outcome B) (m2 n2 : S) → c m o m2 → d n p n2 → Agree R m2 o n2 p

-- Of two checks and what stands behind each: where the first two are alike, and what stands behind corresponding answers is alike
-- too, the whole is. R: which answers of the first two correspond; Q: which of the last.
abbrev pub ChainsAgree : {S A B C D : Type 0} → Corresponds S A B → Corresponds S C D
    → Check S A → Check S B → (A → Check S C) → (B → Check S D) → Type 0
ChainsAgree {S} {A} {B} R Q c d next next2 = (m n : S)
    → Alike R m n c d
    → ((a : A) (b : B) (mid mid2 : S) → R mid a mid2 b → Alike Q mid mid2 (next a) (next2 b))
    → Alike Q m n (c ▷ next) (d ▷ next2)

-- two types, each over its atoms, with the same shapes
abbrev pub AreTwins : List AtomDef → SemType → List AtomDef → SemType → Type 0
AreTwins m s n t = (x : Shape) → IsValid x → In m x s ↔ In n x t

-- each run leaves its atoms as they were, and what the two give is related so
abbrev pub BothKeep : {A B : Type 0} → List AtomDef → List AtomDef → (A → B → Type 0) → Corresponds (List AtomDef) A B
BothKeep m n R m2 a n2 b = R a b × (m2 ≡ m) × (n2 ≡ n)

-- Questions about types with the same shapes get one answer.
module _ (passes : List AtomDef → Asked → TypeLimit → Type 0) where
  abbrev pub BelowAgrees : Type 0
  BelowAgrees = (m n : List AtomDef) (s t s2 t2 : SemType) (at : Option Place) → AreTwins m s n s2 → AreTwins m t n t2
      → Alike (BothKeep m n (λ a b. a ≡ b)) m n (below passes s t at) (below passes s2 t2 at)

  abbrev pub IsBelowAgrees : Type 0
  IsBelowAgrees = (m n : List AtomDef) (s t s2 t2 : SemType) (at : Option Place) → AreTwins m s n s2 → AreTwins m t n t2
      → Alike (BothKeep m n (λ a b. a ≡ b)) m n (is_below passes s t at) (is_below passes s2 t2 at)

  abbrev pub HasSomeAgrees : Type 0
  HasSomeAgrees = (m n : List AtomDef) (t t2 : SemType) (at : Option Place) → AreTwins m t n t2
      → Alike (BothKeep m n (λ a b. a ≡ b)) m n (has_some passes t at) (has_some passes t2 at)

  abbrev pub MemberAgrees : Type 0
  MemberAgrees = (m n : List AtomDef) (t t2 : SemType) (keys : Keys) (at : Option Place) → AreTwins m t n t2
      → Alike (BothKeep m n (λ a b. AreTwins m a n b)) m n (member passes t keys at) (member passes t2 keys at)

  abbrev pub AppliedAgrees : Type 0
  AppliedAgrees = (m n : List AtomDef) (f args f2 args2 : SemType) (at : Option Place) → AreTwins m f n f2 → AreTwins m args n args2
      → Alike (BothKeep m n (λ a b. AreTwins m a n b)) m n (applied passes f args at) (applied passes f2 args2 at)

-- Groups of one length get one first number, and the types that were there stay twins.
abbrev pub AddsAgree : Type 0
AddsAgree = (m n : List AtomDef) (P Q : List AtomDef) (at : Option Place) → length m ≡ length n → length P ≡ length Q → IsClosed m → IsClosed n
    → Alike (λ m2 a n2 b. (a ≡ b) × (length m2 ≡ length n2)
    × ((s t : SemType) → IsDefined m s → IsDefined n t → AreTwins m s n t → AreTwins m2 s n2 t))
    m n (adds (λ old defs. defs ≡ P) at) (adds (λ old defs. defs ≡ Q) at)
