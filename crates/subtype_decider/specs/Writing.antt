-- Types that are written from diagrams.
use Rattle.std.specs.Prelude.{◌≡◌, ◌==◌, ℕ, List, Bool, false, not, ◌&&◌, ◌||◌, if◌then◌else◌}
use Rattle.type_model.specs.declared.basic.BasicSet.{BasicSet}
use Rattle.type_model.specs.declared.basic.BasicSet.TheVariants.{ListAll, MappingAll, ErrorAll, FunctionAll, FutureAll, Readonly, Never}
use Rattle.type_model.specs.declared.basic.SemType.{SemType}
use Rattle.type_model.specs.Defined.{NamesBelow}
use Rattle.type_diagrams.specs.declared.kind.Kind.{Kind}
use Rattle.type_diagrams.specs.declared.kind.Kind.TheVariants.{List as Lists, Mapping as Mappings, Error as Errors, Function as Functions, Future as Futures}
use Rattle.type_diagrams.specs.declared.node.Node.{Node}
use Rattle.type_diagrams.specs.Kinds.{the_mark}
use Rattle.type_diagrams.specs.Conditions.{truth, has_kind}
use Rattle.type_diagrams.specs.Tables.{IsBelow, DependBelow}
use Rattle.type_diagrams.specs.Decisions.{value_of}

-- the set of all shapes of a kind
abbrev pub all_of : Kind → BasicSet
all_of Lists = ListAll
all_of Mappings = MappingAll
all_of Errors = ErrorAll
all_of Functions = FunctionAll
all_of Futures = FutureAll

-- a set that has, of the shapes of a kind, those with the mark: only lists and mappings have it
abbrev pub marked_of : Kind → BasicSet
marked_of Lists = Readonly
marked_of Mappings = Readonly
marked_of Errors = Never
marked_of Functions = Never
marked_of Futures = Never

-- the assignment of the mark and of the atoms
abbrev pub assigns : Bool → (ℕ → Bool) → ℕ → Bool
assigns mark atom l = if l == the_mark then mark else atom l

-- the union of two types
pub record IsEither (s t made : SemType) : Type 0 where
  pub holds : (basic : BasicSet → Bool) (atom : ℕ → Bool) → basic Never ≡ false → truth basic atom made ≡ (truth basic atom s || truth basic atom t)
  pub names : (n : ℕ) → NamesBelow n s → NamesBelow n t → NamesBelow n made

-- the intersection of two types
pub record IsBoth (s t made : SemType) : Type 0 where
  pub holds : (basic : BasicSet → Bool) (atom : ℕ → Bool) → truth basic atom made ≡ (truth basic atom s && truth basic atom t)
  pub names : (n : ℕ) → NamesBelow n s → NamesBelow n t → NamesBelow n made

-- where no atom holds, the number comes to false
abbrev pub NeedsAtom : List Node → ℕ → Type 0
NeedsAtom nodes number = (mark : Bool) → value_of nodes number (assigns mark (λ a. false)) ≡ false

-- the number does not look at which of these atoms hold
abbrev pub PassesOver : List Node → (ℕ → Bool) → ℕ → Type 0
PassesOver nodes atom number = (mark : Bool) → value_of nodes number (assigns mark atom) ≡ value_of nodes number (assigns mark (λ a. false))

module _ (kind : Kind) where
  -- the type holds where the literal does, or where it doesn't
  pub record IsLiteralType (l : ℕ) (wanted : Bool) (t : SemType) : Type 0 where
    pub holds : (basic : BasicSet → Bool) (atom : ℕ → Bool) → truth basic atom t ≡ (if wanted then assigns (basic (marked_of kind)) atom l else not (assigns (basic (marked_of kind)) atom l))
    pub names : (n : ℕ) → IsBelow n l → NamesBelow n t

  module _ (nodes : List Node) where
    -- the type comes to what the number does
    pub record IsDecisionType (number : ℕ) (t : SemType) : Type 0 where
      pub holds : (basic : BasicSet → Bool) (atom : ℕ → Bool) → basic Never ≡ false → truth basic atom t ≡ value_of nodes number (assigns (basic (marked_of kind)) atom)
      pub names : (n : ℕ) → DependBelow n nodes → NamesBelow n t

    -- the type has those shapes of the kind for which the number comes to true, and no others
    pub record IsKindType (number : ℕ) (t : SemType) : Type 0 where
      pub holds : (mark : Bool) (atom : ℕ → Bool) → truth (has_kind kind mark) atom t ≡ value_of nodes number (assigns (has_kind kind mark (marked_of kind)) atom)
      pub elsewhere : (basic : BasicSet → Bool) (atom : ℕ → Bool) → basic Never ≡ false → basic (all_of kind) ≡ false → PassesOver nodes atom number → truth basic atom t ≡ false
      pub names : (n : ℕ) → DependBelow n nodes → NamesBelow n t

    -- the type has these shapes beside those of the other type
    pub record AddsKind (number : ℕ) (old new : SemType) : Type 0 where
      pub holds : (mark : Bool) (atom : ℕ → Bool) → truth (has_kind kind mark) atom new ≡ (truth (has_kind kind mark) atom old || value_of nodes number (assigns (has_kind kind mark (marked_of kind)) atom))
      pub elsewhere : (basic : BasicSet → Bool) (atom : ℕ → Bool) → basic Never ≡ false → basic (all_of kind) ≡ false → PassesOver nodes atom number → truth basic atom new ≡ truth basic atom old
      pub names : (n : ℕ) → DependBelow n nodes → NamesBelow n old → NamesBelow n new
