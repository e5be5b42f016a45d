-- Which questions about types a need leads to, and a limit that one of them passes.
use Rattle.std.specs.Prelude.{◌≡◌, ◌⊎◌, ℕ, ℤ, Bool, true, false, List}
use Rattle.bal_base.specs.declared.shape.Shape.{Shape, Int}
use Rattle.bal_base.specs.declared.text.Text.{Text}
use Rattle.type_model.specs.declared.answers.TypeLimit.{TypeLimit}
use Rattle.type_model.specs.declared.atoms.AtomDef.{AtomDef}
use Rattle.type_model.specs.declared.basic.BasicSet.TheVariants as set
use Rattle.type_model.specs.declared.basic.SemType.{SemType, Basic, Atom}
use Rattle.type_model.specs.Calls.{Alone, Asked, Without}
use Rattle.type_model.specs.Defined.{IsDefined}
use Rattle.type_model.specs.Inclusion.{HasExactly, IsShapeOf}
use Rattle.operations.specs.Rows.{StandsAtIndex, StandsAtKey}
use Rattle.code_verifier.specs.Keyed.{HasString}
use Rattle.code_verifier.specs.KindSets.{IsBoth, all_ints}

-- one of the questions that are led to passes the limit
abbrev pub SomePasses : (List AtomDef → Asked → TypeLimit → Type 0) → List AtomDef → (Asked → Type 0) → TypeLimit → Type 0
SomePasses passes env IsLedTo limit = (asked : Asked) × IsLedTo asked × passes env asked limit

-- whether the type is below such a type; and whether such a type is below it
abbrev pub AsksBelow : SemType → (SemType → Type 0) → Asked → Type 0
AsksBelow s IsWanted asked = (want : SemType) × IsWanted want × (asked ≡ Without s want)

abbrev pub AsksAbove : SemType → (SemType → Type 0) → Asked → Type 0
AsksAbove t IsWanted asked = (want : SemType) × IsWanted want × (asked ≡ Without want t)

-- structures of an atom, or immutable ones, as a type
abbrev pub IsMadeType : ℕ → Bool → SemType → Type 0
IsMadeType atom true t = IsBoth (λ s. s ≡ Atom atom) (λ s. s ≡ Basic set.Readonly) t
IsMadeType atom false t = t ≡ Atom atom

-- whether each of the two is below the type
abbrev pub AsksEach : SemType → SemType → SemType → Asked → Type 0
AsksEach a b t asked = (asked ≡ Without a t) ⊎ (asked ≡ Without b t)

-- whether both are ints, and whether both are strings
abbrev pub AsksOrder : SemType → SemType → Asked → Type 0
AsksOrder a b asked = AsksEach a b (Basic all_ints) asked ⊎ AsksEach a b (Basic set.StringAll) asked

module _ (env : List AtomDef) where
  -- a type over these atoms that has just these shapes
  abbrev pub IsTypeOf : (Shape → Type 0) → SemType → Type 0
  IsTypeOf P t = IsDefined env t × HasExactly env t P

  -- for a type of what stands in the whole, and then whether it is in the type, or has it
  abbrev pub AsksPart : SemType → (Shape → Type 0) → SemType → Asked → Type 0
  AsksPart whole P t asked = (asked ≡ Alone whole) ⊎ AsksAbove t (IsTypeOf P) asked

  abbrev pub AsksOfPart : SemType → (Shape → Type 0) → SemType → Asked → Type 0
  AsksOfPart whole P v asked = (asked ≡ Alone whole) ⊎ AsksBelow v (IsTypeOf P) asked

  -- for a key of this type, and whether it is the only one
  abbrev pub AsksKey : SemType → Asked → Type 0
  AsksKey k asked = (asked ≡ Alone k) ⊎ ((name : Text) × HasString env k name × (asked ≡ Without k (Basic (set.StringOne name))))

  -- for the keys of this type, and then for what stands there in the mappings of m
  abbrev pub AsksMember : SemType → SemType → SemType → Asked → Type 0
  AsksMember m k t asked = AsksKey k asked ⊎ AsksPart m (StandsAtKey env m k) t asked

  abbrev pub AsksOfMember : SemType → SemType → SemType → Asked → Type 0
  AsksOfMember m k v asked = AsksKey k asked ⊎ AsksOfPart m (StandsAtKey env m k) v asked

  -- for the indexes that an int of this type is, and then for what stands there in the lists of l
  abbrev pub AsksIndex : SemType → Asked → Type 0
  AsksIndex i asked = (asked ≡ Alone i) ⊎ ((n : ℤ) × IsShapeOf env i (Int n) × (asked ≡ Without i (Basic (set.IntRange n n))))

  abbrev pub AsksItem : SemType → SemType → SemType → Asked → Type 0
  AsksItem l i t asked = AsksIndex i asked ⊎ AsksPart l (StandsAtIndex env l i) t asked

  abbrev pub AsksOfItem : SemType → SemType → SemType → Asked → Type 0
  AsksOfItem l i v asked = AsksIndex i asked ⊎ AsksOfPart l (StandsAtIndex env l i) v asked
