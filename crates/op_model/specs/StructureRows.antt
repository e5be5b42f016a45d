-- Operations that make, read and change structures, errors and functions.
use Rattle.std.specs.Prelude.{◌≡◌, ◌++◌, ℤ, ℕ, List, [], ◌∷◌, Bool, Option, Some, None, IsSomeAnd, length, not, option_and_then, option_map, slice_get}
use Rattle.bal_base.specs.declared.text.Text.{Text}
use Rattle.value_model.specs.declared.value.Value.{Value}
use Rattle.value_model.specs.declared.value.Value.TheVariants.{Nil, Bool as Truth, Int, Str, Struct, Error, Function, Future}
use Rattle.value_model.specs.declared.filler.Filler.{Filler}
use Rattle.value_model.specs.declared.panics.PanicName.TheVariants.{IndexOutOfRange}
use Rattle.value_model.specs.Heap.{Items, Entries, entry_at}
use Rattle.value_model.specs.Stands.{OwnTypes}
use Rattle.value_model.specs.World.{World, Came}
use Rattle.op_model.specs.Operands.{pairs_of, cause_of}
use Rattle.op_model.specs.Rows.{ListAt, MappingAt, found, gives, gives_structure, makes_error, new_structure, next_error, place_of, with_heap, within}
use Rattle.op_model.specs.Stores.{StoresAt, StoresKey, entries_from}

-- ---- constructors

-- "List constructor"
abbrev pub makes_list : World → ℕ → Bool → List Value → Came
makes_list w atom immutable vs = gives_structure w (new_structure (Some atom) (not immutable) (Items vs))

-- "Mapping constructor"; of a key that comes again the last value stands
abbrev pub MakesMapping : World → ℕ → Bool → List Value → Came → Type 0
MakesMapping w atom immutable vs came =
    IsSomeAnd (pairs_of vs) (λ ps. came ≡ gives_structure w (new_structure (Some atom) (not immutable) (Entries (entries_from [] ps))))

-- "Error constructor"
abbrev pub MakesError : World → Text → Value → List Value → Came → Type 0
MakesError w message cause vs came =
    IsSomeAnd (cause_of cause) (λ e. IsSomeAnd (pairs_of vs) (λ ps. came ≡ within (gives (makes_error w message e (entries_from [] ps)) (Error (next_error w)))))

-- "Anonymous function expression"
abbrev pub makes_function : World → ℕ → List Value → Came
makes_function w unit captured =
    within (gives (with_heap w (record { structures = w.heap.structures; errors = w.heap.errors; functions = w.heap.functions ++ record { unit = unit; captured = captured } ∷ [] })) (Function (length w.heap.functions)))

-- ---- reads ("Member access expression", "Field access expression")

abbrev pub at_place : {A : Type 0} → List A → ℤ → Option A
at_place xs i = option_and_then (λ k. slice_get xs k) (place_of i)

abbrev pub or_nil : Option Value → Value
or_nil (Some v) = v
or_nil None = Nil

abbrev pub ReadsItem : World → ℕ → ℤ → Came → Type 0
ReadsItem w n i came = ListAt w n (λ s vs. came ≡ found w IndexOutOfRange (at_place vs i))

-- nil where the key isn't there
abbrev pub ReadsKey : World → ℕ → Text → Came → Type 0
ReadsKey w n key came = MappingAt w n (λ s es. came ≡ gives w (or_nil (entry_at es key)))

-- one character
abbrev pub reads_char : World → Text → ℤ → Came
reads_char w t i = found w IndexOutOfRange (option_map (λ c. Str (c ∷ [])) (at_place t i))

-- a member that is there
abbrev pub ReadsField : World → ℕ → Text → Came → Type 0
ReadsField w n key came = MappingAt w n (λ s es. IsSomeAnd (entry_at es key) (λ v. came ≡ gives w v))

-- of nil nil is read ("Optional field access expression")
abbrev pub ReadsOptional : World → Value → Text → Came → Type 0
ReadsOptional w Nil key came = came ≡ gives w Nil
ReadsOptional w (Struct n) key came = ReadsKey w n key came
ReadsOptional w _ key came = ⊥

-- ---- stores ("Assignment statement")

abbrev pub SetsItem : OwnTypes → (ℕ → List Filler) → World → ℕ → ℤ → Value → Came → Type 0
SetsItem own fillers w n i v came = ListAt w n (λ s vs. StoresAt own fillers w n s vs (place_of i) v came)

abbrev pub SetsKey : OwnTypes → (ℕ → List Filler) → World → ℕ → Text → Value → Came → Type 0
SetsKey own fillers w n key v came = MappingAt w n (λ s es. StoresKey own fillers w n s es key v came)
