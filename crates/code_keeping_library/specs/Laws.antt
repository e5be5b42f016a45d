-- What steps of well-typed code keep that call the library, as laws.
use Rattle.std.specs.Prelude.{ℕ, List, Option}
use Rattle.operations.specs.declared.library.LibraryCall.{LibraryCall}
use Rattle.operations.specs.declared.library.LibraryCall.TheVariants.{Abs, Cause, Detail, FromString, Get, HasKey, Keys, ListLength, MappingLength, Message, Print, Println, Readln, Reverse, Slice, StartsWith, StringLength, Substring, ToCodePointInts, ToLowerAscii, ToString, ToUpperAscii, Trim}
use Rattle.operations.specs.declared.operation.Operation.TheVariants as op
use Rattle.value_model.specs.declared.filler.Filler.{Filler}
use Rattle.op_model.specs.Library.{LibraryAnswers}
use Rattle.code_keeping.specs.Laws.{IsDone}

-- the call is done, where the library answers as its table says
abbrev pub CallIsDone : LibraryCall → Type 0
CallIsDone call = (fillers : ℕ → List Filler) (atom : Option ℕ) (count : ℕ) → IsDone fillers LibraryAnswers (op.Library call atom count)

-- what is written is no value's
abbrev pub OutputIsDone : Type 0
OutputIsDone = CallIsDone Println × CallIsDone Print

-- how many members a structure has, and whether a key is there
abbrev pub MeasuresAreDone : Type 0
MeasuresAreDone = CallIsDone ListLength × CallIsDone MappingLength × CallIsDone HasKey

-- of ints, strings and errors
abbrev pub TextCallsAreDone : Type 0
TextCallsAreDone = CallIsDone Abs × CallIsDone StartsWith × CallIsDone Message × CallIsDone Cause × CallIsDone StringLength

-- strings are made of a string
abbrev pub TextsAreMade : Type 0
TextsAreMade = CallIsDone Trim × CallIsDone ToUpperAscii × CallIsDone ToLowerAscii × CallIsDone Substring

-- a line is read, also behind a prompt
abbrev pub InputIsDone : Type 0
InputIsDone = CallIsDone Readln

-- lists are made: of the keys of a mapping, and of the characters of a string
abbrev pub ListsAreMade : Type 0
ListsAreMade = CallIsDone Keys × CallIsDone ToCodePointInts

-- what stands in a structure is given: a value of a mapping, and lists of items of a list
abbrev pub MembersAreGiven : Type 0
MembersAreGiven = CallIsDone Get × CallIsDone Slice × CallIsDone Reverse

-- the detail of an error, and the int that a string writes or an error
abbrev pub ErrorsAreGiven : Type 0
ErrorsAreGiven = CallIsDone Detail × CallIsDone FromString

-- the text of any value
abbrev pub ValuesArePrinted : Type 0
ValuesArePrinted = CallIsDone ToString
