-- What calls of the library give, as data.
use Rattle.std.specs.Prelude.{◌⊎◌, ℕ, Bool, true, false, List, Option, None}
use Rattle.bal_base.specs.declared.place.Place.{Place}
use Rattle.checks.specs.Checks.{◌▷◌}
use Rattle.descriptors.specs.Described.{IsPlain}
use Rattle.expr_needs.specs.declared.kind.Kind.TheVariants as kind
use Rattle.operations.specs.declared.library.LibraryCall.{LibraryCall}
use Rattle.operations.specs.declared.library.LibraryCall.TheVariants.{Println, Print, Readln, FromString, Abs, ToString, Clone, CloneReadOnly, StringLength, StartsWith, Trim, Substring, ToUpperAscii, ToLowerAscii, ToCodePointInts, ListLength, Push, Pop, RemoveItem, Slice, Reverse, MappingLength, Keys, HasKey, Get, RemoveKey, Message, Cause, Detail}
use Rattle.operations.specs.Kinds.{IsDetail, IsError, IsInteger}
use Rattle.type_model.specs.declared.answers.TypeLimit.{TypeLimit}
use Rattle.type_model.specs.declared.atoms.AtomDef.{AtomDef}
use Rattle.type_model.specs.Calls.{Asked}
use Rattle.typed_tree.specs.declared.form.StrictForm.TheVariants as form
use Rattle.typed_tree.specs.SharedTypes.{Shared}
use Rattle.check_words.specs.Calls.{IsType, clones_readonly, field_of, gives_by, lists_by, member_of, receiver_type}
use Rattle.check_words.specs.Words.{OfKind, Step, makes_typed}
use Rattle.check_calls.specs.declared.results.LibraryResult.{LibraryResult}
use Rattle.check_calls.specs.declared.results.LibraryResult.TheVariants as result

abbrev pub result_of : LibraryCall → LibraryResult
result_of Println = result.Of kind.Nothing
result_of Print = result.Of kind.Nothing
result_of Readln = result.Of kind.Text
result_of FromString = result.IntOrError
result_of Abs = result.Of kind.Integer
result_of ToString = result.Of kind.Text
result_of Clone = result.Receiver
result_of CloneReadOnly = result.Frozen
result_of StringLength = result.Of kind.Integer
result_of StartsWith = result.Of kind.Truth
result_of Trim = result.Of kind.Text
result_of Substring = result.Of kind.Text
result_of ToUpperAscii = result.Of kind.Text
result_of ToLowerAscii = result.Of kind.Text
result_of ToCodePointInts = result.ListOf kind.Integer
result_of ListLength = result.Of kind.Integer
result_of Push = result.Of kind.Nothing
result_of Pop = result.Item
result_of RemoveItem = result.Item
result_of Slice = result.ListOfItems
result_of Reverse = result.ListOfItems
result_of MappingLength = result.Of kind.Integer
result_of Keys = result.ListOf kind.Text
result_of HasKey = result.Of kind.Truth
result_of Get = result.Field
result_of RemoveKey = result.Field
result_of Message = result.Of kind.Text
result_of Cause = result.Of kind.ErrorOrNil
result_of Detail = result.Details

-- whether its arguments are stored into its receiver
abbrev pub is_push : LibraryCall → Bool
is_push Push = true
is_push call = false

-- how that is made, of so many parts
module _ (passes : List AtomDef → Asked → TypeLimit → Type 0) where
  abbrev pub made_by : LibraryResult → LibraryCall → Option Shared → ℕ → Place → Step
  made_by (result.Of k) call receiver n at = gives_by n call (OfKind k) at
  made_by result.IntOrError call receiver n at = gives_by n call (λ env. IsPlain (λ x. IsInteger x ⊎ IsError x) env) at
  made_by result.Details call receiver n at = gives_by n call (λ env. IsPlain IsDetail env) at
  made_by result.Receiver call receiver n at = receiver_type passes receiver ▷ λ t. makes_typed n (form.Library call None None) t at
  made_by result.Frozen call receiver n at = receiver_type passes receiver ▷ λ t. clones_readonly n t at
  made_by result.Item call receiver n at = member_of passes receiver (λ m. gives_by n call (IsType passes m) at) at
  made_by result.Field call receiver n at = field_of passes receiver (λ m. gives_by n call (IsType passes m) at) at
  made_by (result.ListOf k) call receiver n at = lists_by n call (OfKind k) at
  made_by result.ListOfItems call receiver n at = member_of passes receiver (λ m. lists_by n call (IsType passes m) at) at
