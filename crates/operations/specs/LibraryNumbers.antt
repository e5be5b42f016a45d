-- The calls of the library by number: in the order in which the language document names them.
use Rattle.std.specs.Prelude.{ℕ}
use Rattle.operations.specs.declared.library.LibraryCall.{LibraryCall}
use Rattle.operations.specs.declared.library.LibraryCall.TheVariants.{Println, Print, Readln, FromString, Abs, ToString, Clone, CloneReadOnly, StringLength, StartsWith, Trim, Substring, ToUpperAscii, ToLowerAscii, ToCodePointInts, ListLength, Push, Pop, RemoveItem, Slice, Reverse, MappingLength, Keys, HasKey, Get, RemoveKey, Message, Cause, Detail}

abbrev pub number_of : LibraryCall → ℕ
number_of Println = 0
number_of Print = 1
number_of Readln = 2
number_of FromString = 3
number_of Abs = 4
number_of ToString = 5
number_of Clone = 6
number_of CloneReadOnly = 7
number_of StringLength = 8
number_of StartsWith = 9
number_of Trim = 10
number_of Substring = 11
number_of ToUpperAscii = 12
number_of ToLowerAscii = 13
number_of ToCodePointInts = 14
number_of ListLength = 15
number_of Push = 16
number_of Pop = 17
number_of RemoveItem = 18
number_of Slice = 19
number_of Reverse = 20
number_of MappingLength = 21
number_of Keys = 22
number_of HasKey = 23
number_of Get = 24
number_of RemoveKey = 25
number_of Message = 26
number_of Cause = 27
number_of Detail = 28
