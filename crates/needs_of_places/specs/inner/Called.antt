-- Calls of the library, group by group, each with those of the groups before it.
use Rattle.std.specs.Prelude.{Option, Some, None}
use Rattle.operations.specs.declared.library.LibraryCall.{LibraryCall}
use Rattle.operations.specs.declared.library.LibraryCall.TheVariants as call

-- of input and output, of values and of strings
abbrev pub text_call : LibraryCall → Option LibraryCall
text_call call.Println = Some call.Println
text_call call.Print = Some call.Print
text_call call.Readln = Some call.Readln
text_call call.FromString = Some call.FromString
text_call call.Abs = Some call.Abs
text_call call.ToString = Some call.ToString
text_call call.Clone = Some call.Clone
text_call call.CloneReadOnly = Some call.CloneReadOnly
text_call call.StringLength = Some call.StringLength
text_call call.StartsWith = Some call.StartsWith
text_call call.Trim = Some call.Trim
text_call call.Substring = Some call.Substring
text_call call.ToUpperAscii = Some call.ToUpperAscii
text_call call.ToLowerAscii = Some call.ToLowerAscii
text_call _ = None

-- of lists, of mappings and of errors
abbrev pub member_call : LibraryCall → Option LibraryCall
member_call call.ListLength = Some call.ListLength
member_call call.Push = Some call.Push
member_call call.Pop = Some call.Pop
member_call call.RemoveItem = Some call.RemoveItem
member_call call.MappingLength = Some call.MappingLength
member_call call.HasKey = Some call.HasKey
member_call call.Get = Some call.Get
member_call call.RemoveKey = Some call.RemoveKey
member_call call.Message = Some call.Message
member_call call.Cause = Some call.Cause
member_call call.Detail = Some call.Detail
member_call k = text_call k

-- those that make a list
abbrev pub list_call : LibraryCall → Option LibraryCall
list_call call.ToCodePointInts = Some call.ToCodePointInts
list_call call.Slice = Some call.Slice
list_call call.Reverse = Some call.Reverse
list_call call.Keys = Some call.Keys
list_call _ = None
