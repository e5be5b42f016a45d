-- Each call of the library is done, so well-typed code is safe.
use Rattle.operations.specs.declared.library.LibraryCall.{LibraryCall}
use Rattle.operations.specs.declared.library.LibraryCall.TheVariants.{Println, Print, Readln, FromString, Abs, ToString, Clone, CloneReadOnly, StringLength, StartsWith, Trim, Substring, ToUpperAscii, ToLowerAscii, ToCodePointInts, ListLength, Push, Pop, RemoveItem, Slice, Reverse, MappingLength, Keys, HasKey, Get, RemoveKey, Message, Cause, Detail}
use Rattle.op_model.specs.Library.{LibraryAnswers}
use Rattle.code_keeping_all.specs.Laws.{LibraryCallsAreDone, WellTypedCodeBegins, WellTypedCodeIsSafe}
use Rattle.code_keeping_changes.proofs.Pushing.{pushes-are-done}
use Rattle.code_keeping_changes.proofs.Removing.{removals-are-done}
use Rattle.code_keeping_copies.proofs.Cloning.{clones-are-done}
use Rattle.code_keeping_copies.proofs.ReadOnly.{read-only-clones-are-done}
use Rattle.code_keeping_library.specs.Laws.{CallIsDone}
use Rattle.code_keeping_library.proofs.Calls.{input-is-done, measures-are-done, output-is-done, text-calls-are-done, texts-are-made}
use Rattle.code_keeping_library.proofs.Errors.{errors-are-given}
use Rattle.code_keeping_library.proofs.Lists.{lists-are-made}
use Rattle.code_keeping_library.proofs.Members.{members-are-given}
use Rattle.code_keeping_library.proofs.Printed.{values-are-printed}
use Rattle.code_keeping_all.proofs.GoingOn.{is-safe}
use Rattle.code_keeping_all.proofs.Stepping.{start-is-there}

call-is-done : (call : LibraryCall) → CallIsDone call
call-is-done Println = output-is-done.0
call-is-done Print = output-is-done.1
call-is-done ListLength = measures-are-done.0
call-is-done MappingLength = measures-are-done.1
call-is-done HasKey = measures-are-done.2
call-is-done Abs = text-calls-are-done.0
call-is-done StartsWith = text-calls-are-done.1
call-is-done Message = text-calls-are-done.2
call-is-done Readln = input-is-done
call-is-done FromString = errors-are-given.1
call-is-done ToString = values-are-printed
call-is-done Clone = clones-are-done
call-is-done CloneReadOnly = read-only-clones-are-done
call-is-done StringLength = text-calls-are-done.4
call-is-done Trim = texts-are-made.0
call-is-done Substring = texts-are-made.3
call-is-done ToUpperAscii = texts-are-made.1
call-is-done ToLowerAscii = texts-are-made.2
call-is-done ToCodePointInts = lists-are-made.1
call-is-done Push = pushes-are-done
call-is-done Pop = removals-are-done.0
call-is-done RemoveItem = removals-are-done.1
call-is-done Slice = members-are-given.1
call-is-done Reverse = members-are-given.2
call-is-done Keys = lists-are-made.0
call-is-done Get = members-are-given.0
call-is-done RemoveKey = removals-are-done.2
call-is-done Cause = text-calls-are-done.3
call-is-done Detail = errors-are-given.0

pub library-calls-are-done : LibraryCallsAreDone
library-calls-are-done fillers code t c call atom count = call-is-done call fillers atom count code c t

pub well-typed-code-is-safe : WellTypedCodeIsSafe
well-typed-code-is-safe fillers code t knows words input ticks words-are phase s r =
    is-safe LibraryAnswers fillers code t knows (library-calls-are-done fillers code t) words input ticks words-are phase s r

pub well-typed-code-begins : WellTypedCodeBegins
well-typed-code-begins fillers code t words input ticks = start-is-there fillers LibraryAnswers code t words input ticks
