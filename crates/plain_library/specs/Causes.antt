-- When it is not told what a call of the library comes to: a question of types that it asks is not decided.
use Rattle.std.specs.Prelude.{List}
use Rattle.operations.specs.declared.library.LibraryCall.{LibraryCall}
use Rattle.operations.specs.declared.library.LibraryCall.TheVariants.{Println, Print, Readln, FromString, Abs, ToString, Clone, CloneReadOnly, StringLength, StartsWith, Trim, Substring, ToUpperAscii, ToLowerAscii, ToCodePointInts, ListLength, Push, Pop, RemoveItem, Slice, Reverse, MappingLength, Keys, HasKey, Get, RemoveKey, Message, Cause, Detail}
use Rattle.value_model.specs.declared.value.Value.{Value}
use Rattle.plain_run.specs.declared.facts.ProgramFacts.{ProgramFacts}
use Rattle.plain_run.specs.declared.held.World.{World}
use Rattle.plain_removals.specs.Removals.{IsPopBeyond, IsRemoveItemBeyond, IsRemoveKeyBeyond}
use Rattle.plain_stores.specs.Questions.{PushIsBeyond}

-- of the call with these operands
abbrev pub IsCallBeyond : ProgramFacts → LibraryCall → World → List Value → Type 0
IsCallBeyond facts Println w vs = ⊥
IsCallBeyond facts Print w vs = ⊥
IsCallBeyond facts Readln w vs = ⊥
IsCallBeyond facts FromString w vs = ⊥
IsCallBeyond facts Abs w vs = ⊥
IsCallBeyond facts ToString w vs = ⊥
IsCallBeyond facts Clone w vs = ⊥
IsCallBeyond facts CloneReadOnly w vs = ⊥
IsCallBeyond facts StringLength w vs = ⊥
IsCallBeyond facts StartsWith w vs = ⊥
IsCallBeyond facts Trim w vs = ⊥
IsCallBeyond facts Substring w vs = ⊥
IsCallBeyond facts ToUpperAscii w vs = ⊥
IsCallBeyond facts ToLowerAscii w vs = ⊥
IsCallBeyond facts ToCodePointInts w vs = ⊥
IsCallBeyond facts ListLength w vs = ⊥
IsCallBeyond facts Push w vs = PushIsBeyond facts vs w
IsCallBeyond facts Pop w vs = IsPopBeyond facts w vs
IsCallBeyond facts RemoveItem w vs = IsRemoveItemBeyond facts w vs
IsCallBeyond facts Slice w vs = ⊥
IsCallBeyond facts Reverse w vs = ⊥
IsCallBeyond facts MappingLength w vs = ⊥
IsCallBeyond facts Keys w vs = ⊥
IsCallBeyond facts HasKey w vs = ⊥
IsCallBeyond facts Get w vs = ⊥
IsCallBeyond facts RemoveKey w vs = IsRemoveKeyBeyond facts w vs
IsCallBeyond facts Message w vs = ⊥
IsCallBeyond facts Cause w vs = ⊥
IsCallBeyond facts Detail w vs = ⊥
