-- What the library's calls of other groups need.
use Rattle.std.proofs.Common.{◌≡◌, true, false, Some, None, refl}
use Rattle.operations.specs.declared.library.LibraryCall.{LibraryCall}
use Rattle.operations.specs.declared.library.LibraryCall.TheVariants as call
use Rattle.stack_code.specs.Commands.{makes_list}
use Rattle.needs_of_places.specs.inner.Called.{list_call, member_call, text_call}

pub no-text : (k : LibraryCall) → (k ≡ call.Println → ⊥) → (k ≡ call.Print → ⊥) → (k ≡ call.Readln → ⊥) → (k ≡ call.FromString → ⊥) → (k ≡ call.Abs → ⊥) → (k ≡ call.ToString → ⊥) → (k ≡ call.Clone → ⊥) → (k ≡ call.CloneReadOnly → ⊥) → (k ≡ call.StringLength → ⊥) → (k ≡ call.StartsWith → ⊥) → (k ≡ call.Trim → ⊥) → (k ≡ call.Substring → ⊥) → (k ≡ call.ToUpperAscii → ⊥) → (k ≡ call.ToLowerAscii → ⊥) → text_call k ≡ None
no-text call.Println e0 e1 e2 e3 e4 e5 e6 e7 e8 e9 e10 e11 e12 e13 = absurd (e0 refl)
no-text call.Print e0 e1 e2 e3 e4 e5 e6 e7 e8 e9 e10 e11 e12 e13 = absurd (e1 refl)
no-text call.Readln e0 e1 e2 e3 e4 e5 e6 e7 e8 e9 e10 e11 e12 e13 = absurd (e2 refl)
no-text call.FromString e0 e1 e2 e3 e4 e5 e6 e7 e8 e9 e10 e11 e12 e13 = absurd (e3 refl)
no-text call.Abs e0 e1 e2 e3 e4 e5 e6 e7 e8 e9 e10 e11 e12 e13 = absurd (e4 refl)
no-text call.ToString e0 e1 e2 e3 e4 e5 e6 e7 e8 e9 e10 e11 e12 e13 = absurd (e5 refl)
no-text call.Clone e0 e1 e2 e3 e4 e5 e6 e7 e8 e9 e10 e11 e12 e13 = absurd (e6 refl)
no-text call.CloneReadOnly e0 e1 e2 e3 e4 e5 e6 e7 e8 e9 e10 e11 e12 e13 = absurd (e7 refl)
no-text call.StringLength e0 e1 e2 e3 e4 e5 e6 e7 e8 e9 e10 e11 e12 e13 = absurd (e8 refl)
no-text call.StartsWith e0 e1 e2 e3 e4 e5 e6 e7 e8 e9 e10 e11 e12 e13 = absurd (e9 refl)
no-text call.Trim e0 e1 e2 e3 e4 e5 e6 e7 e8 e9 e10 e11 e12 e13 = absurd (e10 refl)
no-text call.Substring e0 e1 e2 e3 e4 e5 e6 e7 e8 e9 e10 e11 e12 e13 = absurd (e11 refl)
no-text call.ToUpperAscii e0 e1 e2 e3 e4 e5 e6 e7 e8 e9 e10 e11 e12 e13 = absurd (e12 refl)
no-text call.ToLowerAscii e0 e1 e2 e3 e4 e5 e6 e7 e8 e9 e10 e11 e12 e13 = absurd (e13 refl)
no-text _ e0 e1 e2 e3 e4 e5 e6 e7 e8 e9 e10 e11 e12 e13 = refl

pub no-member : (k : LibraryCall) → (k ≡ call.ListLength → ⊥) → (k ≡ call.Push → ⊥) → (k ≡ call.Pop → ⊥) → (k ≡ call.RemoveItem → ⊥) → (k ≡ call.MappingLength → ⊥) → (k ≡ call.HasKey → ⊥) → (k ≡ call.Get → ⊥) → (k ≡ call.RemoveKey → ⊥) → (k ≡ call.Message → ⊥) → (k ≡ call.Cause → ⊥) → (k ≡ call.Detail → ⊥) → member_call k ≡ text_call k
no-member call.ListLength e0 e1 e2 e3 e4 e5 e6 e7 e8 e9 e10 = absurd (e0 refl)
no-member call.Push e0 e1 e2 e3 e4 e5 e6 e7 e8 e9 e10 = absurd (e1 refl)
no-member call.Pop e0 e1 e2 e3 e4 e5 e6 e7 e8 e9 e10 = absurd (e2 refl)
no-member call.RemoveItem e0 e1 e2 e3 e4 e5 e6 e7 e8 e9 e10 = absurd (e3 refl)
no-member call.MappingLength e0 e1 e2 e3 e4 e5 e6 e7 e8 e9 e10 = absurd (e4 refl)
no-member call.HasKey e0 e1 e2 e3 e4 e5 e6 e7 e8 e9 e10 = absurd (e5 refl)
no-member call.Get e0 e1 e2 e3 e4 e5 e6 e7 e8 e9 e10 = absurd (e6 refl)
no-member call.RemoveKey e0 e1 e2 e3 e4 e5 e6 e7 e8 e9 e10 = absurd (e7 refl)
no-member call.Message e0 e1 e2 e3 e4 e5 e6 e7 e8 e9 e10 = absurd (e8 refl)
no-member call.Cause e0 e1 e2 e3 e4 e5 e6 e7 e8 e9 e10 = absurd (e9 refl)
no-member call.Detail e0 e1 e2 e3 e4 e5 e6 e7 e8 e9 e10 = absurd (e10 refl)
no-member _ e0 e1 e2 e3 e4 e5 e6 e7 e8 e9 e10 = refl

pub no-list : (k : LibraryCall) → (k ≡ call.ToCodePointInts → ⊥) → (k ≡ call.Slice → ⊥) → (k ≡ call.Reverse → ⊥) → (k ≡ call.Keys → ⊥) → list_call k ≡ None
no-list call.ToCodePointInts e0 e1 e2 e3 = absurd (e0 refl)
no-list call.Slice e0 e1 e2 e3 = absurd (e1 refl)
no-list call.Reverse e0 e1 e2 e3 = absurd (e2 refl)
no-list call.Keys e0 e1 e2 e3 = absurd (e3 refl)
no-list _ e0 e1 e2 e3 = refl

pub listless-is : (k : LibraryCall) → makes_list k ≡ false → member_call k ≡ Some k
listless-is call.Println e = refl
listless-is call.Print e = refl
listless-is call.Readln e = refl
listless-is call.FromString e = refl
listless-is call.Abs e = refl
listless-is call.ToString e = refl
listless-is call.Clone e = refl
listless-is call.CloneReadOnly e = refl
listless-is call.StringLength e = refl
listless-is call.StartsWith e = refl
listless-is call.Trim e = refl
listless-is call.Substring e = refl
listless-is call.ToUpperAscii e = refl
listless-is call.ToLowerAscii e = refl
listless-is call.ListLength e = refl
listless-is call.Push e = refl
listless-is call.Pop e = refl
listless-is call.RemoveItem e = refl
listless-is call.MappingLength e = refl
listless-is call.HasKey e = refl
listless-is call.Get e = refl
listless-is call.RemoveKey e = refl
listless-is call.Message e = refl
listless-is call.Cause e = refl
listless-is call.Detail e = refl
listless-is call.ToCodePointInts e = absurd (let bad : true ≡ false = e in let bot : ⊥ = cc in bot)
listless-is call.Slice e = absurd (let bad : true ≡ false = e in let bot : ⊥ = cc in bot)
listless-is call.Reverse e = absurd (let bad : true ≡ false = e in let bot : ⊥ = cc in bot)
listless-is call.Keys e = absurd (let bad : true ≡ false = e in let bot : ⊥ = cc in bot)

pub listed-is : (k : LibraryCall) → makes_list k ≡ true → list_call k ≡ Some k
listed-is call.ToCodePointInts e = refl
listed-is call.Slice e = refl
listed-is call.Reverse e = refl
listed-is call.Keys e = refl
listed-is call.Println e = absurd (let bad : false ≡ true = e in let bot : ⊥ = cc in bot)
listed-is call.Print e = absurd (let bad : false ≡ true = e in let bot : ⊥ = cc in bot)
listed-is call.Readln e = absurd (let bad : false ≡ true = e in let bot : ⊥ = cc in bot)
listed-is call.FromString e = absurd (let bad : false ≡ true = e in let bot : ⊥ = cc in bot)
listed-is call.Abs e = absurd (let bad : false ≡ true = e in let bot : ⊥ = cc in bot)
listed-is call.ToString e = absurd (let bad : false ≡ true = e in let bot : ⊥ = cc in bot)
listed-is call.Clone e = absurd (let bad : false ≡ true = e in let bot : ⊥ = cc in bot)
listed-is call.CloneReadOnly e = absurd (let bad : false ≡ true = e in let bot : ⊥ = cc in bot)
listed-is call.StringLength e = absurd (let bad : false ≡ true = e in let bot : ⊥ = cc in bot)
listed-is call.StartsWith e = absurd (let bad : false ≡ true = e in let bot : ⊥ = cc in bot)
listed-is call.Trim e = absurd (let bad : false ≡ true = e in let bot : ⊥ = cc in bot)
listed-is call.Substring e = absurd (let bad : false ≡ true = e in let bot : ⊥ = cc in bot)
listed-is call.ToUpperAscii e = absurd (let bad : false ≡ true = e in let bot : ⊥ = cc in bot)
listed-is call.ToLowerAscii e = absurd (let bad : false ≡ true = e in let bot : ⊥ = cc in bot)
listed-is call.ListLength e = absurd (let bad : false ≡ true = e in let bot : ⊥ = cc in bot)
listed-is call.Push e = absurd (let bad : false ≡ true = e in let bot : ⊥ = cc in bot)
listed-is call.Pop e = absurd (let bad : false ≡ true = e in let bot : ⊥ = cc in bot)
listed-is call.RemoveItem e = absurd (let bad : false ≡ true = e in let bot : ⊥ = cc in bot)
listed-is call.MappingLength e = absurd (let bad : false ≡ true = e in let bot : ⊥ = cc in bot)
listed-is call.HasKey e = absurd (let bad : false ≡ true = e in let bot : ⊥ = cc in bot)
listed-is call.Get e = absurd (let bad : false ≡ true = e in let bot : ⊥ = cc in bot)
listed-is call.RemoveKey e = absurd (let bad : false ≡ true = e in let bot : ⊥ = cc in bot)
listed-is call.Message e = absurd (let bad : false ≡ true = e in let bot : ⊥ = cc in bot)
listed-is call.Cause e = absurd (let bad : false ≡ true = e in let bot : ⊥ = cc in bot)
listed-is call.Detail e = absurd (let bad : false ≡ true = e in let bot : ⊥ = cc in bot)
