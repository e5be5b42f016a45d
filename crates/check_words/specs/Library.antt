-- The library as a checker sees it: a row for each call, with what it is a method of, what it takes and which operation it is.
use Rattle.std.specs.Prelude.{◌+◌, ◌&&◌, ◌||◌, ℕ, Bool, true, false, List, [], ◌∷◌, ◌++◌, Option, Some, None, codes, filter, get_or, length, map, nat_le}
use Rattle.bal_base.specs.declared.text.Name.{Name}
use Rattle.operations.specs.declared.library.LibraryCall.{LibraryCall}
use Rattle.operations.specs.declared.library.LibraryCall.TheVariants.{Println, Print, Readln, FromString, Abs, ToString, Clone, CloneReadOnly, StringLength, StartsWith, Trim, Substring, ToUpperAscii, ToLowerAscii, ToCodePointInts, ListLength, Push, Pop, RemoveItem, Slice, Reverse, MappingLength, Keys, HasKey, Get, RemoveKey, Message, Cause, Detail}
use Rattle.type_model.specs.Places.{is_same_text}
use Rattle.expr_needs.specs.declared.kind.Kind.{Kind}
use Rattle.expr_needs.specs.declared.kind.Kind.TheVariants as kind

-- what an argument or a receiver has to be; none: any value, and an error too
abbrev pub Takes : Type 0
Takes = Option Kind

pub record LibraryRow : Type 0 where
  pub name : Name
  -- that of which it is a method
  pub receiver : Takes
  -- the arguments that it needs, those that may stand behind them, and whether any number of values may
  pub needed : List Takes
  pub possible : List Takes
  pub more : Bool
  pub call : LibraryCall

-- with so many arguments, one or two forms of which differ in the last
abbrev pub row : Name → Takes → List Takes → List Takes → LibraryCall → LibraryRow
row name receiver needed possible call = record { name = name; receiver = receiver; needed = needed; possible = possible; more = false; call = call }

-- with any number of values
abbrev pub row_of_all : Name → Takes → LibraryCall → LibraryRow
row_of_all name receiver call = record { name = name; receiver = receiver; needed = []; possible = []; more = true; call = call }

abbrev pub int : Takes
int = Some kind.Integer

abbrev pub string : Takes
string = Some kind.Text

abbrev pub anydata : Takes
anydata = Some kind.Anydata

abbrev pub list : Takes
list = Some kind.AnyList

abbrev pub mapping : Takes
mapping = Some kind.AnyMapping

abbrev pub error : Takes
error = Some kind.AnyError

abbrev pub any : Takes
any = None

-- ---- the rows

-- the row of a call
abbrev pub row_of : LibraryCall → LibraryRow
row_of Println = row_of_all (codes "println") any Println
row_of Print = row_of_all (codes "print") any Print
row_of Readln = row (codes "readln") any [] (any ∷ []) Readln
row_of FromString = row (codes "fromString") any (string ∷ []) [] FromString
row_of Abs = row (codes "abs") int [] [] Abs
row_of ToString = row (codes "toString") any [] [] ToString
row_of Clone = row (codes "clone") anydata [] [] Clone
row_of CloneReadOnly = row (codes "cloneReadOnly") anydata [] [] CloneReadOnly
row_of StringLength = row (codes "length") string [] [] StringLength
row_of StartsWith = row (codes "startsWith") string (string ∷ []) [] StartsWith
row_of Trim = row (codes "trim") string [] [] Trim
row_of Substring = row (codes "substring") string (int ∷ []) (int ∷ []) Substring
row_of ToUpperAscii = row (codes "toUpperAscii") string [] [] ToUpperAscii
row_of ToLowerAscii = row (codes "toLowerAscii") string [] [] ToLowerAscii
row_of ToCodePointInts = row (codes "toCodePointInts") string [] [] ToCodePointInts
row_of ListLength = row (codes "length") list [] [] ListLength
row_of Push = row_of_all (codes "push") list Push
row_of Pop = row (codes "pop") list [] [] Pop
row_of RemoveItem = row (codes "remove") list (int ∷ []) [] RemoveItem
row_of Slice = row (codes "slice") list (int ∷ []) (int ∷ []) Slice
row_of Reverse = row (codes "reverse") list [] [] Reverse
row_of MappingLength = row (codes "length") mapping [] [] MappingLength
row_of Keys = row (codes "keys") mapping [] [] Keys
row_of HasKey = row (codes "hasKey") mapping (string ∷ []) [] HasKey
row_of Get = row (codes "get") mapping (string ∷ []) [] Get
row_of RemoveKey = row (codes "remove") mapping (string ∷ []) [] RemoveKey
row_of Message = row (codes "message") error [] [] Message
row_of Cause = row (codes "cause") error [] [] Cause
row_of Detail = row (codes "detail") error [] [] Detail

-- the functions of `io` and of `int`, and all methods
abbrev pub calls_of_io : List LibraryCall
calls_of_io = Println ∷ Print ∷ Readln ∷ []

abbrev pub calls_of_int : List LibraryCall
calls_of_int = FromString ∷ []

abbrev pub calls_of_values : List LibraryCall
calls_of_values =
    Abs ∷ ToString ∷ Clone ∷ CloneReadOnly ∷ StringLength ∷ StartsWith ∷ Trim ∷ Substring ∷ ToUpperAscii ∷ ToLowerAscii ∷ ToCodePointInts ∷ ListLength
    ∷ Push ∷ Pop ∷ RemoveItem ∷ Slice ∷ Reverse ∷ MappingLength ∷ Keys ∷ HasKey ∷ Get ∷ RemoveKey ∷ Message ∷ Cause ∷ Detail ∷ []

abbrev pub functions_of_io : List LibraryRow
functions_of_io = map row_of calls_of_io

abbrev pub functions_of_int : List LibraryRow
functions_of_int = map row_of calls_of_int

-- of methods of one name, the first whose receiver's kind fits is meant
abbrev pub methods : List LibraryRow
methods = map row_of calls_of_values

abbrev pub is_named : Name → LibraryRow → Bool
is_named name r = is_same_text r.name name

abbrev pub methods_named : Name → List LibraryRow
methods_named name = filter (is_named name) methods

-- ---- arguments

-- it may be called with so many arguments
abbrev pub takes_so_many : LibraryRow → ℕ → Bool
takes_so_many r count = nat_le (length r.needed) count && (r.more || nat_le count (length r.needed + length r.possible))

-- what the argument with this number has to be
abbrev pub argument_of : LibraryRow → ℕ → Takes
argument_of r n = get_or (r.needed ++ r.possible) n any
