-- What each call of the library comes to (Ballerina's `lang` libraries and `ballerina/io`).
use Rattle.std.specs.Prelude.{◌≡◌, ◌≤◌, ◌<◌, ◌-◌, ◌++◌, ℕ, ℤ, pos, List, [], ◌∷◌, Option, Some, None, Bool, IsSomeAnd, IsTrue, chars, drop, encode_utf8_all, flat_map, is_some, length, map, nat_abs, remove, reverse, slice_get, take, unsigned_abs, IsUtf8}
use Rattle.std.specs.List.{after_first}
use Rattle.bal_base.specs.declared.text.Text.{Text}
use Rattle.bal_base.specs.Valid.{IsInt}
use Rattle.bal_io.specs.Content.{is_line_feed, first_line, line_text}
use Rattle.type_model.specs.Places.{is_same_text}
use Rattle.operations.specs.declared.library.LibraryCall.{LibraryCall}
use Rattle.operations.specs.declared.library.LibraryCall.TheVariants.{Println, Print, Readln, FromString, Abs, ToString, Clone, CloneReadOnly, StringLength, StartsWith, Trim, Substring, ToUpperAscii, ToLowerAscii, ToCodePointInts, ListLength, Push, Pop, RemoveItem, Slice, Reverse, MappingLength, Keys, HasKey, Get, RemoveKey, Message, Cause, Detail}
use Rattle.operations.specs.LibraryNumbers.{number_of}
use Rattle.value_model.specs.declared.value.Value.{Value}
use Rattle.value_model.specs.declared.value.Value.TheVariants.{Nil, Bool as Truth, Int, Str, Struct, Error}
use Rattle.value_model.specs.declared.panics.PanicName.TheVariants.{IndexOutOfRange, InherentTypeViolation, TooLong, KeyNotFound, BadInput}
use Rattle.value_model.specs.PanicName.{number_parsing_error}
use Rattle.value_model.specs.Heap.{Structure, ErrorObject, Items, Entries, entry_at}
use Rattle.value_model.specs.Stands.{OwnTypes}
use Rattle.value_model.specs.World.{World, Came, Gave, Threw, PassesCells}
use Rattle.op_model.specs.Limits.{most_code_points, most_line_bytes}
use Rattle.op_model.specs.Rows.{Where, Unless, Else, GivesInt, GivesText, GivesList, ListAt, MappingAt, found, gives, gives_error, panics, place_of}
use Rattle.op_model.specs.Stores.{StoresAt, StillFits, remove_entry, stored}
use Rattle.op_model.specs.Copies.{freezes, clones}
use Rattle.op_model.specs.Texts.{text_of}
use Rattle.op_model.specs.Strings.{AreBounds, int_in, lower_ascii, part_of, trimmed, upper_ascii}

-- ---- input and output

abbrev pub texts_of : World → List Value → Text
texts_of w vs = flat_map (text_of w.heap) vs

abbrev pub written : World → Text → World
written w t = record w { output = w.output ++ encode_utf8_all t }

-- the text is written, and then the end; where the text is too long nothing is
abbrev pub Prints : World → Text → Text → Came → Type 0
Prints w t end = Unless (length t ≤ most_code_points) (panics w TooLong) (Else (gives (written w (t ++ end)) Nil))

abbrev pub with_input : World → List ℕ → World
with_input w bytes = record w { input = bytes }

-- the bytes of a line as a string
abbrev pub ReadsAs : World → List ℕ → Came → Type 0
ReadsAs w bytes = Unless (IsUtf8 bytes) (panics w BadInput) (GivesText w (chars bytes))

-- the next line of the input, without its end; the empty string at the end of the input. Of a line that is too long as
-- many bytes as a line may have are taken
abbrev pub Reads : World → Came → Type 0
Reads w =
    Where (w.input ≡ []) (gives w (Str []))
    (Where (most_line_bytes < length (first_line w.input)) (panics (with_input w (drop most_line_bytes w.input)) TooLong)
    (ReadsAs (with_input w (after_first is_line_feed w.input)) (line_text w.input)))

abbrev pub ReadsAfter : World → Text → Came → Type 0
ReadsAfter w t = Unless (length t ≤ most_code_points) (panics w TooLong) (Reads (written w t))

-- ---- ints and strings

abbrev pub ParsesInt : World → Option ℤ → Came → Type 0
ParsesInt w (Some n) = Unless (IsInt n) (gives_error w number_parsing_error) (Else (gives w (Int n)))
ParsesInt w None = Else (gives_error w number_parsing_error)

abbrev pub TakesPart : World → Text → ℤ → ℤ → Came → Type 0
TakesPart w t i j =
    Unless (AreBounds i j (length t)) (panics w IndexOutOfRange) (Else (gives w (Str (part_of (nat_abs i) (nat_abs j) t))))

-- ---- lists

-- what follows where nothing went wrong
abbrev pub Then : (World → Came → Type 0) → Came → Came → Type 0
Then behind (Gave vs w) came = behind w came
Then behind (Threw e w) came = came ≡ Threw e w
Then behind PassesCells came = came ≡ PassesCells

abbrev pub last_place : List Value → Option ℕ
last_place [] = None
last_place (v ∷ vs) = Some (length vs)

abbrev pub Slices : World → ℕ → List Value → ℤ → ℤ → Came → Type 0
Slices w atom vs i j =
    Unless (AreBounds i j (length vs)) (panics w IndexOutOfRange) (GivesList w atom (part_of (nat_abs i) (nat_abs j) vs))

module _ (own : OwnTypes) where
  -- each value is stored behind the last item, one after the other
  abbrev pub Pushes : ℕ → List Value → World → Came → Type 0
  Pushes n [] w came = came ≡ gives w Nil
  Pushes n (v ∷ vs) w came =
      (first : Came) × ListAt w n (λ s items. StoresAt own (λ _. []) w n s items (Some (length items)) v first) × Then (Pushes n vs) first came

  -- the item at the place is taken out and given, where what is left may be so
  abbrev pub RemovesAt : World → ℕ → Structure → List Value → Option ℕ → Came → Type 0
  RemovesAt w n s vs None = Else (panics w IndexOutOfRange)
  RemovesAt w n s vs (Some k) =
      Unless (k < length vs) (panics w IndexOutOfRange)
      (Unless (IsTrue s.mutable) (panics w InherentTypeViolation)
      (Unless (StillFits own w s (Items (remove vs k))) (panics w InherentTypeViolation)
      (Else (found (stored w n s (Items (remove vs k)) []) IndexOutOfRange (slice_get vs k)))))

  -- the member at the key is taken out and given, where what is left may be so
  abbrev pub RemovesKey : World → ℕ → Structure → List (Text × Value) → Text → Option Value → Came → Type 0
  RemovesKey w n s es key None = Else (panics w KeyNotFound)
  RemovesKey w n s es key (Some v) =
      Unless (IsTrue s.mutable) (panics w InherentTypeViolation)
      (Unless (StillFits own w s (Entries (remove_entry es key))) (panics w InherentTypeViolation)
      (Else (gives (stored w n s (Entries (remove_entry es key)) []) v)))

-- ---- errors

abbrev pub ErrorAt : World → ℕ → (ErrorObject → Type 0) → Type 0
ErrorAt w n P = IsSomeAnd (slice_get w.heap.errors n) P

abbrev pub cause_value : Option ℕ → Value
cause_value (Some n) = Error n
cause_value None = Nil

-- ---- the table

-- the call with these arguments, the receiver first; `atom` is that of the list that it makes
abbrev pub LibraryComes : OwnTypes → LibraryCall → ℕ → List Value → World → Came → Type 0
LibraryComes own Println atom args w came = Prints w (texts_of w args) (10 ∷ []) came
LibraryComes own Print atom args w came = Prints w (texts_of w args) [] came
LibraryComes own Readln atom [] w came = Reads w came
LibraryComes own Readln atom (p ∷ []) w came = ReadsAfter w (text_of w.heap p) came
LibraryComes own FromString atom (Str t ∷ []) w came = ParsesInt w (int_in t) came
LibraryComes own Abs atom (Int n ∷ []) w came = GivesInt w (pos (unsigned_abs n)) came
LibraryComes own ToString atom (v ∷ []) w came = GivesText w (text_of w.heap v) came
LibraryComes own Clone atom (v ∷ []) w came = came ≡ clones w v
LibraryComes own CloneReadOnly atom (v ∷ []) w came = came ≡ freezes w v
LibraryComes own StringLength atom (Str t ∷ []) w came = GivesInt w (pos (length t)) came
LibraryComes own StartsWith atom (Str s ∷ Str t ∷ []) w came = came ≡ gives w (Truth (is_same_text (take (length t) s) t))
LibraryComes own Trim atom (Str t ∷ []) w came = came ≡ gives w (Str (trimmed t))
LibraryComes own Substring atom (Str t ∷ Int i ∷ []) w came = TakesPart w t i (pos (length t)) came
LibraryComes own Substring atom (Str t ∷ Int i ∷ Int j ∷ []) w came = TakesPart w t i j came
LibraryComes own ToUpperAscii atom (Str t ∷ []) w came = came ≡ gives w (Str (map upper_ascii t))
LibraryComes own ToLowerAscii atom (Str t ∷ []) w came = came ≡ gives w (Str (map lower_ascii t))
LibraryComes own ToCodePointInts atom (Str t ∷ []) w came = GivesList w atom (map (λ c. Int (pos c)) t) came
LibraryComes own ListLength atom (Struct n ∷ []) w came = ListAt w n (λ s vs. came ≡ gives w (Int (pos (length vs))))
LibraryComes own Push atom (Struct n ∷ vs) w came = Pushes own n vs w came
LibraryComes own Pop atom (Struct n ∷ []) w came = ListAt w n (λ s vs. RemovesAt own w n s vs (last_place vs) came)
LibraryComes own RemoveItem atom (Struct n ∷ Int i ∷ []) w came = ListAt w n (λ s vs. RemovesAt own w n s vs (place_of i) came)
LibraryComes own Slice atom (Struct n ∷ Int i ∷ []) w came = ListAt w n (λ s vs. Slices w atom vs i (pos (length vs)) came)
LibraryComes own Slice atom (Struct n ∷ Int i ∷ Int j ∷ []) w came = ListAt w n (λ s vs. Slices w atom vs i j came)
LibraryComes own Reverse atom (Struct n ∷ []) w came = ListAt w n (λ s vs. GivesList w atom (reverse vs) came)
LibraryComes own MappingLength atom (Struct n ∷ []) w came = MappingAt w n (λ s es. came ≡ gives w (Int (pos (length es))))
LibraryComes own Keys atom (Struct n ∷ []) w came = MappingAt w n (λ s es. GivesList w atom (map (λ e. Str e.0) es) came)
LibraryComes own HasKey atom (Struct n ∷ Str k ∷ []) w came = MappingAt w n (λ s es. came ≡ gives w (Truth (is_some (entry_at es k))))
LibraryComes own Get atom (Struct n ∷ Str k ∷ []) w came = MappingAt w n (λ s es. came ≡ found w KeyNotFound (entry_at es k))
LibraryComes own RemoveKey atom (Struct n ∷ Str k ∷ []) w came = MappingAt w n (λ s es. RemovesKey own w n s es k (entry_at es k) came)
LibraryComes own Message atom (Error n ∷ []) w came = ErrorAt w n (λ e. came ≡ gives w (Str e.message))
LibraryComes own Cause atom (Error n ∷ []) w came = ErrorAt w n (λ e. came ≡ gives w (cause_value e.cause))
LibraryComes own Detail atom (Error n ∷ []) w came = ErrorAt w n (λ e. came ≡ gives w (Struct e.detail))
LibraryComes own call atom args w came = ⊥

-- the library as natives: its calls by their numbers
abbrev pub LibraryAnswers : OwnTypes → ℕ → ℕ → List Value → World → Came → Type 0
LibraryAnswers own op atom args w came = (call : LibraryCall) × (number_of call ≡ op) × LibraryComes own call atom args w came
