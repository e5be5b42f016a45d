-- The text of a value, as it is printed.
use Rattle.std.specs.Prelude.{◌+◌, ◌++◌, ◌==◌, ℕ, zero, suc, Bool, true, false, List, [], ◌∷◌, Option, Some, None, codes, flat_map, length, slice_get, if◌then◌else◌}
use Rattle.std.specs.Fmt.{signed_decimal}
use Rattle.std.specs.List.{list_any, join_by}
use Rattle.bal_base.specs.declared.text.Text.{Text}
use Rattle.value_model.specs.declared.value.Value.{Value}
use Rattle.value_model.specs.declared.value.Value.TheVariants.{Nil, Bool as Truth, Int, Str, Struct, Error, Function, Future}
use Rattle.value_model.specs.Heap.{Heap, Structure, ErrorObject, Members, Items, Entries}

-- a character as it stands in a quoted text
abbrev pub escaped : ℕ → List ℕ
escaped c =
    if c == 34 then codes "\\\""
    else if c == 92 then codes "\\\\"
    else if c == 10 then codes "\\n"
    else if c == 13 then codes "\\r"
    else if c == 9 then codes "\\t"
    else c ∷ []

abbrev pub quoted : Text → List ℕ
quoted t = codes "\"" ++ flat_map escaped t ++ codes "\""

abbrev pub truth_text : Bool → List ℕ
truth_text true = codes "true"
truth_text false = codes "false"

-- what is listed has a comma between each two
abbrev pub listed : {A : Type 0} → (A → List ℕ) → List A → List ℕ
listed text xs = join_by text (codes ",") xs

abbrev pub members_text : (Value → List ℕ) → Members → List ℕ
members_text text (Items vs) = codes "[" ++ listed text vs ++ codes "]"
members_text text (Entries es) = codes "{" ++ listed (λ e. quoted e.0 ++ codes ":" ++ text e.1) es ++ codes "}"

module _ (h : Heap) where
  -- the details of an error, each behind a comma
  abbrev pub details_text : (Value → List ℕ) → ℕ → List ℕ
  details_text text n = by (slice_get h.structures n)
    where
      in_members : Members → List ℕ
      in_members (Items vs) = []
      in_members (Entries es) = flat_map (λ e. codes "," ++ e.0 ++ codes "=" ++ text e.1) es

      by : Option Structure → List ℕ
      by (Some s) = in_members s.members
      by None = []

  abbrev pub cause_text : (Value → List ℕ) → Option ℕ → List ℕ
  cause_text text (Some cause) = codes "," ++ text (Error cause)
  cause_text text None = []

  -- a structure and an error, given the texts of what they hold
  abbrev pub structure_text : (Value → List ℕ) → ℕ → List ℕ
  structure_text text n = by (slice_get h.structures n)
    where
      by : Option Structure → List ℕ
      by (Some s) = members_text text s.members
      by None = []

  abbrev pub error_text : (Value → List ℕ) → ℕ → List ℕ
  error_text text n = by (slice_get h.errors n)
    where
      by : Option ErrorObject → List ℕ
      by (Some e) = codes "error(" ++ quoted e.message ++ cause_text text e.cause ++ details_text text e.detail ++ codes ")"
      by None = []

  -- the text of a value inside a structure, where the structures in `around` are around it: one that is
  -- among them is not written again. `depth` tells how many more structures and errors may stand in one another
  abbrev pub inner_text : ℕ → List ℕ → Value → List ℕ
  inner_text depth around Nil = codes "null"
  inner_text depth around (Truth b) = truth_text b
  inner_text depth around (Int i) = signed_decimal i
  inner_text depth around (Str t) = quoted t
  inner_text zero around (Struct n) = codes "..."
  inner_text (suc depth) around (Struct n) =
      if list_any (λ m. m == n) around then codes "..." else structure_text (inner_text depth (n ∷ around)) n
  inner_text zero around (Error n) = codes "..."
  inner_text (suc depth) around (Error n) = error_text (inner_text depth around) n
  inner_text depth around (Function n) = codes "function"
  inner_text depth around (Future strand unit) = codes "future"

  -- where as many as there are stand in one another, a further one is among them
  abbrev pub text_within : Value → List ℕ
  text_within v = inner_text (length h.structures + length h.errors) [] v

  -- the text of a value: nil has none, and a string is its own
  abbrev pub text_of : Value → List ℕ
  text_of Nil = []
  text_of (Truth b) = text_within (Truth b)
  text_of (Int i) = text_within (Int i)
  text_of (Str t) = t
  text_of (Struct n) = text_within (Struct n)
  text_of (Error n) = text_within (Error n)
  text_of (Function n) = text_within (Function n)
  text_of (Future strand unit) = text_within (Future strand unit)
