-- The text of a value is a text.
use lib.Signed.{mag}
use Rattle.std.proofs.Common.{◌≡◌, ◌<◌, ◌^◌, ◌++◌, ◌+◌, ℕ, ℤ, pos, negsuc, zero, suc, Bool, true, false, List, [], ◌∷◌, Option, Some, None, flat_map, refl, arith}
use Rattle.std.proofs.Math.Utf8.{low_scalar, scalar}
use Rattle.std.proofs.lemmas.Fmt.{IsAscii-signed}
use Rattle.std.proofs.lemmas.Int.{ints}
use Rattle.std.proofs.lemmas.List.Elements.{All-head, All-tail}
use Rattle.std.proofs.lemmas.Str.Ascii.{All-from_ascii}
use Rattle.std.specs.Fmt.{signed_decimal}
use Rattle.std.specs.List.{join_by, list_any}
use Rattle.std.specs.Prelude.{◌==◌, All, codes, if◌then◌else◌, length, slice_get}
use Rattle.bal_base.specs.declared.text.Text.{Text}
use Rattle.bal_base.specs.Valid.{IsInt, IsText}
use Rattle.operations.specs.declared.library.LibraryCall.TheVariants.{ToString}
use Rattle.operations.specs.Rows.{Surroundings}
use Rattle.value_model.specs.declared.filler.Filler.{Filler}
use Rattle.value_model.specs.declared.value.Value.{Value}
use Rattle.value_model.specs.declared.value.Value.TheVariants.{Nil, Bool as Truth, Int, Str, Struct, Error, Function, Future}
use Rattle.value_model.specs.Heap.{Entries, ErrorObject, Heap, Items, Members, Structure}
use Rattle.value_model.specs.Valid.{AreValidMembers, IsValidHeap, IsValidValue}
use Rattle.op_model.specs.Common.{Common}
use Rattle.op_model.specs.Texts.{cause_text, escaped, inner_text, members_text, quoted, text_of}
use Rattle.stack_code.specs.declared.code.Code.{Code}
use Rattle.stack_code.specs.WellTyped.{WellTyped}
use Rattle.code_keeping.proofs.Lists.{all-at}
use Rattle.code_keeping.proofs.Operands.{one-fit}
use Rattle.code_keeping.proofs.Valuing.{does-text, text-append, text-both, text-parts}
use Rattle.code_keeping_library.specs.Laws.{ValuesArePrinted}
use Rattle.code_keeping_library.proofs.Calls.{Answered, does-call-at}
use Rattle.code_keeping_library.proofs.Lists.{Row, of-row}

-- ---- texts put together

text-flat : {A : Type 0} (P : A → Type 0) (f : A → List ℕ) → ((x : A) → P x → IsText (f x)) → (xs : List A) → All P xs → IsText (flat_map f xs)
text-flat P f h [] all = refl
text-flat P f h (x ∷ xs) all = text-append (f x) (flat_map f xs) (h x (All-head P x xs all)) (text-flat P f h xs (All-tail P x xs all))

text-joined : {A : Type 0} (P : A → Type 0) (f : A → List ℕ) (between : Text) → IsText between → ((x : A) → P x → IsText (f x)) → (xs : List A) → All P xs → IsText (join_by f between xs)
text-joined P f between text h [] all = refl
text-joined P f between text h (x ∷ xs) all =
    text-append (f x) (flat_map (λ y. between ++ f y) xs) (h x (All-head P x xs all)) (text-flat P (λ y. between ++ f y) (λ y p. text-append between (f y) text (h y p)) xs (All-tail P x xs all))

text-low : (xs : List ℕ) → All (λ b. b < 128) xs → IsText xs
text-low [] all = refl
text-low (x ∷ xs) all =
    text-both x xs (let l : x < 128 = All-head (λ b. b < 128) x xs all in low_scalar x (omega (arith, l))) (text-low xs (All-tail (λ b. b < 128) x xs all))

-- ---- ints and quoted texts

int-mag : (n : ℤ) → IsInt n → mag n < 2 ^ 63
int-mag (pos n) h = omega (arith, ints, h.0, h.1)
int-mag (negsuc n) h = omega (arith, ints, h.0, h.1)

text-int : (n : ℤ) → IsInt n → IsText (signed_decimal n)
text-int n h = text-low (signed_decimal n) (All-from_ascii (signed_decimal n) (IsAscii-signed n (int-mag n h)))

text-escaped : (c : ℕ) → scalar c ≡ true → IsText (escaped c)
text-escaped c h = by (c == 34) (c == 92) (c == 10) (c == 13) (c == 9)
  where
    by : (quote slash line return tab : Bool) → IsText (if quote then codes "\\\"" else if slash then codes "\\\\" else if line then codes "\\n" else if return then codes "\\r" else if tab then codes "\\t" else c ∷ [])
    by true slash line return tab = refl
    by false true line return tab = refl
    by false false true return tab = refl
    by false false false true tab = refl
    by false false false false true = refl
    by false false false false false = text-both c [] h refl

text-escapes : (t : Text) → IsText t → IsText (flat_map escaped t)
text-escapes [] h = refl
text-escapes (x ∷ t) h = let (one, more) = text-parts x t h in text-append (escaped x) (flat_map escaped t) (text-escaped x one) (text-escapes t more)

text-quoted : (t : Text) → IsText t → IsText (quoted t)
text-quoted t h = text-append (codes "\"" ++ flat_map escaped t) (codes "\"") (text-append (codes "\"") (flat_map escaped t) refl (text-escapes t h)) refl

-- ---- values

module _ (h : Heap) (valid : IsValidHeap h) where
  abbrev structure_part : (Value → List ℕ) → Option Structure → List ℕ
  structure_part text (Some s) = members_text text s.members
  structure_part text None = []

  -- what a structure holds, as text, given the texts of values
  module _ (text : Value → List ℕ) (each : (v : Value) → IsValidValue v → IsText (text v)) where
    text-members : (m : Members) → AreValidMembers m → IsText (members_text text m)
    text-members (Items vs) ok =
        text-append (codes "[" ++ join_by text (codes ",") vs) (codes "]") (text-append (codes "[") (join_by text (codes ",") vs) refl (text-joined IsValidValue text (codes ",") refl each vs ok)) refl
    text-members (Entries es) ok =
        text-append (codes "{" ++ join_by entry (codes ",") es) (codes "}")
        (text-append (codes "{") (join_by entry (codes ",") es) refl (text-joined (λ (e : Text × Value). IsText e.0 × IsValidValue e.1) entry (codes ",") refl text-entry es ok)) refl
      where
        entry : Text × Value → List ℕ
        entry e = quoted e.0 ++ codes ":" ++ text e.1

        text-entry : (e : Text × Value) → IsText e.0 × IsValidValue e.1 → IsText (entry e)
        text-entry e (key, value) = text-append (quoted e.0 ++ codes ":") (text e.1) (text-append (quoted e.0) (codes ":") (text-quoted e.0 key) refl) (each e.1 value)

    text-structure : (n : ℕ) → IsText (structure_part text (slice_get h.structures n))
    text-structure n = by (slice_get h.structures n) refl
      where
        by : (o : Option Structure) → slice_get h.structures n ≡ o → IsText (structure_part text o)
        by (Some s) e = text-members s.members (all-at (λ s. AreValidMembers s.members) h.structures n s valid.members e)
        by None e = refl

    abbrev detail_members : Members → List ℕ
    detail_members (Items vs) = []
    detail_members (Entries es) = flat_map (λ e. codes "," ++ e.0 ++ codes "=" ++ text e.1) es

    abbrev detail_part : Option Structure → List ℕ
    detail_part (Some s) = detail_members s.members
    detail_part None = []

    text-detail : (n : ℕ) → IsText (detail_part (slice_get h.structures n))
    text-detail n = by (slice_get h.structures n) refl
      where
        on : (m : Members) → AreValidMembers m → IsText (detail_members m)
        on (Items vs) ok = refl
        on (Entries es) ok =
            text-flat (λ (e : Text × Value). IsText e.0 × IsValidValue e.1) (λ e. codes "," ++ e.0 ++ codes "=" ++ text e.1)
            (λ e k. text-append (codes "," ++ e.0 ++ codes "=") (text e.1) (text-append (codes "," ++ e.0) (codes "=") (text-append (codes ",") e.0 refl k.0) refl) (each e.1 k.1)) es ok

        by : (o : Option Structure) → slice_get h.structures n ≡ o → IsText (detail_part o)
        by (Some s) e = on s.members (all-at (λ s. AreValidMembers s.members) h.structures n s valid.members e)
        by None e = refl

    text-cause : (o : Option ℕ) → IsText (cause_text h text o)
    text-cause (Some n) = text-append (codes ",") (text (Error n)) refl (each (Error n) tt)
    text-cause None = refl

    abbrev error_part : Option ErrorObject → List ℕ
    error_part (Some e) = codes "error(" ++ quoted e.message ++ cause_text h text e.cause ++ detail_part (slice_get h.structures e.detail) ++ codes ")"
    error_part None = []

    text-error : (n : ℕ) → IsText (error_part (slice_get h.errors n))
    text-error n = by (slice_get h.errors n) refl
      where
        by : (o : Option ErrorObject) → slice_get h.errors n ≡ o → IsText (error_part o)
        by (Some e) is =
            let cause : List ℕ = cause_text h text e.cause in
            let detail : List ℕ = detail_part (slice_get h.structures e.detail) in
            let front : List ℕ = codes "error(" ++ quoted e.message in
            text-append (front ++ cause ++ detail) (codes ")")
            (text-append (front ++ cause) detail (text-append front cause (text-append (codes "error(") (quoted e.message) refl (text-quoted e.message (all-at (λ (e : ErrorObject). IsText e.message) h.errors n e valid.messages is))) (text-cause e.cause))
            (text-detail e.detail)) refl
        by None is = refl

  text-inner : (depth : ℕ) (around : List ℕ) (v : Value) → IsValidValue v → IsText (inner_text h depth around v)
  text-inner depth around Nil ok = refl
  text-inner depth around (Truth true) ok = refl
  text-inner depth around (Truth false) ok = refl
  text-inner depth around (Int n) ok = text-int n ok
  text-inner depth around (Str t) ok = text-quoted t ok
  text-inner depth around (Function n) ok = refl
  text-inner depth around (Future strand unit) ok = refl
  text-inner zero around (Struct n) ok = refl
  text-inner (suc depth) around (Struct n) ok = by (list_any (λ m. m == n) around) (text-structure (inner_text h depth (n ∷ around)) (text-inner depth (n ∷ around)) n)
    where
      by : (b : Bool) → IsText (structure_part (inner_text h depth (n ∷ around)) (slice_get h.structures n)) → IsText (if b then codes "..." else structure_part (inner_text h depth (n ∷ around)) (slice_get h.structures n))
      by true k = refl
      by false k = k
  text-inner zero around (Error n) ok = refl
  text-inner (suc depth) around (Error n) ok = text-error (inner_text h depth around) (text-inner depth around) n

  pub text-of : (v : Value) → IsValidValue v → IsText (text_of h v)
  text-of Nil ok = refl
  text-of (Str t) ok = ok
  text-of (Truth b) ok = text-inner (length h.structures + length h.errors) [] (Truth b) ok
  text-of (Int n) ok = text-inner (length h.structures + length h.errors) [] (Int n) ok
  text-of (Struct n) ok = text-inner (length h.structures + length h.errors) [] (Struct n) ok
  text-of (Error n) ok = text-inner (length h.structures + length h.errors) [] (Error n) ok
  text-of (Function n) ok = text-inner (length h.structures + length h.errors) [] (Function n) ok
  text-of (Future strand unit) ok = text-inner (length h.structures + length h.errors) [] (Future strand unit) ok

-- ---- the row

pub to-string : (fillers : ℕ → List Filler) (code : Code) (t : WellTyped code) (place : Surroundings) (c : Common) → Row fillers code t place c ToString
to-string fillers code t place c atom count names operands result vs caller good (long, typed) fit =
    one-fit code c (Answered fillers code t place c ToString atom count caller result) operands vs _ typed fit
    (λ a v (none, has) f. does-call-at fillers code t place c good result ToString atom count caller (v ∷ [])
    (does-text code c good result (text_of c.world.heap v) (text-of c.world.heap good.nearly.heap.valid v f.1.1) has))

pub values-are-printed : ValuesArePrinted
values-are-printed = of-row ToString to-string
