-- Calls of the library: what comes of them is typed, and something comes.
use Rattle.std.proofs.Common.{◌≡◌, ◌<◌, ◌^◌, ◌∙◌, ◌++◌, ℕ, ℤ, pos, List, [], ◌∷◌, Option, Some, None, inl, inr, length, map, refl, sym, ap, subst, arith}
use Rattle.std.proofs.lemmas.Int.{ints}
use Rattle.std.specs.Prelude.{◌≤◌, ◌⊎◌, IfSome, IsSomeAnd, get_or, is_some, nat_abs, take, unsigned_abs}
use Rattle.bal_base.specs.declared.text.Text.{Text}
use Rattle.bal_base.specs.Valid.{IsInt, IsText}
use Rattle.type_model.specs.declared.basic.SemType.{SemType}
use Rattle.type_model.specs.Places.{is_same_text}
use Rattle.operations.specs.declared.library.LibraryCall.{LibraryCall}
use Rattle.operations.specs.declared.library.LibraryCall.TheVariants.{Println, Print, Readln, FromString, Abs, ToString, Clone, CloneReadOnly, StringLength, StartsWith, Trim, Substring, ToUpperAscii, ToLowerAscii, ToCodePointInts, ListLength, Push, Pop, RemoveItem, Slice, Reverse, MappingLength, Keys, HasKey, Get, RemoveKey, Message, Cause, Detail}
use Rattle.operations.specs.declared.operation.Constant.TheVariants.{Nil as NilConstant}
use Rattle.operations.specs.declared.operation.Operation.TheVariants as op
use Rattle.operations.specs.Kinds.{IsError, IsNil, IsString}
use Rattle.operations.specs.LibraryNumbers.{number_of}
use Rattle.operations.specs.LibraryTyping.{LibraryTyped}
use Rattle.operations.specs.Rows.{IsWithin, One, ResultHas, Surroundings}
use Rattle.value_model.specs.declared.filler.Filler.{Filler}
use Rattle.value_model.specs.declared.panics.PanicName.TheVariants.{IndexOutOfRange, TooLong}
use Rattle.value_model.specs.declared.value.Value.{Value}
use Rattle.value_model.specs.declared.value.Value.TheVariants.{Nil, Bool as Truth, Int, Str, Struct, Error}
use Rattle.value_model.specs.Heap.{ErrorObject, entry_at}
use Rattle.op_model.specs.Common.{Caller, Common}
use Rattle.op_model.specs.ProgramFacts.{own_types}
use Rattle.op_model.specs.Library.{LibraryAnswers, cause_value, LibraryComes, Prints, TakesPart, texts_of, written}
use Rattle.op_model.specs.Limits.{most_code_points}
use Rattle.op_model.specs.Performs.{Performs, atom_number}
use Rattle.op_model.specs.Rows.{Else, gives, panics, size_of}
use Rattle.op_model.specs.Strings.{AreBounds, lower_ascii, part_of, trimmed, upper_ascii}
use Rattle.op_model.specs.Texts.{text_of}
use Rattle.machine_model.specs.Runs.{Running}
use Rattle.stack_code.specs.declared.code.Code.{Code}
use Rattle.stack_code.specs.CodeMachine.{code_facts}
use Rattle.stack_code.specs.Good.{GoodCommon}
use Rattle.stack_code.specs.Places.{surroundings}
use Rattle.stack_code.specs.Values.{Fits}
use Rattle.stack_code.specs.WellTyped.{WellTyped}
use Rattle.code_keeping.specs.Kinds.{Errors, Ints, Lists, Mappings, Strings}
use Rattle.code_keeping.proofs.Coming.{AllCome, Does, IsTyped, RowHolds, boolean-typed, does-else, does-unless, gives-typed, on-world, panics-typed}
use Rattle.code_keeping.proofs.Done.{row-done-at, takes-all}
use Rattle.code_keeping.proofs.Itself.{its-shape}
use Rattle.code_keeping.proofs.Landing.{error-shape}
use Rattle.code_keeping.proofs.Lists.{all-at, there}
use Rattle.code_keeping.proofs.OfKind.{of-kind}
use Rattle.code_keeping.proofs.Operands.{a-string, an-error, an-int, errors, integers, lists, mappings, none-fit, one-fit, strings, three-fit, two-fit}
use Rattle.code_keeping.proofs.Valuing.{does-int, int-typed, text-typed}
use Rattle.code_keeping_heap.proofs.Keyed.{at-mapping}
use Rattle.code_keeping_heap.proofs.Mapped.{a-mapping}
use Rattle.code_keeping_heap.proofs.Reading.{a-list, at-list}
use Rattle.code_keeping_library.specs.Laws.{CallIsDone, InputIsDone, MeasuresAreDone, OutputIsDone, TextCallsAreDone, TextsAreMade}
use Rattle.code_keeping_library.proofs.Texts.{text-lower, text-part, text-trimmed, text-upper}
use Rattle.code_keeping_library.proofs.Written.{does-ask, does-read, written-typed}

-- ---- calls by their numbers

all_calls : List LibraryCall
all_calls = Println ∷ Print ∷ Readln ∷ FromString ∷ Abs ∷ ToString ∷ Clone ∷ CloneReadOnly ∷ StringLength ∷ StartsWith ∷ Trim ∷ Substring ∷ ToUpperAscii ∷ ToLowerAscii ∷ ToCodePointInts ∷ ListLength ∷ Push ∷ Pop ∷ RemoveItem ∷ Slice ∷ Reverse ∷ MappingLength ∷ Keys ∷ HasKey ∷ Get ∷ RemoveKey ∷ Message ∷ Cause ∷ Detail ∷ []

call-of : (call : LibraryCall) → get_or all_calls (number_of call) Println ≡ call
unfolding all_calls
call-of Println = refl
call-of _ = refl

pub one-call : (a b : LibraryCall) → number_of a ≡ number_of b → a ≡ b
one-call a b h = sym (call-of a) ∙ (ap (λ m. get_or all_calls m Println) h ∙ call-of b)

-- as many members as there may be are an int
length-int : (n : ℕ) → n < 2 ^ 63 → IsInt (pos n)
length-int n lt = (omega (arith, ints, lt), omega (arith, ints, lt))

module _ (fillers : ℕ → List Filler) (code : Code) (t : WellTyped code) (place : Surroundings) (c : Common) where
  abbrev Row : LibraryCall → Type 0
  Row call = (atom : Option ℕ) (count : ℕ) → RowHolds code fillers LibraryAnswers c place (op.Library call atom count)

  abbrev pub Answered : LibraryCall → Option ℕ → ℕ → Caller → Option SemType → List Value → Type 0
  Answered call atom count caller result vs = AllCome code c result (Performs (code_facts fillers code) LibraryAnswers (op.Library call atom count) vs caller c)

  -- a call comes to what its row says alone
  module _ (good : GoodCommon code c Running) (result : Option SemType) (call : LibraryCall) (atom : Option ℕ) (count : ℕ) (caller : Caller) (vs : List Value) where
    does-call : ((a : ℕ) → Does code c good result (LibraryComes (own_types (code_facts fillers code)) call a vs c.world)) → Answered call atom count caller result vs
    does-call h = on-world code c good result (LibraryAnswers (own_types (code_facts fillers code)) (number_of call) _ vs) (
      (λ came (other, same, comes). (h _).0 came (subst (λ x. LibraryComes (own_types (code_facts fillers code)) x _ vs c.world came) (one-call other call same) comes)),
      (λ none. (h _).1 (λ came comes. none came (call, refl, comes))),
    )

  -- where the list's atom counts
  pub does-call-at : (good : GoodCommon code c Running) (result : Option SemType) (call : LibraryCall) (atom : Option ℕ) (count : ℕ) (caller : Caller) (vs : List Value) →
      Does code c good result (LibraryComes (own_types (code_facts fillers code)) call (atom_number atom) vs c.world) → Answered call atom count caller result vs
  does-call-at good result call atom count caller vs h = on-world code c good result (LibraryAnswers (own_types (code_facts fillers code)) (number_of call) (atom_number atom) vs) (
    (λ came (other, same, comes). h.0 came (subst (λ x. LibraryComes (own_types (code_facts fillers code)) x (atom_number atom) vs c.world came) (one-call other call same) comes)),
    (λ none. h.1 (λ came comes. none came (call, refl, comes))),
  )

  -- ---- output

  prints : (good : GoodCommon code c Running) (result : Option SemType) (s end : Text) → ResultHas code.atoms result IsNil → Does code c good result (Prints c.world s end)
  prints good result s end has =
      does-unless code c good result (length s ≤ most_code_points) (panics c.world TooLong) (Else (gives (written c.world (s ++ end)) Nil)) (panics-typed code c good result TooLong refl)
      (λ short. does-else code c good result (gives (written c.world (s ++ end)) Nil) (written-typed code c good (s ++ end) result has))

  pub println : Row Println
  println atom count operands result vs caller good (long, (none, has)) fit = does-call good result Println atom count caller vs (λ a. prints good result (texts_of c.world vs) (10 ∷ []) has)

  pub print : Row Print
  print atom count operands result vs caller good (long, (none, has)) fit = does-call good result Print atom count caller vs (λ a. prints good result (texts_of c.world vs) [] has)

  -- ---- input

  pub readln : Row Readln
  readln atom count operands result vs caller good (long, (inl typed, (none, has))) fit =
      none-fit code c (Answered Readln atom count caller result) operands vs typed fit (does-call good result Readln atom count caller [] (λ a. does-read code c good result has))
  readln atom count operands result vs caller good (long, (inr typed, (none, has))) fit =
      one-fit code c (Answered Readln atom count caller result) operands vs _ typed fit
      (λ a v h f. does-call good result Readln atom count caller (v ∷ []) (λ a. does-ask code c good result (text_of c.world.heap v) has))

  -- ---- ints and strings

  pub abs : Row Abs
  abs atom count operands result vs caller good (long, typed) fit =
      one-fit code c (Answered Abs atom count caller result) operands vs _ typed fit
      (λ a v (within, (none, has)) f. an-int c.world.heap (λ z. Answered Abs atom count caller result (z ∷ [])) v (of-kind code t c good.nearly.heap (λ k. k ≡ Ints) v a f (λ x h. integers x (within x h)))
      (λ n. does-call good result Abs atom count caller (Int n ∷ []) (λ a. does-int code c good result (pos (unsigned_abs n)) has)))

  pub string-length : Row StringLength
  string-length atom count operands result vs caller good (long, typed) fit =
      one-fit code c (Answered StringLength atom count caller result) operands vs _ typed fit
      (λ a v (within, (none, has)) f. a-string c.world.heap (λ z. Answered StringLength atom count caller result (z ∷ [])) v (of-kind code t c good.nearly.heap (λ k. k ≡ Strings) v a f (λ x h. strings x (within x h)))
      (λ s. does-call good result StringLength atom count caller (Str s ∷ []) (λ a. does-int code c good result (pos (length s)) has)))

  pub starts-with : Row StartsWith
  starts-with atom count operands result vs caller good (long, typed) fit =
      two-fit code c (Answered StartsWith atom count caller result) operands vs _ typed fit
      (λ a b v w (first, second, (none, has)) f g.
      a-string c.world.heap (λ z. Answered StartsWith atom count caller result (z ∷ w ∷ [])) v (of-kind code t c good.nearly.heap (λ k. k ≡ Strings) v a f (λ x h. strings x (first x h)))
      (λ s. a-string c.world.heap (λ z. Answered StartsWith atom count caller result (Str s ∷ z ∷ [])) w (of-kind code t c good.nearly.heap (λ k. k ≡ Strings) w b g (λ x h. strings x (second x h)))
      (λ u. does-call good result StartsWith atom count caller (Str s ∷ Str u ∷ []) (λ a. does-else code c good result (gives c.world (Truth (is_same_text (take (length u) s) u))) (boolean-typed code c good result (is_same_text (take (length u) s) u) has)))))

  -- a string of one
  of-text : (call : LibraryCall) (f : Text → Text) → ((s : Text) → IsText s → IsText (f s)) →
      ((a : ℕ) (s : Text) → LibraryComes (own_types (code_facts fillers code)) call a (Str s ∷ []) c.world ≡ Else (gives c.world (Str (f s)))) →
      ((atom : Option ℕ) (operands : List SemType) (result : Option SemType) → LibraryTyped code.atoms call atom operands result → One operands (λ a. IsWithin code.atoms IsString a × ((atom ≡ None) × ResultHas code.atoms result IsString))) → Row call
  of-text call f ok comes row atom count operands result vs caller good (long, typed) fit =
      one-fit code c (Answered call atom count caller result) operands vs _ (row atom operands result typed) fit
      (λ a v (within, (none, has)) g. a-string c.world.heap (λ z. Fits code c z a → Answered call atom count caller result (z ∷ [])) v (of-kind code t c good.nearly.heap (λ k. k ≡ Strings) v a g (λ x h. strings x (within x h)))
      (λ s gs. does-call good result call atom count caller (Str s ∷ []) (λ a. subst (λ Q. Does code c good result Q) (sym (comes a s))
      (does-else code c good result (gives c.world (Str (f s))) (text-typed code c good result (f s) (ok s gs.1.1) has)))) g)

  pub trim : Row Trim
  trim = of-text Trim trimmed text-trimmed (λ a s. refl) (λ atom os r h. h)

  pub to-upper : Row ToUpperAscii
  to-upper = of-text ToUpperAscii (λ s. map upper_ascii s) text-upper (λ a s. refl) (λ atom os r h. h)

  pub to-lower : Row ToLowerAscii
  to-lower = of-text ToLowerAscii (λ s. map lower_ascii s) text-lower (λ a s. refl) (λ atom os r h. h)

  -- a part of a string
  does-part : (good : GoodCommon code c Running) (result : Option SemType) (s : Text) (i j : ℤ) → IsText s → ResultHas code.atoms result IsString → Does code c good result (TakesPart c.world s i j)
  does-part good result s i j text has =
      does-unless code c good result (AreBounds i j (length s)) (panics c.world IndexOutOfRange) (Else (gives c.world (Str (part_of (nat_abs i) (nat_abs j) s)))) (panics-typed code c good result IndexOutOfRange refl)
      (λ bounds. does-else code c good result (gives c.world (Str (part_of (nat_abs i) (nat_abs j) s))) (text-typed code c good result (part_of (nat_abs i) (nat_abs j) s) (text-part (nat_abs i) (nat_abs j) s text) has))

  pub substring : Row Substring
  substring atom count operands result vs caller good (long, (inl typed, (none, has))) fit =
      two-fit code c (Answered Substring atom count caller result) operands vs _ typed fit
      (λ a b v w (first, second) f g.
      a-string c.world.heap (λ z. Fits code c z a → Answered Substring atom count caller result (z ∷ w ∷ [])) v (of-kind code t c good.nearly.heap (λ k. k ≡ Strings) v a f (λ x h. strings x (first x h)))
      (λ s fs. an-int c.world.heap (λ z. Answered Substring atom count caller result (Str s ∷ z ∷ [])) w (of-kind code t c good.nearly.heap (λ k. k ≡ Ints) w b g (λ x h. integers x (second x h)))
      (λ i. does-call good result Substring atom count caller (Str s ∷ Int i ∷ []) (λ a. does-part good result s i (pos (length s)) fs.1.1 has))) f)
  substring atom count operands result vs caller good (long, (inr typed, (none, has))) fit =
      three-fit code c (Answered Substring atom count caller result) operands vs _ typed fit
      (λ a b d v w y (first, second, third) f g k.
      a-string c.world.heap (λ z. Fits code c z a → Answered Substring atom count caller result (z ∷ w ∷ y ∷ [])) v (of-kind code t c good.nearly.heap (λ k. k ≡ Strings) v a f (λ x h. strings x (first x h)))
      (λ s fs. an-int c.world.heap (λ z. Answered Substring atom count caller result (Str s ∷ z ∷ y ∷ [])) w (of-kind code t c good.nearly.heap (λ k. k ≡ Ints) w b g (λ x h. integers x (second x h)))
      (λ i. an-int c.world.heap (λ z. Answered Substring atom count caller result (Str s ∷ Int i ∷ z ∷ [])) y (of-kind code t c good.nearly.heap (λ k. k ≡ Ints) y d k (λ x h. integers x (third x h)))
      (λ j. does-call good result Substring atom count caller (Str s ∷ Int i ∷ Int j ∷ []) (λ a. does-part good result s i j fs.1.1 has)))) f)

  -- ---- structures

  pub list-length : Row ListLength
  list-length atom count operands result vs caller good (long, typed) fit =
      one-fit code c (Answered ListLength atom count caller result) operands vs _ typed fit
      (λ a v (within, (none, has)) f. a-list c.world.heap (λ z. Answered ListLength atom count caller result (z ∷ [])) v (of-kind code t c good.nearly.heap (λ k. k ≡ Lists) v a f (λ x h. lists x (within x h)))
      (λ n s items e is. does-call good result ListLength atom count caller (Struct n ∷ []) (λ a.
      at-list code t c good result n s items e is (λ s vs came. came ≡ gives c.world (Int (pos (length vs))))
      (does-else code c good result (gives c.world (Int (pos (length items))))
      (int-typed code c good result (pos (length items)) (length-int (length items) (subst (λ m. size_of m < 2 ^ 63) is (all-at (λ s. size_of s.members < 2 ^ 63) c.world.heap.structures n s good.nearly.heap.short e))) has)))))

  pub mapping-length : Row MappingLength
  mapping-length atom count operands result vs caller good (long, typed) fit =
      one-fit code c (Answered MappingLength atom count caller result) operands vs _ typed fit
      (λ a v (within, (none, has)) f. a-mapping c.world.heap (λ z. Answered MappingLength atom count caller result (z ∷ [])) v (of-kind code t c good.nearly.heap (λ k. k ≡ Mappings) v a f (λ x h. mappings x (within x h)))
      (λ n s es e is. does-call good result MappingLength atom count caller (Struct n ∷ []) (λ a.
      at-mapping code t c good result n s es e is (λ s es came. came ≡ gives c.world (Int (pos (length es))))
      (does-else code c good result (gives c.world (Int (pos (length es))))
      (int-typed code c good result (pos (length es)) (length-int (length es) (subst (λ m. size_of m < 2 ^ 63) is (all-at (λ s. size_of s.members < 2 ^ 63) c.world.heap.structures n s good.nearly.heap.short e))) has)))))

  pub has-key : Row HasKey
  has-key atom count operands result vs caller good (long, typed) fit =
      two-fit code c (Answered HasKey atom count caller result) operands vs _ typed fit
      (λ a b v w (first, second, (none, has)) f g.
      a-mapping c.world.heap (λ z. Answered HasKey atom count caller result (z ∷ w ∷ [])) v (of-kind code t c good.nearly.heap (λ k. k ≡ Mappings) v a f (λ x h. mappings x (first x h)))
      (λ n s es e is. a-string c.world.heap (λ z. Answered HasKey atom count caller result (Struct n ∷ z ∷ [])) w (of-kind code t c good.nearly.heap (λ k. k ≡ Strings) w b g (λ x h. strings x (second x h)))
      (λ key. does-call good result HasKey atom count caller (Struct n ∷ Str key ∷ []) (λ a.
      at-mapping code t c good result n s es e is (λ s es came. came ≡ gives c.world (Truth (is_some (entry_at es key))))
      (does-else code c good result (gives c.world (Truth (is_some (entry_at es key)))) (boolean-typed code c good result (is_some (entry_at es key)) has))))))

  -- ---- errors

  pub message : Row Message
  message atom count operands result vs caller good (long, typed) fit =
      one-fit code c (Answered Message atom count caller result) operands vs _ typed fit
      (λ a v (within, (none, has)) f. an-error c.world.heap (λ z. Fits code c z a → Answered Message atom count caller result (z ∷ [])) v (of-kind code t c good.nearly.heap (λ k. k ≡ Errors) v a f (λ x h. errors x (within x h)))
      (λ n fn. does-call good result Message atom count caller (Error n ∷ []) (λ a.
      let (x, e) = there c.world.heap.errors n fn.1.0 in
      subst (λ o. Does code c good result (λ came. IsSomeAnd o (λ (e : ErrorObject). came ≡ gives c.world (Str e.message)))) (sym e)
      (does-else code c good result (gives c.world (Str x.message)) (text-typed code c good result x.message (all-at (λ (y : ErrorObject). IsText y.message) c.world.heap.errors n x good.nearly.heap.valid.messages e) has)))) f)

  cause-typed : (good : GoodCommon code c Running) (result : Option SemType) (o : Option ℕ) → IfSome o (λ n. n < length c.world.heap.errors) → ResultHas code.atoms result (λ x. IsNil x ⊎ IsError x) → IsTyped code c good result (gives c.world (cause_value o))
  cause-typed good result None h has = gives-typed code c good result Nil (λ x. IsNil x ⊎ IsError x) has (tt, tt, tt) (λ x valid s. inl (its-shape code c NilConstant x s))
  cause-typed good result (Some n) h has = gives-typed code c good result (Error n) (λ x. IsNil x ⊎ IsError x) has (h, tt, tt) (λ x valid s. inr (error-shape c.world.heap code.atoms n x s))

  pub cause : Row Cause
  cause atom count operands result vs caller good (long, typed) fit =
      one-fit code c (Answered Cause atom count caller result) operands vs _ typed fit
      (λ a v (within, (none, has)) f. an-error c.world.heap (λ z. Fits code c z a → Answered Cause atom count caller result (z ∷ [])) v (of-kind code t c good.nearly.heap (λ k. k ≡ Errors) v a f (λ x h. errors x (within x h)))
      (λ n fn. does-call good result Cause atom count caller (Error n ∷ []) (λ a.
      let (x, e) = there c.world.heap.errors n fn.1.0 in
      subst (λ o. Does code c good result (λ came. IsSomeAnd o (λ (e : ErrorObject). came ≡ gives c.world (cause_value e.cause)))) (sym e)
      (does-else code c good result (gives c.world (cause_value x.cause)) (cause-typed good result x.cause (all-at (λ (y : ErrorObject). IfSome y.cause (λ n. n < length c.world.heap.errors)) c.world.heap.errors n x good.nearly.heap.closed.causes e) has)))) f)

-- a row, wherever the call stands
of-row : (call : LibraryCall) → ((fillers : ℕ → List Filler) (code : Code) (t : WellTyped code) (place : Surroundings) (c : Common) → Row fillers code t place c call) → CallIsDone call
of-row call row fillers atom count code c t =
    row-done-at LibraryAnswers fillers code c t (op.Library call atom count) refl (λ h. h) (takes-all count (op.Library call atom count) (λ captured l. refl) (λ code place os r h. h.0))
    (λ u station names. row fillers code t (surroundings code u station) c atom count)

pub output-is-done : OutputIsDone
output-is-done = (of-row Println println, of-row Print print)

pub measures-are-done : MeasuresAreDone
measures-are-done = (of-row ListLength list-length, of-row MappingLength mapping-length, of-row HasKey has-key)

pub text-calls-are-done : TextCallsAreDone
text-calls-are-done = (of-row Abs abs, of-row StartsWith starts-with, of-row Message message, of-row Cause cause, of-row StringLength string-length)

pub input-is-done : InputIsDone
input-is-done = of-row Readln readln

pub texts-are-made : TextsAreMade
texts-are-made = (of-row Trim trim, of-row ToUpperAscii to-upper, of-row ToLowerAscii to-lower, of-row Substring substring)
