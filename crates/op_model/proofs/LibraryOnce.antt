-- Each call of the library comes to one thing at most.
use Rattle.std.proofs.Common.{◌≡◌, ◌-◌, ℕ, ℤ, pos, List, [], ◌∷◌, Option, Some, None, length, map, reverse, refl, sym, subst, ap, ◌∙◌}
use Rattle.std.specs.Prelude.{get_or, nat_abs}
use Rattle.op_model.specs.Strings.{int_in, part_of}
use Rattle.bal_base.specs.declared.text.Text.{Text}
use Rattle.operations.specs.declared.library.LibraryCall.{LibraryCall}
use Rattle.operations.specs.declared.library.LibraryCall.TheVariants.{Println, Print, Readln, FromString, Abs, ToString, Clone, CloneReadOnly, StringLength, StartsWith, Trim, Substring, ToUpperAscii, ToLowerAscii, ToCodePointInts, ListLength, Push, Pop, RemoveItem, Slice, Reverse, MappingLength, Keys, HasKey, Get, RemoveKey, Message, Cause, Detail}
use Rattle.operations.specs.LibraryNumbers.{number_of}
use Rattle.value_model.specs.declared.value.Value.{Value}
use Rattle.value_model.specs.declared.value.Value.TheVariants.{Nil, Bool as Truth, Int, Str, Struct, Error, Function, Future}
use Rattle.value_model.specs.Heap.{Structure}
use Rattle.value_model.specs.Stands.{OwnTypes}
use Rattle.value_model.specs.World.{World, Came, Gave, Threw, PassesCells}
use Rattle.op_model.specs.Rows.{Unless, Else}
use Rattle.op_model.specs.Stores.{StoresAt, StoresKey}
use Rattle.op_model.specs.Library.{Prints, Reads, ReadsAs, ReadsAfter, ParsesInt, TakesPart, Then, Slices, Pushes, RemovesAt, RemovesKey, LibraryComes, LibraryAnswers}
use Rattle.op_model.specs.Laws.{LibraryAnswersOnce}
use Rattle.op_model.proofs.Once.{IsOne, Else-one, Where-one, Unless-one, Some-one, GivesInt-one, GivesText-one, GivesList-one, ListAt-one, MappingAt-one}

-- ---- calls by their numbers

all_calls : List LibraryCall
all_calls = Println ∷ Print ∷ Readln ∷ FromString ∷ Abs ∷ ToString ∷ Clone ∷ CloneReadOnly ∷ StringLength ∷ StartsWith ∷ Trim ∷ Substring ∷ ToUpperAscii ∷ ToLowerAscii ∷ ToCodePointInts ∷ ListLength ∷ Push ∷ Pop ∷ RemoveItem ∷ Slice ∷ Reverse ∷ MappingLength ∷ Keys ∷ HasKey ∷ Get ∷ RemoveKey ∷ Message ∷ Cause ∷ Detail ∷ []

call-of : (call : LibraryCall) → get_or all_calls (number_of call) Println ≡ call
unfolding all_calls
call-of Println = refl
call-of _ = refl

one-call : (a b : LibraryCall) (n : ℕ) → number_of a ≡ n → number_of b ≡ n → a ≡ b
one-call a b n h k = sym (call-of a) ∙ (ap (λ m. get_or all_calls m Println) (h ∙ sym k) ∙ call-of b)

-- ---- stores

pub StoresAt-one : (own : OwnTypes) (fillers : ℕ → List _) (w : World) (n : ℕ) (s : Structure) (vs : List Value) (place : Option ℕ) (v : Value) → IsOne (StoresAt own fillers w n s vs place v)
StoresAt-one own fillers w n s vs None v = Else-one _
StoresAt-one own fillers w n s vs (Some k) v = Unless-one _ _ _ (Unless-one _ _ _ (Unless-one _ _ _ (Unless-one _ _ _ (Else-one _))))

pub StoresKey-one : (own : OwnTypes) (fillers : ℕ → List _) (w : World) (n : ℕ) (s : Structure) (es : List (Text × Value)) (key : Text) (v : Value) → IsOne (StoresKey own fillers w n s es key v)
StoresKey-one own fillers w n s es key v = Unless-one _ _ _ (Unless-one _ _ _ (Else-one _))

-- ---- single calls

Prints-one : (w : World) (t end : Text) → IsOne (Prints w t end)
Prints-one w t end = Unless-one _ _ _ (Else-one _)

ReadsAs-one : (w : World) (bytes : List ℕ) → IsOne (ReadsAs w bytes)
ReadsAs-one w bytes = Unless-one _ _ _ (GivesText-one _ _)

Reads-one : (w : World) → IsOne (Reads w)
Reads-one w = Where-one _ _ _ (Where-one _ _ _ (ReadsAs-one _ _))

ReadsAfter-one : (w : World) (t : Text) → IsOne (ReadsAfter w t)
ReadsAfter-one w t = Unless-one _ _ _ (Reads-one _)

ParsesInt-one : (w : World) (o : Option ℤ) → IsOne (ParsesInt w o)
ParsesInt-one w (Some n) = Unless-one _ _ _ (Else-one _)
ParsesInt-one w None = Else-one _

TakesPart-one : (w : World) (t : Text) (i j : ℤ) → IsOne (TakesPart w t i j)
TakesPart-one w t i j = Unless-one _ _ _ (Else-one _)

Slices-one : (w : World) (atom : ℕ) (vs : List Value) (i j : ℤ) → IsOne (Slices w atom vs i j)
Slices-one w atom vs i j = Unless-one _ _ _ (GivesList-one w atom (part_of (nat_abs i) (nat_abs j) vs))

Then-one : (behind : World → Came → Type 0) (first : Came) → ((u : World) → IsOne (behind u)) → IsOne (Then behind first)
Then-one behind (Gave vs u) one x y h k = one u x y h k
Then-one behind (Threw e u) one x y h k = h ∙ sym k
Then-one behind PassesCells one x y h k = h ∙ sym k

module _ (own : OwnTypes) where
  Pushes-one : (n : ℕ) (vs : List Value) (w : World) → IsOne (Pushes own n vs w)
  Pushes-one n [] w x y h k = h ∙ sym k
  Pushes-one n (v ∷ vs) w x y (first, p, q) (second, r, t) =
      let e : second ≡ first = ListAt-one w n (λ s items. StoresAt own (λ _. []) w n s items (Some (length items)) v) (λ s items. StoresAt-one own (λ _. []) w n s items (Some (length items)) v) second first r p in
      Then-one (Pushes own n vs) first (λ u. Pushes-one n vs u) x y q (let P : Came → Type 0 = λ z. Then (Pushes own n vs) z y in subst P e t)

  RemovesAt-one : (w : World) (n : ℕ) (s : Structure) (vs : List Value) (place : Option ℕ) → IsOne (RemovesAt own w n s vs place)
  RemovesAt-one w n s vs None = Else-one _
  RemovesAt-one w n s vs (Some k) = Unless-one _ _ _ (Unless-one _ _ _ (Unless-one _ _ _ (Else-one _)))

  RemovesKey-one : (w : World) (n : ℕ) (s : Structure) (es : List (Text × Value)) (key : Text) (held : Option Value) → IsOne (RemovesKey own w n s es key held)
  RemovesKey-one w n s es key None = Else-one _
  RemovesKey-one w n s es key (Some v) = Unless-one _ _ _ (Unless-one _ _ _ (Else-one _))

  comes-one : (call : LibraryCall) (atom : ℕ) (args : List Value) (w : World) → IsOne (LibraryComes own call atom args w)
  comes-one Println atom args w x y h k = Prints-one _ _ _ x y h k
  comes-one Print atom args w x y h k = Prints-one _ _ _ x y h k
  comes-one Readln atom [] w x y h k = Reads-one w x y h k
  comes-one Readln atom (p ∷ []) w x y h k = ReadsAfter-one _ _ x y h k
  comes-one FromString atom (Str t ∷ []) w x y h k = ParsesInt-one w (int_in t) x y h k
  comes-one Abs atom (Int n ∷ []) w x y h k = GivesInt-one _ _ x y h k
  comes-one ToString atom (v ∷ []) w x y h k = GivesText-one _ _ x y h k
  comes-one Clone atom (v ∷ []) w x y h k = h ∙ sym k
  comes-one CloneReadOnly atom (v ∷ []) w x y h k = h ∙ sym k
  comes-one StringLength atom (Str t ∷ []) w x y h k = GivesInt-one _ _ x y h k
  comes-one StartsWith atom (Str s ∷ Str t ∷ []) w x y h k = h ∙ sym k
  comes-one Trim atom (Str t ∷ []) w x y h k = h ∙ sym k
  comes-one Substring atom (Str t ∷ Int i ∷ []) w x y h k = TakesPart-one _ _ _ _ x y h k
  comes-one Substring atom (Str t ∷ Int i ∷ Int j ∷ []) w x y h k = TakesPart-one _ _ _ _ x y h k
  comes-one ToUpperAscii atom (Str t ∷ []) w x y h k = h ∙ sym k
  comes-one ToLowerAscii atom (Str t ∷ []) w x y h k = h ∙ sym k
  comes-one ToCodePointInts atom (Str t ∷ []) w x y h k = GivesList-one w atom (map (λ c. Int (pos c)) t) x y h k
  comes-one ListLength atom (Struct n ∷ []) w x y h k = ListAt-one w n (λ s vs. Else _) (λ s vs. Else-one _) x y h k
  comes-one Push atom (Struct n ∷ vs) w x y h k = Pushes-one n vs w x y h k
  comes-one Pop atom (Struct n ∷ []) w x y h k = ListAt-one w n (λ s vs. RemovesAt own w n s vs _) (λ s vs. RemovesAt-one w n s vs _) x y h k
  comes-one RemoveItem atom (Struct n ∷ Int i ∷ []) w x y h k = ListAt-one w n (λ s vs. RemovesAt own w n s vs _) (λ s vs. RemovesAt-one w n s vs _) x y h k
  comes-one Slice atom (Struct n ∷ Int i ∷ []) w x y h k = ListAt-one w n (λ s vs. Slices w atom vs i _) (λ s vs. Slices-one w atom vs i _) x y h k
  comes-one Slice atom (Struct n ∷ Int i ∷ Int j ∷ []) w x y h k = ListAt-one w n (λ s vs. Slices w atom vs i j) (λ s vs. Slices-one w atom vs i j) x y h k
  comes-one Reverse atom (Struct n ∷ []) w x y h k = ListAt-one w n _ (λ s vs. GivesList-one w atom (reverse vs)) x y h k
  comes-one MappingLength atom (Struct n ∷ []) w x y h k = MappingAt-one w n (λ s es. Else _) (λ s es. Else-one _) x y h k
  comes-one Keys atom (Struct n ∷ []) w x y h k = MappingAt-one w n _ (λ s es. GivesList-one w atom (map (λ e. Str e.0) es)) x y h k
  comes-one HasKey atom (Struct n ∷ Str key ∷ []) w x y h k = MappingAt-one w n (λ s es. Else _) (λ s es. Else-one _) x y h k
  comes-one Get atom (Struct n ∷ Str key ∷ []) w x y h k = MappingAt-one w n (λ s es. Else _) (λ s es. Else-one _) x y h k
  comes-one RemoveKey atom (Struct n ∷ Str key ∷ []) w x y h k = MappingAt-one w n (λ s es. RemovesKey own w n s es key _) (λ s es. RemovesKey-one w n s es key _) x y h k
  comes-one Message atom (Error n ∷ []) w x y h k = Some-one _ (λ e. Else _) (λ e. Else-one _) x y h k
  comes-one Cause atom (Error n ∷ []) w x y h k = Some-one _ (λ e. Else _) (λ e. Else-one _) x y h k
  comes-one Detail atom (Error n ∷ []) w x y h k = Some-one _ (λ e. Else _) (λ e. Else-one _) x y h k
  comes-one call atom args w x y h k = absurd h

pub library-one : LibraryAnswersOnce
library-one own op atom args w x y (a, m, p) (b, n, q) =
    let P : LibraryCall → Type 0 = λ call. LibraryComes own call atom args w y in comes-one own a atom args w x y p (subst P (one-call b a op n m) q)
