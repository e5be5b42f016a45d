-- No call of the library takes back what was written.
use Rattle.std.proofs.Common.{◌++◌, ℕ, ℤ, pos, List, [], ◌∷◌, Option, Some, None, length, map, reverse, drop, sym, subst}
use Rattle.std.specs.Prelude.{Bool, chars, encode_utf8_all, is_some, nat_abs, remove, slice_get, unsigned_abs}
use Rattle.std.specs.List.{after_first}
use Rattle.bal_base.specs.declared.text.Text.{Text}
use Rattle.bal_io.specs.Content.{IsPrefixOf, is_line_feed, line_text}
use Rattle.operations.specs.declared.library.LibraryCall.{LibraryCall}
use Rattle.operations.specs.declared.library.LibraryCall.TheVariants.{Println, Print, Readln, FromString, Abs, ToString, Clone, CloneReadOnly, StringLength, StartsWith, Trim, Substring, ToUpperAscii, ToLowerAscii, ToCodePointInts, ListLength, Push, Pop, RemoveItem, Slice, Reverse, MappingLength, Keys, HasKey, Get, RemoveKey, Message, Cause, Detail}
use Rattle.value_model.specs.declared.panics.PanicName.TheVariants.{BadInput, CyclicValue, IndexOutOfRange, InherentTypeViolation, KeyNotFound, TooLong}
use Rattle.value_model.specs.declared.value.Value.{Value}
use Rattle.value_model.specs.declared.value.Value.TheVariants.{Bool as Truth, Error, Int, Nil, Str, Struct}
use Rattle.value_model.specs.Heap.{Entries, Items, Structure, entry_at}
use Rattle.value_model.specs.PanicName.{number_parsing_error}
use Rattle.value_model.specs.Stands.{OwnTypes}
use Rattle.value_model.specs.World.{Came, Gave, PassesCells, Threw, World}
use Rattle.op_model.specs.Copies.{copy_of, freezes, has_cycle, reached_from, with_copies}
use Rattle.op_model.specs.Library.{LibraryAnswers, LibraryComes, ParsesInt, Prints, Pushes, Reads, ReadsAfter, ReadsAs, RemovesAt, RemovesKey, Slices, TakesPart, Then, last_place, texts_of, with_input, written}
use Rattle.op_model.specs.Limits.{most_line_bytes}
use Rattle.op_model.specs.Rows.{Else, GivesList, found, gives, gives_error, panics, place_of, within}
use Rattle.op_model.specs.Stores.{StoresAt, remove_entry, stored}
use Rattle.op_model.specs.Strings.{int_in, part_of}
use Rattle.op_model.specs.Texts.{text_of}
use Rattle.machine_model.proofs.Shapes.{in-if, in-some}
use Rattle.output_growth.specs.Growth.{AnswersGrow, CameBegins}
use Rattle.output_growth.proofs.Rows.{Begins, all-of, else-begins, error-begins, found-begins, given-begins, int-begins, list-begins, mapping-begins, new-list-begins, panic-begins, stores-begin, text-begins, unless-begins, where-begins, with-more, within-begins}

module _ (o : List ℕ) where
  then-begins : (behind : World → Came → Type 0) (first : Came) → CameBegins o first → ((u : World) → IsPrefixOf o u.output → Begins o (behind u)) → Begins o (Then behind first)
  then-begins behind (Gave vs u) h more came k = more u h came k
  then-begins behind (Threw e u) h more came k = subst (CameBegins o) (sym k) h
  then-begins behind PassesCells h more came k = subst (CameBegins o) (sym k) h

  module _ (w : World) (h : IsPrefixOf o w.output) where
    prints-begin : (t end : Text) → Begins o (Prints w t end)
    prints-begin t end =
        unless-begins o _ _ _ (panic-begins o w h TooLong) (else-begins o (gives (written w (t ++ end)) Nil) (with-more o w.output (encode_utf8_all (t ++ end)) h))

    reads-as-begins : (bytes : List ℕ) → Begins o (ReadsAs w bytes)
    reads-as-begins bytes = unless-begins o _ _ _ (panic-begins o w h BadInput) (text-begins o w h (chars bytes))

    parses-begin : (n : Option ℤ) → Begins o (ParsesInt w n)
    parses-begin (Some n) = unless-begins o _ _ _ (error-begins o w h number_parsing_error) (given-begins o w h (Int n))
    parses-begin None = else-begins o (gives_error w number_parsing_error) (error-begins o w h number_parsing_error)

    part-begins : (t : Text) (i j : ℤ) → Begins o (TakesPart w t i j)
    part-begins t i j = unless-begins o _ _ _ (panic-begins o w h IndexOutOfRange) (given-begins o w h (Str (part_of (nat_abs i) (nat_abs j) t)))

    slices-begin : (atom : ℕ) (vs : List Value) (i j : ℤ) → Begins o (Slices w atom vs i j)
    slices-begin atom vs i j = unless-begins o _ _ _ (panic-begins o w h IndexOutOfRange) (new-list-begins o w h atom (part_of (nat_abs i) (nat_abs j) vs))

    removes-begin : (own : OwnTypes) (n : ℕ) (s : Structure) (vs : List Value) (place : Option ℕ) → Begins o (RemovesAt own w n s vs place)
    removes-begin own n s vs None = else-begins o (panics w IndexOutOfRange) (panic-begins o w h IndexOutOfRange)
    removes-begin own n s vs (Some k) =
        let left = stored w n s (Items (remove vs k)) [] in
        unless-begins o _ _ _ (panic-begins o w h IndexOutOfRange) (unless-begins o _ _ _ (panic-begins o w h InherentTypeViolation) (unless-begins o _ _ _ (panic-begins o w h InherentTypeViolation)
        (else-begins o (found left IndexOutOfRange (slice_get vs k)) (found-begins o left h IndexOutOfRange (slice_get vs k)))))

    key-removes-begin : (own : OwnTypes) (n : ℕ) (s : Structure) (es : List (Text × Value)) (key : Text) (held : Option Value) → Begins o (RemovesKey own w n s es key held)
    key-removes-begin own n s es key None = else-begins o (panics w KeyNotFound) (panic-begins o w h KeyNotFound)
    key-removes-begin own n s es key (Some v) =
        let left = stored w n s (Entries (remove_entry es key)) [] in
        unless-begins o _ _ _ (panic-begins o w h InherentTypeViolation) (unless-begins o _ _ _ (panic-begins o w h InherentTypeViolation) (given-begins o left h v))

    freezes-begin : (v : Value) → CameBegins o (freezes w v)
    freezes-begin v =
        let copied = gives (with_copies Bool.false w v) (copy_of w v) in
        in-if (has_cycle w.heap (reached_from w v)) (CameBegins o) (panics w CyclicValue) (within copied) (λ b. panic-begins o w h CyclicValue) (λ b. within-begins o copied h)

  reads-begin : (w : World) → IsPrefixOf o w.output → Begins o (Reads w)
  reads-begin w h =
      let cut = with_input w (drop most_line_bytes w.input) in
      let rest = with_input w (after_first is_line_feed w.input) in
      where-begins o _ (gives w (Str [])) _ h (where-begins o _ (panics cut TooLong) _ (panic-begins o cut h TooLong) (reads-as-begins rest h (line_text w.input)))

  reads-after-begin : (w : World) → IsPrefixOf o w.output → (t : Text) → Begins o (ReadsAfter w t)
  reads-after-begin w h t = unless-begins o _ _ _ (panic-begins o w h TooLong) (reads-begin (written w t) (with-more o w.output (encode_utf8_all t) h))

  pushes-begin : (own : OwnTypes) (n : ℕ) (vs : List Value) (w : World) → IsPrefixOf o w.output → Begins o (Pushes own n vs w)
  pushes-begin own n [] w h came k = subst (CameBegins o) (sym k) h
  pushes-begin own n (v ∷ vs) w h came (first, p, q) =
      then-begins (Pushes own n vs) first
      (list-begins o w n (λ s items. StoresAt own (λ _. []) w n s items (Some (length items)) v) (λ s items. stores-begin o w h own (λ _. []) n s items (Some (length items)) v) first p)
      (λ u k. pushes-begin own n vs u k) came q

module _ (own : OwnTypes) where
  comes-begins : (call : LibraryCall) (atom : ℕ) (args : List Value) (w : World) → Begins w.output (LibraryComes own call atom args w)
  comes-begins Println atom args w x k = prints-begin w.output w (all-of w.output) (texts_of w args) (10 ∷ []) x k
  comes-begins Print atom args w x k = prints-begin w.output w (all-of w.output) (texts_of w args) [] x k
  comes-begins Readln atom [] w x k = reads-begin w.output w (all-of w.output) x k
  comes-begins Readln atom (p ∷ []) w x k = reads-after-begin w.output w (all-of w.output) (text_of w.heap p) x k
  comes-begins FromString atom (Str t ∷ []) w x k = parses-begin w.output w (all-of w.output) (int_in t) x k
  comes-begins Abs atom (Int n ∷ []) w x k = int-begins w.output w (all-of w.output) (pos (unsigned_abs n)) x k
  comes-begins ToString atom (v ∷ []) w x k = text-begins w.output w (all-of w.output) (text_of w.heap v) x k
  comes-begins Clone atom (v ∷ []) w x k = subst (CameBegins w.output) (sym k) (within-begins w.output (gives (with_copies Bool.true w v) (copy_of w v)) (all-of w.output))
  comes-begins CloneReadOnly atom (v ∷ []) w x k = subst (CameBegins w.output) (sym k) (freezes-begin w.output w (all-of w.output) v)
  comes-begins StringLength atom (Str t ∷ []) w x k = int-begins w.output w (all-of w.output) (pos (length t)) x k
  comes-begins StartsWith atom (Str s ∷ Str t ∷ []) w x k = subst (CameBegins w.output) (sym k) (all-of w.output)
  comes-begins Trim atom (Str t ∷ []) w x k = subst (CameBegins w.output) (sym k) (all-of w.output)
  comes-begins Substring atom (Str t ∷ Int i ∷ []) w x k = part-begins w.output w (all-of w.output) t i (pos (length t)) x k
  comes-begins Substring atom (Str t ∷ Int i ∷ Int j ∷ []) w x k = part-begins w.output w (all-of w.output) t i j x k
  comes-begins ToUpperAscii atom (Str t ∷ []) w x k = subst (CameBegins w.output) (sym k) (all-of w.output)
  comes-begins ToLowerAscii atom (Str t ∷ []) w x k = subst (CameBegins w.output) (sym k) (all-of w.output)
  comes-begins ToCodePointInts atom (Str t ∷ []) w x k = new-list-begins w.output w (all-of w.output) atom (map (λ c. Int (pos c)) t) x k
  comes-begins ListLength atom (Struct n ∷ []) w x k = list-begins w.output w n (λ s vs. Else (gives w (Int (pos (length vs))))) (λ s vs. given-begins w.output w (all-of w.output) (Int (pos (length vs)))) x k
  comes-begins Push atom (Struct n ∷ vs) w x k = pushes-begin w.output own n vs w (all-of w.output) x k
  comes-begins Pop atom (Struct n ∷ []) w x k =
      list-begins w.output w n (λ s vs. RemovesAt own w n s vs (last_place vs)) (λ s vs. removes-begin w.output w (all-of w.output) own n s vs (last_place vs)) x k
  comes-begins RemoveItem atom (Struct n ∷ Int i ∷ []) w x k =
      list-begins w.output w n (λ s vs. RemovesAt own w n s vs (place_of i)) (λ s vs. removes-begin w.output w (all-of w.output) own n s vs (place_of i)) x k
  comes-begins Slice atom (Struct n ∷ Int i ∷ []) w x k = list-begins w.output w n (λ s vs. Slices w atom vs i (pos (length vs))) (λ s vs. slices-begin w.output w (all-of w.output) atom vs i (pos (length vs))) x k
  comes-begins Slice atom (Struct n ∷ Int i ∷ Int j ∷ []) w x k = list-begins w.output w n (λ s vs. Slices w atom vs i j) (λ s vs. slices-begin w.output w (all-of w.output) atom vs i j) x k
  comes-begins Reverse atom (Struct n ∷ []) w x k = list-begins w.output w n (λ s vs. GivesList w atom (reverse vs)) (λ s vs. new-list-begins w.output w (all-of w.output) atom (reverse vs)) x k
  comes-begins MappingLength atom (Struct n ∷ []) w x k =
      mapping-begins w.output w n (λ s es. Else (gives w (Int (pos (length es))))) (λ s es. given-begins w.output w (all-of w.output) (Int (pos (length es)))) x k
  comes-begins Keys atom (Struct n ∷ []) w x k =
      mapping-begins w.output w n (λ s es. GivesList w atom (map (λ e. Str e.0) es)) (λ s es. new-list-begins w.output w (all-of w.output) atom (map (λ e. Str e.0) es)) x k
  comes-begins HasKey atom (Struct n ∷ Str key ∷ []) w x k =
      mapping-begins w.output w n (λ s es. Else (gives w (Truth (is_some (entry_at es key))))) (λ s es. given-begins w.output w (all-of w.output) (Truth (is_some (entry_at es key)))) x k
  comes-begins Get atom (Struct n ∷ Str key ∷ []) w x k =
      mapping-begins w.output w n (λ s es. Else (found w KeyNotFound (entry_at es key))) (λ s es. else-begins w.output (found w KeyNotFound (entry_at es key)) (found-begins w.output w (all-of w.output) KeyNotFound (entry_at es key))) x k
  comes-begins RemoveKey atom (Struct n ∷ Str key ∷ []) w x k =
      mapping-begins w.output w n (λ s es. RemovesKey own w n s es key (entry_at es key)) (λ s es. key-removes-begin w.output w (all-of w.output) own n s es key (entry_at es key)) x k
  comes-begins Message atom (Error n ∷ []) w x k = in-some (slice_get w.heap.errors n) k (λ e is here. subst (CameBegins w.output) (sym here) (all-of w.output))
  comes-begins Cause atom (Error n ∷ []) w x k = in-some (slice_get w.heap.errors n) k (λ e is here. subst (CameBegins w.output) (sym here) (all-of w.output))
  comes-begins Detail atom (Error n ∷ []) w x k = in-some (slice_get w.heap.errors n) k (λ e is here. subst (CameBegins w.output) (sym here) (all-of w.output))
  comes-begins call atom args w x k = absurd k

pub library-grows : AnswersGrow LibraryAnswers
library-grows own op atom args w came (call, is, k) = comes-begins own call atom args w came k
