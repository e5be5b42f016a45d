-- What comes of a line of input, and what is taken and written then.
use Rattle.std.proofs.Common.{◌≡◌, ◌∙◌, ◌+◌, ◌≤◌, ◌<◌, ◌++◌, ℕ, Bool, true, false, List, [], ◌∷◌, Option, Some, None, Result, inl, inr, chars, drop, length, position, encode_utf8_all, refl, sym, ap, subst, arith}
use Rattle.std.specs.Prelude.{IfOk, if◌then◌else◌}
use Rattle.std.specs.List.{position_or_len}
use Rattle.std.proofs.Math.Seq.{drop-nil}
use Rattle.std.proofs.lemmas.List.{append-nil}
use Rattle.std.proofs.lemmas.Str.{IsUtf8-nil, chars-nil}
use Rattle.bal_base.specs.declared.stop.Memory.{Memory}
use Rattle.bal_base.specs.declared.text.Text.{Text}
use Rattle.bal_io.specs.Content.{first_line, is_line_feed, line_text}
use Rattle.bal_io.proofs.Lines.{length-before_first, position_none, position_or_len-le-length}
use Rattle.operations.specs.declared.library.LibraryCall.TheVariants.{Readln}
use Rattle.value_model.specs.declared.value.Value.{Value}
use Rattle.value_model.specs.declared.value.Value.TheVariants.{Str}
use Rattle.value_model.specs.declared.panics.PanicName.{PanicName}
use Rattle.value_model.specs.declared.panics.PanicName.TheVariants.{BadInput, TooLong}
use Rattle.value_model.specs.Stands.{OwnTypes}
use Rattle.value_model.specs.World.{Came, World, PassesCells}
use Rattle.op_model.specs.Library.{LibraryComes, Reads, ReadsAfter, ReadsAs, texts_of, written}
use Rattle.op_model.specs.Limits.{most_line_bytes}
use Rattle.op_model.specs.Rows.{GivesText, gives, panics}
use Rattle.op_model.specs.Texts.{text_of}
use Rattle.plain_run.specs.declared.held.World.{World as PlainWorld}
use Rattle.plain_run.specs.declared.world.Came.{Came as PlainCame}
use Rattle.plain_run.specs.Came.{came_of}
use Rattle.plain_run.proofs.Given.{if-ok}
use Rattle.plain_library.specs.Input.{IsTextIn, behind, came_behind}

-- where there is no line feed the line is all bytes
pub no-feed : (bytes : List ℕ) → position is_line_feed bytes ≡ None → length bytes ≡ position_or_len is_line_feed bytes
no-feed bytes h = let past = position_none is_line_feed bytes h in let within = position_or_len-le-length is_line_feed bytes in omega arith

-- the bytes of the line as a string
module _ (w : World) (bytes line : List ℕ) (o : Option Text) (came : Came) (is : IsTextIn line o) (same : line ≡ bytes) where
  pub line-read : (t : Text) → o ≡ Some t → GivesText w t came → ReadsAs w bytes came
  line-read t e row =
      let there : IsTextIn bytes (Some t) = subst (λ x. IsTextIn bytes x) e (subst (λ xs. IsTextIn xs o) same is) in
      inl (there.0, subst (λ x. GivesText w x came) there.1 row)

  pub line-unread : o ≡ None → came ≡ panics w BadInput → ReadsAs w bytes came
  line-unread e row = inr (subst (λ x. IsTextIn bytes x) e (subst (λ xs. IsTextIn xs o) same is), row)

module _ (n : ℕ) (t : Text) where
  -- what is there has the same room behind it
  kept : (b : Bool) (came : Came) → came_behind n t (if b then came else PassesCells) ≡ (if b then came_behind n t came else PassesCells)
  kept true came = refl
  kept false came = refl

  panics-behind : (w : World) (name : PanicName) → came_behind n t (panics w name) ≡ panics (behind n t w) name
  panics-behind w name = kept _ _

  text-behind : (w : World) (text : Text) (came : Came) → GivesText w text came → GivesText (behind n t w) text (came_behind n t came)
  text-behind w text came (inl (short, e)) = inl (short, ap (came_behind n t) e)
  text-behind w text came (inr (long, e)) = inr (long, ap (came_behind n t) e ∙ panics-behind w TooLong)

  as-behind : (w : World) (bytes : List ℕ) (came : Came) → ReadsAs w bytes came → ReadsAs (behind n t w) bytes (came_behind n t came)
  as-behind w bytes came (inl (is, row)) = inl (is, text-behind w (chars bytes) came row)
  as-behind w bytes came (inr (not, e)) = inr (not, ap (came_behind n t) e ∙ panics-behind w BadInput)

module _ (w : World) (t : Text) (came : Came) where
  -- a line that is too long
  pub reads-cut : most_line_bytes < position_or_len is_line_feed w.input → came ≡ panics w TooLong → Reads (written w t) (came_behind most_line_bytes t came)
  reads-cut long e =
      let size = length-before_first is_line_feed w.input in
      let past : most_line_bytes < length (first_line w.input) = omega (arith, long, size) in
      inr (
        (λ none. let empty : length (first_line w.input) ≡ 0 = ap (λ xs. length (first_line xs)) none in omega (arith, past, empty)),
        inl (past, ap (came_behind most_line_bytes t) e ∙ panics-behind most_line_bytes t w TooLong),
      )

  -- at the end of the input that is the empty one
  at-end : (n : ℕ) → w.input ≡ [] → ReadsAs w (line_text w.input) came → came_behind n t came ≡ gives (written w t) (Str [])
  at-end n none row = by (subst (λ xs. ReadsAs w (line_text xs) came) none row)
    where
      left : drop n w.input ≡ w.input
      left = ap (drop n) none ∙ drop-nil n ∙ sym none

      empty : GivesText w [] came → came_behind n t came ≡ gives (written w t) (Str [])
      empty (inl (short, e)) =
          ap (came_behind n t) e ∙ ap (λ xs. gives (record { heap = w.heap; input = xs; output = w.output ++ encode_utf8_all t }) (Str [])) left
      empty (inr (long, e)) = absurd (long (omega arith))

      by : ReadsAs w [] came → came_behind n t came ≡ gives (written w t) (Str [])
      by (inl (is, row)) = empty (subst (λ x. GivesText w x came) chars-nil row)
      by (inr (not, e)) = absurd (not IsUtf8-nil)

  pub reads-line : (n : ℕ) → n ≡ position_or_len is_line_feed w.input → n ≤ most_line_bytes → ReadsAs w (line_text w.input) came → Reads (written w t) (came_behind (n + 1) t came)
  reads-line n is fits row = by w.input refl
    where
      by : (xs : List ℕ) → w.input ≡ xs → Reads (written w t) (came_behind (n + 1) t came)
      by [] none = inl (none, at-end (n + 1) none row)
      by (x ∷ xs) some =
          let size = length-before_first is_line_feed w.input in
          inr (
            (λ none. let e : x ∷ xs ≡ [] = sym some ∙ none in absurd cc),
            inr (
              (λ long. omega (arith, long, size, is, fits)),
              subst (λ k. ReadsAs (behind k t w) (line_text w.input) (came_behind (n + 1) t came)) (ap (λ k. k + 1) is) (as-behind (n + 1) t w (line_text w.input) came row),
            ),
          )

-- ---- what was given behind it

module _ (w : World) (t : Text) (mid : Came) (result : Result PlainCame Memory) (new : PlainWorld) where
  pub cut-comes : (k : ℕ) → k ≡ most_line_bytes → k < position_or_len is_line_feed w.input → mid ≡ panics w TooLong → IfOk result (λ x. came_of x new ≡ came_behind k t mid) → IfOk result (λ x. Reads (written w t) (came_of x new))
  cut-comes k is long e h =
      let past = subst (λ m. m < position_or_len is_line_feed w.input) is long in
      let row = subst (λ m. Reads (written w t) (came_behind m t mid)) (sym is) (reads-cut w t mid past e) in
      if-ok (λ x. came_of x new ≡ came_behind k t mid) (λ x. Reads (written w t) (came_of x new)) result (λ x same. subst (λ y. Reads (written w t) y) (sym same) row) h

  pub line-comes : (n : ℕ) → n ≡ position_or_len is_line_feed w.input → n ≤ most_line_bytes → ReadsAs w (line_text w.input) mid → IfOk result (λ x. came_of x new ≡ came_behind (n + 1) t mid) → IfOk result (λ x. Reads (written w t) (came_of x new))
  line-comes n is fits row h =
      if-ok (λ x. came_of x new ≡ came_behind (n + 1) t mid) (λ x. Reads (written w t) (came_of x new)) result (λ x same. subst (λ y. Reads (written w t) y) (sym same) (reads-line w t mid n is fits row)) h

-- ---- the call with its operands, of which the texts are the prompt

module _ (own : OwnTypes) (atom : ℕ) (w : World) (came : Came) where
  unprompted : ReadsAfter w [] came → Reads w came
  unprompted (inl (short, row)) = subst (λ xs. Reads (record { heap = w.heap; input = w.input; output = xs }) came) (append-nil w.output) row
  unprompted (inr (long, e)) = absurd (long (omega arith))

  pub readln-comes : (vs : List Value) → length vs ≤ 1 → ReadsAfter w (texts_of w vs) came → LibraryComes own Readln atom vs w came
  readln-comes [] fits row = unprompted row
  readln-comes (p ∷ []) fits row = subst (λ t. ReadsAfter w t came) (append-nil (text_of w.heap p)) row
  readln-comes (p ∷ q ∷ vs) fits row = absurd (omega (arith, fits))
