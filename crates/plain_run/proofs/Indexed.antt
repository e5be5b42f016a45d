-- An index of entries, which keeps the place at which each key stands first.
use Rattle.std.proofs.Common.{◌≡◌, ◌+◌, ◌<◌, ◌≤◌, ℕ, Bool, true, false, cond, List, [], ◌∷◌, ◌++◌, Option, Some, None, length, get_or, take, refl, sym, ap, ◌∙◌, arith}
use Rattle.std.specs.Prelude.{IfSome, slice_set}
use Rattle.std.specs.HashMap.{HashMap}
use Rattle.std.specs.List.{position}
use Rattle.std.specs.Option.{option_or}
use Rattle.std.specs.Cmp.Lexicographic.{bytes_decides}
use Rattle.std.proofs.lemmas.List.{length-take-le, take_all}
use Rattle.std.proofs.lemmas.List.Quantifiers.{position-Some}
use Rattle.std.proofs.lemmas.Option.{none-some}
use Rattle.bal_base.specs.declared.text.Text.{Text}
use Rattle.type_model.specs.Places.{is_same_text}
use Rattle.value_model.specs.declared.value.Value.{Value}
use Rattle.plain_run.specs.Entries.{ArePlaces, IsGrown, IsIndex, IsNoted, place_kept}
use Rattle.plain_run.proofs.KeyPlaces.{has_key, position-push, position-set}
use Rattle.plain_run.proofs.Walking.{take-more}

or-none : (o : Option ℕ) → o ≡ option_or o None
or-none None = refl
or-none (Some n) = refl

pub grown-none : (S : Type 0) (key : Text) (at : ℕ) → IsGrown {S = S} None key at None
grown-none S key at = λ es v size are. tt

module _ {S : Type 0} where
  -- ---- one place is kept

  module _ (old : HashMap Text ℕ S) (key : Text) (at : ℕ) where
    pub noted-known : (n : ℕ) → place_kept old key ≡ Some n → IsNoted old key at old
    noted-known n known other = by (is_same_text key other) refl
      where
        by : (b : Bool) → is_same_text key other ≡ b → place_kept old other ≡ option_or (place_kept old other) (cond b (Some at) None)
        by true h =
            let here = ap (place_kept old) (sym ((bytes_decides key other).0 h)) ∙ known in
            here ∙ sym (ap (λ o. option_or o (Some at)) here)
        by false h = or-none (place_kept old other)

    pub noted-new : (new : HashMap Text ℕ S) → place_kept old key ≡ None → ((other : Text) → place_kept new other ≡ cond (is_same_text key other) (Some at) (place_kept old other)) → IsNoted old key at new
    noted-new new absent put other = put other ∙ by (is_same_text key other) refl
      where
        by : (b : Bool) → is_same_text key other ≡ b → cond b (Some at) (place_kept old other) ≡ option_or (place_kept old other) (cond b (Some at) None)
        by true h =
            let here = ap (place_kept old) (sym ((bytes_decides key other).0 h)) ∙ absent in
            sym (ap (λ o. option_or o (Some at)) here)
        by false h = or-none (place_kept old other)

  -- ---- places of one entry more

  places-push : (es : List (Text × Value)) (e : Text × Value) (at : ℕ) (old new : HashMap Text ℕ S) → length es ≡ at → ArePlaces es old → IsNoted old e.0 at new → ArePlaces (es ++ e ∷ []) new
  places-push es e at old new size are noted key =
      noted key
      ∙ (ap (λ o. option_or o (cond (is_same_text e.0 key) (Some at) None)) (are key)
      ∙ (ap (λ n. option_or (position (has_key key) es) (cond (is_same_text e.0 key) (Some n) None)) (sym size)
      ∙ sym (position-push (has_key key) es e)))

  pub places-none : (places : HashMap Text ℕ S) → ((key : Text) → place_kept places key ≡ None) → ArePlaces [] places
  places-none places h = h

  pub places-more : (es : List (Text × Value)) (i : ℕ) (e : Text × Value) (old new : HashMap Text ℕ S) → i < length es → e ≡ get_or es i e → ArePlaces (take i es) old → IsNoted old e.0 i new → ArePlaces (take (i + 1) es) new
  places-more es i e old new l is are noted key =
      let m : i ≤ length es = omega (arith, l) in
      places-push (take i es) e i old new (length-take-le i es m) are noted key ∙ sym (ap (position (has_key key)) (take-more es i e l is))

  pub places-all : (es : List (Text × Value)) (i : ℕ) (places : HashMap Text ℕ S) → length es ≤ i → ArePlaces (take i es) places → ArePlaces es places
  places-all es i places l are key = are key ∙ ap (position (has_key key)) (take_all i es l)

  pub grown-noted : (old new : HashMap Text ℕ S) (key : Text) (at : ℕ) → IsNoted old key at new → IsGrown (Some old) key at (Some new)
  grown-noted old new key at noted = λ es v size are. places-push es (key, v) at old new size are noted

  -- ---- another value at a key's place

  pub index-set : (es : List (Text × Value)) (i : ℕ) (v : Value) (d : Text × Value) (index : Option (HashMap Text ℕ S)) → IsIndex es index → IsIndex (slice_set es i ((get_or es i d).0, v)) index
  index-set es i v d (Some places) are = λ key. are key ∙ sym (position-set (has_key key) es i ((get_or es i d).0, v) d refl)
  index-set es i v d None are = tt

pub position-within : {X : Type 0} (p : X → Bool) (xs : List X) (o : Option ℕ) → o ≡ position p xs → IfSome o (λ i. i < length xs)
position-within p [] (Some i) e = absurd (none-some i (sym e))
position-within p (x ∷ xs) (Some i) e = (position-Some p (x ∷ xs) i x (sym e)).0
position-within p xs None e = tt

pub ruleset noting = (noted-known, noted-new)
