-- Texts with one more letter, as bytes and as characters.
use Rattle.std.proofs.Common.{◌≡◌, ◌<◌, ◌+◌, ◌-◌, ℕ, List, [], ◌∷◌, ◌++◌, length, Result, Ok, Err, IfOk, Some, None, slice_get, IsUtf8, refl, sym, ap, subst, ◌∙◌, arith}
use Rattle.std.specs.Str.{chars}
use Rattle.std.proofs.lemmas.Str.{scalars-chars, chars-append}
use Rattle.bal_base.specs.declared.text.Text.{Text}
use Rattle.bal_base.specs.Valid.{IsText}
use Rattle.empty_product.specs.Keys.{Rise, IsBehind}
use Rattle.empty_product.proofs.KeyInsert.{behind-last, behind-none}
use Rattle.empty_product.proofs.MappingFound.{at-there, at-within}
use Rattle.empty_product.proofs.Zipped.{none_some}

letter : chars (97 ∷ []) ≡ 97 ∷ []
unfolding chars
letter = refl

pub longer-chars : (bs str text : List ℕ) → IsUtf8 str → chars str ≡ text → bs ≡ str ++ 97 ∷ [] → chars bs ≡ text ++ 97 ∷ []
longer-chars bs str text utf8 is e = ap chars e ∙ chars-append str (97 ∷ []) utf8 ∙ (λ i. is i ++ letter i)

pub chars-text : (bs : List ℕ) → IsUtf8 bs → (t : Text) → t ≡ chars bs → IsText t
chars-text bs utf8 t e = subst IsText (sym e) (scalars-chars bs utf8)

pub letter-text : (t : Text) → t ≡ chars (97 ∷ []) → IsText t
letter-text t e = subst IsText (sym (e ∙ letter)) refl

nothing-there : (keys : List Text) → None ≡ slice_get keys (length keys - 1) → keys ≡ []
nothing-there [] h = refl
nothing-there (k ∷ ks) h = let there = at-there (k ∷ ks) (length (k ∷ ks) - 1) (omega arith) in absurd (none_some (h ∙ there.1))

module _ {E : Type 0} (keys : List Text) where
  pub behind-longer : Rise keys → (last : Text) → Some last ≡ slice_get keys (length keys - 1) → (r : Result Text E) → IfOk r (λ l. l ≡ last ++ 97 ∷ []) → IfOk r IsText → IfOk r (IsBehind keys)
  behind-longer rise last is (Ok t) e text =
      let within : length keys - 1 < length keys = at-within keys (length keys - 1) last (sym is) in
      let end : (length keys - 1) + 1 ≡ length keys = omega arith in
      subst (IsBehind keys) (sym e) (behind-last keys last 97 rise (length keys - 1) end (sym is) (subst IsText e text))
  behind-longer rise last is (Err x) e text = tt

  pub behind-nothing : None ≡ slice_get keys (length keys - 1) → (r : Result Text E) → IfOk r (λ t. t ≡ chars (97 ∷ [])) → IfOk r (IsBehind keys)
  behind-nothing is (Ok t) e = subst (λ ks. IsBehind ks t) (sym (nothing-there keys is)) (behind-none t (letter-text t e))
  behind-nothing is (Err x) e = tt
