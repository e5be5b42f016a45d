-- What the look-ups of a word say of its characters.
use Rattle.std.proofs.Common.{◌≡◌, ◌≢◌, ℕ, zero, suc, Bool, true, false, List, [], ◌∷◌, None, Some, Contains, find, IsUtf8, chars, inl, inr, refl, sym, ap, ◌∙◌, subst, arith}
use Rattle.std.specs.Str.{bytes_eq}
use Rattle.std.specs.List.{list_any, list_all}
use Rattle.std.proofs.lemmas.Slice.Eq.{bytes_eq-Decides}
use Rattle.std.proofs.lemmas.Bool.{both_ways, or_cases, or_parts}
use Rattle.bal_base.specs.declared.token.Keyword.{Keyword}
use Rattle.bal_base.proofs.Tables.{list_all-at}
use Rattle.bal_lexer.specs.Spellings.{keyword_text, left_out_words}
use Rattle.bal_lexer.specs.Groups.{every_keyword}
use Rattle.bal_lexer.proofs.Ascii.{all_ascii, chars-ascii, bytes-ascii}
use Rattle.bal_lexer.proofs.Finds.{find-none, find-some}
use Rattle.bal_lexer.proofs.Keywords.{has_keyword, keyword_ascii}

pub keyword-some : (s : List ℕ) (k : Keyword) → find (λ h. bytes_eq (keyword_text h) s) every_keyword ≡ Some k → chars s ≡ keyword_text k
keyword-some s k some =
    let same : keyword_text k ≡ s = (bytes_eq-Decides (keyword_text k) s).0 (find-some (λ h. bytes_eq (keyword_text h) s) every_keyword k some) in
    ap chars (sym same) ∙ chars-ascii (keyword_text k) (keyword_ascii k)

pub keyword-none : (s : List ℕ) → IsUtf8 s → find (λ h. bytes_eq (keyword_text h) s) every_keyword ≡ None → (k : Keyword) → chars s ≢ keyword_text k
keyword-none s text none k e =
    both_ways _ (find-none (λ h. bytes_eq (keyword_text h) s) every_keyword k none (has_keyword k)) ((bytes_eq-Decides (keyword_text k) s).1 (sym (bytes-ascii s (keyword_text k) text (keyword_ascii k) e)))

pub contains-any : (s : List ℕ) (xs : List (List ℕ)) → list_any (λ w. bytes_eq w s) xs ≡ true → Contains xs s
contains-any s [] any = cc
contains-any s (x ∷ xs) any =
    elim (or_cases (bytes_eq x s) (list_any (λ w. bytes_eq w s) xs) any) [
      | inl here ↦ (0, omega arith, (bytes_eq-Decides x s).0 here)
      | inr there ↦ let (k, lt, e) = contains-any s xs there in (suc k, omega arith, e)
    ]

pub list_any-at : (p : List ℕ → Bool) (xs : List (List ℕ)) (y : List ℕ) → list_any p xs ≡ false → Contains xs y → p y ≡ false
list_any-at p [] y any (k, lt, e) = absurd (omega arith)
list_any-at p (x ∷ xs) y any (zero, lt, e) = ap p (sym e) ∙ (or_parts (p x) (list_any p xs) any).0
list_any-at p (x ∷ xs) y any (suc k, lt, e) = list_any-at p xs y (or_parts (p x) (list_any p xs) any).1 (k, omega arith, e)

left_out_ascii : list_all all_ascii left_out_words ≡ true
unfolding left_out_words
left_out_ascii = refl

pub left_out-yes : (s : List ℕ) → list_any (λ w. bytes_eq w s) left_out_words ≡ true → Contains left_out_words (chars s)
left_out-yes s any =
    let here = contains-any s left_out_words any in
    subst (Contains left_out_words) (sym (chars-ascii s (list_all-at all_ascii left_out_words s left_out_ascii here))) here

pub left_out-no : (s : List ℕ) → IsUtf8 s → list_any (λ w. bytes_eq w s) left_out_words ≡ false → Contains left_out_words (chars s) → ⊥
left_out-no s text any here =
    let same : s ≡ chars s = bytes-ascii s (chars s) text (list_all-at all_ascii left_out_words (chars s) left_out_ascii here) refl in
    both_ways _ (list_any-at (λ w. bytes_eq w s) left_out_words (chars s) any here) ((bytes_eq-Decides (chars s) s).1 (sym same))
