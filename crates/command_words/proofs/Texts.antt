-- Words as texts.
use Rattle.std.proofs.Common.{◌≡◌, ◌∙◌, ◌<◌, ◌+◌, ℕ, List, [], ◌∷◌, ◌++◌, Result, Ok, Err, ap, chars, get_or, length, map, subst, sym, take, true}
use Rattle.std.specs.Prelude.{IfOk}
use Rattle.std.specs.Borrow.{Bor}
use Rattle.std.specs.Str.{IsUtf8, all_scalars}
use Rattle.std.proofs.lemmas.List.{map-append, take_more}
use Rattle.std.proofs.lemmas.Str.{scalars-chars}
use Rattle.bal_base.specs.Valid.{IsText}
use Rattle.bal_base.specs.declared.text.Text.{Text}
use Rattle.command_words.specs.inner.Reading.{bytes_of}

-- the characters of a word are a text
pub text-scalars : {E : Type 0} (r : Result Text E) (bytes : List ℕ) → IsUtf8 bytes → IfOk r (λ text. text ≡ chars bytes) → IfOk r (λ text. IsText text)
text-scalars (Ok text) bytes utf8 e = subst (λ cs. all_scalars cs ≡ true) (sym e) (scalars-chars bytes utf8)
text-scalars (Err x) bytes utf8 e = e

-- one more
pub texts-more : (words : List (Bor (List ℕ))) (i : ℕ) (word : Bor (List ℕ)) (texts : List Text) (text : Text) → i < length words → word ≡ get_or words i word
    → texts ≡ map chars (bytes_of (take i words)) → text ≡ chars word.now → texts ++ text ∷ [] ≡ map chars (bytes_of (take (i + 1) words))
texts-more words i word texts text lt at e t =
    let one : map chars (bytes_of (take (i + 1) words)) ≡ map chars (bytes_of (take i words ++ word ∷ [])) =
    ap (λ ws. map chars (bytes_of ws)) (take_more words i word lt ∙ ap (λ w. take i words ++ w ∷ []) (sym at)) in
    let two : bytes_of (take i words ++ word ∷ []) ≡ bytes_of (take i words) ++ word.now ∷ [] = map-append (λ w. w.now) (take i words) (word ∷ []) in
    let three : map chars (bytes_of (take i words) ++ word.now ∷ []) ≡ map chars (bytes_of (take i words)) ++ chars word.now ∷ [] =
    map-append chars (bytes_of (take i words)) (word.now ∷ []) in
    ap (λ ts. ts ++ text ∷ []) e ∙ ap (λ t. map chars (bytes_of (take i words)) ++ t ∷ []) t ∙ sym (one ∙ ap (map chars) two ∙ three)
