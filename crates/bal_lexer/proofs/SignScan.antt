-- The first sign that a text begins with, in the order of the signs, is the longest.
use Rattle.std.proofs.Common.{◌≡◌, ℕ, ◌≤◌, true, List, ◌++◌, length, take, drop, nat_eq, Option, None, Some, find, IsUtf8, chars, sym, ap, ◌∙◌}
use Rattle.std.specs.Prelude.{encode_utf8_all}
use Rattle.std.specs.List.{starts_with}
use Rattle.std.proofs.Math.Seq.{take-append_seam}
use Rattle.std.proofs.lemmas.List.{take-append-drop}
use Rattle.std.proofs.lemmas.Slice.Eq.{bytes_eq-Decides}
use Rattle.std.proofs.lemmas.Str.{IsUtf8-from_ascii, chars-append}
use Rattle.std.proofs.lemmas.Bool.{both_ways}
use Rattle.bal_base.specs.declared.token.Sign.{Sign}
use Rattle.bal_lexer.specs.Spellings.{sign_text}
use Rattle.bal_lexer.specs.Groups.{every_sign}
use Rattle.bal_lexer.proofs.Ascii.{bytes-front, IsAscii-all}
use Rattle.bal_lexer.proofs.Finds.{find-none, find-some, find-largest}
use Rattle.bal_lexer.proofs.Signs.{signs_descend, has_sign, sign_ascii}

-- the first sign that the bytes begin with
abbrev pub first_sign : List ℕ → Option Sign
first_sign s = find (λ g. starts_with nat_eq s (sign_text g)) every_sign

begins_with-sign : (s rest : List ℕ) (g : Sign) → IsUtf8 s → chars s ≡ sign_text g ++ rest → starts_with nat_eq s (sign_text g) ≡ true
begins_with-sign s rest g text e =
    let bytes = bytes-front s (sign_text g) rest text (sign_ascii g) e in
    (bytes_eq-Decides (sign_text g) (take (length (sign_text g)) s)).1 (sym (ap (take (length (sign_text g))) bytes ∙ take-append_seam (sign_text g) (encode_utf8_all rest)))

pub first_sign-none : (s : List ℕ) → IsUtf8 s → first_sign s ≡ None → (other : Sign) (rest : List ℕ) → chars s ≡ sign_text other ++ rest → ⊥
first_sign-none s text none other rest e =
    both_ways _ (find-none (λ g. starts_with nat_eq s (sign_text g)) every_sign other none (has_sign other)) (begins_with-sign s rest other text e)

pub first_sign-longest : (s : List ℕ) (g : Sign) → IsUtf8 s → first_sign s ≡ Some g → (other : Sign) (rest : List ℕ) → chars s ≡ sign_text other ++ rest → length (sign_text other) ≤ length (sign_text g)
first_sign-longest s g text some other rest e =
    find-largest (λ h. length (sign_text h)) (λ h. starts_with nat_eq s (sign_text h)) every_sign g other signs_descend some (has_sign other) (begins_with-sign s rest other text e)

pub first_sign-here : (s : List ℕ) (g : Sign) → first_sign s ≡ Some g → chars s ≡ chars (sign_text g) ++ chars (drop (length (sign_text g)) s)
first_sign-here s g some =
    let t = sign_text g in
    let front = (bytes_eq-Decides t (take (length t) s)).0 (find-some (λ h. starts_with nat_eq s (sign_text h)) every_sign g some) in
    let seam : s ≡ t ++ drop (length t) s = sym (take-append-drop (length t) s) ∙ ap (λ l. l ++ drop (length t) s) (sym front) in
    ap chars seam ∙ chars-append t (drop (length t) s) (IsUtf8-from_ascii t (IsAscii-all t (sign_ascii g)))
