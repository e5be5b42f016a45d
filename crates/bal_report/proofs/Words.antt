-- Texts by their bytes.
use Rattle.std.proofs.Common.{◌≡◌, ℕ, List, IsUtf8, IsAscii, chars, encode_utf8_all, nat_eq, sym, ap, ◌∙◌}
use Rattle.std.specs.Cmp.Lexicographic.{pointwise}
use Rattle.std.proofs.lemmas.Str.{chars-IsAscii, encodes-chars, IsUtf8-from_ascii}
use Rattle.bal_base.proofs.Points.{chars-same}

pub same-word : (bytes text word : List ℕ) → IsUtf8 bytes → chars bytes ≡ text → IsAscii word → pointwise nat_eq bytes word ≡ pointwise nat_eq text word
same-word bytes text word u e ascii =
    chars-same bytes word u (IsUtf8-from_ascii word ascii)
    ∙ (λ i. pointwise nat_eq (e i) (chars-IsAscii word ascii i))

pub bytes-of : (bytes text : List ℕ) → IsUtf8 bytes → chars bytes ≡ text → bytes ≡ encode_utf8_all text
bytes-of bytes text u e = sym (encodes-chars bytes u) ∙ ap encode_utf8_all e
