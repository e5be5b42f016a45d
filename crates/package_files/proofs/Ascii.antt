-- Texts of ASCII.
use Rattle.std.proofs.Common.{◌≡◌, ℕ, zero, suc, ◌<◌, List, [], ◌∷◌, true, sym, ap, ◌∙◌, arith, chars}
use Rattle.std.specs.Prelude.{encode_utf8_all, slice_index}
use Rattle.std.specs.Char.{is_ascii}
use Rattle.std.specs.List.{list_all}
use Rattle.std.specs.Str.{IsUtf8}
use Rattle.std.proofs.lemmas.Bool.{and_parts}
use Rattle.std.proofs.lemmas.Bool.Decides.{nat_tests}
use Rattle.std.proofs.lemmas.Str.{chars-IsAscii, encodes-IsAscii, encodes-chars}

one-ascii : (b : ℕ) → is_ascii b ≡ true → b < 128
one-ascii b h = grind (arith, nat_tests, h)

all-ascii : (bs : List ℕ) → list_all is_ascii bs ≡ true → (i : ℕ) → slice_index bs i < 128
all-ascii [] h i = omega arith
all-ascii (b ∷ bs) h zero = one-ascii b (and_parts (is_ascii b) (list_all is_ascii bs) h).0
all-ascii (b ∷ bs) h (suc i) = all-ascii bs (and_parts (is_ascii b) (list_all is_ascii bs) h).1 i

-- a word of ASCII is its bytes
pub word-chars : (word : List ℕ) → list_all is_ascii word ≡ true → chars word ≡ word
word-chars word h = chars-IsAscii word (all-ascii word h)

pub word-bytes : (bytes word : List ℕ) → IsUtf8 bytes → list_all is_ascii word ≡ true → chars bytes ≡ word → bytes ≡ word
word-bytes bytes word u h e = sym (encodes-chars bytes u) ∙ (ap encode_utf8_all e ∙ encodes-IsAscii word (all-ascii word h))
