-- Texts of ASCII are their characters.
use Rattle.std.proofs.Common.{◌≡◌, ℕ, zero, suc, Bool, true, nat_lt, List, [], ◌∷◌, ◌++◌, IsUtf8, chars, sym, ap, ◌∙◌, arith}
use Rattle.std.specs.Prelude.{encode_utf8_all}
use Rattle.std.specs.Str.{IsAscii}
use Rattle.std.specs.List.{list_all}
use Rattle.std.proofs.lemmas.Bool.{and_parts, ltb-true}
use Rattle.unicode_ident.proofs.IdentLemmas.{is_xid_start-ascii, is_xid_continue-ascii}
use Rattle.std.proofs.lemmas.Str.{encodes-IsAscii, chars-IsAscii, encodes-chars, encodes-append}

-- whether each is below 128
abbrev pub all_ascii : List ℕ → Bool
all_ascii xs = list_all (λ c. nat_lt c 128) xs

pub IsAscii-all : (xs : List ℕ) → all_ascii xs ≡ true → IsAscii xs
IsAscii-all [] all i = omega arith
IsAscii-all (x ∷ xs) all zero = ltb-true x 128 (and_parts (nat_lt x 128) (all_ascii xs) all).0
IsAscii-all (x ∷ xs) all (suc i) = IsAscii-all xs (and_parts (nat_lt x 128) (all_ascii xs) all).1 i

-- a text that begins with characters of ASCII begins with them as bytes
pub bytes-front : (s front rest : List ℕ) → IsUtf8 s → all_ascii front ≡ true → chars s ≡ front ++ rest → s ≡ front ++ encode_utf8_all rest
bytes-front s front rest text ascii e =
    sym (encodes-chars s text) ∙ ap encode_utf8_all e ∙ encodes-append front rest ∙ ap (λ l. l ++ encode_utf8_all rest) (encodes-IsAscii front (IsAscii-all front ascii))

pub chars-ascii : (xs : List ℕ) → all_ascii xs ≡ true → chars xs ≡ xs
chars-ascii xs ascii = chars-IsAscii xs (IsAscii-all xs ascii)

pub bytes-ascii : (s xs : List ℕ) → IsUtf8 s → all_ascii xs ≡ true → chars s ≡ xs → s ≡ xs
bytes-ascii s xs text ascii e = sym (encodes-chars s text) ∙ ap encode_utf8_all e ∙ encodes-IsAscii xs (IsAscii-all xs ascii)

-- which characters of ASCII a word begins and goes on with
pub ruleset words_of_ascii = (is_xid_start-ascii, is_xid_continue-ascii)
