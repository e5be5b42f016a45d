-- What `strip_prefix` says of characters.
use Rattle.std.proofs.Common.{◌≡◌, ◌≢◌, ℕ, List, ◌++◌, drop, Option, Some, None, MatchOption, IsUtf8, chars, sym, ap, ◌∙◌}
use Rattle.std.specs.Prelude.{encode_utf8_all}
use Rattle.std.specs.Str.Pattern.{FindsTextPrefix, StripsPrefix}
use Rattle.std.proofs.lemmas.Str.{chars-append, encodes-append, encodes-chars}
use denote.Bor.{Bor}

-- a text that begins with the characters of another begins with its bytes
pub bytes_from_chars : (s prefix rest : List ℕ) → IsUtf8 s → IsUtf8 prefix → chars s ≡ chars prefix ++ rest → s ≡ prefix ++ encode_utf8_all rest
bytes_from_chars s prefix rest whole front e =
    sym (encodes-chars s whole) ∙ ap encode_utf8_all e ∙ encodes-append (chars prefix) rest ∙ ap (λ l. l ++ encode_utf8_all rest) (encodes-chars prefix front)

pub strips : (s prefix : List ℕ) (r : Option (Bor (List ℕ))) → IsUtf8 s → IsUtf8 prefix
    → MatchOption r (FindsTextPrefix prefix s None) (λ x. StripsPrefix (FindsTextPrefix prefix) s x.now)
    → MatchOption r ((rest : List ℕ) → chars s ≢ chars prefix ++ rest) (λ x. chars s ≡ chars prefix ++ chars x.now)
strips s prefix None whole front lacks = λ rest e. lacks (encode_utf8_all rest) (bytes_from_chars s prefix rest whole front e)
strips s prefix (Some x) whole front (n, (count, seam, cut), rest, len) =
    let after : drop n s ≡ x.now = sym rest in
    ap chars (seam ∙ ap (λ l. prefix ++ l) after) ∙ chars-append prefix x.now front
