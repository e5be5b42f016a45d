-- The code points of a text that was put together of two.
use Rattle.std.proofs.Common.{◌≡◌, ℕ, List, [], ◌++◌, IsUtf8, chars, ap, ◌∙◌}
use Rattle.std.proofs.lemmas.Str.{chars-append}

pub joined-chars : (none one both xs ys : List ℕ) → none ≡ [] → one ≡ none ++ xs → both ≡ one ++ ys → IsUtf8 xs → chars both ≡ chars xs ++ chars ys
joined-chars none one both xs ys n o b u =
    ap chars (b ∙ ap (λ l. l ++ ys) (o ∙ ap (λ l. l ++ xs) n)) ∙ chars-append xs ys u
