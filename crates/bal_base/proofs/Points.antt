-- Two texts have the same bytes exactly where they have the same code points.
use Rattle.std.proofs.Common.{◌≡◌, ℕ, List, IsUtf8, chars, nat_eq, sym, ap, ◌∙◌}
use Rattle.std.specs.Prelude.{encode_utf8_all}
use Rattle.std.specs.Cmp.Lexicographic.{pointwise, bytes_decides}
use Rattle.std.proofs.lemmas.Str.{encodes-chars}
use Rattle.std.proofs.lemmas.Bool.Decides.{same_from_decides}

pub chars-same : (bs ds : List ℕ) → IsUtf8 bs → IsUtf8 ds → pointwise nat_eq bs ds ≡ pointwise nat_eq (chars bs) (chars ds)
chars-same bs ds u v =
    let d = bytes_decides bs ds in
    let e = bytes_decides (chars bs) (chars ds) in
    same_from_decides (pointwise nat_eq bs ds) (pointwise nat_eq (chars bs) (chars ds)) d
    ((λ t. sym (encodes-chars bs u) ∙ (ap encode_utf8_all (e.0 t) ∙ encodes-chars ds v)), (λ p. e.1 (ap chars p)))
