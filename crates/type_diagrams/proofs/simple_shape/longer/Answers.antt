use Rattle.std.proofs.Common.{◌≡◌, [], ◌∷◌, ◌++◌, refl, ◌∙◌, ap}
use lib.Utf8.{encode}
use Rattle.std.specs.Str.{chars}
use Rattle.std.specs.String.{string_bytes}
use Rattle.std.proofs.lemmas.Str.{chars-append}
use Rattle.type_diagrams.proofs.simple_shape.longer.Goals as goal

one_letter : chars (97 ∷ []) ≡ 97 ∷ []
unfolding chars
one_letter = refl

pub returns : goal.returns
unfolding encode
returns c =
    let bytes : string_bytes c.push.new.self ≡ c.as_str.result.now ++ 97 ∷ [] =
    c.in_ok-push.ensures.bytes ∙ ap (λ bs. bs ++ 97 ∷ []) (c.in_ok-push_str.ensures.bytes ∙ ap (λ bs. bs ++ c.as_str.result.now) c.new-letters.ensures.bytes) in
    c.in_ok-from_string.ensures ∙ ap chars bytes ∙ chars-append c.as_str.result.now (97 ∷ []) c.as_str.utf8 ∙ (λ i. c.as_str.ensures.value i ++ one_letter i)
