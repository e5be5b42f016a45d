use Rattle.std.proofs.Common.{◌≡◌, ◌∷◌, [], ◌++◌, List, ℕ, string_bytes, ap, ◌∙◌, arith}
use Rattle.std.proofs.lemmas.Str.{IsUtf8-string_bytes}
use Rattle.type_diagrams.proofs.Shapes.{IfOk-map}
use Rattle.empty_product.proofs.Letters.{chars-text, longer-chars}
use Rattle.empty_product.proofs.mapping_atoms.longer.Goals as goal

pub returns-clause-more : goal.returns-clause-more
returns-clause-more c =
    let bytes : string_bytes c.push.new.self ≡ c.as_str.result.now ++ 97 ∷ [] = c.in_ok-push.ensures.bytes ∙ (λ i. c.in_ok-push_str.ensures.bytes i ++ c.in_ok-push.ensures.ascii (omega arith) i) ∙ ap (λ (bs : List ℕ). (bs ++ c.as_str.result.now) ++ 97 ∷ []) c.new-letters.ensures.bytes in
    IfOk-map _ _ (λ t e. e ∙ longer-chars (string_bytes c.push.new.self) c.as_str.result.now c.args.text.now c.as_str.utf8 c.as_str.ensures.value bytes) c.from_string.result c.from_string.ensures

pub returns-clause-text : goal.returns-clause-text
returns-clause-text c =
    IfOk-map _ _ (λ t e. chars-text (string_bytes c.push.new.self) (IsUtf8-string_bytes c.push.new.self) t e) c.from_string.result c.from_string.ensures
