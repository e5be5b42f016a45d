use Rattle.std.proofs.Common.{◌≡◌, [], ◌∷◌, string_bytes, encode_utf8_all, sym, ap, ◌∙◌}
use Rattle.std.proofs.lemmas.Str.{IsUtf8-string_bytes}
use Rattle.std.proofs.lemmas.Str.{encodes-chars}
use Rattle.bal_base.proofs.text.TextHash.hash.Goals as goal

pub returns : goal.returns
returns g c =
    let bytes = string_bytes c.text.result.now in
    let same : bytes ≡ encode_utf8_all c.args.self.now =
    sym (encodes-chars bytes (IsUtf8-string_bytes c.text.result.now)) ∙ ap encode_utf8_all c.text.ensures in
    c.hash.ensures ∙ (λ i. g.H.Hasher.write (g.H.Hasher.write c.args.state.now (same i)) (255 ∷ []))
