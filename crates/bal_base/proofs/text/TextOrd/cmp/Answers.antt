use Rattle.std.proofs.Common.{chars, string_bytes, sym, ◌∙◌}
use Rattle.std.specs.Ordering.{nat_cmp}
use Rattle.std.specs.Cmp.Lexicographic.{slice_cmp}
use Rattle.std.proofs.lemmas.Str.{IsUtf8-string_bytes}
use Rattle.std.proofs.lemmas.Str.{encodes-chars}
use Rattle.bal_base.proofs.Order.{utf8-order}
use Rattle.bal_base.proofs.text.TextOrd.cmp.Goals as goal

pub returns : goal.returns
returns c =
    let xs = string_bytes c.text.result.now in
    let ys = string_bytes c.text-2.result.now in
    let u = encodes-chars xs (IsUtf8-string_bytes c.text.result.now) in
    let v = encodes-chars ys (IsUtf8-string_bytes c.text-2.result.now) in
    c.cmp.ensures ∙ (sym (λ i. slice_cmp nat_cmp (u i) (v i))
    ∙ (utf8-order (chars xs) (chars ys) ∙ (λ i. slice_cmp nat_cmp (c.text.ensures i) (c.text-2.ensures i))))
