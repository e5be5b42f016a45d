use Rattle.std.proofs.Common.{nat_eq, string_bytes, ◌∙◌}
use Rattle.std.specs.Cmp.Lexicographic.{pointwise}
use Rattle.std.proofs.lemmas.Str.{IsUtf8-string_bytes}
use Rattle.bal_base.proofs.Points.{chars-same}
use Rattle.bal_base.proofs.text.TextPartialEq.eq.Goals as goal

pub returns : goal.returns
returns c =
    let xs = string_bytes c.text.result.now in
    let ys = string_bytes c.text-2.result.now in
    c.eq.ensures ∙ (chars-same xs ys (IsUtf8-string_bytes c.text.result.now) (IsUtf8-string_bytes c.text-2.result.now)
    ∙ (λ i. pointwise nat_eq (c.text.ensures i) (c.text-2.ensures i)))
