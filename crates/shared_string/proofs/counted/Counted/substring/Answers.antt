use Rattle.std.proofs.Common.{◌≡◌, ◌≤◌, ◌∙◌, chars, length, refl, sym, ap, subst, arith}
use Rattle.std.specs.Str.{IsAscii}
use Rattle.std.proofs.lemmas.Grind.{common_steps}
use Rattle.shared_string.proofs.Ascii.{IsAscii-bytes, chars-short}
use Rattle.shared_string.proofs.counted.Counted.substring.Goals as goal

pub ascii_part-requires-clause-ascii : goal.ascii_part-requires-clause-ascii
ascii_part-requires-clause-ascii c =
    let bytes = c.as_str-text.result.now in
    let seen : chars bytes ≡ c.args.self.now = ap chars c.as_str-text.ensures.value ∙ c.self.view_is in
    IsAscii-bytes bytes c.as_str-text.utf8 (subst IsAscii (sym seen) (c.if-is_ascii.ensures.0 refl))

pub ascii_part-requires-clause-inside : goal.ascii_part-requires-clause-inside
ascii_part-requires-clause-inside c =
    let bytes = c.as_str-text.result.now in
    let count : c.self.inside.points ≡ length (chars bytes) = c.self.invariant ∙ ap (λ bs. length (chars bs)) (sym c.as_str-text.ensures.value) in
    let short : length (chars bytes) ≤ length bytes = chars-short bytes c.as_str-text.utf8 in
    grind (arith, common_steps)
