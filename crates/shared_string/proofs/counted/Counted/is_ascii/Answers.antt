use Rattle.std.proofs.Common.{◌∙◌, chars, length, sym, ap}
use Rattle.shared_string.proofs.Ascii.{ascii-test}
use Rattle.shared_string.proofs.counted.Counted.is_ascii.Goals as goal

pub returns : goal.returns
returns c =
    let bytes = c.as_str.result.now in
    ascii-test bytes c.args.self.now c.self.inside.points c.as_str.utf8
    (c.self.invariant ∙ ap (λ bs. length (chars bs)) (sym c.as_str.ensures.value)) (ap chars c.as_str.ensures.value ∙ c.self.view_is)
