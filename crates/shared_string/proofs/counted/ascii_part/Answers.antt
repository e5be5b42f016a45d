use Rattle.std.proofs.Common.{◌∙◌, chars, ap}
use Rattle.shared_string.proofs.Ascii.{chars-slice_range}
use Rattle.shared_string.proofs.counted.ascii_part.Goals as goal

pub returns : goal.returns
returns c = ap chars c.range.ensures.value ∙ chars-slice_range c.args.text.now c.args.start c.args.end c.requires.ascii
