use Rattle.std.proofs.Common.{◌∙◌}
use Rattle.plain_library.proofs.Letters.{lower-same}
use Rattle.plain_library.proofs.strings.lower.Goals as goal

pub returns : goal.returns
returns c = c.to_ascii_lowercase.ensures.value ∙ lower-same c.args.c
