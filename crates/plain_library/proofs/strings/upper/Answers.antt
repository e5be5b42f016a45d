use Rattle.std.proofs.Common.{◌∙◌}
use Rattle.plain_library.proofs.Letters.{upper-same}
use Rattle.plain_library.proofs.strings.upper.Goals as goal

pub returns : goal.returns
returns c = c.to_ascii_uppercase.ensures.value ∙ upper-same c.args.c
