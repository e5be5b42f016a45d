use Rattle.std.proofs.Common.{sym}
use Rattle.plain_library.proofs.Reading.{no-feed}
use Rattle.plain_library.proofs.input.line_size.Goals as goal

pub returns-in-None-clause-size : goal.returns-in-None-clause-size
returns-in-None-clause-size c = no-feed c.args.bytes.now (sym c.in-None.ensures)
