use Rattle.std.specs.Str.{chars}
use Rattle.stmt_checker.proofs.Ended.{start-of}
use Rattle.stmt_checker.proofs.ending.start_by_name.Goals as goal

pub returns : goal.returns
unfolding chars
returns c = start-of c.args.names.now c.args.main c.in_ok-name.name _ _ c.start_in.result.unit c.start_in.result.words c.in_ok-name.ensures c.entry.ensures c.start_in.ensures
