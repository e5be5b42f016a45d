use Rattle.std.proofs.Common.{sym}
use Rattle.callable_units.specs.Calling.{TellsCallable}
use Rattle.callable_units.proofs.Called.{on-ok}
use Rattle.callable_units.proofs.callable.callable_units.Goals as goal

pub returns : goal.returns
returns c = on-ok _ (λ rows. TellsCallable c.args.code.now rows.items) c.rows_by.result c.rows_by.ensures (λ rows tells. tells c.args.code.now c.in_ok-tables.ensures c.requires (sym c.as_slice.ensures))
