use Rattle.std.proofs.Common.{◌≤◌, vec_len}
use Rattle.bal_io.specs.Fronts.{HasRead}
use Rattle.bal_io.specs.Streams.{IfKnown}
use Rattle.bal_io.proofs.std_source.next_line.Given as goal

abbrev pub invariant-loop : goal.invariant-loop
invariant-loop g l =
    (vec_len l.bytes ≤ l.max) × IfKnown (HasRead l.bytes.items) (g.B.Read.remaining l.initial.reader) (g.B.Read.remaining l.reader)
