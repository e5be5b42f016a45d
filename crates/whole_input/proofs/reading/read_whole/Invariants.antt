use Rattle.std.proofs.Common.{◌≡◌}
use Rattle.bal_io.specs.Content.{Told}
use Rattle.whole_input.specs.inner.Ends.{HasReadSo}
use Rattle.whole_input.proofs.reading.read_whole.Given as goal

abbrev pub invariant-loop : goal.invariant-loop
invariant-loop g l = (g.S.Source.faults l.source ≡ g.S.Source.faults l.initial.source) × Told (HasReadSo l.bytes.items) (g.S.Source.rest l.initial.source) (g.S.Source.rest l.source)
