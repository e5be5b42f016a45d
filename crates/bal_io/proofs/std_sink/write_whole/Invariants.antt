use Rattle.bal_io.proofs.Writing.{Wrote}
use Rattle.bal_io.proofs.std_sink.write_whole.Given as goal

abbrev pub invariant-loop : goal.invariant-loop
invariant-loop g l = Wrote l.bytes l.rest (g.W.Write.contents l.initial.stream) (g.W.Write.contents l.stream)
