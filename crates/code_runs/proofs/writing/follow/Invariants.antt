use Rattle.std.proofs.Common.{◌≡◌, ℕ, List, [], length}
use Rattle.bal_base.specs.declared.text.Text.{Text}
use Rattle.bal_io.specs.Content.{Appends, Told}
use Rattle.code_frames.specs.Programs.{machine_of}
use Rattle.code_runs.specs.inner.Turns.{HasCome, output_in}
use Rattle.code_runs.proofs.writing.follow.Given as goal

abbrev pub invariant-loop : goal.invariant-loop
invariant-loop g l =
    (g.O.Sink.faults l.out ≡ g.O.Sink.faults l.initial.out)
    × ((words : List Text) (input : List ℕ) (ticks : ℕ) → HasCome (machine_of l.made.program) words input ticks l.seed l.initial.run → output_in l.initial.run ≡ [] →
    HasCome (machine_of l.made.program) words input ticks l.seed l.run × (l.written ≡ length (output_in l.run))
    × Told (Appends (output_in l.run)) (g.O.Sink.written l.initial.out) (g.O.Sink.written l.out))
