use Rattle.std.proofs.Common.{take}
use Rattle.unit_crews.specs.Noted.{NotesWorkers}
use Rattle.unit_crews.proofs.crews.Crews.note_workers.Given as goal

abbrev pub invariant-loop-w : goal.invariant-loop-w
invariant-loop-w l = NotesWorkers l.count (take l.w-index l.workers) l.fn.self.counts.items l.self.counts.items
