use Rattle.std.proofs.Common.{take}
use Rattle.unit_crews.specs.Noted.{NotesFunctions}
use Rattle.unit_crews.proofs.crews.Crews.note_functions.Given as goal

abbrev pub invariant-loop-f : goal.invariant-loop-f
invariant-loop-f l = NotesFunctions (take l.f-index l.functions) l.fn.self.counts.items l.self.counts.items
