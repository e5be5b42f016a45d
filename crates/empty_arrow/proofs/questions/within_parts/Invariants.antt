use Rattle.std.proofs.Common.{[], length, take, map}
use Rattle.type_diagrams.specs.Conditions.{asks}
use Rattle.type_diagrams.specs.Whole.{Extends, Gives}
use Rattle.empty_arrow.specs.Parts.{part_of}
use Rattle.empty_arrow.proofs.questions.within_parts.Given as goal

abbrev pub invariant-loop-atom : goal.invariant-loop-atom
invariant-loop-atom l =
    Extends (length l.env) l.fn.dia l.dia × Gives l.dia (asks (map (part_of l.env) (take l.atom-index l.atoms)) []) l.question
