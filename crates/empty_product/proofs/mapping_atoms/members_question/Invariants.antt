use Rattle.std.proofs.Common.{[], length, take, map}
use Rattle.type_diagrams.specs.Conditions.{asks}
use Rattle.type_diagrams.specs.Members.{member_of}
use Rattle.type_diagrams.specs.Whole.{Extends, Gives}
use Rattle.empty_product.proofs.mapping_atoms.members_question.Given as goal

abbrev pub invariant-loop-atom : goal.invariant-loop-atom
invariant-loop-atom l =
    Extends (length l.env) l.fn.dia l.dia × Gives l.dia (asks (map (member_of l.env l.key) (take l.atom-index l.atoms)) []) l.question
