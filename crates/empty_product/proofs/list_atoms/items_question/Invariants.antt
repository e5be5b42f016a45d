use Rattle.std.proofs.Common.{[], length, take, map}
use Rattle.type_diagrams.specs.Conditions.{asks}
use Rattle.type_diagrams.specs.Members.{item_of}
use Rattle.type_diagrams.specs.Whole.{Extends, Gives}
use Rattle.empty_product.proofs.list_atoms.items_question.Given as goal

abbrev pub invariant-loop-atom : goal.invariant-loop-atom
invariant-loop-atom l =
    Extends (length l.env) l.fn.dia l.dia × Gives l.dia (asks (map (item_of l.env l.place) (take l.atom-index l.atoms)) []) l.question
