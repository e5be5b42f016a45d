use Rattle.std.proofs.Common.{take}
use Rattle.std.specs.List.{AllZip}
use Rattle.atom_questions.specs.Added.{IsPlainOf}
use Rattle.atom_questions.proofs.applications.plain_types.Given as goal

abbrev pub invariant-loop-t : goal.invariant-loop-t
invariant-loop-t l = AllZip IsPlainOf (take l.t-index l.types) l.copies.items
