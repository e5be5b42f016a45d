use Rattle.inherent_atoms.proofs.Noting.{AllFalse}
use Rattle.inherent_atoms.proofs.gathered.nothing.Given as goal

abbrev pub invariant-loop : goal.invariant-loop
invariant-loop l = AllFalse l.marked.items
