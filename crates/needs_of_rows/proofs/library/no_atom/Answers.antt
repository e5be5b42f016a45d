use Rattle.std.proofs.Common.{Option, ℕ}
use Rattle.code_needs.specs.Combining.{absent}
use Rattle.needs_of_rows.proofs.Finding.{found-nothing, found-where}
use Rattle.needs_of_rows.proofs.library.no_atom.Goals as goal

pub returns-in-Some : goal.returns-in-Some
returns-in-Some c = found-where (λ (o : Option ℕ). absent o) c.args.atom _ _ _ c.in-Some.is c.refuse.ensures

pub returns-in-None : goal.returns-in-None
returns-in-None c = found-where (λ (o : Option ℕ). absent o) c.args.atom _ _ _ c.in-None.is (found-nothing _)
