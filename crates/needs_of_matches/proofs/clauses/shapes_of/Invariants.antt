use Rattle.std.proofs.Common.{ℕ}
use Rattle.type_model.specs.Defined.{NamesBelow}
use Rattle.needs_of_matches.specs.Clauses.{AreFirst}
use Rattle.needs_of_matches.proofs.clauses.shapes_of.Given as goal

abbrev pub invariant-loop-p : goal.invariant-loop-p
invariant-loop-p l = AreFirst l.patterns l.p-index l.sem × ((n : ℕ) → NamesBelow n l.sem)
