use Rattle.std.proofs.Common.{◌≡◌, map, take}
use Rattle.typed_tree.specs.Listed.{run, joined}
use Rattle.typed_tree.specs.StmtLayers.{of_typed_clause, of_typed_stmt}
use Rattle.typed_tree.specs.Units.{listing}
use Rattle.package_units.specs.Noted.{noted, noted_of}
use Rattle.package_units.proofs.walk_stmts.+stmt.Given as goal

abbrev pub invariant-stmts-loop-s : goal.invariant-stmts-loop-s
invariant-stmts-loop-s l = noted_of l.n ≡ run noted (joined (map (of_typed_stmt listing) (take l.s-index l.ss))) (noted_of l.fn.n)

abbrev pub invariant-clauses-loop-c : goal.invariant-clauses-loop-c
invariant-clauses-loop-c l = noted_of l.n ≡ run noted (joined (map (of_typed_clause listing) (take l.c-index l.cs))) (noted_of l.fn.n)
