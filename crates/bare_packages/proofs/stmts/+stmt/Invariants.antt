use Rattle.std.proofs.Common.{take}
use Rattle.std.specs.List.{AllZip}
use Rattle.declared_reads.specs.Declared.{IsBareStmt}
use Rattle.bare_packages.specs.Parts.{IsBareClause}
use Rattle.bare_packages.proofs.stmts.+stmt.Given as goal

abbrev pub invariant-all-loop-s : goal.invariant-all-loop-s
invariant-all-loop-s l = goal.unvisited-all-loop-s l × AllZip IsBareStmt (take l.s-index l.fn.ss) (take l.s-index l.ss)

abbrev pub invariant-rows-loop-c : goal.invariant-rows-loop-c
invariant-rows-loop-c l = goal.unvisited-rows-loop-c l × AllZip IsBareClause (take l.c-index l.fn.cs) (take l.c-index l.cs)
