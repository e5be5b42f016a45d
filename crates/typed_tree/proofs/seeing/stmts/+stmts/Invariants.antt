use Rattle.std.proofs.Common.{◌≡◌, map, take}
use Rattle.typed_tree.specs.Listed.{joined, run}
use Rattle.typed_tree.specs.SoFar.{progress}
use Rattle.typed_tree.specs.Skeleton.{clause_sights, see, stmt_sights}
use Rattle.typed_tree.proofs.seeing.stmts.+stmts.Given as goal

abbrev pub invariant-stmts-loop-s : goal.invariant-stmts-loop-s
invariant-stmts-loop-s l =
    progress l.seen ≡ run (see l.by.own l.by.counts) (joined (map (stmt_sights l.workers l.by.own) (take l.s-index l.stmts))) (progress l.initial.seen)

abbrev pub invariant-clauses-loop-c : goal.invariant-clauses-loop-c
invariant-clauses-loop-c l =
    progress l.seen ≡ run (see l.by.own l.by.counts) (joined (map (clause_sights l.workers l.by.own) (take l.c-index l.clauses))) (progress l.initial.seen)
