use Rattle.std.proofs.Common.{◌≡◌, ◌+◌, length}
use Rattle.stack_code.specs.declared.code.Code.{Code}
use Rattle.code_numbers.proofs.Chains.{HasChain, Stands}
use Rattle.code_numbers.proofs.traps.trap_rows.Given as goal

abbrev pub invariant-loop-place : goal.invariant-loop-place
invariant-loop-place l =
    (length l.rows.items + l.first ≡ l.place) × HasChain l.first l.rows.items l.innermost × ((code : Code) → code.instrs ≡ l.instrs → Stands code l.first l.rows.items l.innermost)
