use Rattle.code_keeping_all.proofs.Safe.{well-typed-code-begins, well-typed-code-is-safe}
use Rattle.code_keeping_all.proofs.laws.well_typed_code_is_safe.Goals as goal

pub returns-clause-safe : goal.returns-clause-safe
returns-clause-safe c = well-typed-code-is-safe

pub returns-clause-begins : goal.returns-clause-begins
returns-clause-begins c = well-typed-code-begins
