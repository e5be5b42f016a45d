use Rattle.std.proofs.Common.{◌↔◌, ℕ, All, List, IsTrue, subst}
use Rattle.stack_code.specs.Tables.{IsCallable}
use Rattle.unit_checks.proofs.made.are_callable.Goals as goal

pub returns : goal.returns
returns c = λ code tells. subst (λ (ns : List ℕ). IsTrue c.all_callable.result ↔ All (IsCallable code) ns) c.valued.ensures (c.all_callable.ensures code tells)
