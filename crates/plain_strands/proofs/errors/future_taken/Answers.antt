use Rattle.std.proofs.Common.{◌≡◌, subst}
use Rattle.std.specs.Prelude.{IfOk}
use Rattle.plain_strands.proofs.Erring.{taken_chars}
use Rattle.plain_strands.proofs.errors.future_taken.Goals as goal

pub returns : goal.returns
returns c = subst (λ xs. IfOk c.new.result (λ t. t ≡ xs)) taken_chars c.new.ensures
