use Rattle.std.proofs.Common.{◌≡◌, refl}
use Rattle.check_work.specs.Views.{state_of}
use Rattle.check_work.proofs.Making.{strict-made, strict-stands}
use Rattle.needs_of_members.proofs.reads.make_read.Goals as goal

pub returns-clause-stands : goal.returns-clause-stands
returns-clause-stands c = λ env below h. strict-stands _ _ _ _ (state_of env c.args.work.now) _ c.in_ok-gather.ensures h below

pub returns-clause-comes : goal.returns-clause-comes
returns-clause-comes c = λ env. strict-made _ _ _ _ (state_of env c.args.work.now) _ c.in_ok-gather.ensures (λ atoms t. t ≡ c.args.ty.value) refl
