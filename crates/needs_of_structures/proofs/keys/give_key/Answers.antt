use Rattle.std.proofs.Common.{Ok, OnOk, subst}
use Rattle.bal_base.specs.declared.text.Text.{Text}
use Rattle.checks.specs.Checks.{Comes}
use Rattle.operations.specs.declared.operation.Constant.TheVariants as constant
use Rattle.check_work.specs.Views.{state_of}
use Rattle.needs_of_structures.specs.Making.{gives_implied}
use Rattle.needs_of_structures.proofs.keys.give_key.Goals as goal

pub returns-clause-comes : goal.returns-clause-comes
returns-clause-comes c = λ env.
    subst (λ (k : Text). OnOk c.give_implied.result (Comes (gives_implied (constant.Str k) c.args.at) (state_of env c.args.work.now) (Ok tt) (state_of env c.give_implied.new.work))) c.share.ensures
    (c.give_implied.ensures.comes env)
