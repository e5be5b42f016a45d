use Rattle.std.proofs.Common.{Ok, OnOk, subst}
use Rattle.checks.specs.Checks.{Comes}
use Rattle.check_work.specs.Views.{state_of}
use Rattle.needs_of_made_calls.specs.Making.{makes_so}
use Rattle.needs_of_made_calls.proofs.library.give.Goals as goal

pub returns-clause-comes : goal.returns-clause-comes
returns-clause-comes c = λ env.
    subst (λ f. OnOk c.make_strict.result (Comes (makes_so c.args.what.count f c.args.ty c.args.what.at) (state_of env c.args.work.now) (Ok tt) (state_of env c.make_strict.new.work)))
    c.form_of.ensures (c.make_strict.ensures.comes env)
