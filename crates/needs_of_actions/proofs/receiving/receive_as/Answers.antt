use Rattle.typed_tree.specs.declared.form.StrictForm.TheVariants as form
use Rattle.check_words.proofs.Coming.{next}
use Rattle.check_work.specs.Views.{state_of}
use Rattle.check_work.proofs.Making.{strict-stands, typed-made}
use Rattle.needs_of_actions.proofs.receiving.receive_as.Goals as goal

pub returns-clause-stands : goal.returns-clause-stands
returns-clause-stands c = λ env below h. strict-stands (form.Receive c.in_ok-p.p) 0 c.args.t c.args.at (state_of env c.args.work.now) _ c.in_ok-gather.ensures h below

pub returns-clause-comes : goal.returns-clause-comes
returns-clause-comes c = λ env u same. let s = state_of env c.args.work.now in
    next _ _ _ _ _ c.in_ok-p.p s (c.in_ok-p.ensures env) (typed-made (form.Receive c.in_ok-p.p) 0 c.args.t c.args.at s _ c.in_ok-gather.ensures u same)
