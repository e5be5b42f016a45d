use Rattle.std.proofs.Common.{OnOk, subst, sym}
use Rattle.checks.specs.Checks.{Comes}
use Rattle.check_words.specs.Branches.{adds_pattern}
use Rattle.check_words.specs.Stands.{Stands}
use Rattle.check_work.specs.Views.{state_of}
use Rattle.check_work.proofs.Noting.{made-comes, made-on}
use Rattle.needs_of_matches.proofs.patterns.add_constant.Goals as goal

pub returns-clause-stands : goal.returns-clause-stands
returns-clause-stands c = λ env h.
    subst (λ r. OnOk r (Stands (state_of env c.put_pattern.new.work))) (sym c.lift.ensures) (made-on _ c.put_pattern.result (c.put_pattern.ensures.stands env h))

pub returns-clause-comes : goal.returns-clause-comes
returns-clause-comes c = λ env.
    subst (λ r. Comes (adds_pattern c.args.value c.args.at) (state_of env c.args.work.now) r (state_of env c.put_pattern.new.work)) (sym c.lift.ensures)
    (made-comes _ _ _ c.put_pattern.result (c.put_pattern.ensures.comes env))
