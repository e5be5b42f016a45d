use Rattle.std.proofs.Common.{sym, subst, OnOk}
use Rattle.checks.specs.Checks.{Comes}
use Rattle.check_words.specs.Meets.{meets}
use Rattle.descriptors.specs.Steps.{AreNames}
use Rattle.check_words.specs.Stands.{Stands}
use Rattle.check_work.specs.Views.{state_of}
use Rattle.check_work.proofs.Noting.{made-comes, made-on}
use Rattle.check_work.proofs.stopping.note_made.Goals as goal

pub returns-clause-holds : goal.returns-clause-holds
returns-clause-holds g c = λ env names e h. c.note.ensures.holds env names e (subst (λ r. OnOk r (AreNames env names × Stands (state_of env c.args.work.now))) (sym c.lift.ensures) (made-on _ c.args.made h))

pub returns-clause-runs : goal.returns-clause-runs
returns-clause-runs g c = λ env names need old e goes h.
    c.note.ensures.runs env names need old e goes
    (subst (λ r. Comes (meets g.T.Types.passes names need) old.0 r (state_of env c.args.work.now)) (sym c.lift.ensures) (made-comes _ old.0 _ c.args.made h))
