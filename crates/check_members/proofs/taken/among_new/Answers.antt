use Rattle.std.proofs.Common.{Err, Ok, Some}
use Rattle.checks.specs.Questions.{adds}
use Rattle.check_words.specs.Members.{HaveField}
use Rattle.check_words.specs.Words.{asking}
use Rattle.check_kinds.proofs.Over.{over-asks, over-on, over-stops}
use Rattle.check_members.specs.Taken.{all_below}
use Rattle.check_members.proofs.TakenMembers.{adds-more, new-there}
use Rattle.check_members.proofs.taken.among_new.Goals as goal

pub all_of-requires-clause-defined : goal.all_of-requires-clause-defined
all_of-requires-clause-defined g c = c.in-Ok.ensures.kept.defined c.args.t.now c.requires.defined

pub all_of-requires-clause-there : goal.all_of-requires-clause-there
all_of-requires-clause-there g c = new-there c.args.defs.items c.args.at (g.T.Types.atoms c.args.types.now) (g.T.Types.atoms c.add.new.types) c.in-Ok.atom c.requires.some c.in-Ok.ensures.comes

pub returns-in-Ok-clause-comes : goal.returns-in-Ok-clause-comes
returns-in-Ok-clause-comes g c = λ name have.
    over-on (asking (adds (λ e. HaveField name) (Some c.args.at))) (λ atom. all_below g.T.Types.passes c.args.t.now atom c.args.at) (g.T.Types.atoms c.args.types.now) (g.T.Types.atoms c.add.new.types) (g.T.Types.atoms c.all_of.new.types) c.in-Ok.atom c.all_of.result
    (over-asks (adds (λ e. HaveField name) (Some c.args.at)) (g.T.Types.atoms c.args.types.now) (g.T.Types.atoms c.add.new.types) (Ok c.in-Ok.atom)
    (adds-more c.args.defs.items c.args.at (g.T.Types.atoms c.args.types.now) (g.T.Types.atoms c.add.new.types) (λ e. HaveField name) (Ok c.in-Ok.atom) have c.in-Ok.ensures.comes))
    c.all_of.ensures.comes

pub returns-in-Err-clause-comes : goal.returns-in-Err-clause-comes
returns-in-Err-clause-comes g c = λ name have.
    over-stops (asking (adds (λ e. HaveField name) (Some c.args.at))) (λ atom. all_below g.T.Types.passes c.args.t.now atom c.args.at) (g.T.Types.atoms c.args.types.now) (g.T.Types.atoms c.add.new.types) c.in-Err.stop
    (over-asks (adds (λ e. HaveField name) (Some c.args.at)) (g.T.Types.atoms c.args.types.now) (g.T.Types.atoms c.add.new.types) (Err c.in-Err.stop)
    (adds-more c.args.defs.items c.args.at (g.T.Types.atoms c.args.types.now) (g.T.Types.atoms c.add.new.types) (λ e. HaveField name) (Err c.in-Err.stop) have c.in-Err.ensures.comes))
