use Rattle.check_words.proofs.Coming.{next}
use Rattle.check_words.proofs.Standing.{stands-beside}
use Rattle.check_work.specs.Views.{state_of}
use Rattle.needs_of_members.proofs.Answered.{access-taken}
use Rattle.needs_of_members.proofs.reads.read_element.Goals as goal

pub read_by-requires-clause-stands : goal.read_by-requires-clause-stands
read_by-requires-clause-stands g c = stands-beside (state_of (g.T.Types.atoms c.args.types.now) c.args.work.now) c.requires.stands _ _ _ _

pub returns-in-Ok-clause-comes : goal.returns-in-Ok-clause-comes
returns-in-Ok-clause-comes g c =
    next _ _ _ _ _ c.in-Ok.access _ (access-taken (state_of (g.T.Types.atoms c.args.types.now) c.args.work.now) _ c.in-Ok.access c.in-Ok.ensures) c.read_by.ensures.comes
