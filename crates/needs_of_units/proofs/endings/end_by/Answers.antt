use Rattle.std.proofs.Common.{Ok, subst, sym}
use Rattle.check_kinds.specs.Over.{ComesOver}
use Rattle.check_words.specs.Units.{ends_by}
use Rattle.check_work.specs.Views.{unit_of}
use Rattle.needs_of_units.proofs.Finishing.{over-done}
use Rattle.needs_of_units.proofs.endings.end_by.Goals as goal

pub returns-in-true-clause-comes : goal.returns-in-true-clause-comes
returns-in-true-clause-comes g c =
    subst (λ b. ComesOver (ends_by g.T.Types.passes b (unit_of c.args.unit.now) c.args.close) (g.T.Types.atoms c.args.types.now) c.nil_ends.result (g.T.Types.atoms c.nil_ends.new.types)) (sym c.in-true.is)
    c.nil_ends.ensures.comes

pub returns-in-false-clause-comes : goal.returns-in-false-clause-comes
returns-in-false-clause-comes g c =
    subst (λ b. ComesOver (ends_by g.T.Types.passes b (unit_of c.args.unit.now) c.args.close) (g.T.Types.atoms c.args.types.now) (Ok tt) (g.T.Types.atoms c.args.types.now)) (sym c.in-false.is)
    (over-done (g.T.Types.atoms c.args.types.now))
