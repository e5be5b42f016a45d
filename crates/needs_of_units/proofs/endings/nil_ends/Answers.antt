use Rattle.check_kinds.specs.Over.{ComesOver}
use Rattle.std.proofs.Common.{true}
use Rattle.check_words.specs.Units.{ends_by}
use Rattle.check_work.specs.Views.{unit_of}
use Rattle.needs_of_units.proofs.Answering.{handed-on}
use Rattle.needs_of_units.proofs.Finishing.{nil-fits, nil-misses, nil-stops}
use Rattle.needs_of_units.proofs.endings.nil_ends.Goals as goal

pub returns-in_err-fits-clause-comes : goal.returns-in_err-fits-clause-comes
returns-in_err-fits-clause-comes g c =
    let env = g.T.Types.atoms c.args.types.now in
    handed-on (λ r. ComesOver (ends_by g.T.Types.passes true (unit_of c.args.unit.now) c.args.close) env r (g.T.Types.atoms c.is_below.new.types)) _ _ c.from_residual-in_err-fits.ensures
    (nil-stops g.T.Types.passes (unit_of c.args.unit.now) c.args.close env _ c.in_ok-nil.nil (c.in_ok-nil.ensures.is env c.requires.own) _ c.sem-gives.ensures _ c.in_err-fits.ensures.comes)

pub returns-then-fits-clause-comes : goal.returns-then-fits-clause-comes
returns-then-fits-clause-comes g c =
    let env = g.T.Types.atoms c.args.types.now in
    nil-fits g.T.Types.passes (unit_of c.args.unit.now) c.args.close env _ c.in_ok-nil.nil (c.in_ok-nil.ensures.is env c.requires.own) _ c.sem-gives.ensures _ c.if-fits.true
    c.in_ok-fits.ensures.comes

pub returns-clause-comes : goal.returns-clause-comes
returns-clause-comes g c =
    let env = g.T.Types.atoms c.args.types.now in
    nil-misses g.T.Types.passes (unit_of c.args.unit.now) c.args.close env _ c.in_ok-nil.nil (c.in_ok-nil.ensures.is env c.requires.own) _ c.sem-gives.ensures _ c.if-fits.false
    c.missing_return.result c.missing_return.ensures c.in_ok-fits.ensures.comes
