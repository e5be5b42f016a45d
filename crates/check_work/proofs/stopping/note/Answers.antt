use Rattle.std.proofs.Common.{◌∙◌, ap, sym}
use Rattle.needs.specs.Needs.{answer}
use Rattle.check_work.proofs.Noting.{held, noted}
use Rattle.check_work.proofs.stopping.note.Goals as goal

pub returns-clause-holds : goal.returns-clause-holds
returns-clause-holds g c = λ env names e h goes. held names env _ c.args.work.now c.args.answer c.stop_of.result c.stop_of.ensures e h (sym c.set_stop.ensures ∙ goes)

pub returns-clause-runs : goal.returns-clause-runs
returns-clause-runs g c = λ env names need old e goes h.
    noted g.T.Types.passes names need old env _ c.args.work.now c.args.answer _ (ap answer c.set_stop.ensures ∙ c.stop_of.ensures) e goes h
