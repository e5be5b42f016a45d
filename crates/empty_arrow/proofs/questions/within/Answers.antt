use Rattle.type_diagrams.proofs.AskedDiagrams.{then_on}
use Rattle.empty_arrow.proofs.questions.within.Goals as goal

pub returns-clause-extends : goal.returns-clause-extends
returns-clause-extends c = then_on _ _ _ _ c.of.ensures.extends c.inter.ensures.extends
