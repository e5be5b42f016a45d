use Rattle.type_diagrams.proofs.AskedDiagrams.{then_on}
use Rattle.empty_product.proofs.bases.frozen_if.Goals as goal

pub returns-in_ok-frozen-clause-extends : goal.returns-in_ok-frozen-clause-extends
returns-in_ok-frozen-clause-extends c = then_on _ _ _ _ c.frozen_parts.ensures.extends c.inter.ensures.extends
