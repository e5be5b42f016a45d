use Rattle.type_diagrams.proofs.Keeping.{extends-more}
use Rattle.empty_product.proofs.mapping_atoms.member_question.Goals as goal

pub returns-in-None-clause-extends : goal.returns-in-None-clause-extends
returns-in-None-clause-extends c = extends-more _ _ _ c.nothing.ensures.extends
