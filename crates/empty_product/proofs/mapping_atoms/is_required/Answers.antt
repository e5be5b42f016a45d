use Rattle.empty_product.proofs.MappingQuestions.{required-Some, required-None}
use Rattle.empty_product.proofs.mapping_atoms.is_required.Goals as goal

pub returns-in-Some : goal.returns-in-Some
returns-in-Some c =
    required-Some c.args.defs.now c.args.atom c.args.key.now c.mapping_parts.result.fields.now _ c.requires.env c.in-Some.field.now c.mapping_parts.ensures c.in-Some.ensures

pub returns-in-None : goal.returns-in-None
returns-in-None c = required-None c.args.defs.now c.args.atom c.args.key.now c.mapping_parts.result.fields.now _ c.mapping_parts.ensures c.in-None.ensures
