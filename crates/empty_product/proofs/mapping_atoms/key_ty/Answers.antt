use Rattle.std.proofs.Common.{Some, None}
use Rattle.std.specs.Option.{option_copied}
use Rattle.empty_product.proofs.MappingQuestions.{key-asked, key-defined}
use Rattle.empty_product.proofs.mapping_atoms.key_ty.Goals as goal

pub returns-in-Some-clause-asked : goal.returns-in-Some-clause-asked
returns-in-Some-clause-asked c =
    key-asked c.args.defs.now c.args.atom c.args.key.now c.mapping_parts-parts.result.fields.now (option_copied c.mapping_parts-parts.result.rest) (Some c.in-Some.field.now) c.mapping_parts-parts.ensures c.in-Some.ensures

pub returns-in-None-clause-asked : goal.returns-in-None-clause-asked
returns-in-None-clause-asked c =
    key-asked c.args.defs.now c.args.atom c.args.key.now c.mapping_parts-parts.result.fields.now (option_copied c.mapping_parts-parts.result.rest) None c.mapping_parts-parts.ensures c.in-None.ensures

pub returns-in-Some-clause-defined : goal.returns-in-Some-clause-defined
returns-in-Some-clause-defined c =
    key-defined c.args.defs.now c.args.atom c.args.key.now c.mapping_parts-parts.result.fields.now (option_copied c.mapping_parts-parts.result.rest) c.requires.env (Some c.in-Some.field.now) c.mapping_parts-parts.ensures c.in-Some.ensures

pub returns-in-None-clause-defined : goal.returns-in-None-clause-defined
returns-in-None-clause-defined c =
    key-defined c.args.defs.now c.args.atom c.args.key.now c.mapping_parts-parts.result.fields.now (option_copied c.mapping_parts-parts.result.rest) c.requires.env None c.mapping_parts-parts.ensures c.in-None.ensures
