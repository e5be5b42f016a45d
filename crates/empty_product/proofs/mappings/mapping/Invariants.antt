use Rattle.empty_product.proofs.MappingMade.{HasFurther}
use Rattle.empty_product.proofs.mappings.mapping.Given as goal

abbrev pub invariant-loop-part : goal.invariant-loop-part
invariant-loop-part l = HasFurther l.fn.keys.items l.fn.parts.items l.keys.items l.parts.items l.yielded
