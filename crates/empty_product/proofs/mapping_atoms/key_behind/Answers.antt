use Rattle.empty_product.proofs.Letters.{behind-longer, behind-nothing}
use Rattle.empty_product.proofs.mapping_atoms.key_behind.Goals as goal

pub returns-in-Some : goal.returns-in-Some
returns-in-Some c = behind-longer c.args.keys.now c.requires c.in-Some.last.now c.in-Some.ensures.value c.longer.result c.longer.ensures.more c.longer.ensures.text

pub returns-in-None : goal.returns-in-None
returns-in-None c = behind-nothing c.args.keys.now c.in-None.ensures.value c.new.result c.new.ensures
