use Rattle.descriptors.proofs.LanguageTypes.{either-anydata}
use Rattle.descriptors.proofs.language.anydata.Goals as goal

pub returns : goal.returns
returns c = either-anydata c.args.lists c.args.mappings c.in_ok-simple.simple c.in_ok-rest.rest c.either-2.result c.in_ok-simple.ensures.shapes c.in_ok-simple.ensures.defined
    c.in_ok-rest.ensures.shapes (λ n l m. c.in_ok-rest.ensures.defined n l m) c.either-2.ensures.shapes c.either-2.ensures.defined
