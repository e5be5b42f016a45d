use Rattle.type_model.specs.declared.basic.BasicSet.TheVariants.{Nil as NilOnly}
use Rattle.type_model.specs.declared.basic.SemType.{Basic}
use Rattle.descriptors.proofs.LanguageTypes.{both-named, simple-shapes}
use Rattle.descriptors.proofs.language.simple.Goals as goal

pub returns-clause-shapes : goal.returns-clause-shapes
returns-clause-shapes c = simple-shapes c.in_ok-booleans.booleans c.in_ok-rest.rest c.in_ok-values.values c.in_ok-booleans.ensures.shapes c.in_ok-rest.ensures.shapes
    c.in_ok-values.ensures.shapes c.either-4.result c.either-4.ensures.shapes

pub returns-clause-defined : goal.returns-clause-defined
returns-clause-defined c = both-named (Basic NilOnly) c.in_ok-values.values c.either-4.result (λ n. tt)
    (λ n. c.in_ok-values.ensures.defined n (c.in_ok-booleans.ensures.defined n tt tt) (c.in_ok-rest.ensures.defined n tt tt)) c.either-4.ensures.defined
