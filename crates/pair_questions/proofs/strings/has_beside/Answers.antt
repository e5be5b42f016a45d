use Rattle.pair_questions.proofs.Beside.{where-named, where-others}
use Rattle.pair_questions.proofs.strings.has_beside.Goals as goal

pub returns-then-type_has : goal.returns-then-type_has
returns-then-type_has c = λ env. where-others env c.args.key.now c.args.fields.now c.type_has.result c.if-type_has.true c.type_has.ensures

pub returns-else-type_has : goal.returns-else-type_has
returns-else-type_has c = λ env.
    where-named env c.args.key.now c.args.fields.now c.type_has.result c.names_beside.result c.if-type_has.false c.type_has.ensures c.names_beside.ensures
