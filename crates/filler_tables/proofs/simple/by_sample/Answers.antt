use Rattle.std.proofs.Common.{◌∙◌, sym}
use Rattle.code_verifier.proofs.Leading.{fault-on}
use Rattle.filler_tables.specs.Asked.{AsksShape, AsksValue}
use Rattle.filler_tables.proofs.SimpleShapes.{asks-shape, empty-found, other-found, value-found}
use Rattle.filler_tables.proofs.simple.by_sample.Goals as goal

pub returns-in-Value-clause-simple : goal.returns-in-Value-clause-simple
returns-in-Value-clause-simple g c = λ found is e lacks.
    let (x, of, at) = value-found (g.T.Types.atoms c.args.types.now) c.args.t.now found is _ (sym c.in-Value.is ∙ e) in c.by_value.ensures.simple x of at lacks

pub returns-in-Value-clause-limit : goal.returns-in-Value-clause-limit
returns-in-Value-clause-limit g c = λ found is e.
    let env = g.T.Types.atoms c.args.types.now in
    fault-on g.T.Types.passes env (AsksValue c.args.t.now _) (AsksShape env c.args.t.now) (asks-shape env c.args.t.now found is _ (sym c.in-Value.is ∙ e)) c.by_value.result c.by_value.ensures.limit

pub returns-in-Other-clause-simple : goal.returns-in-Other-clause-simple
returns-in-Other-clause-simple g c = λ found is e lacks. other-found (g.T.Types.atoms c.args.types.now) c.args.t.now found is (sym c.in-Other.is ∙ e) lacks

pub returns-in-Empty-clause-simple : goal.returns-in-Empty-clause-simple
returns-in-Empty-clause-simple g c = λ found is e lacks. empty-found (g.T.Types.atoms c.args.types.now) c.args.t.now found is (sym c.in-Empty.is ∙ e)
