use Rattle.std.proofs.Common.{IfOk, subst}
use Rattle.type_diagrams.specs.Conditions.{condition_of}
use Rattle.type_diagrams.specs.Whole.{Gives}
use Rattle.type_diagrams.proofs.Shapes.{IfOk-map, type-IsMetWhere}
use Rattle.type_diagrams.proofs.diagrams.Diagrams.of.Goals as goal

pub returns-clause-shapes : goal.returns-clause-shapes
returns-clause-shapes c =
    let t = c.of_type.new.self in
    let env = c.args.env.now in
    IfOk-map (Gives t (condition_of env c.args.t.now)) _
    (λ n g. type-IsMetWhere t env c.args.t.now n c.defs.ensures.env.bound g)
    c.of_type.result (subst (λ defs. IfOk c.of_type.result (Gives t (condition_of defs c.args.t.now))) c.defs.ensures.value c.of_type.ensures.condition)
