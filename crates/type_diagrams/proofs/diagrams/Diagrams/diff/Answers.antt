use Rattle.type_diagrams.specs.Conditions.{without}
use Rattle.type_diagrams.specs.Tables.{condition}
use Rattle.type_diagrams.specs.Whole.{Gives}
use Rattle.type_diagrams.proofs.Shapes.{IfOk-map, without-IsMetWhere}
use Rattle.type_diagrams.proofs.diagrams.Diagrams.diff.Goals as goal

pub returns-clause-condition : goal.returns-clause-condition
returns-clause-condition c = c.made.ensures.made

pub returns-clause-shapes : goal.returns-clause-shapes
returns-clause-shapes c =
    let a = condition c.args.self.now c.args.a in
    let b = condition c.args.self.now c.args.b in
    IfOk-map (Gives c.made.new.self (without a b)) _ (λ n g env. without-IsMetWhere c.made.new.self a b n env g) c.made.result c.made.ensures.made

pub returns-clause-one : goal.returns-clause-one
returns-clause-one c = c.made.ensures.one
