use Rattle.type_diagrams.proofs.Shapes.{IfOk-map}
use Rattle.type_diagrams.specs.Tables.{condition}
use Rattle.empty_product.proofs.Narrowing.{found, nothing-IsShapeOf}
use Rattle.empty_product.proofs.Nothing.{not-nothing}
use Rattle.empty_product.proofs.slots.find_part.Goals as goal

pub returns-then-is_nothing : goal.returns-then-is_nothing
returns-then-is_nothing g c = λ env sound x s.
    absurd (nothing-IsShapeOf env (condition c.args.dia.now c.args.question) x (c.is_nothing.ensures.0 c.if-is_nothing.true) s)

pub returns : goal.returns
returns g c =
    let some = not-nothing (condition c.args.dia.now c.args.question) c.is_nothing.result c.is_nothing.ensures c.if-is_nothing.false in
    IfOk-map _ _ (λ finding h env sound. found env c.args.dia.now (g.M.Member.kept c.args.context.now.m.now) c.args.question some sound finding h)
    c.look_up.result c.look_up.ensures
