use Rattle.std.proofs.Common.{◌++◌, ◌∷◌, [], map, if◌then◌else◌}
use Rattle.type_diagrams.specs.Conditions.{asks, frozen}
use Rattle.type_diagrams.specs.Members.{item_of}
use Rattle.type_diagrams.specs.Tables.{condition}
use Rattle.type_diagrams.proofs.AskedDiagrams.{then_all, gives_as}
use Rattle.type_diagrams.proofs.Shapes.{IfOk-map}
use Rattle.empty_product.specs.Bases.{frozen_where}
use Rattle.empty_product.proofs.FrozenParts.{frozen_where_asks}
use Rattle.empty_product.proofs.lists.base.Goals as goal

pub returns-clause-extends : goal.returns-clause-extends
returns-clause-extends c = then_all _ _ _ _ c.items_question.ensures.extends c.frozen_if.ensures.extends

pub returns-clause-made : goal.returns-clause-made
returns-clause-made c =
    let marked = c.args.marked in
    let new = c.frozen_if.new.dia in
    let d = condition c.items_question.new.dia c.in_ok-question.question in
    let cs = map (item_of c.args.env.now c.args.place) c.args.wanted.now in
    IfOk-map _ _ (λ q made. gives_as new (frozen_where marked d) (asks (cs ++ (if marked then frozen ∷ [] else [])) []) q (frozen_where_asks marked d cs c.in_ok-question.ensures.made.condition) made)
    c.frozen_if.result c.frozen_if.ensures.made
