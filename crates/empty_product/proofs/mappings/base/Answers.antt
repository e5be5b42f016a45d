use Rattle.std.proofs.Common.{map}
use Rattle.type_diagrams.specs.Members.{member_of}
use Rattle.type_diagrams.specs.Tables.{condition}
use Rattle.type_diagrams.proofs.AskedDiagrams.{gives_as, then_all}
use Rattle.type_diagrams.proofs.Shapes.{IfOk-map}
use Rattle.empty_product.specs.Bases.{frozen_where}
use Rattle.empty_product.specs.Mappings.{wanted_at}
use Rattle.empty_product.proofs.FrozenParts.{frozen_where_asks}
use Rattle.empty_product.proofs.mappings.base.Goals as goal

pub returns-clause-extends : goal.returns-clause-extends
returns-clause-extends c = then_all _ _ _ _ c.members_question.ensures.extends c.frozen_if.ensures.extends

pub returns-clause-made : goal.returns-clause-made
returns-clause-made c =
    let mid = condition c.members_question.new.dia c.in_ok-question.question in
    IfOk-map _ _ (λ n g. gives_as c.frozen_if.new.dia (frozen_where c.args.marked mid) (wanted_at c.args.env.now c.args.wanted.now c.args.marked c.args.key.now) n
    (frozen_where_asks c.args.marked mid (map (member_of c.args.env.now c.args.key.now) c.args.wanted.now) c.in_ok-question.ensures.made.condition) g)
    c.frozen_if.result c.frozen_if.ensures.made
