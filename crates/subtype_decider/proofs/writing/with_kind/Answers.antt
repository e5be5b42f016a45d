use Rattle.type_diagrams.proofs.Shapes.{IfOk-map}
use Rattle.subtype_decider.specs.Writing.{IsEither}
use Rattle.subtype_decider.proofs.WrittenTypes.{either-AddsKind}
use Rattle.subtype_decider.proofs.writing.with_kind.Goals as goal

pub returns : goal.returns
returns c =
    IfOk-map (IsEither c.args.written c.in_ok-part.part) _
    (λ made e. either-AddsKind c.args.kind c.args.nodes.now c.args.number c.args.written c.in_ok-part.part made c.in_ok-part.ensures e) c.either.result c.either.ensures
