use Rattle.std.proofs.lemmas.Bool.{OnTrue_at}
use Rattle.type_model.specs.declared.basic.SemType.{Basic}
use Rattle.type_diagrams.proofs.Shapes.{IfOk-map}
use Rattle.subtype_decider.specs.Writing.{IsBoth}
use Rattle.subtype_decider.proofs.WrittenTypes.{all-IsKindType, atom-IsKindType, both-IsKindType}
use Rattle.subtype_decider.proofs.writing.of_kind.Goals as goal

pub returns-then-number-eq-TRUE : goal.returns-then-number-eq-TRUE
returns-then-number-eq-TRUE c = all-IsKindType c.args.kind c.args.nodes.now c.args.number c.every.result c.if-number-eq-TRUE.true c.every.ensures

pub returns-then-needs_atom : goal.returns-then-needs_atom
returns-then-needs_atom c =
    atom-IsKindType c.args.kind c.args.nodes.now c.args.number c.in_ok-decision.decision (OnTrue_at c.if-needs_atom.true c.needs_atom.ensures) c.in_ok-decision.ensures

pub returns : goal.returns
returns c =
    IfOk-map (IsBoth (Basic c.every-2.result) c.in_ok-decision.decision) _
    (λ made b. both-IsKindType c.args.kind c.args.nodes.now c.args.number c.every-2.result c.in_ok-decision.decision made c.every-2.ensures c.in_ok-decision.ensures b) c.both.result c.both.ensures
