use Rattle.std.proofs.Common.{◌≡◌, Some, sym, subst, get_or, slice_get, arith}
use Rattle.type_diagrams.specs.declared.kind.TheConstants.{KINDS}
use Rattle.type_diagrams.specs.declared.kind.Kind.TheVariants.{List as Lists}
use Rattle.type_diagrams.specs.Tables.{root_of, condition}
use Rattle.type_diagrams.specs.Decisions.{IsNumber}
use Rattle.type_diagrams.specs.Operations.{IsResultOf}
use Rattle.type_diagrams.specs.Whole.{combined}
use Rattle.type_diagrams.proofs.Shapes.{IfOk-map}
use Rattle.type_diagrams.proofs.Keeping.{extends-on}
use Rattle.type_diagrams.proofs.Combined.{ArePartsOf, one_kind, can-step, place-at, combined-HasParts, parts-Gives}
use Rattle.type_diagrams.proofs.diagrams.Diagrams.made.Goals as goal

pub step-requires : goal.step-requires
step-requires c =
    let kind = get_or KINDS c.loop-kind.kind-index Lists in
    let can = can-step c.args.self.now c.loop-kind.self c.args.operation c.diagram-left.result c.diagram-right.result c.loop-kind.made c.loop-kind.kind-index kind c.loop-kind.invariant in
    record { left = subst (IsNumber c.loop-kind.self.nodes) (sym c.root.ensures) can.left; right = subst (IsNumber c.loop-kind.self.nodes) (sym c.root-in-loop-kind.ensures) can.right }

pub returns-in_err-root-clause-extends : goal.returns-in_err-root-clause-extends
returns-in_err-root-clause-extends c =
    extends-on c.args.self.now c.loop-kind.self c.step.new.self c.loop-kind.invariant.extends c.step.ensures.extends

pub loop-kind-preserved : goal.loop-kind-preserved
loop-kind-preserved c =
    let kind = get_or KINDS c.loop-kind.kind-index Lists in
    let made = subst (λ l. IsResultOf c.loop-kind.self.nodes (record { operation = c.args.operation; left = l; right = root_of c.diagram-right.result kind }) c.step.new.self.nodes c.in_ok-root.root) c.root.ensures
    (subst (λ r. IsResultOf c.loop-kind.self.nodes (record { operation = c.args.operation; left = c.root.result; right = r }) c.step.new.self.nodes c.in_ok-root.root) c.root-in-loop-kind.ensures c.in_ok-root.ensures.made) in
    one_kind c.args.self.now c.loop-kind.self c.step.new.self c.args.operation c.diagram-left.result c.diagram-right.result c.loop-kind.made c.with_root-made.result kind c.loop-kind.kind-index c.in_ok-root.root c.loop-kind.invariant
    (place-at c.loop-kind.kind-index c.loop-kind-test.true) c.step.ensures.extends made c.with_root-made.ensures.simple c.with_root-made.ensures.roots

pub number-requires : goal.number-requires
number-requires c = record { set = c.loop-kind.invariant.set.there; roots = c.loop-kind.invariant.roots }

pub returns-clause-extends : goal.returns-clause-extends
returns-clause-extends c =
    extends-on c.args.self.now c.loop-kind.self c.number.new.self c.loop-kind.invariant.extends c.number.ensures.extends

pub returns-clause-made : goal.returns-clause-made
returns-clause-made c =
    let old = c.args.self.now in
    let last = c.loop-kind.self in
    let all : c.loop-kind.kind-index ≡ 5 = omega (arith, c.loop-kind.auto.kind-index-end, c.loop-kind-test.false) in
    let parts = subst (λ n. ArePartsOf old c.args.operation c.diagram-left.result c.diagram-right.result last n c.loop-kind.made) all c.loop-kind.invariant in
    IfOk-map (λ n. slice_get c.number.new.self.diagrams n ≡ Some c.loop-kind.made) _
    (λ n at. parts-Gives last c.number.new.self c.loop-kind.made (combined c.args.operation (condition old c.args.a) (condition old c.args.b)) n
    (combined-HasParts old last c.args.operation c.args.a c.args.b c.diagram-left.result c.diagram-right.result c.loop-kind.made c.diagram-left.ensures.value c.diagram-right.ensures.value parts)
    c.number.ensures.extends.keeps at)
    c.number.result c.number.ensures.made
