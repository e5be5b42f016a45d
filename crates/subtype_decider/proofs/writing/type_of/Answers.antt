use Rattle.std.proofs.Common.{◌≡◌, List, get_or, subst, arith}
use Rattle.type_diagrams.specs.declared.kind.TheConstants.{KINDS}
use Rattle.type_diagrams.specs.declared.kind.Kind.TheVariants.{List as Lists}
use Rattle.type_diagrams.specs.declared.node.Node.{Node}
use Rattle.type_diagrams.specs.Tables.{condition}
use Rattle.type_diagrams.proofs.Combined.{place-at}
use Rattle.type_diagrams.proofs.Leading.{leads-value}
use Rattle.type_model.proofs.DefinedLaws.{NamesBelow-more}
use Rattle.subtype_decider.specs.Writing.{AddsKind}
use Rattle.subtype_decider.proofs.WrittenTypes.{HasKinds, no_kinds, one_kind, kinds-IsMetWhere}
use Rattle.subtype_decider.proofs.writing.type_of.Goals as goal

pub loop-kind-init : goal.loop-kind-init
loop-kind-init c = (
  λ n depend. NamesBelow-more 0 n (omega arith) c.in_ok-written.written c.in_ok-written.ensures.names,
  λ env looks. no_kinds env (condition c.args.diagrams.now c.args.a) c.in_ok-written.written (c.in_ok-written.ensures.condition env),
)

pub loop-kind-preserved : goal.loop-kind-preserved
loop-kind-preserved c =
    let dia = c.args.diagrams.now in
    let kind = get_or KINDS c.loop-kind.kind-index Lists in
    let root = c.root-root.result in
    let adds = subst (λ (nodes : List Node). AddsKind kind nodes root c.loop-kind.written c.in_ok-written-2.written) c.nodes.ensures.nodes c.in_ok-written-2.ensures in (
      λ n depend. adds.names n depend (c.loop-kind.invariant.0 n depend),
      λ env looks. one_kind env (condition dia c.args.a) dia.nodes kind c.loop-kind.kind-index root c.loop-kind.written c.in_ok-written-2.written looks
          (λ w. leads-value dia.nodes c.nodes.ensures.are w root ((condition dia c.args.a).by_kind kind w) (c.root-root.ensures.leads w))
          (place-at c.loop-kind.kind-index c.loop-kind-test.true) (c.loop-kind.invariant.1 env looks) adds,
    )

pub returns-clause-shapes : goal.returns-clause-shapes
returns-clause-shapes c env small looks =
    let all : c.loop-kind.kind-index ≡ 5 = omega (arith, c.loop-kind.auto.kind-index-end, c.loop-kind-test.false) in
    let of = condition c.args.diagrams.now c.args.a in
    kinds-IsMetWhere env of c.loop-kind.written small looks (subst (λ n. HasKinds env of n c.loop-kind.written) all (c.loop-kind.invariant.1 env looks))
