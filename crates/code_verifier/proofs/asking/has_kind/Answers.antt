use Rattle.std.proofs.Common.{refl, subst, sym}
use Rattle.type_model.specs.declared.basic.SemType.{SemType}
use Rattle.type_model.specs.Calls.{Without}
use Rattle.type_model.specs.Defined.{IsDefined}
use Rattle.type_model.specs.Inclusion.{HasExactly}
use Rattle.code_needs.specs.Needs.{IsOfKind}
use Rattle.code_verifier.specs.KindSets.{IsKindType, IsWritten}
use Rattle.code_verifier.specs.LedTo.{AsksAbove}
use Rattle.code_verifier.proofs.Answered.{left-told}
use Rattle.code_verifier.proofs.KindShapes.{as-known, as-written, known-defined, known-exactly}
use Rattle.code_verifier.proofs.Leading.{above-on, fault-leads, fault-on}
use Rattle.code_verifier.proofs.asking.has_kind.Goals as goal

pub sub-requires-clause-left : goal.sub-requires-clause-left
sub-requires-clause-left g c =
    let env = g.T.Types.atoms c.args.types.now in
    subst (λ (t : SemType). IsDefined env t) (sym c.known_type.ensures) (known-defined env c.args.known.now c.args.kind c.requires.known)

pub returns-in-Some-clause-answers : goal.returns-in-Some-clause-answers
returns-in-Some-clause-answers g c = c.has_sets.ensures.answers c.args.kind (sym c.in-Some.ensures)

pub returns-in-Some-clause-limit : goal.returns-in-Some-clause-limit
returns-in-Some-clause-limit g c =
    let from = IsWritten c.in-Some.sets in
    let to = IsKindType c.args.known.now c.args.kind in
    fault-on g.T.Types.passes (g.T.Types.atoms c.args.types.now) (AsksAbove c.args.t.now from) (AsksAbove c.args.t.now to)
    (above-on c.args.t.now from to (as-written c.args.known.now c.args.kind c.in-Some.sets (sym c.in-Some.ensures))) c.has_sets.result c.has_sets.ensures.limit

pub returns-in-None-clause-answers : goal.returns-in-None-clause-answers
returns-in-None-clause-answers g c =
    let env = g.T.Types.atoms c.args.types.now in
    left-told env c.known_type.result.now c.args.t.now (IsOfKind c.args.kind)
    (subst (λ (t : SemType). HasExactly env t (IsOfKind c.args.kind)) (sym c.known_type.ensures) (known-exactly env c.args.known.now c.args.kind c.requires.known (sym c.in-None.ensures)))
    c.sub.result c.sub.ensures.answer

pub returns-in-None-clause-limit : goal.returns-in-None-clause-limit
returns-in-None-clause-limit g c =
    fault-leads g.T.Types.passes (g.T.Types.atoms c.args.types.now) (AsksAbove c.args.t.now (IsKindType c.args.known.now c.args.kind)) (Without c.known_type.result.now c.args.t.now)
    (c.known_type.result.now, as-known c.args.known.now c.args.kind (sym c.in-None.ensures) c.known_type.result.now c.known_type.ensures, refl) c.sub.result c.sub.ensures.limit
