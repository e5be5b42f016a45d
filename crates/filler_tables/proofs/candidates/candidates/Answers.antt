use Rattle.std.proofs.Common.{◌∙◌, List, arith, length, subst, sym}
use Rattle.type_model.specs.declared.atoms.AtomDef.{AtomDef}
use Rattle.code_verifier.proofs.Zipping.{zip-more}
use Rattle.list_fillers.specs.declared.candidate.Candidate.{Candidate}
use Rattle.filler_tables.specs.Asked.{AsksPlace, AsksPlaces}
use Rattle.filler_tables.specs.declared.places.Place.{Place}
use Rattle.filler_tables.specs.inner.Telling.{IsCandidateAt, PlaceBelow}
use Rattle.filler_tables.proofs.Leading.{stops-on}
use Rattle.filler_tables.proofs.candidates.candidates.Goals as goal

pub candidate-requires : goal.candidate-requires
candidate-requires g c =
    subst (λ (env : List AtomDef). PlaceBelow (length env) c.p-item.result) (sym c.loop-p.invariant.0)
    (subst (λ (p : Place). PlaceBelow (length (g.T.Types.atoms c.args.types.now)) p) (sym c.p-item.is) (c.requires c.loop-p.p-index c.p-item.result c.loop-p-test.true))

pub loop-p-preserved : goal.loop-p-preserved
loop-p-preserved g c = (
  c.candidate.ensures.atoms ∙ c.loop-p.invariant.0,
  zip-more (IsCandidateAt (g.T.Types.atoms c.args.types.now)) c.args.places.now c.loop-p.found.items _ c.loop-p.p-index c.p-item.result c.in_ok-one.one (omega arith) c.p-item.is c.loop-p.invariant.1
      (subst (λ (env : List AtomDef). IsCandidateAt env c.p-item.result c.in_ok-one.one) c.loop-p.invariant.0 c.in_ok-one.ensures.candidate) c.in_ok-push.ensures.items,
)

pub returns-in_err-one-clause-limit : goal.returns-in_err-one-clause-limit
returns-in_err-one-clause-limit g c =
    let old = g.T.Types.atoms c.args.types.now in
    stops-on g.T.Types.passes old (g.T.Types.atoms c.loop-p.types) c.loop-p.invariant.0 (λ env asked. AsksPlace env c.p-item.result asked) (AsksPlaces old c.args.places.now)
    (λ asked h. (c.p-item.result, (c.loop-p.p-index, c.loop-p-test.true, sym c.p-item.is), h)) Candidate (List Candidate) _ _ c.from_residual.ensures c.in_err-one.ensures.limit
