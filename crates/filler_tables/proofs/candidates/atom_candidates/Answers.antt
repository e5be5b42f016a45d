use Rattle.std.proofs.Common.{IsSomeAnd, List, slice_get, subst, sym}
use Rattle.std.specs.List.{AllZip}
use Rattle.std.proofs.lemmas.Result.{IfOk-weaker}
use Rattle.code_verifier.proofs.Leading.{fault-on}
use Rattle.list_fillers.specs.Candidates.{AreCandidates}
use Rattle.filler_tables.specs.Asked.{AsksOfAtom, AsksPlaces, IsPlaceOf, place_types}
use Rattle.filler_tables.specs.declared.places.Place.{Place}
use Rattle.filler_tables.specs.inner.Telling.{IsCandidateAt}
use Rattle.filler_tables.proofs.Rows.{row-asks, row-told}
use Rattle.filler_tables.proofs.candidates.atom_candidates.Goals as goal

pub returns-in-Ok-clause-candidates : goal.returns-in-Ok-clause-candidates
returns-in-Ok-clause-candidates g c =
    let env = g.T.Types.atoms c.args.types.now in
    let a = c.args.atom in
    let ps = c.deref.result.now in
    let of = subst (λ (qs : List Place). IsSomeAnd (slice_get env a) (λ d. AllZip IsPlaceOf (place_types d) qs)) (sym c.deref.ensures.value) c.in-Ok.ensures.places in
    IfOk-weaker c.candidates.result (AllZip (IsCandidateAt env) ps) (λ cs. IsSomeAnd (slice_get env a) (λ d. AreCandidates env d cs)) (row-told env a ps of) c.candidates.ensures.candidates

pub returns-in-Ok-clause-limit : goal.returns-in-Ok-clause-limit
returns-in-Ok-clause-limit g c =
    let env = g.T.Types.atoms c.args.types.now in
    let a = c.args.atom in
    let ps = c.deref.result.now in
    let of = subst (λ (qs : List Place). IsSomeAnd (slice_get env a) (λ d. AllZip IsPlaceOf (place_types d) qs)) (sym c.deref.ensures.value) c.in-Ok.ensures.places in
    fault-on g.T.Types.passes env (AsksPlaces env ps) (AsksOfAtom env a) (row-asks env a ps of) c.candidates.result c.candidates.ensures.limit
