use Rattle.std.proofs.Common.{All, length, subst}
use Rattle.std.specs.List.{AllZip}
use Rattle.std.proofs.lemmas.Result.{IfOk-weaker}
use Rattle.type_model.specs.Defined.{IsEnv}
use Rattle.filler_tables.specs.Asked.{IsPlaceOf, place_types}
use Rattle.filler_tables.specs.inner.Telling.{PlaceBelow}
use Rattle.filler_tables.proofs.Rows.{at-index, atom-places-below}
use Rattle.filler_tables.proofs.places.atom_places.Goals as goal

pub returns-clause-defined : goal.returns-clause-defined
returns-clause-defined g c =
    let env = g.T.Types.atoms c.args.types.now in
    let d = c.index-defs-atom.result in
    let e = at-index env c.defs-defs.result.now c.env.result.now c.args.atom d c.defs-defs.ensures.value c.env.ensures c.requires c.index-defs-atom.is in
    let is = subst IsEnv c.env.ensures c.defs-defs.ensures.env in
    IfOk-weaker c.places_of.result (λ ps. AllZip IsPlaceOf (place_types d) ps.items) (λ ps. All (PlaceBelow (length env)) ps.items) (λ ps z. atom-places-below env is c.args.atom d e ps.items z) c.places_of.ensures
