use Rattle.std.proofs.Common.{slice_get}
use Rattle.value_model.specs.Exact.{HasNoRequired}
use Rattle.filler_tables.proofs.Rows.{at-index, told-at}
use Rattle.filler_tables.proofs.candidates.lacks_required.Goals as goal

pub returns : goal.returns
returns g c =
    let env = g.T.Types.atoms c.args.types.now in
    let d = c.index-defs-at.result in
    let e = at-index env c.defs-defs.result.now c.env.result.now c.args.a d c.defs-defs.ensures.value c.env.ensures c.requires c.index-defs-at.is in
    told-at (slice_get env c.args.a) d (HasNoRequired env) c.requires_nothing.result e (c.requires_nothing.ensures env)
