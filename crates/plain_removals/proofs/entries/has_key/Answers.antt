use Rattle.std.proofs.Common.{sym}
use Rattle.plain_removals.proofs.KeyPlaces.{key-stands}
use Rattle.plain_removals.proofs.entries.has_key.Goals as goal

pub returns : goal.returns
returns c = key-stands c.args.key.now c.args.entries.now c.place_of.result c.is_some.result (sym c.place_of.ensures.place) c.is_some.ensures
