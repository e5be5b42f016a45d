-- The first frame of a call, by the unit's number.
use Rattle.std.proofs.lemmas.Option.{slice_get-map}

pub ruleset units = (slice_get-map)
