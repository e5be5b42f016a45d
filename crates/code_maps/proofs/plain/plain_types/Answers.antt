use Rattle.std.proofs.Common.{refl}
use Rattle.code_maps.proofs.plain.plain_types.Goals as goal

pub returns : goal.returns
returns c = (c.in_ok-boolean.ensures, refl, refl)
