use Rattle.std.proofs.Common.{refl}
use Rattle.seen_names.proofs.Putting.{refused-puts}
use Rattle.needs_of_calls.proofs.named.refused.Goals as goal

pub returns : goal.returns
returns c = refused-puts c.args.code c.args.at _ (record { has_code = refl; stands = refl; shows = refl })
