use Rattle.std.proofs.Common.{refl}
use Rattle.seen_names.proofs.Putting.{refused-puts}
use Rattle.seen_names.proofs.parts.refused.Goals as goal

pub returns-clause-puts : goal.returns-clause-puts
returns-clause-puts c = refused-puts c.args.code c.args.at _ (record { has_code = refl; stands = refl; shows = refl })
