use Rattle.std.proofs.Common.{None}
use Rattle.std.specs.Str.{chars}
use Rattle.manifests.proofs.reading.Manifest.without_file.Goals as goal

pub returns : goal.returns
unfolding chars
returns c = λ i. record { name = c.in_ok-new.ensures i; org = None }
