use Rattle.std.proofs.Common.{◌∙◌, ap}
use Rattle.place_numbers.specs.inner.Changing.{tally_in}
use Rattle.place_numbers.proofs.Counted.{tally-is}
use Rattle.place_numbers.proofs.counts.counts_at.Goals as goal

pub returns : goal.returns
returns c = c.counts_in.ensures ∙ ap tally_in c.map_at.ensures ∙ tally-is c.args.code.now.maps c.args.place
