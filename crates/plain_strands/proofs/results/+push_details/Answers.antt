use Rattle.std.proofs.Common.{map}
use Rattle.plain_run.specs.Held.{structure_of}
use Rattle.plain_run.proofs.Given.{on-ok}
use Rattle.plain_strands.proofs.Resulting.{details-step}
use Rattle.plain_strands.proofs.results.+push_details.Goals as goal

pub returns-in_ok-push_detail-in-len1-up : goal.returns-in_ok-push_detail-in-len1-up
returns-in_ok-push_detail-in-len1-up t c =
    on-ok _ _ c.push_details.result (λ h. details-step c.args.results.now c.v-item.result (map structure_of c.args.made.now.items) _ (map structure_of c.push_details.new.made.items) c.in-len1-up.len_at_least c.v-item.is c.in_ok-push_detail-in-len1-up.ensures h) c.push_details.ensures
