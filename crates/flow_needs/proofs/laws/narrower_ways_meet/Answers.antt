use Rattle.flow_needs.proofs.laws.narrower_ways_meet.Goals as goal
use Rattle.flow_needs.proofs.Narrowing.{all-ways-are-narrower}

pub returns : goal.returns
returns c = all-ways-are-narrower
