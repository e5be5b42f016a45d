use Rattle.event_search.specs.inner.Walking.{Goes}
use Rattle.event_search.proofs.search.Search.say.Goals as goal

pub returns : goal.returns
unfolding Goes
returns c = c.noted.ensures
