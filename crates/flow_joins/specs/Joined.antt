-- Several ways that meet.
use Rattle.std.specs.Prelude.{◌≡◌, List, Ok}
use Rattle.checks.specs.Checks.{Comes}
use Rattle.flow_narrowing.specs.declared.flow.Flow.{Flow}
use Rattle.check_words.specs.Joins.{joins_from}
use Rattle.check_words.specs.Sharing.{SameFlow}
use Rattle.check_words.specs.State.{State}
use Rattle.check_words.specs.Words.{Atoms}

-- where f meets the other ways, one after another, this is known, by whatever handles
abbrev pub JoinsFrom : Atoms → Flow → List Flow → Flow → Type 0
JoinsFrom env f others g = (h : Flow) × SameFlow h g × ((s : State) → s.atoms ≡ env → Comes (joins_from f others) s (Ok h) s)
