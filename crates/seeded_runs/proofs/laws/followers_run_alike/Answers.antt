use Rattle.seeded_runs.proofs.Beside.{followers-reach-alike}
use Rattle.seeded_runs.proofs.Runs.{followers-run-alike}
use Rattle.seeded_runs.proofs.laws.followers_run_alike.Goals as goal

pub returns-clause-reached : goal.returns-clause-reached
returns-clause-reached g c = followers-reach-alike g.N.Meaning.answers g.P.Followed.first g.P.Followed.second g.P.Followed.follows g.P.Followed.fine

pub returns-clause-runs : goal.returns-clause-runs
returns-clause-runs g c = followers-run-alike g.N.Meaning.answers g.P.Followed.first g.P.Followed.second g.P.Followed.follows g.P.Followed.fine
