use Rattle.machine_model.proofs.Reached.{reached-follow}
use Rattle.machine_model.proofs.SameOutcomes.{followers-do-the-same}
use Rattle.machine_model.proofs.laws.followers_do_the_same.Goals as goal

pub returns-clause-outcomes : goal.returns-clause-outcomes
returns-clause-outcomes g c = followers-do-the-same g.N.Meaning.answers g.P.Followed.first g.P.Followed.second g.P.Followed.follows g.P.Followed.fine

pub returns-clause-reached : goal.returns-clause-reached
returns-clause-reached g c = reached-follow g.N.Meaning.answers g.P.Followed.first g.P.Followed.second g.P.Followed.follows g.P.Followed.fine
