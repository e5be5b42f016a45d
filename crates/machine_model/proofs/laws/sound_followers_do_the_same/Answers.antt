use Rattle.machine_model.proofs.Along.{along-kept, sound-followers-are-fine, sound-followers-do-the-same}
use Rattle.machine_model.proofs.laws.sound_followers_do_the_same.Goals as goal

pub returns-clause-keeps : goal.returns-clause-keeps
returns-clause-keeps g c = along-kept g.N.Meaning.answers g.P.FollowedAlong.first g.P.FollowedAlong.second g.P.FollowedAlong.follows g.P.FollowedAlong.fine g.P.FollowedAlong.invariant g.P.FollowedAlong.flows g.P.FollowedAlong.flows_behind

pub returns-clause-outcomes : goal.returns-clause-outcomes
returns-clause-outcomes g c = sound-followers-do-the-same g.N.Meaning.answers g.P.FollowedAlong.first g.P.FollowedAlong.second g.P.FollowedAlong.follows g.P.FollowedAlong.fine g.P.FollowedAlong.invariant g.P.FollowedAlong.flows g.P.FollowedAlong.flows_behind

pub returns-clause-fine : goal.returns-clause-fine
returns-clause-fine g c = sound-followers-are-fine g.N.Meaning.answers g.P.FollowedAlong.first g.P.FollowedAlong.second g.P.FollowedAlong.follows g.P.FollowedAlong.fine g.P.FollowedAlong.invariant g.P.FollowedAlong.flows g.P.FollowedAlong.flows_behind
