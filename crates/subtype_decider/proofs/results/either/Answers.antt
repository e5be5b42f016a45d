use Rattle.subtype_decider.proofs.ResultTypes.{or-IsEither}
use Rattle.subtype_decider.proofs.results.either.Goals as goal

pub returns : goal.returns
returns c env = or-IsEither env c.args.s c.args.t c.in_ok-s.s c.in_ok-t.t c.in_ok-s.ensures.ok c.in_ok-t.ensures.ok
