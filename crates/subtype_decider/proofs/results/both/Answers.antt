use Rattle.subtype_decider.proofs.ResultTypes.{and-IsBoth}
use Rattle.subtype_decider.proofs.results.both.Goals as goal

pub returns : goal.returns
returns c env = and-IsBoth env c.args.s c.args.t.now c.in_ok-s.s c.in_ok-t.t c.in_ok-s.ensures.ok c.in_ok-copy.field-0 c.in_ok-t.ensures.ok c.in_ok-copy.ensures
