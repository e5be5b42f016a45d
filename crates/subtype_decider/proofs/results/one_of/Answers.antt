use Rattle.std.proofs.Common.{rules}
use Rattle.subtype_decider.proofs.ResultTypes.{first-IsJoined, more-IsJoined, all-IsEither}
use Rattle.subtype_decider.proofs.results.one_of.Goals as goal

pub loop-t-init : goal.loop-t-init
loop-t-init c env = first-IsJoined env c.args.types.items c.pop.new.self.items c.in-Some.union c.in-Some.ensures.items

pub loop-t-preserved : goal.loop-t-preserved
loop-t-preserved c env =
    more-IsJoined env c.args.types.items c.loop-t.types.items c.pop-in-loop-t.new.self.items c.in-Some-pop.t c.loop-t.union c.in_ok-union.union (c.loop-t.invariant env) c.in-Some-pop.ensures.items (c.in_ok-union.ensures env)

pub returns : goal.returns
returns c env = all-IsEither env c.args.types.items c.loop-t.types.items c.loop-t.union (search rules) (c.loop-t.invariant env)
