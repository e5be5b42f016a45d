use Rattle.std.proofs.Common.{rules}
use Rattle.graphs.proofs.Turning.{none-follows, one-follows}
use Rattle.graphs.proofs.search.follows.Goals as goal

pub returns : goal.returns
returns c = one-follows (λ v. v.items) c.args.back.now.items c.args.number c.args.follower c.index_mut.result.now c.push.new.self (search rules) c.index_mut.ensures.value c.in_ok-push.ensures.items

pub returns-then-follower-len : goal.returns-then-follower-len
returns-then-follower-len c = none-follows (λ v. v.items) c.args.back.now.items c.args.number c.args.follower (search rules)
