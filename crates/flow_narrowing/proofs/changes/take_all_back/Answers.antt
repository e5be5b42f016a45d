use Rattle.std.proofs.Common.{◌≡◌, ◌≤◌, ◌+◌, ◌-◌, ◌++◌, ◌∷◌, [], rules, subst, arith}
use Rattle.flow_narrowing.proofs.Undoing.{IsTaking, one-taken}
use Rattle.flow_narrowing.proofs.changes.take_all_back.Goals as goal

pub loop-done-preserved : goal.loop-done-preserved
loop-done-preserved c =
    let n = c.loop-done._done - c.args.mark in
    let le : c.args.mark ≤ c.loop-done._done = c.loop-done.invariant.0 in
    let next : n + 1 ≡ c.loop-done._done + 1 - c.args.mark = omega (arith, le) in
    let last : c.loop-done.log.items ≡ c.pop.new.self.items ++ c.in-Some.change ∷ [] = search rules in (
      omega (arith, le),
      subst (λ k. IsTaking k c.args.log.now.items c.args.variables.now.items c.args.back.now.items c.pop.new.self.items c.take_back.new.variables.items c.push.new.self.items) next
          (one-taken n c.args.log.now.items c.args.variables.now.items c.args.back.now.items c.loop-done.log.items c.loop-done.variables.items c.loop-done.back.items c.pop.new.self.items
          c.in-Some.change c.take_back.result c.take_back.new.variables.items c.push.new.self.items c.loop-done.invariant.1 last c.take_back.ensures.variables c.take_back.ensures.again
          c.in_ok-push-in-Some.ensures.items),
    )
