use Rattle.std.proofs.Common.{sym, subst}
use Rattle.needs.specs.Needs.{Runs}
use Rattle.typed_tree.specs.Listed.{members, one}
use Rattle.expr_needs.specs.Needs.{Heads}
use Rattle.stmt_needs.proofs.SameWords.{assigned-same}
use Rattle.stmt_needs.proofs.blocks.heads.Goals as goal

pub returns-clause-met : goal.returns-clause-met
returns-clause-met g c =
    subst (λ words. Runs g.M.MeetsExprs.meaning (one (Heads (members words))) (g.M.MeetsExprs.going c.args.work.now) (g.M.MeetsExprs.going c.heads.new.self))
    (sym (assigned-same c.args.body.now)) c.heads.ensures.met
