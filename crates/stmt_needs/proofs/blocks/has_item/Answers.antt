use Rattle.std.proofs.Common.{sym, subst}
use Rattle.needs.specs.Needs.{Runs}
use Rattle.typed_tree.specs.Listed.{members, one}
use Rattle.expr_needs.specs.Needs.{HasItem}
use Rattle.stmt_needs.specs.StmtTable.{is_among}
use Rattle.stmt_needs.proofs.SameWords.{assigned-same}
use Rattle.stmt_needs.proofs.blocks.has_item.Goals as goal

pub returns-clause-met : goal.returns-clause-met
returns-clause-met g c =
    subst (λ words. Runs g.M.MeetsExprs.meaning (one (HasItem c.args.name.now.name (is_among c.args.name.now.name (members words))))
    (g.M.MeetsExprs.going c.args.work.now) (g.M.MeetsExprs.going c.has_item.new.self))
    (sym (assigned-same c.args.body.now)) c.has_item.ensures.met
