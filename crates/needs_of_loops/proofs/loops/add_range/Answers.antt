use Rattle.std.proofs.Common.{◌∷◌, [], subst}
use Rattle.check_words.specs.StmtViews.{IsForeach, IsRangeSource}
use Rattle.check_words.proofs.Coming.{given, next}
use Rattle.check_words.proofs.Standing.{stands-beside}
use Rattle.check_work.specs.Views.{block_of}
use Rattle.check_work.proofs.Taking.{kept-two, two-last}
use Rattle.needs_of_loops.proofs.LoopSteps.{stmt-put, two-taken, without-two-stands}
use Rattle.needs_of_loops.proofs.loops.add_range.Goals as goal

pub returns-clause-stands : goal.returns-clause-stands
returns-clause-stands c = λ env own h.
    let from = c.in_ok-from.from.value in
    let to = c.in_ok-to.to.value in
    let closed =
    without-two-stands _ from to _ (two-last _ _ _ from to c.in_ok-to.ensures c.in_ok-from.ensures) (kept-two _ _ _ from to c.in_ok-to.ensures c.in_ok-from.ensures)
    (c.in_ok-body.ensures.stands env h) in
    stands-beside _ (c.in_ok-_left.ensures.stands env own (c.in_ok-_last.ensures.stands env own (c.in_ok-first.ensures.stands env own closed))) _ _ _ _

pub returns-clause-comes : goal.returns-clause-comes
returns-clause-comes c = λ env own.
    let from = c.in_ok-from.from.value in
    let to = c.in_ok-to.to.value in
    let last = two-last _ _ _ from to c.in_ok-to.ensures c.in_ok-from.ensures in
    let source = c.range_source-source.result in
    let is = subst (λ end. IsRangeSource c.in_ok-first.first end from to source) c.range_end.ensures c.range_source-source.ensures in
    next _ _ _ _ _ (block_of c.in_ok-body.body) _ (c.in_ok-body.ensures.comes env)
    (next _ _ _ _ _ (from, to) _ (given _ _ (from, to) last)
    (next _ _ _ _ _ (from ∷ to ∷ []) _ (two-taken _ from to _ last (kept-two _ _ _ from to c.in_ok-to.ensures c.in_ok-from.ensures))
    (next _ _ _ _ _ c.in_ok-first.first _ (c.in_ok-first.ensures.comes env own)
    (next _ _ _ _ _ c.in_ok-_last._last _ (c.in_ok-_last.ensures.comes env own)
    (next _ _ _ _ _ c.in_ok-_left._left _ (c.in_ok-_left.ensures.comes env own)
    (next _ _ _ _ _ source _ (given _ _ source is)
    (stmt-put (IsForeach c.args.slot source c.in_ok-body.body.stmts.items c.args.at) _ c.foreach_stmt.result _ c.in_ok-add_stmt.ensures c.foreach_stmt.ensures)))))))
