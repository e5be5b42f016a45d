use Rattle.std.proofs.Common.{length, subst}
use Rattle.typed_tree.specs.Exprs.{type_of}
use Rattle.check_words.specs.Sharing.{SameShared}
use Rattle.check_words.specs.StmtViews.{IsForeach}
use Rattle.check_words.proofs.Coming.{given, next}
use Rattle.check_words.proofs.Standing.{shared-below, stands-beside}
use Rattle.check_work.specs.Views.{block_of}
use Rattle.needs_of_loops.proofs.LoopSteps.{stmt-put}
use Rattle.needs_of_loops.proofs.loops.add_foreach.Goals as goal

pub returns-clause-stands : goal.returns-clause-stands
returns-clause-stands c = λ env own h.
    let closed = c.in_ok-body.ensures.stands env h in
    let same = subst (λ e. SameShared (type_of e) c.in_ok-kept.kept) c.deref.ensures (subst (λ t. SameShared t c.in_ok-kept.kept) c.ty.ensures c.in_ok-kept.ensures) in
    let below = shared-below (length env) (type_of c.in_ok-list.list.value) c.in_ok-kept.kept same (c.in_ok-list.ensures.below env closed) in
    stands-beside _ (c.in_ok-_index.ensures.stands env own (c.in_ok-first.ensures.stands env below (c.in_ok-list.ensures.stands env closed))) _ _ _ _

pub returns-clause-comes : goal.returns-clause-comes
returns-clause-comes c = λ env own.
    let same = subst (λ e. SameShared (type_of e) c.in_ok-kept.kept) c.deref.ensures (subst (λ t. SameShared t c.in_ok-kept.kept) c.ty.ensures c.in_ok-kept.ensures) in
    next _ _ _ _ _ (block_of c.in_ok-body.body) _ (c.in_ok-body.ensures.comes env)
    (next _ _ _ _ _ c.in_ok-list.list.value _ (c.in_ok-list.ensures.comes env)
    (next _ _ _ _ _ c.in_ok-first.first _ (c.in_ok-first.ensures.comes env (type_of c.in_ok-list.list.value) same)
    (next _ _ _ _ _ c.in_ok-_index._index _ (c.in_ok-_index.ensures.comes env own)
    (next _ _ _ _ _ c.list_source-source.result _ (given _ _ c.list_source-source.result c.list_source-source.ensures)
    (stmt-put (IsForeach c.args.slot c.list_source-source.result c.in_ok-body.body.stmts.items c.args.at) _ c.foreach_stmt.result _ c.in_ok-add_stmt.ensures c.foreach_stmt.ensures)))))
