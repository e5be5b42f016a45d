use Rattle.std.proofs.Common.{length, subst}
use Rattle.typed_tree.specs.Exprs.{type_of}
use Rattle.check_words.specs.Sharing.{SameShared}
use Rattle.check_words.specs.StmtViews.{IsMatch}
use Rattle.check_words.proofs.Coming.{next}
use Rattle.check_words.proofs.Standing.{shared-below, stands-beside}
use Rattle.needs_of_loops.proofs.LoopSteps.{stmt-put}
use Rattle.needs_of_matches.proofs.ends.add_match.Goals as goal

pub returns-clause-stands : goal.returns-clause-stands
returns-clause-stands c = λ env h.
    let same = subst (λ e. SameShared (type_of e) c.in_ok-kept.kept) c.deref.ensures (subst (λ t. SameShared t c.in_ok-kept.kept) c.ty.ensures c.in_ok-kept.ensures) in
    let below = shared-below (length env) (type_of c.in_ok-subject.subject.value) c.in_ok-kept.kept same (c.in_ok-subject.ensures.below env h) in
    stands-beside _ (c.in_ok-own.ensures.stands env below (c.in_ok-subject.ensures.stands env h)) _ _ _ _

pub returns-clause-comes : goal.returns-clause-comes
returns-clause-comes c = λ env.
    let same = subst (λ e. SameShared (type_of e) c.in_ok-kept.kept) c.deref.ensures (subst (λ t. SameShared t c.in_ok-kept.kept) c.ty.ensures c.in_ok-kept.ensures) in
    next _ _ _ _ _ c.in_ok-subject.subject.value _ (c.in_ok-subject.ensures.comes env)
    (next _ _ _ _ _ c.in_ok-own.own _ (c.in_ok-own.ensures.comes env (type_of c.in_ok-subject.subject.value) same)
    (stmt-put (IsMatch c.in_ok-own.own c.in_ok-subject.subject.value c.args.clauses.items c.args.at) _ c.match_stmt.result _ c.in_ok-add_stmt.ensures c.match_stmt.ensures))
