use Rattle.std.proofs.Common.{length, map, refl, subst}
use Rattle.check_words.specs.StmtViews.{IsClause}
use Rattle.check_words.proofs.Entering.{unit-stands}
use Rattle.check_words.proofs.Flowing.{flow-now}
use Rattle.check_words.proofs.Standing.{flow-below}
use Rattle.check_words.proofs.Stepping.{told-last}
use Rattle.check_work.specs.Views.{block_of, match_of, state_of, unit_of}
use Rattle.check_work.proofs.Noting.{at-hand, mapped-last}
use Rattle.needs_of_matches.proofs.MatchSteps.{clause-comes, clause-stands, ended-match}
use Rattle.needs_of_matches.proofs.matches.end_clause.Goals as goal

pub returns-clause-stands : goal.returns-clause-stands
returns-clause-stands c = λ env h.
    let unit = unit_of c.in_ok-unit.unit.now in
    let known = (unit-stands (state_of env c.args.work.now) h (map unit_of c.args.work.now.around.items) unit (at-hand _ _ _ c.in_ok-unit.ensures)).flow in
    let ended = ended-match (match_of c.in_ok-held.held) _ _ c.clause_of.result c.in_ok-end.end c.take_patterns-patterns.ensures.left c.in_ok-finish.ensures in
    clause-stands _ _ (match_of c.in_ok-held.held) (mapped-last match_of _ _ _ c.in_ok-held.ensures) c.in_ok-end.end _ _ _ _ c.clause_of.result refl
    refl refl (told-last _ _ _ _ (mapped-last match_of _ _ _ c.in_ok-push.ensures.items) ended)
    (flow-below (length env) unit.flow c.in_ok-end.end c.in_ok-end.ensures known) (c.in_ok-block.ensures.stands env h)

pub returns-clause-comes : goal.returns-clause-comes
returns-clause-comes c = λ env.
    let unit = unit_of c.in_ok-unit.unit.now in
    let ended = ended-match (match_of c.in_ok-held.held) _ _ c.clause_of.result c.in_ok-end.end c.take_patterns-patterns.ensures.left c.in_ok-finish.ensures in
    clause-comes _ _ (match_of c.in_ok-held.held) (mapped-last match_of _ _ _ c.in_ok-held.ensures) c.in_ok-end.end _ _ _ _ c.clause_of.result refl
    refl refl (told-last _ _ _ _ (mapped-last match_of _ _ _ c.in_ok-push.ensures.items) ended)
    (state_of env c.args.work.now) c.args.at unit.flow (block_of c.in_ok-block.block)
    (flow-now (state_of env c.args.work.now) (map unit_of c.args.work.now.around.items) unit (at-hand _ _ _ c.in_ok-unit.ensures)) (c.in_ok-block.ensures.comes env)
    c.in_ok-end.ensures (subst (λ ps. IsClause ps c.in_ok-block.block.stmts.items c.args.at c.clause_of.result) c.take_patterns-patterns.ensures.taken c.clause_of.ensures)
