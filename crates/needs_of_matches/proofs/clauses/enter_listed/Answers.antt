use Rattle.std.proofs.Common.{OnOk, false, length, subst, sym}
use Rattle.checks.specs.Checks.{Comes}
use Rattle.check_words.specs.Branches.{begins_clause}
use Rattle.check_words.specs.Stands.{MatchBelow, Stands}
use Rattle.check_words.proofs.Standing.{last-has}
use Rattle.check_kinds.proofs.Over.{over-at}
use Rattle.check_work.specs.Views.{match_of, state_of}
use Rattle.check_work.proofs.Noting.{made-comes, made-on}
use Rattle.needs_of_matches.proofs.ClauseSteps.{listed-comes, listed-stops, mapped-is}
use Rattle.needs_of_loops.proofs.Answered.{read-last}
use Rattle.needs_of_matches.proofs.clauses.enter_listed.Goals as goal

pub narrow_match-requires : goal.narrow_match-requires
narrow_match-requires g c = last-has (MatchBelow (length (g.T.Types.atoms c.args.types.now))) _ _ (mapped-is match_of _ _ (read-last _ _ _ c.as_slice.ensures.value c.in-Some.ensures)) c.requires.matches

pub returns-in-Ok-clause-stands : goal.returns-in-Ok-clause-stands
returns-in-Ok-clause-stands g c =
    let env = g.T.Types.atoms c.args.types.now in
    subst (λ r. OnOk r (Stands (state_of env c.take_clause.new.work))) (sym c.lift.ensures)
    (made-on _ c.take_clause.result (c.take_clause.ensures.stands env c.in-Ok.ensures.yes c.in-Ok.ensures.no c.requires))

pub returns-in-Ok-clause-comes : goal.returns-in-Ok-clause-comes
returns-in-Ok-clause-comes g c =
    let env = g.T.Types.atoms c.args.types.now in
    let later = g.T.Types.atoms c.narrow_match.new.types in
    let s = state_of env c.args.work.now in
    let last = mapped-is match_of _ _ (read-last _ _ _ c.as_slice.ensures.value c.in-Some.ensures) in
    subst (λ r. Comes (begins_clause g.T.Types.passes false) s r (state_of later c.take_clause.new.work)) (sym c.lift.ensures)
    (listed-comes g.T.Types.passes s (match_of c.in-Some.held.now) last (state_of later c.args.work.now) _ c.in-Ok.both _ (over-at _ s _ later c.in-Ok.ensures.comes)
    (made-comes _ _ _ c.take_clause.result (c.take_clause.ensures.comes later (match_of c.in-Some.held.now) last)))

pub returns-in-Err-clause-comes : goal.returns-in-Err-clause-comes
returns-in-Err-clause-comes g c =
    let s = state_of (g.T.Types.atoms c.args.types.now) c.args.work.now in
    listed-stops g.T.Types.passes s (match_of c.in-Some.held.now) (mapped-is match_of _ _ (read-last _ _ _ c.as_slice.ensures.value c.in-Some.ensures)) _ c.in-Err.stop (over-at _ s _ _ c.in-Err.ensures.comes)
