use Rattle.std.proofs.Common.{OnOk, length, subst, sym}
use Rattle.checks.specs.Checks.{Comes}
use Rattle.check_words.specs.Branches.{makes_match}
use Rattle.check_words.specs.Stands.{MatchBelow, Stands}
use Rattle.check_kinds.proofs.Over.{over-at}
use Rattle.check_work.specs.Views.{match_of, state_of}
use Rattle.check_work.proofs.Noting.{made-comes, made-on}
use Rattle.needs_of_matches.proofs.EndSteps.{match-comes, match-stops}
use Rattle.needs_of_matches.proofs.ends.make_match.Goals as goal

pub some_left-requires : goal.some_left-requires
some_left-requires g c = (c.in-Ok.ensures.below (g.T.Types.atoms c.args.types.now) c.requires).left

pub end_match-requires-clause-below : goal.end_match-requires-clause-below
end_match-requires-clause-below g c =
    subst (λ env. MatchBelow (length env) (match_of c.in-Ok.held)) (sym c.in-Ok-some_left.ensures.atoms) (c.in-Ok.ensures.below (g.T.Types.atoms c.args.types.now) c.requires)

pub end_match-requires-clause-stands : goal.end_match-requires-clause-stands
end_match-requires-clause-stands g c =
    subst (λ env. Stands (state_of env c.close_match.new.work)) (sym c.in-Ok-some_left.ensures.atoms) (c.in-Ok.ensures.stands (g.T.Types.atoms c.args.types.now) c.requires)

pub returns-in-Ok-some_left-clause-stands : goal.returns-in-Ok-some_left-clause-stands
returns-in-Ok-some_left-clause-stands g c =
    subst (λ r. OnOk r (Stands (state_of (g.T.Types.atoms c.args.types.now) c.end_match.new.work))) (sym c.lift.ensures)
    (made-on _ c.end_match.result
    (subst (λ env. OnOk c.end_match.result (Stands (state_of env c.end_match.new.work))) c.in-Ok-some_left.ensures.atoms c.end_match.ensures.stands))

pub returns-in-Ok-some_left-clause-comes : goal.returns-in-Ok-some_left-clause-comes
returns-in-Ok-some_left-clause-comes g c =
    let env = g.T.Types.atoms c.args.types.now in
    let s = state_of env c.args.work.now in
    let late = g.T.Types.atoms c.some_left.new.types in
    let new = state_of late c.end_match.new.work in
    subst (λ atoms. Comes (makes_match g.T.Types.passes c.args.any c.args.at) s c.lift.result (state_of atoms c.end_match.new.work)) (sym c.end_match.ensures.atoms)
    (subst (λ r. Comes (makes_match g.T.Types.passes c.args.any c.args.at) s r new) (sym c.lift.ensures)
    (match-comes g.T.Types.passes c.args.any c.args.at s (state_of env c.close_match.new.work) (match_of c.in-Ok.held) (c.in-Ok.ensures.comes env) _ new c.in-Ok-some_left.left _
    (over-at _ (state_of env c.close_match.new.work) _ _ c.in-Ok-some_left.ensures.comes) (made-comes _ _ new c.end_match.result c.end_match.ensures.comes)))

pub returns-in-Err-some_left-clause-comes : goal.returns-in-Err-some_left-clause-comes
returns-in-Err-some_left-clause-comes g c =
    let env = g.T.Types.atoms c.args.types.now in
    let mid = state_of env c.close_match.new.work in
    match-stops g.T.Types.passes c.args.any c.args.at (state_of env c.args.work.now) mid (match_of c.in-Ok.held) (c.in-Ok.ensures.comes env) _ c.in-Err-some_left.stop
    (over-at _ mid _ _ c.in-Err-some_left.ensures.comes)
