use Rattle.std.proofs.Common.{◌∙◌, All, length, subst, sym}
use Rattle.std.proofs.lemmas.List.Elements.{All-head, All-tail}
use Rattle.check_words.specs.Stands.{FlowBelow}
use Rattle.check_words.specs.State.{stopped}
use Rattle.check_words.proofs.Standing.{flow-below}
use Rattle.check_work.specs.Views.{match_of}
use Rattle.needs_of_loops.proofs.Answered.{if-then}
use Rattle.needs_of_matches.proofs.EndSteps.{none-met, some-met}
use Rattle.needs_of_matches.proofs.ends.clauses_met.Goals as goal

pub join_all-requires-clause-first : goal.join_all-requires-clause-first
join_all-requires-clause-first g c = let P = FlowBelow (length (g.T.Types.atoms c.args.types.now)) in All-head P _ _ (subst (All P) (sym c.as_slice.ensures.value ∙ c.in-Some.ensures) c.requires.ends)

pub join_all-requires-clause-others : goal.join_all-requires-clause-others
join_all-requires-clause-others g c = let P = FlowBelow (length (g.T.Types.atoms c.args.types.now)) in All-tail P _ _ (subst (All P) (sym c.as_slice.ensures.value ∙ c.in-Some.ensures) c.requires.ends)

pub returns-in-Some-clause-is : goal.returns-in-Some-clause-is
returns-in-Some-clause-is g c =
    if-then c.join_all.result (λ flow is. some-met (g.T.Types.atoms c.args.types.now) (match_of c.args.held.now) c.in-Some.first.now flow c.in-Some.others.now (sym c.as_slice.ensures.value ∙ c.in-Some.ensures) is) c.join_all.ensures.is

pub returns-in-None-clause-below : goal.returns-in-None-clause-below
returns-in-None-clause-below g c =
    if-then c.stopped_flow.result (λ flow same. flow-below (length (g.T.Types.atoms c.args.types.now)) (stopped c.args.held.now.before) flow same c.requires.before) c.stopped_flow.ensures

pub returns-in-None-clause-is : goal.returns-in-None-clause-is
returns-in-None-clause-is g c =
    if-then c.stopped_flow.result (λ flow same. none-met (g.T.Types.atoms c.args.types.now) (match_of c.args.held.now) flow (sym c.as_slice.ensures.value ∙ c.in-None.ensures) same) c.stopped_flow.ensures
