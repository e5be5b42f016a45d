use Rattle.std.proofs.Common.{◌∙◌, All, length, subst, sym}
use Rattle.std.proofs.lemmas.List.Elements.{All-head, All-tail}
use Rattle.flow_narrowing.specs.Flows.{IsJoin, VariablesBelow}
use Rattle.check_words.specs.Branches.{matched_as}
use Rattle.check_words.specs.Stands.{FlowBelow}
use Rattle.check_words.proofs.Standing.{flow-below}
use Rattle.check_work.specs.Views.{match_of}
use Rattle.needs_of_loops.proofs.Answered.{if-then}
use Rattle.needs_of_matches.proofs.ClauseSteps.{matched-below}
use Rattle.needs_of_matches.proofs.EndSteps.{left-joined, left-met}
use Rattle.needs_of_matches.proofs.ends.all_met.Goals as goal

pub join_all-requires-clause-first : goal.join_all-requires-clause-first
join_all-requires-clause-first g c = let P = FlowBelow (length (g.T.Types.atoms c.args.types.now)) in All-head P _ _ (subst (All P) (sym c.as_slice.ensures.value ∙ c.in-Some.ensures) c.requires.ends)

pub join_all-requires-clause-others : goal.join_all-requires-clause-others
join_all-requires-clause-others g c = let P = FlowBelow (length (g.T.Types.atoms c.args.types.now)) in All-tail P _ _ (subst (All P) (sym c.as_slice.ensures.value ∙ c.in-Some.ensures) c.requires.ends)

pub join-requires-clause-first : goal.join-requires-clause-first
join-requires-clause-first g c = subst (λ env. VariablesBelow (length env) c.in_ok-met-in-Some.met.variables) (sym c.in_ok-met-in-Some.ensures.atoms) c.in_ok-met-in-Some.ensures.below

pub join-requires-clause-second : goal.join-requires-clause-second
join-requires-clause-second g c =
    let n = length (g.T.Types.atoms c.args.types.now) in
    let held = c.args.held.now in
    subst (λ env. VariablesBelow (length env) c.in_ok-left.left.variables) (sym c.in_ok-met-in-Some.ensures.atoms)
    (flow-below n (matched_as held.on held.left held.before) c.in_ok-left.left c.in_ok-left.ensures (matched-below n held.on held.left held.before c.requires.left c.requires.before))

pub returns-in_ok-met-in-Some-clause-below : goal.returns-in_ok-met-in-Some-clause-below
returns-in_ok-met-in-Some-clause-below g c =
    if-then c.join.result (λ flow below. subst (λ env. FlowBelow (length env) flow) c.in_ok-met-in-Some.ensures.atoms below) c.join.ensures.below

pub returns-in_ok-met-in-Some-clause-is : goal.returns-in_ok-met-in-Some-clause-is
returns-in_ok-met-in-Some-clause-is g c =
    let env = g.T.Types.atoms c.args.types.now in
    if-then c.join.result (λ flow is. left-joined env (match_of c.args.held.now) c.in-Some.first.now c.in_ok-met-in-Some.met c.in_ok-left.left flow c.in-Some.others.now (sym c.as_slice.ensures.value ∙ c.in-Some.ensures)
    c.in_ok-met-in-Some.ensures.is c.in_ok-left.ensures (subst (λ atoms. IsJoin atoms c.in_ok-met-in-Some.met c.in_ok-left.left flow) c.in_ok-met-in-Some.ensures.atoms is)) c.join.ensures.is

pub returns-in-None-clause-below : goal.returns-in-None-clause-below
returns-in-None-clause-below g c =
    let n = length (g.T.Types.atoms c.args.types.now) in
    let held = c.args.held.now in
    flow-below n (matched_as held.on held.left held.before) c.in_ok-left.left c.in_ok-left.ensures (matched-below n held.on held.left held.before c.requires.left c.requires.before)

pub returns-in-None-clause-is : goal.returns-in-None-clause-is
returns-in-None-clause-is g c = left-met (g.T.Types.atoms c.args.types.now) (match_of c.args.held.now) c.in_ok-left.left (sym c.as_slice.ensures.value ∙ c.in-None.ensures) c.in_ok-left.ensures
