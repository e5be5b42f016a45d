use Rattle.std.proofs.Common.{◌≡◌, All, length, rules, subst, sym}
use Rattle.flow_narrowing.specs.declared.flow.Joins.TheVariants.{First, Second, Both}
use Rattle.flow_narrowing.specs.Changes.{undone}
use Rattle.flow_narrowing.specs.Flows.{VariablesBelow, joins}
use Rattle.flow_narrowing.specs.Meetings.{ChangeJoined}
use Rattle.flow_narrowing.proofs.MetWays.{joined-below, meets-both, meets-first, meets-second, on-both}
use Rattle.flow_narrowing.proofs.changes.Flows.join.Goals as goal

pub returns-in-First-clause-is : goal.returns-in-First-clause-is
returns-in-First-clause-is g c =
    let vs = c.args.self.now.variables.items in
    let new = c.resume.new.self in
    let which : joins c.args.first.reached c.args.second.reached ≡ First = search rules in
    on-both c.resume.result (new.variables.items ≡ undone c.args.first.changes.items vs) (new.reached ≡ c.args.first.reached) _
    (λ is reached. meets-first (g.T.Types.atoms c.args.types.now) vs new.variables.items c.args.first c.args.second new.reached which is reached)
    c.resume.ensures.variables c.resume.ensures.reached

pub returns-in-Second-clause-is : goal.returns-in-Second-clause-is
returns-in-Second-clause-is g c =
    let vs = c.args.self.now.variables.items in
    let new = c.resume-in-Second.new.self in
    let which : joins c.args.first.reached c.args.second.reached ≡ Second = search rules in
    on-both c.resume-in-Second.result (new.variables.items ≡ undone c.args.second.changes.items vs) (new.reached ≡ c.args.second.reached) _
    (λ is reached. meets-second (g.T.Types.atoms c.args.types.now) vs new.variables.items c.args.first c.args.second new.reached which is reached)
    c.resume-in-Second.ensures.variables c.resume-in-Second.ensures.reached

pub returns-in_ok-changes-in-Both-clause-is : goal.returns-in_ok-changes-in-Both-clause-is
returns-in_ok-changes-in-Both-clause-is g c =
    let vs = c.args.self.now.variables.items in
    let new = c.resume-in-Both.new.self in
    let cs = c.in_ok-changes-in-Both.changes.items in
    let which : joins c.args.first.reached c.args.second.reached ≡ Both = search rules in
    let joined : All (ChangeJoined (g.T.Types.atoms c.args.types.now) vs c.args.first.changes.items c.args.second.changes.items) cs =
    subst (λ vs. All (ChangeJoined (g.T.Types.atoms c.args.types.now) vs c.args.first.changes.items c.args.second.changes.items) cs) c.as_slice.ensures.value
    c.in_ok-changes-in-Both.ensures.joined in
    on-both c.resume-in-Both.result (new.variables.items ≡ undone cs vs) (new.reached ≡ c.args.first.reached) _
    (λ is reached. meets-both (g.T.Types.atoms c.args.types.now) vs new.variables.items c.args.first c.args.second new.reached cs which joined
    c.in_ok-changes-in-Both.ensures.first c.in_ok-changes-in-Both.ensures.second is reached)
    c.resume-in-Both.ensures.variables c.resume-in-Both.ensures.reached

pub returns-in_ok-changes-in-Both-clause-defined : goal.returns-in_ok-changes-in-Both-clause-defined
returns-in_ok-changes-in-Both-clause-defined g c =
    let n = length (g.T.Types.atoms c.args.types.now) in
    let vs = c.args.self.now.variables.items in
    let new = c.resume-in-Both.new.self in
    let cs = c.in_ok-changes-in-Both.changes.items in
    let below : VariablesBelow n (undone cs vs) = joined-below n vs c.args.first.changes.items cs c.requires.first c.in_ok-changes-in-Both.ensures.below c.in_ok-changes-in-Both.ensures.first in
    on-both c.resume-in-Both.result (new.variables.items ≡ undone cs vs) (new.variables.items ≡ undone cs vs) _
    (λ is again. subst (VariablesBelow n) (sym is) below) c.resume-in-Both.ensures.variables c.resume-in-Both.ensures.variables
