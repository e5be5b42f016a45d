use Rattle.std.proofs.Common.{subst, sym}
use Rattle.check_words.specs.Branches.{matched_as}
use Rattle.check_words.specs.Sharing.{SameFlow}
use Rattle.check_work.specs.Views.{flow_of}
use Rattle.needs_of_matches.proofs.ClauseSteps.{retyped-as}
use Rattle.needs_of_matches.proofs.clauses.retype_if.Goals as goal

pub returns-in_ok-t-in-Some : goal.returns-in_ok-t-in-Some
returns-in_ok-t-in-Some c = λ f known.
    subst (λ on. SameFlow (matched_as on c.args.t.now f) (flow_of c.retype.new.self)) (sym c.in-Some.is)
    (retyped-as c.in-Some.name c.args.t.now c.in_ok-t-in-Some.t f (flow_of c.args.here.now) _ c.in_ok-t-in-Some.ensures c.retype.ensures known)
