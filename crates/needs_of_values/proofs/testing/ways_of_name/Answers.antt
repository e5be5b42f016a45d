use Rattle.std.proofs.Common.{None, Ok, Some, length, subst, sym}
use Rattle.checks.proofs.Steps.{ran_out}
use Rattle.flow_narrowing.specs.Flows.{VariableBelow}
use Rattle.check_words.specs.Stands.{SharedBelow}
use Rattle.check_words.specs.Values.{ways_if}
use Rattle.check_work.specs.Views.{flow_of}
use Rattle.needs_of_values.specs.Tested.{ComesToWays}
use Rattle.needs_of_values.proofs.Sorting.{over-same}
use Rattle.needs_of_values.proofs.Tested.{named-has, named-in, narrows-so, none-tested, now-below, one-tested, test-stops, typed-below, ways-stop}
use Rattle.needs_of_values.proofs.testing.ways_of_name.Goals as goal

pub narrowed-requires-clause-left : goal.narrowed-requires-clause-left
narrowed-requires-clause-left g c =
    let n = length (g.T.Types.atoms c.args.types.now) in
    subst (SharedBelow n) (sym c.shared_now.ensures) (now-below n _ (named-has (VariableBelow n) c.args.here.now.variables.items c.args.name.now _ c.requires.flow (sym (named-in _ _ c.args.name.now _ c.as_slice.ensures.value c.in-Some.ensures))))

pub returns-in_default-clause-comes : goal.returns-in_default-clause-comes
returns-in_default-clause-comes g c = λ s e here.
    subst (λ o. ComesToWays (ways_if g.T.Types.passes c.args.name.now o c.args.t.now c.args.at) s (Ok None)) (named-in _ _ c.args.name.now _ c.as_slice.ensures.value c.in_default.ensures) (none-tested g.T.Types.passes c.args.at c.args.name.now c.args.t.now s)

pub returns-clause-below : goal.returns-clause-below
returns-clause-below g c =
    let n = length (g.T.Types.atoms c.args.types.now) in
    record {
      yes = typed-below n c.args.name.now (flow_of c.args.here.now) _ _ c.requires.flow c.in_ok-yes.ensures.yes c.in_ok-ways.ensures.yes;
      no = typed-below n c.args.name.now (flow_of c.args.here.now) _ _ c.requires.flow c.in_ok-yes.ensures.no c.in_ok-ways.ensures.no;
    }

pub returns-clause-comes : goal.returns-clause-comes
returns-clause-comes g c = λ s e here.
    subst (λ o. ComesToWays (ways_if g.T.Types.passes c.args.name.now o c.args.t.now c.args.at) s (Ok (Some c.in_ok-ways.ways))) (named-in _ _ c.args.name.now _ c.as_slice.ensures.value c.in-Some.ensures)
    (one-tested g.T.Types.passes c.args.at c.args.name.now c.args.t.now s (flow_of c.args.here.now) here c.in-Some.v.now c.in_ok-yes.yes c.in_ok-yes.no c.in_ok-ways.ways
    (over-same _ s _ _ _ (sym e) c.in_ok-yes.ensures.atoms
    (narrows-so g.T.Types.passes c.args.at c.args.t.now _ _ c.shared_now.ensures _ _ _ c.in_ok-yes.ensures.comes)) c.in_ok-ways.ensures.yes c.in_ok-ways.ensures.no)

pub returns-in_err-yes-clause-comes : goal.returns-in_err-yes-clause-comes
returns-in_err-yes-clause-comes g c = λ s e here.
    subst (λ o. ComesToWays (ways_if g.T.Types.passes c.args.name.now o c.args.t.now c.args.at) s c.from_residual.result) (named-in _ _ c.args.name.now _ c.as_slice.ensures.value c.in-Some.ensures)
    (ways-stop _ s _ _ c.from_residual.ensures
    (test-stops g.T.Types.passes c.args.at c.args.name.now c.args.t.now s (flow_of c.args.here.now) here c.in-Some.v.now _
    (over-same _ s _ _ _ (sym e) c.in_err-yes.ensures.atoms
    (narrows-so g.T.Types.passes c.args.at c.args.t.now _ _ c.shared_now.ensures _ _ _ c.in_err-yes.ensures.comes))))

pub returns-in_err-ways-clause-comes : goal.returns-in_err-ways-clause-comes
returns-in_err-ways-clause-comes g c = λ s e here. ways-stop _ s _ _ c.from_residual-in_err-ways.ensures (ran_out _ s s)
