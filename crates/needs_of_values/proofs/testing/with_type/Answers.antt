use Rattle.std.proofs.Common.{Some, refl, subst, sym}
use Rattle.std.specs.List.{AllZip}
use Rattle.check_words.specs.Sharing.{SameFlow, SameVariable}
use Rattle.check_words.specs.State.{narrowed_by_name, with_type}
use Rattle.check_words.proofs.Retyping.{same-retyped}
use Rattle.check_work.specs.Views.{flow_of}
use Rattle.needs_of_values.proofs.testing.with_type.Goals as goal

pub returns : goal.returns
returns c =
    let name = c.args.name.now in
    let flow = c.args.flow.now in
    let same =
    subst (SameFlow (with_type name (Some c.args.t) flow)) (sym c.retype.ensures)
    (same-retyped name (Some c.args.t) (Some c.args.t) refl flow (flow_of c.enter.new.self) c.in_ok-_nothing.ensures.entered)
    in
    record {
      variables = subst (AllZip SameVariable (narrowed_by_name flow.variables name (Some c.args.t))) (sym c.of.ensures) same.variables;
      reached = same.reached;
    }
