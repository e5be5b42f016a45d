use Rattle.std.proofs.Common.{◌==◌, ◌∙◌, List, ap, length}
use Rattle.type_model.specs.declared.basic.Choice.{Choice}
use Rattle.needs_of_choices.proofs.Chosen.{some-first}
use Rattle.needs_of_choices.proofs.choosing.has_choices.Goals as goal

pub returns-then-not-is_empty-clause-some : goal.returns-then-not-is_empty-clause-some
returns-then-not-is_empty-clause-some c = λ h.
    some-first c.args.t.now.lists c.args.t.now.maps c.is_empty.result (c.is_empty.ensures ∙ ap (λ (cs : List Choice). length cs == 0) c.as_slice.ensures) c.if-not-is_empty.true
