use Rattle.std.proofs.Common.{◌∙◌, ap, length}
use Rattle.needs_of_functions.proofs.FunctionsBegun.{unit-below, unit-made}
use Rattle.needs_of_functions.proofs.functions.function_unit.Goals as goal

pub returns-clause-is : goal.returns-clause-is
returns-clause-is c =
    unit-made c.args.f.now c.args.gives c.in_ok-slots.slots.items _ _ _ _ c.in_ok-slots.ensures (c.in_ok-params.ensures ∙ ap length c.as_slice-all.ensures.value) c.rest_atom.ensures c.new-captured.ensures.items c.new-variables.ensures.items

pub returns-clause-below : goal.returns-clause-below
returns-clause-below c = λ n h below.
    unit-below n c.args.f.now c.args.gives _
    (unit-made c.args.f.now c.args.gives c.in_ok-slots.slots.items _ _ _ _ c.in_ok-slots.ensures (c.in_ok-params.ensures ∙ ap length c.as_slice-all.ensures.value) c.rest_atom.ensures c.new-captured.ensures.items
    c.new-variables.ensures.items) h below
