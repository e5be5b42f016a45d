use Rattle.needs_of_functions.proofs.FunctionsBegun.{slots-alone, slots-with-rest}
use Rattle.needs_of_functions.proofs.functions.function_slots.Goals as goal

pub returns-in_ok-push-in-Some : goal.returns-in_ok-push-in-Some
returns-in_ok-push-in-Some c =
    slots-with-rest c.args.f.now _ _ _ _ c.in_ok-lists-in-Some.lists c.in-Some.is c.as_slice-params.ensures c.in_ok-slots.ensures c.in_ok-lists-in-Some.ensures
    c.in_ok-push-in-Some.ensures.items

pub returns-in-None : goal.returns-in-None
returns-in-None c = slots-alone c.args.f.now _ c.in_ok-slots.slots.items c.in-None.is c.as_slice-params.ensures c.in_ok-slots.ensures
