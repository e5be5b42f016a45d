use Rattle.std.proofs.Common.{refl}
use Rattle.needs_of_operators.proofs.errors.add_slot.Goals as goal

pub returns : goal.returns
returns c =
    record {
      before = c.in_ok-held.held;
      after = _;
      was = c.in_ok-held.ensures;
      is = refl;
      unit = c.in_ok-slot.ensures.unit;
      number = c.in_ok-slot.ensures.slot;
    }
