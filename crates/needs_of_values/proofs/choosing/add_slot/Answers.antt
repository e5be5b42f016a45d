use Rattle.std.proofs.Common.{refl}
use Rattle.needs_of_values.proofs.choosing.add_slot.Goals as goal

pub returns : goal.returns
returns c =
    record {
      unit = c.in_ok-own.own;
      was = c.in_ok-own.ensures;
      after = c.new_slot.new.self;
      is = refl;
      more = c.in_ok-slot.ensures.unit;
      number = c.in_ok-slot.ensures.slot;
    }
