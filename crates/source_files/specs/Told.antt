-- Faults with their places as people read them.
use Rattle.std.specs.Prelude.{ℕ, List, [], Option, Some, None, take, chars}
use Rattle.bal_base.specs.Place.{line_after, column_after}
use Rattle.bal_base.specs.declared.fault.Fault.{Fault}
use Rattle.bal_base.specs.declared.fault.Refusal.{Refusal}
use Rattle.bal_base.specs.declared.place.Place.{Place}

abbrev pub told_at : List ℕ → List ℕ → Fault → Option Place → Refusal
told_at name bytes fault (Some place) =
    record {
      fault = fault;
      file = name;
      line = line_after (chars (take place.at bytes));
      column = column_after (chars (take place.at bytes));
    }
told_at name bytes fault None = record { fault = fault; file = []; line = 0; column = 0 }

-- the refusal for the fault, whose place, if it has one, is one in the file with this name and these bytes
abbrev pub refusal_of : List ℕ → List ℕ → Fault → Refusal
refusal_of name bytes fault = told_at name bytes fault fault.at
