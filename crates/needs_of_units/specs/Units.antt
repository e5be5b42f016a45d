-- Units in which nothing is yet.
use Rattle.std.specs.Prelude.{ℕ, Bool, [], None}
use Rattle.typed_tree.specs.SharedTypes.{Shared}
use Rattle.check_words.specs.State.{UnitAtWork}

-- no slots, no parameters, and nothing captured
abbrev pub bare_unit : ℕ → ℕ → Shared → Bool → UnitAtWork
bare_unit number worker result reached =
    record {
      number = number;
      worker = worker;
      slots = [];
      params = 0;
      rest = None;
      rest_member = None;
      result = result;
      arrow = 0;
      future = 0;
      captured = [];
      flow = record { variables = []; reached = reached };
    }
