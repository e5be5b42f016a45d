-- Events in the initial part, and those behind it.
use Rattle.std.specs.Prelude.{Bool, true, false, not}
use Rattle.worker_pairing.specs.Marks.{Numbered, is_initial}

abbrev pub is_where : Bool → (Numbered → Bool)
is_where true = is_initial
is_where false = λ e. not (is_initial e)
