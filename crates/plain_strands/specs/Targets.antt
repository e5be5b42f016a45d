-- Strands that are waited for, as they are held.
use Rattle.std.specs.Prelude.{Bool}
use Rattle.value_model.specs.PanicName.{future_taken}
use Rattle.op_model.specs.Common as model
use Rattle.op_model.specs.Effects.{Effect, lifted}
use Rattle.op_model.specs.Rows.{gives_error}
use Rattle.op_model.specs.Waits as waits
use Rattle.plain_strands.specs.declared.waits.Target.{Target}

abbrev pub target_of : Target → waits.Target
target_of t = record { strand = t.strand; is_worker = t.is_worker }

-- whether its result was taken, from now on
abbrev pub with_taken : Bool → model.Strand → model.Strand
with_taken taken s = record { unit = s.unit; role = s.role; status = s.status; taken = taken }

-- an error is given, since the result was taken before
abbrev pub taken_given : model.Common → Effect
taken_given c = lifted c (gives_error c.world future_taken)
