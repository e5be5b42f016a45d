-- Strands and channels that are looked up.
use Rattle.std.specs.Prelude.{Bool, List, [], ◌∷◌, ◌++◌, Option, Some, None, ℕ, get_or, slice_set}
use Rattle.op_model.specs.Common as model
use Rattle.op_model.specs.Strands.{no_activation, no_channel, no_strand, strand_at, wakes, with_status}
use Rattle.plain_run.specs.declared.held.Channel.{Channel}
use Rattle.plain_run.specs.Held.{channel_of}
use Rattle.plain_run.specs.Blocked.{listed_if}

-- a channel that is not there is empty
abbrev pub channel_there : Option Channel → model.Channel
channel_there (Some x) = channel_of x
channel_there None = no_channel

-- the strand with this number stands so from now on
abbrev pub stands_so : List model.Strand → ℕ → model.Status → List model.Strand
stands_so ss n status = slice_set ss n (with_status (get_or ss n no_strand) status)

-- these strands are active
abbrev pub all_woken : List ℕ → List model.Strand → List model.Strand
all_woken [] ss = ss
all_woken (n ∷ ns) ss = all_woken ns (stands_so ss n model.IsActive)

-- of the strands with these numbers, those that wake
abbrev pub woken_among : model.Common → List ℕ → List ℕ
woken_among c [] = []
woken_among c (n ∷ ns) = listed_if (wakes c (strand_at c n).status) n ++ woken_among c ns

-- whether the result of the strand with this number was taken is so from now on
abbrev pub taken_so : List model.Strand → ℕ → Bool → List model.Strand
taken_so ss n taken =
    let s = get_or ss n no_strand in
    slice_set ss n (record { unit = s.unit; role = s.role; status = s.status; taken = taken })

-- the worker has ended so
abbrev pub ends_so : List model.Activation → model.Role → model.End → List model.Activation
ends_so xs r end =
    let x = get_or xs r.activation no_activation in
    slice_set xs r.activation (record { unit = x.unit; strands = x.strands; ends = slice_set x.ends r.worker (Some end); channels = x.channels })
