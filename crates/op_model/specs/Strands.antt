-- Strands and workers: who has ended, whose needs are met, and who becomes ready.
use Rattle.std.specs.Prelude.{◌+◌, ◌++◌, ◌&&◌, ◌||◌, ℕ, zero, suc, Bool, true, false, List, [], ◌∷◌, Option, Some, None, get_or, is_some, length, map, nat_le, not, slice_get, slice_set, if◌then◌else◌}
use Rattle.std.specs.List.{list_all, list_any}
use Rattle.value_model.specs.declared.value.Value.{Value}
use Rattle.value_model.specs.declared.value.Value.TheVariants.{Nil, Bool as Truth, Int, Str, Struct, Error, Function, Future}
use Rattle.op_model.specs.Common.{Common, Strand, Activation, Channel, Role, End, Returned, Panicked, Need, Message, Received, AllEnded, AnyGiven, Status, IsActive, IsBlocked, IsEnded}

-- ---- what is there

abbrev pub no_strand : Strand
no_strand = record { unit = 0; role = None; status = IsActive; taken = false }

abbrev pub no_channel : Channel
no_channel = record { sent = 0; received = 0; queue = [] }

abbrev pub no_activation : Activation
no_activation = record { unit = 0; strands = []; ends = []; channels = [] }

abbrev pub strand_at : Common → ℕ → Strand
strand_at c n = get_or c.strands n no_strand

abbrev pub activation_at : Common → ℕ → Activation
activation_at c a = get_or c.activations a no_activation

abbrev pub channel_at : Common → ℕ → ℕ → ℕ → Channel
channel_at c a from to = get_or (get_or (activation_at c a).channels from []) to no_channel

abbrev pub end_in : Status → Option End
end_in IsActive = None
end_in (IsBlocked need) = None
end_in (IsEnded place end) = Some end

-- how a strand ended, and how a worker did
abbrev pub end_of : Common → ℕ → Option End
end_of c n = end_in (strand_at c n).status

abbrev pub worker_end : Common → ℕ → ℕ → Option End
worker_end c a worker = get_or (activation_at c a).ends worker None

-- ---- needs

abbrev pub is_error : Value → Bool
is_error (Error n) = true
is_error Nil = false
is_error (Truth b) = false
is_error (Int i) = false
is_error (Str t) = false
is_error (Struct n) = false
is_error (Function n) = false
is_error (Future strand unit) = false

-- it returned a value that is no error
abbrev pub is_success : Option End → Bool
is_success (Some (Returned v)) = not (is_error v)
is_success (Some (Panicked e)) = false
is_success None = false

abbrev pub has_ended : Common → ℕ → Bool
has_ended c n = is_some (end_of c n)

-- the strand has a result that is no error and that was not taken
abbrev pub has_success : Common → ℕ → Bool
has_success c n = is_success (end_of c n) && not (strand_at c n).taken

abbrev pub is_there : List Value → Bool
is_there [] = false
is_there (v ∷ vs) = true

abbrev pub met : Common → Need → Bool
met c (Message a from to) = is_there (channel_at c a from to).queue || is_some (worker_end c a from)
met c (Received a from to count) = nat_le count (channel_at c a from to).received || is_some (worker_end c a to)
met c (AllEnded ns) = list_all (has_ended c) ns
met c (AnyGiven ns) = list_any (has_success c) ns || list_all (has_ended c) ns

-- ---- who becomes ready

abbrev pub wakes : Common → Status → Bool
wakes c IsActive = false
wakes c (IsBlocked need) = met c need
wakes c (IsEnded place end) = false

abbrev pub with_status : Strand → Status → Strand
with_status s status = record { unit = s.unit; role = s.role; status = status; taken = s.taken }

abbrev pub woken : Common → Strand → Strand
woken c s = if wakes c s.status then with_status s IsActive else s

abbrev pub woken_from : Common → ℕ → List Strand → List ℕ
woken_from c n [] = []
woken_from c n (s ∷ ss) = if wakes c s.status then n ∷ woken_from c (n + 1) ss else woken_from c (n + 1) ss

-- the blocked strands whose needs are met by now are ready, by rising number
abbrev pub settled : Common → Common
settled c = record c { strands = map (woken c) c.strands; ready = c.ready ++ woken_from c 0 c.strands }

-- ---- changes

abbrev pub with_strand : Common → ℕ → Strand → Common
with_strand c n s = record c { strands = slice_set c.strands n s }

abbrev pub with_activation : Common → ℕ → Activation → Common
with_activation c a x = record c { activations = slice_set c.activations a x }

abbrev pub with_channel : Common → ℕ → ℕ → ℕ → Channel → Common
with_channel c a from to channel =
    let x = activation_at c a in
    with_activation c a (record { unit = x.unit; strands = x.strands; ends = x.ends; channels = slice_set x.channels from (slice_set (get_or x.channels from []) to channel) })

-- the running strand has stopped, for a need
abbrev pub strand_blocked : Need → Common → Common
strand_blocked need c = with_strand c c.running (with_status (strand_at c c.running) (IsBlocked need))

-- the number of strands that have ended
abbrev pub ended_count : List Strand → ℕ
ended_count [] = 0
ended_count (s ∷ ss) = (if is_some (end_in s.status) then 1 else 0) + ended_count ss

-- the running strand has ended
abbrev pub strand_ended : End → Common → Common
strand_ended end c = with_strand c c.running (with_status (strand_at c c.running) (IsEnded (ended_count c.strands) end))

-- a worker has ended, where the frame was one
abbrev pub worker_ended : End → Option Role → Common → Common
worker_ended end None c = c
worker_ended end (Some r) c =
    let x = activation_at c r.activation in
    with_activation c r.activation (record { unit = x.unit; strands = x.strands; ends = slice_set x.ends r.worker (Some end); channels = x.channels })

-- and so several, as where a panic ends many frames: whoever wakes is sorted once, by `settled`, when all have ended
abbrev pub workers_ended : End → List (Option Role) → Common → Common
workers_ended end [] c = c
workers_ended end (r ∷ rs) c = workers_ended end rs (worker_ended end r c)

-- a strand is made for a unit, and is ready last
abbrev pub strand_made : ℕ → Option Role → Common → Common
strand_made unit role c =
    record c { strands = c.strands ++ record { unit = unit; role = role; status = IsActive; taken = false } ∷ []; ready = c.ready ++ length c.strands ∷ [] }
