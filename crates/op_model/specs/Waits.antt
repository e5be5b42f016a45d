-- Waits for strands (Ballerina's "Wait action"): what is given, and what is taken.
use Rattle.std.specs.Prelude.{◌+◌, ◌++◌, ◌&&◌, ℕ, zero, suc, Bool, true, false, List, [], ◌∷◌, Option, Some, None, filter, get_or, length, map, nat_lt, not, option_map, slice_get, zip, if◌then◌else◌, fold}
use Rattle.bal_base.specs.declared.text.Text.{Text}
use Rattle.type_model.specs.declared.atoms.AtomDef.{AtomDef}
use Rattle.type_model.specs.declared.atoms.AtomDef.TheVariants.{List as ListAtom, Mapping as MappingAtom, Arrow, Error as ErrorAtom, Future as FutureAtom}
use Rattle.value_model.specs.declared.value.Value.{Value}
use Rattle.value_model.specs.declared.value.Value.TheVariants.{Nil, Bool as Truth, Int, Str, Struct, Error, Function, Future}
use Rattle.value_model.specs.PanicName.{future_taken}
use Rattle.value_model.specs.Heap.{Entries, ErrorObject}
use Rattle.value_model.specs.World.{World}
use Rattle.op_model.specs.Levels.{numbers_from}
use Rattle.op_model.specs.Rows.{gives, gives_error, new_structure, next_error, next_structure, with_heap, within}
use Rattle.op_model.specs.Common.{Common, Role, Strand, End, Returned, Panicked, Status, IsActive, IsBlocked, IsEnded, AllEnded, AnyGiven}
use Rattle.op_model.specs.Strands.{activation_at, end_of, has_ended, has_success, met, strand_at, with_strand}
use Rattle.op_model.specs.Effects.{Effect, Gives, Fails, Waits, lifted}

-- a strand that is waited for, as a worker or as a future
pub record Target : Type 0 where
  pub strand : ℕ
  pub is_worker : Bool

abbrev pub worker_target : Common → Role → ℕ → Option Target
worker_target c r worker = option_map (λ n. record { strand = n; is_worker = true }) (slice_get (activation_at c r.activation).strands worker)

abbrev pub future_target : ℕ → Target
future_target n = record { strand = n; is_worker = false }

abbrev pub strands_in : List Target → List ℕ
strands_in ts = map (λ t. t.strand) ts

-- ---- what a strand that has ended gives

-- the result of a future is taken, that of a worker never is
abbrev pub took : Common → Target → Common
took c t =
    if t.is_worker then c
    else with_strand c t.strand (record { unit = (strand_at c t.strand).unit; role = (strand_at c t.strand).role; status = (strand_at c t.strand).status; taken = true })

abbrev pub is_taken : Common → Target → Bool
is_taken c t = not t.is_worker && (strand_at c t.strand).taken

abbrev pub ends_with : Common → End → Effect
ends_with c (Returned v) = Gives (v ∷ []) c
ends_with c (Panicked e) = Fails e c

-- its result, or its panic; an error where it was taken before
abbrev pub gives_end : Common → Target → End → Effect
gives_end c t end = if is_taken c t then lifted c (gives_error c.world future_taken) else ends_with (took c t) end

-- ---- a wait for one strand

abbrev pub waits_for : Common → Target → Option End → Effect
waits_for c t (Some end) = gives_end c t end
waits_for c t None = Waits (AllEnded (t.strand ∷ []))

abbrev pub waits : Common → Target → Effect
waits c t = waits_for c t (end_of c t.strand)

-- ---- an alternate wait

-- how many strands had ended before it
abbrev pub place_in : Status → ℕ
place_in IsActive = 0
place_in (IsBlocked need) = 0
place_in (IsEnded place end) = place

abbrev pub place_of_end : Common → Target → ℕ
place_of_end c t = place_in (strand_at c t.strand).status

abbrev pub earlier : Common → Target → Target → Target
earlier c t u = if nat_lt (place_of_end c u) (place_of_end c t) then u else t

abbrev pub later : Common → Target → Target → Target
later c t u = if nat_lt (place_of_end c t) (place_of_end c u) then u else t

-- the first one that was completed of those with a result that is no error and not taken; else the last one completed
abbrev pub chosen : Common → List Target → List Target → Option Target
chosen c (t ∷ ts) all = Some (fold (earlier c) t ts)
chosen c [] (t ∷ ts) = Some (fold (later c) t ts)
chosen c [] [] = None

abbrev pub gives_chosen : Common → Option Target → Effect
gives_chosen c (Some t) = waits c t
gives_chosen c None = Waits (AnyGiven [])

abbrev pub waits_any : Common → List Target → Effect
waits_any c ts =
    if met c (AnyGiven (strands_in ts))
    then gives_chosen c (chosen c (filter (λ t. has_success c t.strand) ts) ts)
    else Waits (AnyGiven (strands_in ts))

-- ---- a multiple wait

-- the results in their order, `None` where one was taken before; or the first panic
pub data Collected : Type 0 where
  Results : List (Option Value) → Common → Collected
  FirstPanic : Value → Common → Collected

abbrev pub behind : Option Value → Collected → Collected
behind v (Results vs c) = Results (v ∷ vs) c
behind v (FirstPanic e c) = FirstPanic e c

abbrev pub collects_end : (Common → Collected) → Common → Target → Option End → Collected
collects_end more c t (Some (Returned v)) = if is_taken c t then behind None (more c) else behind (Some v) (more (took c t))
collects_end more c t (Some (Panicked e)) = if is_taken c t then behind None (more c) else FirstPanic e (took c t)
collects_end more c t None = behind None (more c)

abbrev pub collects : List Target → Common → Collected
collects [] c = Results [] c
collects (t ∷ ts) c = collects_end (collects ts) c t (end_of c t.strand)

-- the values, where an error that is made for a taken result is numbered from one on
abbrev pub numbered : ℕ → List (Option Value) → List Value
numbered next [] = []
numbered next (Some v ∷ vs) = v ∷ numbered next vs
numbered next (None ∷ vs) = Error next ∷ numbered (next + 1) vs

abbrev pub missing : List (Option Value) → ℕ
missing [] = 0
missing (Some v ∷ vs) = missing vs
missing (None ∷ vs) = missing vs + 1

abbrev pub field_names : AtomDef → List Text
field_names (MappingAtom fields rest) = map (λ f. f.name) fields
field_names (ListAtom fixed rest) = []
field_names (Arrow args outcome alone) = []
field_names (ErrorAtom detail) = []
field_names (FutureAtom outcome) = []

-- a mapping of the results by the names of the atom's fields; the errors that are made come behind it
abbrev pub with_results : World → ℕ → List Text → List (Option Value) → World
with_results w atom names vs =
    let mapping = new_structure (Some atom) true (Entries (zip names (numbered (next_error w) vs))) in
    let details = map (λ n. new_structure None false (Entries [])) (numbers_from 0 (missing vs)) in
    let errors = map (λ n. let e : ErrorObject = record { message = future_taken; cause = None; detail = n } in e) (numbers_from (next_structure w + 1) (missing vs)) in
    with_heap w (record { structures = w.heap.structures ++ mapping ∷ details; errors = w.heap.errors ++ errors; functions = w.heap.functions })

abbrev pub gives_results : ℕ → List Text → Collected → Effect
gives_results atom names (Results vs c) = lifted c (within (gives (with_results c.world atom names vs) (Struct (next_structure c.world))))
gives_results atom names (FirstPanic e c) = Fails e c

abbrev pub waits_all : Common → ℕ → List Text → List Target → Effect
waits_all c atom names ts =
    if met c (AllEnded (strands_in ts)) then gives_results atom names (collects ts c) else Waits (AllEnded (strands_in ts))

-- ---- which strands the names of a wait stand for: a worker, or the next of the futures that are operands

abbrev pub with_target : Option Target → Option (List Target) → Option (List Target)
with_target (Some t) (Some ts) = Some (t ∷ ts)
with_target (Some t) None = None
with_target None ts = None

abbrev pub targets : Common → Option Role → List (Option ℕ) → List Value → Option (List Target)
targets c role [] [] = Some []
targets c (Some r) (Some worker ∷ names) vs = with_target (worker_target c r worker) (targets c (Some r) names vs)
targets c role (None ∷ names) (Future n unit ∷ vs) = with_target (Some (future_target n)) (targets c role names vs)
targets c role names vs = None
