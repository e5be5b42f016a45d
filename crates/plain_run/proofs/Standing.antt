-- A strand or a worker that stands otherwise from now on.
use Rattle.std.proofs.Common.{◌≡◌, ℕ, Bool, List, Some, map, sym, ap, ◌∙◌}
use Rattle.std.specs.Prelude.{option_map, slice_get, slice_set}
use Rattle.op_model.specs.Common as model
use Rattle.op_model.specs.Strands.{no_activation, no_strand, with_status}
use Rattle.plain_run.specs.declared.held.Activation.{Activation}
use Rattle.plain_run.specs.declared.held.Strand.{Strand}
use Rattle.plain_run.specs.Held.{activation_of, channel_of, end_of, strand_of}
use Rattle.plain_run.specs.Strands.{ends_so, stands_so, taken_so}
use Rattle.plain_run.proofs.Looking.{get-there}
use Rattle.plain_run.proofs.Settling.{set-there}

pub stands-there : (ss : List Strand) (n : ℕ) (s t : Strand) (status : model.Status) → slice_get ss n ≡ Some s → strand_of t ≡ with_status (strand_of s) status → map strand_of (slice_set ss n t) ≡ stands_so (map strand_of ss) n status
stands-there ss n s t status e h =
    set-there strand_of ss n t (with_status (strand_of s) status) h
    ∙ ap (λ x. slice_set (map strand_of ss) n (with_status x status)) (sym (get-there strand_of ss n s no_strand e))

abbrev marked : Bool → model.Strand → model.Strand
marked taken x = record { unit = x.unit; role = x.role; status = x.status; taken = taken }

pub taken-there : (ss : List Strand) (n : ℕ) (s t : Strand) (taken : Bool) → slice_get ss n ≡ Some s → strand_of t ≡ record { unit = (strand_of s).unit; role = (strand_of s).role; status = (strand_of s).status; taken = taken } → map strand_of (slice_set ss n t) ≡ taken_so (map strand_of ss) n taken
taken-there ss n s t taken e h =
    set-there strand_of ss n t (marked taken (strand_of s)) h
    ∙ ap (λ x. slice_set (map strand_of ss) n (marked taken x)) (sym (get-there strand_of ss n s no_strand e))

pub ends-there : (xs : List Activation) (r : model.Role) (a b : Activation) (end : model.End) → slice_get xs r.activation ≡ Some a → map (option_map end_of) b.ends.items ≡ slice_set (map (option_map end_of) a.ends.items) r.worker (Some end) → b.unit ≡ a.unit → b.strands ≡ a.strands → b.channels ≡ a.channels → map activation_of (slice_set xs r.activation b) ≡ ends_so (map activation_of xs) r end
ends-there xs r a b end e h u s ch =
    let ended : model.Activation → model.Activation = λ x. record { unit = x.unit; strands = x.strands; ends = slice_set x.ends r.worker (Some end); channels = x.channels } in
    set-there activation_of xs r.activation b (ended (activation_of a)) (λ i. record { unit = u i; strands = (s i).items; ends = h i; channels = map (λ ys. map channel_of ys.items) (ch i).items })
    ∙ ap (λ x. slice_set (map activation_of xs) r.activation (ended x)) (sym (get-there activation_of xs r.activation a no_activation e))
