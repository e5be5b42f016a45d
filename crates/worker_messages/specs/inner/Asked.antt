-- The question of a return in front of a message, and what its answer says; and that of a sender that may have ended early.
use Rattle.std.specs.Prelude.{ℕ, Bool, List, Option, None, Some}
use Rattle.bal_base.specs.declared.fault.FaultCode.TheVariants.{SuccessBefore}
use Rattle.bal_base.specs.declared.fault.Kept.TheVariants.{Nothing}
use Rattle.bal_base.specs.declared.place.Place.{Place}
use Rattle.type_model.specs.declared.answers.TypeLimit.{TypeLimit}
use Rattle.type_model.specs.declared.atoms.AtomDef.{AtomDef}
use Rattle.type_model.specs.declared.basic.SemType.{SemType}
use Rattle.type_model.specs.Calls.{Asked}
use Rattle.checks.specs.Checks.{Check, either, gives, refuses, ◌▷◌}
use Rattle.checks.specs.Questions.{IsFault, is_below}
use Rattle.typed_tree.specs.declared.event.EventKind.{EventKind}
use Rattle.typed_tree.specs.declared.event.EventKind.TheVariants.{Send, Post, Done, Receive, Flush, Wait, End}
use Rattle.worker_pairing.specs.Faults.{Atoms, error_type, failure_fits, result_of}
use Rattle.worker_pairing.specs.Marks.{Members, Numbered}

abbrev pub judged : Place → Bool → Check Atoms (Unit {0})
judged at b = either b (gives tt) (refuses (λ _. IsFault SuccessBefore (Some at) Nothing))

abbrev pub asked : (List AtomDef → Asked → TypeLimit → Type 0) → SemType → Place → Check Atoms (Unit {0})
asked passes type at = is_below passes type error_type (Some at) ▷ λ b. judged at b

-- how this sender may fail is below what the event receives, where it may have ended early
abbrev pub sender_fits : (List AtomDef → Asked → TypeLimit → Type 0) → Members → Numbered → ℕ → Bool → Check Atoms (Unit {0})
sender_fits passes ms e sender early = either early (failure_fits passes (result_of passes ms sender) e.saying.type (Some e.saying.at)) (gives tt)

-- of what is received the sender and the receiver
abbrev pub received_route : ℕ → EventKind → Option (ℕ × ℕ)
received_route w (Receive (Some v)) = Some (v, w)
received_route w (Receive None) = None
received_route w (Send peer) = None
received_route w (Post peer) = None
received_route w (Done peer) = None
received_route w (Flush peer) = None
received_route w (Wait ns) = None
received_route w End = None
