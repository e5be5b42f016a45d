-- The chain of checks, from each of them on.
use Rattle.std.specs.Prelude.{List}
use Rattle.bal_base.specs.declared.fault.Kept.TheVariants.{Nothing}
use Rattle.bal_base.specs.declared.fault.FaultCode.TheVariants.{Conditional, NoPeer}
use Rattle.type_model.specs.declared.answers.TypeLimit.{TypeLimit}
use Rattle.type_model.specs.declared.atoms.AtomDef.{AtomDef}
use Rattle.type_model.specs.Calls.{Asked}
use Rattle.typed_tree.specs.declared.event.Plan.{Plan}
use Rattle.checks.specs.Checks.{Check, ◌▷◌}
use Rattle.worker_pairing.specs.Faults.{Atoms, all_pass, at_event, has_no_peer, is_conditional, is_unpaired, member_passes, message_passes, named_first, none_bad, ordered, unpaired_fault}
use Rattle.worker_pairing.specs.Marks.{Members, in_text}

abbrev pub peered : Members → Check Atoms (Unit {0})
peered ms = none_bad (has_no_peer ms) (at_event NoPeer Nothing) (in_text ms)

abbrev pub unconditional : Members → Check Atoms (Unit {0})
unconditional ms = none_bad is_conditional (at_event Conditional Nothing) (in_text ms)

abbrev pub paired : Members → Check Atoms (Unit {0})
paired ms = none_bad (is_unpaired ms) (unpaired_fault ms) (in_text ms)

abbrev pub conditioned : Members → Check Atoms (Unit {0})
conditioned ms = unconditional ms ▷ λ _. paired ms

abbrev pub settled : Members → Check Atoms (Unit {0})
settled ms = peered ms ▷ λ _. conditioned ms

module _ (passes : List AtomDef → Asked → TypeLimit → Type 0) where
  abbrev pub from_messages : Members → Check Atoms Plan
  from_messages ms = all_pass (message_passes passes ms) (in_text ms) ▷ λ _. ordered ms

  abbrev pub from_returns : Members → Check Atoms Plan
  from_returns ms = all_pass (member_passes passes) (named_first passes ms) ▷ λ _. from_messages ms

  -- as the whole has it
  abbrev pub from_peers : Members → Check Atoms Plan
  from_peers ms = peered ms ▷ λ _. unconditional ms ▷ λ _. paired ms ▷ λ _. from_returns ms
