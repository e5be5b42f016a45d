-- How a run begins.
use Rattle.std.proofs.Common.{◌≡◌, ℕ, List, [], ◌∷◌, Option, None, sym, ap, ◌∙◌}
use Rattle.std.specs.Prelude.{option_map}
use Rattle.std.proofs.lemmas.List.{map-append}
use Rattle.bal_base.specs.declared.text.Text.{Text}
use Rattle.value_model.specs.declared.value.Value.{Value}
use Rattle.op_model.specs.Common.{Common}
use Rattle.machine_model.specs.Machine.{State, begun}
use Rattle.machine_model.specs.Runs.{begins_with, first_common, start, units_to_run}
use Rattle.stack_code.specs.CodeMachine.{Standing}
use Rattle.plain_run.proofs.Lists.{append-one, replicate-more}
use Rattle.plain_run.specs.declared.held.ToRun.{ToRun}
use Rattle.code_steps.specs.Begins.{first_state, to_run_of, with_units}
use Rattle.code_frames.specs.Programs.{machine_of}
use Rattle.code_frames.specs.declared.held.Program.{Program}

module _ (p : Program) (words : List Text) (input : List ℕ) (ticks : ℕ) (us rest : List (ℕ × List Value)) (e : us ≡ units_to_run (machine_of p)) where
  pub starts-first : (u : ToRun) (c : Common) (r : Option (State Standing)) → us ≡ to_run_of u ∷ rest → c ≡ with_units (first_common (machine_of p).launch words input ticks) rest → r ≡ option_map (first_state c) (begun (machine_of p) u.unit u.args.items None) → r ≡ start (machine_of p) words input ticks
  starts-first u c r is same h =
      h
      ∙ (λ i. option_map (first_state (same i)) (begun (machine_of p) u.unit u.args.items None))
      ∙ ap (begins_with (machine_of p) (first_common (machine_of p).launch words input ticks)) (sym is ∙ e)

  pub starts-none : us ≡ [] → None ≡ start (machine_of p) words input ticks
  starts-none is = ap (begins_with (machine_of p) (first_common (machine_of p).launch words input ticks)) (sym is ∙ e)

pub ruleset beginning = (append-one, map-append, replicate-more)
