use Rattle.std.proofs.Common.{◌≡◌, ◌∷◌, None, map, refl, sym, subst, ap, ◌∙◌}
use Rattle.std.specs.Prelude.{option_map, option_to_list}
use Rattle.machine_model.specs.Machine as machine
use Rattle.machine_model.specs.Machine.{carried}
use Rattle.op_model.specs.Effects as effects
use Rattle.plain_run.specs.Effects.{effect_of, spawned_of}
use Rattle.plain_run.specs.Held.{common_of, role_of}
use Rattle.code_frames.specs.Programs.{machine_of}
use Rattle.code_steps.specs.States.{call_of, calls_of}
use Rattle.code_steps.specs.Steps.{IsCarried, Stays, awaiting, awaiting_frame}
use Rattle.code_steps.proofs.carrying.carry.Goals as goal

pub returns-in_ok-waits-in-Waits-clause-carries : goal.returns-in_ok-waits-in-Waits-clause-carries
returns-in_ok-waits-in-Waits-clause-carries c = λ s running others stays.
    let M = machine_of c.args.program.now in
    let a = c.args.asked in
    let st = c.args.state.now in
    let held : common_of st.common ≡ s.common = subst (λ e. Stays e s.common (common_of st.common)) c.in-Waits.is stays in
    c.in_ok-waits-in-Waits.ensures M s running others (sym held)
    ∙ ap (λ e. carried M s (call_of a.call) (awaiting a) (calls_of st.calls.items) (effect_of e st.common)) (sym c.in-Waits.is)

pub returns-in_ok-next-in-Enters-clause-carries : goal.returns-in_ok-next-in-Enters-clause-carries
returns-in_ok-next-in-Enters-clause-carries c = λ s running others stays.
    let M = machine_of c.args.program.now in
    let a = c.args.asked in
    let st = c.args.state.now in
    subst (IsCarried c.answered-in-Enters.result c.enters.new.state)
    (c.in_ok-next-in-Enters.ensures s others
    ∙ (λ i. option_map (λ g. machine.Moved (machine.put s (common_of st.common) (g ∷ awaiting_frame a ∷ calls_of st.calls.items))) (machine.begun M c.in-Enters.unit (c.as_slice.ensures.value i) None))
    ∙ ap (λ e. carried M s (call_of a.call) (awaiting a) (calls_of st.calls.items) (effect_of e st.common)) (sym c.in-Enters.is))
    (c.answered-in-Enters.ensures.carries c.enters.new.state)

pub returns-in_ok-spawns-in-Spawns-clause-carries : goal.returns-in_ok-spawns-in-Spawns-clause-carries
returns-in_ok-spawns-in-Spawns-clause-carries c = λ s running others stays.
    let M = machine_of c.args.program.now in
    let a = c.args.asked in
    let st = c.args.state.now in
    let f = call_of a.call in
    subst (IsCarried c.answered-in-Spawns.result c.spawns.new.state)
    (c.in_ok-spawns-in-Spawns.ensures s f refl others
    ∙ (λ i. carried M s f (awaiting a) (calls_of st.calls.items) (effects.Spawns (map spawned_of (c.as_slice-made.ensures.value i)) (option_map role_of c.in-Spawns.role) (option_to_list c.in-Spawns.given) (common_of st.common)))
    ∙ ap (λ e. carried M s f (awaiting a) (calls_of st.calls.items) (effect_of e st.common)) (sym c.in-Spawns.is))
    (c.answered-in-Spawns.ensures.carries c.spawns.new.state)
