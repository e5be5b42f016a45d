-- A panic that ends calls, one after another.
use Rattle.std.proofs.Common.{◌≡◌, ◌∙◌, List, [], ◌∷◌, Bool, true, false, sym, ap}
use Rattle.value_model.specs.declared.value.Value.{Value}
use Rattle.op_model.specs.Common.{Common, Panicked}
use Rattle.op_model.specs.Strands.{worker_ended, workers_ended}
use Rattle.machine_model.specs.Machine.{Frame, Machine, frames_from, goes_to, roles_left, roles_to, unwound}
use Rattle.stack_code.specs.CodeMachine.{Standing}
use Rattle.code_frames.specs.Asking.{caught_in}
use Rattle.code_steps.specs.Ends.{Unwinds}

module _ (M : Machine Standing) (e : Value) where
  -- there is no call
  pub unwinds-none : (old new : List (Frame Standing)) (c d : Common) → old ≡ [] → new ≡ [] → d ≡ c → Unwinds M e true old c new d
  unwinds-none old new c d o n same =
      (n ∙ ap (unwound M e) (sym o), same ∙ ap (λ fs. workers_ended (Panicked e) (roles_left M e fs) c) (sym o))

  -- the last call catches it
  pub unwinds-caught : (old rest new : List (Frame Standing)) (f : Frame Standing) (s : Standing) (c d : Common) → old ≡ f ∷ rest → M.catch f.control e ≡ caught_in true s → new ≡ goes_to f s ∷ rest → d ≡ c → Unwinds M e true old c new d
  unwinds-caught old rest new f s c d o catches n same = (
    n ∙ sym (ap (unwound M e) o ∙ ap (frames_from f rest (unwound M e rest)) catches),
    same ∙ ap (λ rs. workers_ended (Panicked e) rs c) (sym (ap (roles_left M e) o ∙ ap (roles_to f.role (roles_left M e rest)) catches)),
  )

  -- it ends the last call
  pub unwinds-ended : (old rest : List (Frame Standing)) (f : Frame Standing) (s : Standing) (c d : Common) → old ≡ f ∷ rest → M.catch f.control e ≡ caught_in false s → d ≡ worker_ended (Panicked e) f.role c → Unwinds M e false old c rest d
  unwinds-ended old rest f s c d o catches ends = (
    sym (ap (unwound M e) o ∙ ap (frames_from f rest (unwound M e rest)) catches),
    ap (workers_ended (Panicked e) (roles_left M e rest)) ends
        ∙ ap (λ rs. workers_ended (Panicked e) rs c) (sym (ap (roles_left M e) o ∙ ap (roles_to f.role (roles_left M e rest)) catches)),
  )

  -- one after another
  pub unwinds-on : (b : Bool) (old mid new : List (Frame Standing)) (c m d : Common) → Unwinds M e false old c mid m → Unwinds M e b mid m new d → Unwinds M e b old c new d
  unwinds-on true old mid new c m d first last = (last.0 ∙ first.0, last.1 ∙ first.1)
  unwinds-on false old mid new c m d first last = (last.0 ∙ first.0, last.1 ∙ first.1)

  -- no call is left
  pub unwinds-all : (old new : List (Frame Standing)) (c d : Common) → Unwinds M e false old c new d → new ≡ [] → Unwinds M e true old c new d
  unwinds-all old new c d h n =
      (n ∙ sym (ap (unwound M e) n) ∙ h.0, sym (ap (λ fs. workers_ended (Panicked e) (roles_left M e fs) d) n) ∙ h.1)

pub ruleset unwinding = (unwinds-on, unwinds-all)
