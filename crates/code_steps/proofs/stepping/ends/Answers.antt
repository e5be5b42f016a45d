use Rattle.std.proofs.Common.{◌≡◌, ◌∷◌, [], refl, subst, sym}
use Rattle.plain_run.specs.Held.{common_of}
use Rattle.code_frames.specs.Asking.{awaits}
use Rattle.held_operations.specs.declared.op.Op.TheVariants as ops
use Rattle.code_steps.specs.Answered.{IsStepped}
use Rattle.code_steps.specs.inner.Lasts.{AsksLast, values_last}
use Rattle.code_steps.specs.States.{call_of, calls_of, others_of}
use Rattle.code_steps.specs.Steps.{IsCarried}
use Rattle.code_steps.proofs.LastSteps.{at, enough-of, has-call, leaves-done}
use Rattle.code_steps.proofs.stepping.ends.Goals as goal

pub returns-in-None : goal.returns-in-None
returns-in-None c = λ asks one. absurd (has-call c.args.count _ c.in-None.ensures.0 (enough-of c.args.program.now ops.Return c.args.count _ asks))

pub returns-in_ok-ends_with-in-Some : goal.returns-in_ok-ends_with-in-Some
returns-in_ok-ends_with-in-Some c = λ asks one.
    let p = c.args.program.now in
    let n = c.args.count in
    let s = c.args.state.now in
    let f = call_of c.in-Some.call in
    let fs = calls_of c.take_last.new.calls.items in
    let common = common_of s.common in
    let is = c.in-Some.ensures in
    let k = awaits n f.control in
    subst (λ calls. IsStepped p (at common calls (others_of s)) c.answered.result c.ends_with.new.state) (sym is)
    (leaves-done p n f fs (others_of s) common c.args.v c.answered.result c.ends_with.new.state (subst (AsksLast p ops.Return n) is asks)
    (subst (λ calls. values_last n calls ≡ c.args.v ∷ []) is one)
    (subst (IsCarried c.answered.result c.ends_with.new.state) (c.in_ok-ends_with-in-Some.ensures (at common (f ∷ fs) (others_of s)) f.unit f.control k refl refl refl) (c.answered.ensures.carries c.ends_with.new.state))
    (c.answered.ensures.stays common (common_of c.ends_with.new.state.common)))
