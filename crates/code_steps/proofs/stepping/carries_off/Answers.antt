use Rattle.std.proofs.Common.{◌∷◌, refl, subst, sym}
use Rattle.plain_run.specs.Held.{common_of}
use Rattle.plain_run.specs.declared.effect.Performed.TheVariants.{Done}
use Rattle.code_steps.specs.Answered.{IsStepped}
use Rattle.code_steps.specs.inner.Lasts.{AsksLast, IsDoneFor}
use Rattle.code_steps.specs.States.{call_of, calls_of, others_of}
use Rattle.code_steps.proofs.Answered.{if-both, stays-so}
use Rattle.code_steps.proofs.LastSteps.{at, carried-done, has-call, has-enough}
use Rattle.code_steps.proofs.stepping.carries_off.Goals as goal

pub returns-in-None : goal.returns-in-None
returns-in-None c = absurd (has-call c.args.count _ c.in-None.ensures.0 c.requires)

pub carry-requires : goal.carry-requires
carry-requires c = has-enough c.args.count _ _ c.in-Some.call c.in-Some.ensures c.requires

pub returns-in-Some : goal.returns-in-Some
returns-in-Some c =
    let p = c.args.program.now in
    let n = c.args.count in
    let mid = c.args.state.now in
    let f = call_of c.in-Some.call in
    let fs = calls_of c.take_last.new.calls.items in
    let effect = c.args.effect in
    let is = c.in-Some.ensures in
    if-both _ _ _ c.carry.result
    (λ d carries keeps op old asks done stays running.
    let held = stays-so effect old mid.common stays in
    subst (λ calls. IsStepped p (at (common_of old) calls (others_of mid)) d c.carry.new.state) (sym is)
    (carried-done p op n f fs (others_of mid) old mid.common effect d c.carry.new.state (subst (AsksLast p op n) is asks)
    (subst (λ calls. IsDoneFor p op n calls old mid.common (Done effect)) is done)
    (carries (at (common_of old) (f ∷ fs) (others_of mid)) running refl held) (keeps (common_of old) held)))
    c.carry.ensures.carries c.carry.ensures.stays
