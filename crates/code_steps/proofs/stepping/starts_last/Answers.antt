use Rattle.std.proofs.Common.{subst, sym}
use Rattle.plain_run.specs.Held.{common_of}
use Rattle.plain_run.proofs.Given.{if-ok}
use Rattle.code_steps.specs.Answered.{IsStepped}
use Rattle.code_steps.specs.inner.Lasts.{CapturesLast}
use Rattle.code_steps.specs.States.{others_of}
use Rattle.code_steps.proofs.LastSteps.{at, captures-none-of}
use Rattle.code_steps.proofs.stepping.starts_last.Goals as goal

pub returns-in-None : goal.returns-in-None
returns-in-None c = absurd (captures-none-of c.args.program.now _ c.in-None.ensures.0 c.requires)

pub starts-requires-clause-asks : goal.starts-requires-clause-asks
starts-requires-clause-asks c = subst (CapturesLast c.args.program.now) c.in-Some.ensures c.requires

pub returns-in-Some : goal.returns-in-Some
returns-in-Some c =
    let s = c.args.state.now in
    if-ok _ _ c.starts.result
    (λ d h. subst (λ calls. IsStepped c.args.program.now (at (common_of s.common) calls (others_of s)) d c.starts.new.state) (sym c.in-Some.ensures) h)
    c.starts.ensures
