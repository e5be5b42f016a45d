use Rattle.plain_run.proofs.Given.{if-ok}
use Rattle.code_frames.specs.Frames.{standing_of}
use Rattle.code_steps.specs.Steps.{awaiting}
use Rattle.code_steps.proofs.carrying.leaves.Goals as goal

pub returns : goal.returns
returns c =
    let a = c.args.asked in
    if-ok _ _ c.ends_with.result (λ n h s running others common. h s a.call.unit (standing_of a.call.frame) (awaiting a) running others common) c.ends_with.ensures
