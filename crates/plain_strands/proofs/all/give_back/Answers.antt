use Rattle.std.proofs.Common.{◌∙◌}
use Rattle.plain_run.specs.Held.{common_of}
use Rattle.plain_strands.specs.Targets.{target_of}
use Rattle.plain_strands.proofs.Collecting.{given-back}
use Rattle.plain_strands.proofs.all.give_back.Goals as goal

pub returns-then-not-t : goal.returns-then-not-t
returns-then-not-t c = λ before e h.
    let old = common_of c.args.common.now in
    (λ i. record old { strands = c.set_taken.ensures i }) ∙ given-back (common_of before) old (target_of c.args.t) c.if-not-t.true e h
