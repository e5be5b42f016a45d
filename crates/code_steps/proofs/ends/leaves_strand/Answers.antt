use Rattle.std.proofs.Common.{subst}
use Rattle.plain_run.proofs.Given.{if-ok}
use Rattle.plain_run.specs.Held.{common_of, end_of}
use Rattle.code_steps.specs.Ends.{TakesUnit}
use Rattle.code_steps.proofs.Leaving.{left-next}
use Rattle.code_steps.proofs.ends.leaves_strand.Goals as goal

pub returns-in-Some : goal.returns-in-Some
returns-in-Some c =
    let old = common_of c.args.state.now.common in
    let mid = common_of c.next_unit.new.common in
    let takes = subst (λ r. TakesUnit r old (end_of c.args.end) mid) c.in-Some.is c.next_unit.ensures in
    if-ok _ _ c.begins_next.result (λ n h s running others. left-next c.args.program.now old mid (end_of c.args.end) c.in-Some.next takes s _ (h s others)) c.begins_next.ensures
