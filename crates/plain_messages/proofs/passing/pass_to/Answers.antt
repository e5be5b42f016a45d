use Rattle.std.proofs.Common.{refl, rules, length}
use Rattle.std.proofs.lemmas.Option.{slice_get_read}
use Rattle.op_model.specs.Strands.{no_channel}
use Rattle.plain_run.specs.Held.{channel_of}
use Rattle.plain_messages.specs.Channels.{passed}
use Rattle.plain_run.proofs.Given.{on-ok}
use Rattle.plain_messages.proofs.Changing.{changed-there}
use Rattle.plain_messages.proofs.passing.pass_to.Goals as goal

pub returns-in-Some : goal.returns-in-Some
returns-in-Some c =
    let held = c.args.row.now.items in
    on-ok _ _ c.pass.result (λ h. changed-there channel_of (passed c.args.passing) held c.args.to c.in-Some.x.now _ no_channel (slice_get_read _ (length held) _ _ refl (search rules) (search rules)) h) c.pass.ensures
