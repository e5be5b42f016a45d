use Rattle.std.proofs.Common.{refl, rules, length, map, []}
use Rattle.std.proofs.lemmas.Option.{slice_get_read}
use Rattle.plain_run.specs.Held.{channel_of}
use Rattle.plain_messages.specs.Channels.{passed_to}
use Rattle.plain_run.proofs.Given.{on-ok}
use Rattle.plain_messages.proofs.Changing.{changed-there}
use Rattle.plain_messages.proofs.passing.pass_from.Goals as goal

pub returns-in-Some : goal.returns-in-Some
returns-in-Some c =
    let held = c.args.rows.now.items in
    on-ok _ _ c.pass_to.result (λ h. changed-there (λ xs. map channel_of xs.items) (passed_to c.args.passing c.args.to) held c.args.from c.in-Some.row.now _ [] (slice_get_read _ (length held) _ _ refl (search rules) (search rules)) h) c.pass_to.ensures
