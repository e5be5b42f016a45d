use Rattle.std.proofs.Common.{refl, rules, length}
use Rattle.std.proofs.lemmas.Option.{slice_get_read}
use Rattle.op_model.specs.Strands.{no_activation}
use Rattle.plain_run.specs.Held.{activation_of}
use Rattle.plain_messages.specs.Channels.{passed_in}
use Rattle.plain_run.proofs.Given.{on-ok}
use Rattle.plain_messages.proofs.Changing.{changed-there}
use Rattle.plain_messages.proofs.passing.pass_in.Goals as goal

pub returns-in-Some : goal.returns-in-Some
returns-in-Some c =
    let held = c.args.activations.now.items in
    on-ok _ _ c.pass_from.result (λ h. changed-there activation_of (passed_in c.args.passing c.args.from c.args.to) held c.args.activation c.in-Some.a.now (record { unit = c.in-Some.a.now.unit; strands = c.in-Some.a.now.strands; ends = c.in-Some.a.now.ends; channels = c.pass_from.new.rows }) no_activation (slice_get_read _ (length held) _ _ refl (search rules) (search rules)) (λ i. record { unit = c.in-Some.a.now.unit; strands = c.in-Some.a.now.strands.items; ends = (activation_of c.in-Some.a.now).ends; channels = h i })) c.pass_from.ensures
