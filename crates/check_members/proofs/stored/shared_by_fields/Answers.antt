use Rattle.std.proofs.Common.{length, refl}
use Rattle.std.proofs.lemmas.Option.{slice_get_read}
use Rattle.check_members.proofs.StoredChoices.{fields-shared}
use Rattle.check_members.proofs.stored.shared_by_fields.Goals as goal

pub returns-then-all_fields_same-clause-shared : goal.returns-then-all_fields_same-clause-shared
returns-then-all_fields_same-clause-shared c =
    fields-shared c.args.fields.now c.in-Some.first.now
    (slice_get_read c.args.fields.now (length c.args.fields.now) 0 c.in-Some.first.now refl c.in-Some.ensures.lookup.3.0 c.in-Some.ensures.lookup.1)
    (c.all_fields_same.ensures.0 c.if-all_fields_same.true)
