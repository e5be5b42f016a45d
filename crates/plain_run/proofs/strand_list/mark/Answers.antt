use Rattle.std.proofs.Common.{refl, rules, length}
use Rattle.std.proofs.lemmas.Option.{slice_get_read}
use Rattle.plain_run.proofs.Listed.{blocked-as}
use Rattle.plain_run.proofs.Standing.{taken-there}
use Rattle.plain_run.proofs.strand_list.mark.Goals as goal

pub returns-in-Some-clause-taken : goal.returns-in-Some-clause-taken
returns-in-Some-clause-taken c =
    let held = c.args.items.now.items in
    taken-there held c.args.n c.in-Some.strand.now _ c.args.taken (slice_get_read _ (length held) _ _ refl (search rules) (search rules)) refl

pub returns-in-Some-clause-blocked : goal.returns-in-Some-clause-blocked
returns-in-Some-clause-blocked c =
    let held = c.args.items.now.items in
    blocked-as 0 c.args.n held c.in-Some.strand.now _ (slice_get_read _ (length held) _ _ refl (search rules) (search rules)) refl
