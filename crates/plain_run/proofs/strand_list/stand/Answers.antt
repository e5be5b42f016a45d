use Rattle.std.proofs.Common.{arith, length, refl, rules}
use Rattle.std.proofs.lemmas.Option.{slice_get_read}
use Rattle.plain_run.specs.Held.{status_of}
use Rattle.plain_run.proofs.Listed.{blocked-at, ended-most, once-most}
use Rattle.plain_run.proofs.Standing.{stands-there}
use Rattle.plain_run.proofs.strand_list.stand.Goals as goal

pub overflow_add-sum : goal.overflow_add-sum
overflow_add-sum c =
    let most = ended-most c.args.items.now.items in
    let one = once-most c.args.status in
    let small = c.args.items.now.small in
    omega (arith, most, one, small, c.requires.count, c.counted-2.ensures)

pub returns-clause-status : goal.returns-clause-status
returns-clause-status c =
    let held = c.args.items.now.items in
    stands-there held c.args.n c.index_mut-strand.result.now _ (status_of c.args.status) (slice_get_read _ (length held) _ _ refl (search rules) (search rules)) refl

pub returns-clause-blocked : goal.returns-clause-blocked
returns-clause-blocked c = blocked-at c.args.items.now.items c.args.n _ c.requires.there
