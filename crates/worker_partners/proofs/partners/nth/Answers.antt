use Rattle.std.proofs.Common.{length, refl, sym}
use Rattle.std.proofs.lemmas.Option.{slice_get_read}
use Rattle.worker_partners.proofs.Sought.{found-of, none-of}
use Rattle.worker_partners.proofs.partners.nth.Goals as goal

pub returns-in-Some : goal.returns-in-Some
returns-in-Some c =
    found-of c.args.workers.now c.args.worker c.args.side c.args.k c.in-Some.member.now c.deref.result.now c.nth_among.result
    (slice_get_read c.args.workers.now (length c.args.workers.now) c.args.worker c.in-Some.member.now refl c.in-Some.ensures.lookup.3.0 c.in-Some.ensures.lookup.1) c.deref.ensures.value
    c.nth_among.ensures.found c.nth_among.ensures.none

pub returns-in-None : goal.returns-in-None
returns-in-None c = none-of c.args.workers.now c.args.worker c.args.side c.args.k c.in-None.ensures.lookup.3
