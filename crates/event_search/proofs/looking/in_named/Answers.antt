use Rattle.std.proofs.Common.{length, refl}
use Rattle.std.proofs.lemmas.Option.{slice_get_read}
use Rattle.event_search.specs.inner.Walking.{sought}
use Rattle.event_search.proofs.Whole.{named-found}
use Rattle.event_search.proofs.looking.in_named.Goals as goal

pub returns-in-Some : goal.returns-in-Some
returns-in-Some c =
    named-found c.args.workers.now c.args.number c.in-Some.worker.now c.deref.result.now (sought c.args.search) (sought c.in_statements.result)
    (slice_get_read c.args.workers.now (length c.args.workers.now) c.args.number c.in-Some.worker.now refl c.in-Some.ensures.lookup.3.0 c.in-Some.ensures.lookup.1) c.deref.ensures.value c.in_statements.ensures
