use Rattle.std.proofs.Common.{refl, rules, length}
use Rattle.std.proofs.lemmas.Option.{slice_get_read}
use Rattle.plain_run.specs.Held.{end_of, role_of}
use Rattle.plain_run.proofs.Standing.{ends-there}
use Rattle.plain_run.proofs.strands.set_worker_end.Goals as goal

pub returns-in-Some : goal.returns-in-Some
returns-in-Some c = ends-there c.args.activations.now.items (role_of c.args.role) c.in-Some.a.now _ (end_of c.args.end) (slice_get_read _ (length c.args.activations.now.items) _ _ refl (search rules) (search rules)) c.set_end.ensures refl refl refl
