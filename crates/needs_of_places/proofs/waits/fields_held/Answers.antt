use Rattle.std.proofs.Common.{◌==◌, length}
use Rattle.code_needs.specs.Combining.{test}
use Rattle.code_needs.specs.RowNeeds.{awaits, held_by}
use Rattle.needs_of_rows.proofs.Finding.{found-then}
use Rattle.needs_of_places.specs.Sites.{known_at}
use Rattle.needs_of_places.proofs.waits.fields_held.Goals as goal

pub returns : goal.returns
returns c =
    found-then (test (length c.args.names.now == length c.args.fields.now)) (awaits (known_at c.args.site) (held_by c.args.fields.now) 0 c.args.names.now c.args.taken.operands.now) _ _ _ c.as_many.ensures c.awaits.ensures
