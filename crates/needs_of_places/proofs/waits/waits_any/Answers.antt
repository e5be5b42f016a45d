use Rattle.std.specs.Option.{option_copied}
use Rattle.code_needs.specs.RowNeeds.{awaits, some_name}
use Rattle.needs_of_rows.proofs.Finding.{found-then}
use Rattle.needs_of_places.specs.Sites.{known_at}
use Rattle.needs_of_places.proofs.waits.waits_any.Goals as goal

pub returns : goal.returns
returns c =
    found-then (some_name c.args.names.now) (awaits (known_at c.args.site) (λ k. option_copied c.args.taken.given) 0 c.args.names.now c.args.taken.operands.now) _ _ _ c.some_name.ensures c.awaits.ensures
