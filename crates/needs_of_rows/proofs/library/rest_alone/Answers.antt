use Rattle.code_needs.specs.Combining.{none, of_some}
use Rattle.needs_of_rows.specs.inner.ItemsMade.{items_of}
use Rattle.needs_of_rows.proofs.Finding.{found-then}
use Rattle.needs_of_rows.proofs.library.rest_alone.Goals as goal

pub returns : goal.returns
returns c =
    found-then (none c.args.fixed.now) (of_some c.args.rest.now (λ t. items_of c.args.items t.sem)) _ _ _ c.none_fixed.ensures c.has_rest.ensures
