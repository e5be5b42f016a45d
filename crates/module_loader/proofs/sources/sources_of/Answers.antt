use Rattle.std.proofs.Common.{ap, subst, sym, ◌∙◌}
use Rattle.std.proofs.lemmas.Result.{IfOk-weaker}
use Rattle.module_loader.specs.Files.{AreTaken}
use Rattle.module_loader.specs.inner.Sources.{AreThere, folders_in, taken_in}
use Rattle.module_loader.proofs.Taking.{all-taken, all-there, folders-are}
use Rattle.module_loader.proofs.sources.sources_of.Goals as goal

pub returns-clause-taken : goal.returns-clause-taken
returns-clause-taken c =
    let listing = c.args.listing.now in
    let told = c.taken_down.ensures in
    IfOk-weaker c.taken_down.result _ _ (λ found are. λ files is. subst (λ l. AreTaken files (taken_in files l)) (sym are) (all-taken files listing is told.found told.ordered)) told.are

pub returns-clause-there : goal.returns-clause-there
returns-clause-there c =
    let listing = c.args.listing.now in
    let told = c.taken_down.ensures in
    IfOk-weaker c.taken_down.result _ _ (λ found are. λ files is. subst (AreThere files) (sym are) (all-there files listing is told.found told.ordered)) told.are

pub returns-clause-folders : goal.returns-clause-folders
returns-clause-folders c =
    IfOk-weaker c.taken_down.result _ _ (λ found are. ap folders_in are ∙ folders-are c.args.listing.now.sources.entries) c.taken_down.ensures.are
