use Rattle.std.proofs.Common.{◌≡◌, ◌-◌, ◌<◌, false, rules}
use Rattle.std.specs.List.{list_all}
use Rattle.op_model.specs.Fillers.{fillers_from}
use Rattle.op_model.specs.Limits.{most_items}
use Rattle.store_tests.specs.Fillers.{is_there}
use Rattle.store_tests.proofs.Tested.{gap-missing}
use Rattle.store_tests.proofs.tests.tests_gap.Goals as goal

pub returns-then-not-are_there : goal.returns-then-not-are_there
returns-then-not-are_there c =
    let few : c.args.place < most_items = search rules in
    let missing : list_all is_there (fillers_from c.args.fillers.now c.args.size (c.args.place - c.args.size)) ≡ false = search rules in
    λ w final. gap-missing w c.args.fillers.now c.args.size c.args.place final few missing
