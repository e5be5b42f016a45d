use Rattle.std.proofs.Common.{◌≡◌, ◌++◌, map, subst}
use Rattle.std.specs.Prelude.{OnOk, option_to_list}
use Rattle.plain_run.specs.Held.{structure_of}
use Rattle.plain_copies.proofs.copies.push_copy.Goals as goal

pub returns : goal.returns
returns c =
    subst (λ o. OnOk c.push_made.result (map structure_of c.push_made.new.copies.items ≡ map structure_of c.args.copies.now.items ++ option_to_list o)) c.in_ok-made.ensures c.push_made.ensures
