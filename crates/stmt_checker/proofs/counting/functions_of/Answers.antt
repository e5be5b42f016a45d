use Rattle.std.proofs.Common.{◌≡◌, rules}
use Rattle.stmt_checker.proofs.Counted.{counted-if}
use Rattle.stmt_checker.proofs.counting.functions_of.Goals as goal

pub returns : goal.returns
returns c =
    let same : c.as_slice.result.now ≡ c.args.package.now.modules = search rules in
    counted-if c.args.package.now _ c.with_modules.result same c.with_modules.ensures
