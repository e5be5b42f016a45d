use Rattle.std.proofs.Common.{◌∙◌, ◌==◌, ◌++◌, [], ap, sym}
use Rattle.std.specs.Prelude.{if◌then◌else◌}
use Rattle.package_imports.specs.Imports.{imported}
use Rattle.module_loader.proofs.Graphing.{imports-more}
use Rattle.module_loader.proofs.linking.imports_of.Goals as goal

pub loop-place-preserved : goal.loop-place-preserved
loop-place-preserved c =
    let home = c.args.home.now in
    let read = c.args.read.now in
    let place = c.loop-place.place in
    let file = c.index-read-place.result in
    let all = c.loop-place.all.items in
    c.in_ok-add_imports.ensures
    ∙ (ap (λ n. all ++ (if n == c.args.number then imported home file.tree.imports.items else [])) c.number_at.ensures
    ∙ imports-more home c.args.numbers.now c.args.number place read file all c.loop-place-test.true (sym c.index-read-place.is) c.loop-place.invariant)
