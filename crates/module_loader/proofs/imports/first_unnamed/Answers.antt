use Rattle.std.proofs.Common.{◌∙◌, ap, refl, sym}
use Rattle.package_imports.specs.Imports.{first_unknown}
use Rattle.module_loader.specs.Packages.{unknown_in}
use Rattle.module_loader.proofs.Seeking.{first-found, none-all, none-more}
use Rattle.module_loader.proofs.imports.first_unnamed.Goals as goal

pub loop-file-init : goal.loop-file-init
loop-file-init c = refl

pub returns-in-Some : goal.returns-in-Some
returns-in-Some c =
    let home = c.args.home.now in
    let here = ap (first_unknown home) (sym c.as_slice.ensures.value) ∙ (sym c.in_ok-found.ensures ∙ c.in-Some.is) in
    first-found (unknown_in home) c.args.read.now c.loop-file.file-index c.file-item.result c.in-Some.at c.loop-file-test.true (sym c.file-item.is) c.loop-file.invariant here

pub loop-file-preserved : goal.loop-file-preserved
loop-file-preserved c =
    let home = c.args.home.now in
    let here = ap (first_unknown home) (sym c.as_slice.ensures.value) ∙ (sym c.in_ok-found.ensures ∙ c.in-None.is) in
    none-more (unknown_in home) c.args.read.now c.loop-file.file-index c.file-item.result c.loop-file-test.true (sym c.file-item.is) c.loop-file.invariant here

pub returns : goal.returns
returns c = none-all (unknown_in c.args.home.now) c.args.read.now c.loop-file.file-index c.loop-file-test.false c.loop-file.invariant
