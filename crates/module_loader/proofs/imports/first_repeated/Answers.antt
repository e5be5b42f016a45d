use Rattle.std.proofs.Common.{◌∙◌, [], ap, refl, sym}
use Rattle.package_imports.specs.Repeats.{first_repeat}
use Rattle.module_loader.specs.Packages.{repeat_in}
use Rattle.module_loader.proofs.Seeking.{first-found, none-all, none-more}
use Rattle.module_loader.proofs.imports.first_repeated.Goals as goal

pub loop-file-init : goal.loop-file-init
loop-file-init c = refl

pub returns-in-Some : goal.returns-in-Some
returns-in-Some c =
    let item = c.file-item.result in
    let here = ap (first_repeat []) (sym c.as_slice.ensures.value) ∙ (sym c.in_ok-found.ensures ∙ c.in-Some.is) in
    first-found repeat_in c.args.read.now c.loop-file.file-index item c.in-Some.at c.loop-file-test.true (sym c.file-item.is) c.loop-file.invariant here

pub loop-file-preserved : goal.loop-file-preserved
loop-file-preserved c =
    let item = c.file-item.result in
    let here = ap (first_repeat []) (sym c.as_slice.ensures.value) ∙ (sym c.in_ok-found.ensures ∙ c.in-None.is) in
    none-more repeat_in c.args.read.now c.loop-file.file-index item c.loop-file-test.true (sym c.file-item.is) c.loop-file.invariant here

pub returns : goal.returns
returns c = none-all repeat_in c.args.read.now c.loop-file.file-index c.loop-file-test.false c.loop-file.invariant
