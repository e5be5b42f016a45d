use Rattle.std.proofs.Common.{◌∙◌, ap, sym}
use Rattle.package_imports.specs.Imports.{is_known}
use Rattle.package_imports.proofs.Stepping.{unknown-here, unknown-later, unknown-never}
use Rattle.package_imports.proofs.targets.first_unknown.Goals as goal

pub returns-then-not-is_known : goal.returns-then-not-is_known
returns-then-not-is_known c =
    let none = ap is_known (sym c.in_ok-target.ensures) ∙ (sym c.is_known.ensures ∙ c.if-not-is_known.true) in
    unknown-here c.args.home.now c.args.imports.now c.loop-import.import-index c.import-item.result c.loop-import-test.true c.import-item.is none c.loop-import.invariant

pub loop-import-preserved : goal.loop-import-preserved
loop-import-preserved c =
    let known = ap is_known (sym c.in_ok-target.ensures) ∙ (sym c.is_known.ensures ∙ c.if-not-is_known.false) in
    unknown-later c.args.home.now c.args.imports.now c.loop-import.import-index c.import-item.result c.loop-import-test.true c.import-item.is known c.loop-import.invariant

pub returns : goal.returns
returns c = unknown-never c.args.home.now c.args.imports.now c.loop-import.import-index c.loop-import-test.false c.loop-import.invariant
