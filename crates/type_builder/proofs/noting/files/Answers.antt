use Rattle.std.proofs.Common.{arith, sym, subst, ap, take, ◌∙◌}
use Rattle.std.specs.List.{AllZip}
use Rattle.name_resolution.specs.Outlines.{import_source}
use Rattle.type_builder.specs.Building.{IsFile}
use Rattle.type_builder.proofs.Noted.{zip-more}
use Rattle.type_builder.proofs.noting.files.Goals as goal

pub loop-file-preserved : goal.loop-file-preserved
loop-file-preserved c =
    subst (AllZip (IsFile c.args.home.now) (take _ c.args.files.now)) (sym c.in_ok-push.ensures.items)
    (zip-more (IsFile c.args.home.now) c.args.files.now c.loop-file.out.items c.loop-file.file-index c.file-item.result c.in_ok-prefixes.field-0 (grind (arith, c.loop-file-test.true)) c.file-item.is c.loop-file.invariant
    (λ prefix. c.in_ok-prefixes.ensures prefix ∙ ap (λ is. import_source c.args.home.now is prefix) c.deref.ensures.value))
