use Rattle.std.proofs.Common.{arith, ap, ◌∙◌, cond, Option, None}
use Rattle.std.specs.Option.{option_or}
use Rattle.bal_base.specs.declared.text.Name.{Name}
use Rattle.descriptors.specs.declared.names.Source.{Source}
use Rattle.descriptors.specs.Naming.{file_source}
use Rattle.type_model.specs.Places.{is_same_text}
use Rattle.package_imports.specs.Imports.{prefix_of}
use Rattle.name_resolution.specs.Outlines.{source_of}
use Rattle.name_resolution.proofs.OutlineLoops.{imports-more}
use Rattle.name_resolution.proofs.outlines.prefixes.Goals as goal

pub loop-import-preserved : goal.loop-import-preserved
loop-import-preserved c =
    let before : Name → Option Source = λ q. file_source q c.loop-import.names in
    imports-more c.args.home.now c.args.imports.now c.loop-import.import-index c.import-item.result before (λ q. file_source q c.note.new.names) (grind (arith, c.loop-import-test.true)) c.import-item.is c.loop-import.invariant
    (λ q.
    c.in_ok-note.ensures q
    ∙ (ap (λ p. option_or (before q) (cond (is_same_text q p) c.in_ok-source.source None)) c.prefix.ensures
    ∙ ap (λ s. option_or (before q) (cond (is_same_text q (prefix_of c.import-item.result)) s None)) (c.in_ok-source.ensures ∙ ap source_of c.in_ok-target.ensures)))
