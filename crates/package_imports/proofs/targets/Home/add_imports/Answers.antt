use Rattle.std.proofs.Common.{◌∙◌, ◌++◌, [], ap, sym, take}
use Rattle.std.specs.List.{cons_option}
use Rattle.std.proofs.lemmas.List.{append_assoc}
use Rattle.package_imports.specs.Imports.{imported, module_number, target_of}
use Rattle.package_imports.proofs.Stepping.{imported-more}
use Rattle.package_imports.proofs.targets.Home.add_imports.Goals as goal

pub loop-import-preserved : goal.loop-import-preserved
loop-import-preserved c =
    let home = c.args.self.now in
    let imports = c.args.imports.now in
    let i = c.loop-import.import-index in
    let one = cons_option (module_number (target_of home c.import-item.result)) [] in
    let out = c.args.out.now.items in
    c.in_ok-add_import.ensures
    ∙ (ap (λ l. l ++ one) c.loop-import.invariant
    ∙ (append_assoc out (imported home (take i imports)) one ∙ ap (λ l. out ++ l) (sym (imported-more home imports i c.import-item.result c.loop-import-test.true c.import-item.is))))
