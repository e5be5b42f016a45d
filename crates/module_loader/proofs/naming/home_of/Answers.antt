use Rattle.std.proofs.Common.{◌∙◌, map}
use Rattle.std.proofs.lemmas.Result.{IfOk-weaker}
use Rattle.package_imports.specs.Imports.{path_to}
use Rattle.module_loader.proofs.naming.home_of.Goals as goal

pub returns : goal.returns
returns c =
    IfOk-weaker c.new.result _ _
    (λ home is. is ∙ (λ i. record { org = c.shared-org.ensures i; paths = map (path_to c.args.manifest.now.name) (c.behind_first.ensures i) })) c.new.ensures
