use Rattle.std.specs.Prelude.{Vec}
use Rattle.std.specs.Global.{Global}
use Rattle.bal_tree.specs.declared.package.Package.{Package}
use Rattle.bal_tree.specs.declared.package.SourceFile.{SourceFile}
use Rattle.std.proofs.lemmas.Result.{IfOk-weaker}
use Rattle.module_loader.proofs.Loads.{links-refused, opens-of, package-of, reading-refused}
use Rattle.module_loader.proofs.Stops.{files-count, stop-counts, stop-refused}
use Rattle.module_loader.proofs.loading.load_all.Goals as goal

pub read_all-requires-clause-there : goal.read_all-requires-clause-there
read_all-requires-clause-there g c = opens-of c.args.listing.now c.args.sources.now (g.F.Folder.files c.args.folder.now) c.requires.found

pub load_read-requires-clause-read : goal.load_read-requires-clause-read
load_read-requires-clause-read g c = (c.in-Ok.ensures.read.taken, c.in-Ok.ensures.read.reads)

pub returns-in-Ok-clause-faults : goal.returns-in-Ok-clause-faults
returns-in-Ok-clause-faults g c = files-count _ _ c.load_read.result c.in-Ok.ensures.faults c.load_read.ensures.files

pub returns-in-Ok-clause-package : goal.returns-in-Ok-clause-package
returns-in-Ok-clause-package g c =
    IfOk-weaker c.load_read.result _ _
    (λ p makes. package-of c.args.listing.now c.args.sources.now c.args.manifest c.requires.few c.in-Ok.read.items (g.F.Folder.files c.args.folder.now) p c.requires.found c.requires.says c.in-Ok.ensures.read makes)
    c.load_read.ensures.package

pub returns-in-Ok-clause-refused : goal.returns-in-Ok-clause-refused
returns-in-Ok-clause-refused g c =
    links-refused c.args.listing.now c.args.sources.now c.args.manifest c.requires.few c.in-Ok.read.items (g.F.Folder.files c.args.folder.now) c.load_read.result c.requires.found c.requires.says c.in-Ok.ensures.read
    c.load_read.ensures.rest c.load_read.ensures.refused

pub returns-in-Err-clause-faults : goal.returns-in-Err-clause-faults
returns-in-Err-clause-faults g c = stop-counts (Vec SourceFile Global) Package _ _ c.in-Err.stop c.in-Err.ensures.faults

pub returns-in-Err-clause-refused : goal.returns-in-Err-clause-refused
returns-in-Err-clause-refused g c =
    stop-refused (Vec SourceFile Global) Package c.in-Err.stop _ _
    (λ r read fault. reading-refused c.args.listing.now c.args.sources.now c.args.manifest c.requires.few (g.F.Folder.files c.args.folder.now) r read c.requires.found c.requires.says fault) c.in-Err.ensures.refused
