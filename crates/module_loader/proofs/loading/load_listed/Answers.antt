use Rattle.bal_tree.specs.declared.package.Package.{Package}
use Rattle.std.proofs.Common.{◌≡◌, ◌<◌, ◌≤◌, [], ap, arith, length, refl, rules, subst, sym}
use Rattle.std.specs.Prelude.{Err, IfSome}
use Rattle.module_loader.specs.Faults.{IsRefusedFor, too_large}
use Rattle.module_loader.specs.inner.Sources.{AreListed, IsFound}
use Rattle.module_loader.specs.declared.limits.TheConstants.{MOST_FILES}
use Rattle.module_loader.proofs.Loads.{found-as, many-refused, taken-as}
use Rattle.module_loader.proofs.Stops.{files-count, stop-by, stop-of-files}
use Rattle.module_loader.proofs.loading.load_listed.Goals as goal

pub returns-then-count-gt-MOST_FILES-clause-faults : goal.returns-then-count-gt-MOST_FILES-clause-faults
returns-then-count-gt-MOST_FILES-clause-faults g c = files-count {A = Package} (g.F.Folder.faults c.args.folder.now) (g.F.Folder.faults c.args.folder.now) (Err c.too_many.result) refl (stop-of-files Package (too_large c.len-count.result) [] c.too_many.result c.too_many.ensures)

pub returns-then-count-gt-MOST_FILES-clause-refused : goal.returns-then-count-gt-MOST_FILES-clause-refused
returns-then-count-gt-MOST_FILES-clause-refused g c =
    let told = g.F.Folder.files c.args.folder.now in
    let sources = c.in_ok-sources.sources.items in
    let count : c.len-count.result ≡ length sources = omega (arith, c.len-count.ensures, c.in_ok-sources.sources.ok.0) in
    let many : MOST_FILES < c.len-count.result = search rules in
    stop-by Package (too_large c.len-count.result) [] c.too_many.result (λ r read. IfSome told (λ files. IsRefusedFor files r read)) c.too_many.ensures
    (many-refused c.args.listing.now sources told (too_large c.len-count.result) [] (subst (λ n. MOST_FILES < n) count many) (ap too_large count) refl (taken-as c.args.listing.now sources told c.requires c.in_ok-sources.ensures.taken))

pub load_found-requires : goal.load_found-requires
load_found-requires g c =
    let told = g.F.Folder.files c.args.folder.now in
    let listing = c.args.listing.now in
    let same = sym c.as_slice.ensures.value in
    let count : c.len-count.result ≡ length c.in_ok-sources.sources.items = omega (arith, c.len-count.ensures, c.in_ok-sources.sources.ok.0) in
    let few : c.len-count.result ≤ MOST_FILES = search rules in
    record {
      few = subst (λ l. length l ≤ MOST_FILES) same (subst (λ n. n ≤ MOST_FILES) count few);
      folders = subst (AreListed listing) same c.in_ok-sources.ensures.folders;
      found = subst (λ l. IfSome told (λ files. IsFound files listing l)) same (found-as listing c.in_ok-sources.sources.items told c.requires c.in_ok-sources.ensures.taken c.in_ok-sources.ensures.there);
    }
