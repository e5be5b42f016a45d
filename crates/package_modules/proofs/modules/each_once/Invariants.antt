use Rattle.std.proofs.Common.{◌≡◌, ◌||◌, List, ℕ, [], nat_cmp, take}
use Rattle.std.specs.BTreeSet.{contains}
use Rattle.std.specs.Cmp.Lexicographic.{slice_cmp}
use Rattle.std.specs.List.{list_any}
use Rattle.std.specs.Str.{bytes_eq}
use Rattle.package_modules.proofs.modules.each_once.Given as goal

abbrev pub invariant-loop-folder : goal.invariant-loop-folder
invariant-loop-folder l = (q : List ℕ) → contains (slice_cmp nat_cmp) l.known q ≡ (bytes_eq q [] || list_any (bytes_eq q) (take l.folder-index l.folders))
