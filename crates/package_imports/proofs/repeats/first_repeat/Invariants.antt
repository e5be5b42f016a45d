use Rattle.std.proofs.Common.{◌≡◌, ℕ, List, [], drop, nat_cmp}
use Rattle.std.specs.BTreeSet.{contains}
use Rattle.std.specs.Cmp.Lexicographic.{slice_cmp}
use Rattle.std.specs.List.{list_any}
use Rattle.std.specs.Str.{bytes_eq}
use Rattle.package_imports.specs.Repeats.{first_repeat}
use Rattle.package_imports.proofs.Stepping.{before}
use Rattle.package_imports.proofs.repeats.first_repeat.Given as goal

abbrev pub invariant-loop-import : goal.invariant-loop-import
invariant-loop-import l =
    ((q : List ℕ) → contains (slice_cmp nat_cmp) l.known q ≡ list_any (bytes_eq q) (before l.imports l.import-index))
    × (first_repeat [] l.imports ≡ first_repeat (before l.imports l.import-index) (drop l.import-index l.imports))
