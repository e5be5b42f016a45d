-- What the imports of a package come to, before its modules are put together.
use Rattle.std.specs.Prelude.{◌≡◌, ◌<◌, ◌≤◌, ⊤, ℕ, List, [], ◌∷◌, map, length, get_or, slice_get, Option, Some, None, IsCharBoundary, IsUtf8, chars, Result, Ok, Err}
use Rattle.bal_base.specs.declared.fault.FaultCode.{FaultCode}
use Rattle.bal_base.specs.declared.fault.FaultCode.TheVariants.{Duplicate, NoModule}
use Rattle.bal_base.specs.declared.fault.Refusal.{Refusal}
use Rattle.bal_base.specs.declared.place.Place.{Place}
use Rattle.bal_base.specs.declared.stop.Stop.{Stop}
use Rattle.bal_base.specs.declared.stop.Stop.TheVariants.{Fault, Memory}
use Rattle.bal_tree.specs.declared.package.Package.{Package}
use Rattle.bal_tree.specs.declared.package.SourceFile.{SourceFile}
use Rattle.graphs.specs.Cycles.{IsOnCycle}
use Rattle.manifests.specs.declared.reading.Manifest.{Manifest}
use Rattle.package_imports.specs.Cycles.{IsLeastCycle}
use Rattle.package_imports.specs.Imports.{Home}
use Rattle.package_imports.specs.Order.{IsEachOnce, IsModuleOrder}
use Rattle.package_making.specs.Making.{modules_from, numbered}
use Rattle.module_loader.specs.Faults.{IsLinkFault, at_import, cyclic}
use Rattle.module_loader.specs.Files.{Taken}
use Rattle.module_loader.specs.Packages.{first_place, graph_from, graph_of, home_of, names_of, numbers_of, repeat_in, unknown_in}
use Rattle.module_loader.specs.declared.faults.LoadFault.{LoadFault}
use Rattle.module_loader.specs.declared.faults.LoadFault.TheVariants.{Folder, Source}
use Rattle.module_loader.specs.declared.limits.TheConstants.{MOST_MODULES}
use Rattle.module_loader.specs.declared.linking.Link.{Link}
use Rattle.module_loader.specs.declared.linking.Link.TheVariants.{Ordered, Refused}
use Rattle.module_loader.specs.declared.linking.Linked.{Linked}

-- these bytes are the file's text
abbrev pub IsTextOf : List ℕ → SourceFile → Type 0
IsTextOf bytes file = IsUtf8 bytes × (file.text ≡ chars bytes)

-- the place stands in the text of the file
abbrev pub IsInFile : Place → SourceFile → Type 0
IsInFile at file = (bytes : List ℕ) × IsTextOf bytes file × IsCharBoundary bytes at.at × (at.at < 4294967295)

-- it stands in the text of the file whose number it has
abbrev pub IsInFiles : List SourceFile → Place → Type 0
IsInFiles read at = (file : SourceFile) × (slice_get read at.file ≡ Some file) × IsInFile at file

-- the refusal for the first of these places, if there is one
abbrev pub refused_at : List Taken → FaultCode → Option Place → Option Refusal
refused_at taken code None = None
refused_at taken code (Some at) = Some (at_import taken code at)

-- the refusal for imports, if one is due
abbrev pub refusal_or : Option Refusal → Option Refusal → Option Refusal
refusal_or None other = other
refusal_or (Some r) other = Some r

abbrev pub import_refusal : Home → List Taken → List SourceFile → Option Refusal
import_refusal home taken read =
    refusal_or (refused_at taken Duplicate (first_place repeat_in read)) (refused_at taken NoModule (first_place (unknown_in home) read))

-- which modules import which
abbrev pub graph_in : Home → List ℕ → List SourceFile → ℕ → List (List ℕ)
graph_in home numbers read count = graph_from home (numbered numbers 0 read) 0 count

-- the refusal of modules that import one another, or that none do
abbrev pub IsCycleTold : List (List ℕ) → List (List ℕ) → Option Refusal → Type 0
IsCycleTold names next None = (i : ℕ) → ¬ IsOnCycle next i
IsCycleTold names next (Some r) = (first : ℕ) × (others : List ℕ) × IsLeastCycle next first others × (r ≡ cyclic (map (λ i. get_or names i []) (first ∷ others)))

-- modules with these names, of which each imports some, in order
pub record IsInOrder (names : List (List ℕ)) (numbers : List ℕ) (next : List (List ℕ)) (l : Linked) : Type 0 where
  pub acyclic : (i : ℕ) → ¬ IsOnCycle next i
  pub names_are : l.names.items ≡ names
  pub numbers_are : l.numbers.items ≡ numbers
  pub next_is : map (λ v. v.items) l.next.items ≡ next
  pub ordered : IsModuleOrder next l.order.items
  pub each : IsEachOnce (length names) l.order.items

abbrev pub IsOrdering : List (List ℕ) → List ℕ → List (List ℕ) → Link → Type 0
IsOrdering names numbers next (Refused r) = IsCycleTold names next (Some r)
IsOrdering names numbers next (Ordered l) = IsInOrder names numbers next l

-- the modules of a package as they are linked
pub record IsLinked (manifest : Manifest) (folders : List (List ℕ)) (taken : List Taken) (read : List SourceFile) (l : Linked) : Type 0 where
  pub few : length folders ≤ MOST_MODULES
  pub unrepeated : first_place repeat_in read ≡ None
  pub known : first_place (unknown_in (home_of manifest folders)) read ≡ None
  pub in_order : IsInOrder (names_of manifest folders) (numbers_of folders taken) (graph_of manifest folders taken read) l

-- what linking comes to
abbrev pub IsLink : Manifest → List (List ℕ) → List Taken → List SourceFile → Link → Type 0
IsLink manifest folders taken read (Refused r) = IsLinkFault manifest folders taken read r
IsLink manifest folders taken read (Ordered l) = IsLinked manifest folders taken read l

-- an order of some numbers, the first of them among them, of which there are not too many
abbrev pub IsOrderOfFew : List ℕ → Type 0
IsOrderOfFew order = (count : ℕ) × IsEachOnce count order × (0 < count) × (count ≤ MOST_MODULES)

-- of modules in order there are not too many
abbrev pub IsOfFew : Link → Type 0
IsOfFew (Refused r) = ⊤
IsOfFew (Ordered l) = IsOrderOfFew l.order.items

-- the package of modules in their order
pub record IsPutTogether (manifest : Manifest) (l : Linked) (read : List SourceFile) (p : Package) : Type 0 where
  pub name : p.name ≡ manifest.name
  pub org : p.org ≡ manifest.org
  pub made : p.modules ≡ modules_from l.names.items (map (λ v. v.items) l.next.items) l.order.items (numbered l.numbers.items 0 read) 0 l.order.items
  pub main : slice_get l.order.items p.main ≡ Some 0

-- a stop by this refusal and with these files, if there was memory for it
abbrev pub IsStopBy : Refusal → List SourceFile → Stop LoadFault → Type 0
IsStopBy r read Memory = ⊤
IsStopBy r read (Fault Folder) = ⊥
IsStopBy r read (Fault (Source found after)) = (found ≡ r) × (after ≡ read)

-- it isn't answered that the folder failed
abbrev pub IsOfFiles : {A : Type 0} → Result A (Stop LoadFault) → Type 0
IsOfFiles (Ok a) = ⊤
IsOfFiles (Err Memory) = ⊤
IsOfFiles (Err (Fault Folder)) = ⊥
IsOfFiles (Err (Fault (Source r read))) = ⊤
