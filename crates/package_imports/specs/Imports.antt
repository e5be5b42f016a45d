-- What imports name. Names are their code points; the modules of a package come by their names, the default one first, and a module's
-- number is its place among them.
use Rattle.std.specs.Prelude.{◌-◌, ◌&&◌, ℕ, suc, Bool, true, false, if◌then◌else◌, List, [], ◌∷◌, ◌++◌, codes, length, position, slice_get, Option, Some, None, option_map}
use Rattle.std.specs.List.{filter_map}
use Rattle.std.specs.Str.{bytes_eq}
use Rattle.bal_base.specs.declared.place.Place.{Place}
use Rattle.bal_tree.specs.declared.def.Import.{Import}
use Rattle.bal_tree.specs.declared.name.Word.{Word}
use Rattle.package_imports.specs.declared.targets.Target.{Target}
use Rattle.package_imports.specs.declared.targets.Target.TheVariants.{Library, Module}

abbrev pub is_same : List ℕ → List ℕ → Bool
is_same = bytes_eq

-- ---- the words of an import

abbrev pub word_or : Option Word → Word → Word
word_or None w = w
word_or (Some v) w = v

abbrev pub last_word : Import → Word
last_word i = word_or (slice_get i.more.items (length i.more.items - 1)) (word_or i.second i.first)

-- the prefix: the word behind `as`, or else the last word
abbrev pub prefix_of : Import → List ℕ
prefix_of i = (word_or i.prefix (last_word i)).name

-- the organisation, where it names one
abbrev pub org_of : Import → Option (List ℕ)
org_of i = option_map (λ word. i.first.name) i.second

-- a name with these words behind it, each behind a dot
abbrev pub dotted : List ℕ → List Word → List ℕ
dotted name [] = name
dotted name (word ∷ words) = dotted (name ++ 46 ∷ word.name) words

-- what stands behind the organisation, as one name
abbrev pub path_of : Import → List ℕ
path_of i = dotted (word_or i.second i.first).name i.more.items

-- ---- what it names

-- an organisation is this one
abbrev pub is_org : List ℕ → Option (List ℕ) → Bool
is_org name None = false
is_org name (Some org) = is_same org name

-- it is the package's own organisation, or none is named
abbrev pub is_own_org : Option (List ℕ) → Option (List ℕ) → Bool
is_own_org own None = true
is_own_org own (Some org) = is_org org own

-- `ballerina/io`
abbrev pub is_library : Import → Bool
is_library i = is_org (codes "ballerina") (org_of i) && is_same (path_of i) (codes "io")

-- the name by which the module in a folder of the package is imported
abbrev pub path_to : List ℕ → List ℕ → List ℕ
path_to «package» folder = «package» ++ 46 ∷ folder

-- a package: its organisation, and for each module behind the default one the name by which it is imported
pub record Home : Type 0 where
  pub org : Option (List ℕ)
  pub paths : List (List ℕ)

-- the module of the package that an import names: the default one, with the number 0, can't be named
abbrev pub own_module : Home → Import → Option ℕ
own_module home i = if is_own_org home.org (org_of i) then option_map suc (position (λ path. is_same path (path_of i)) home.paths) else None

-- the library, a module of the package, or nothing
abbrev pub target_of : Home → Import → Option Target
target_of home i = if is_library i then Some Library else option_map Module (own_module home i)

-- ---- imports that name nothing

abbrev pub is_known : Option Target → Bool
is_known None = false
is_known (Some target) = true

-- the place of the first import that names nothing
abbrev pub first_unknown : Home → List Import → Option Place
first_unknown home [] = None
first_unknown home (i ∷ imports) = if is_known (target_of home i) then first_unknown home imports else Some i.at

-- ---- which modules a module imports

abbrev pub module_number : Option Target → Option ℕ
module_number None = None
module_number (Some Library) = None
module_number (Some (Module number)) = Some number

-- the modules of the package that these imports name, one for each import of one
abbrev pub imported : Home → List Import → List ℕ
imported home imports = filter_map (λ i. module_number (target_of home i)) imports
