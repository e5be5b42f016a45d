-- Modules that are linked, and the package that they make.
use Rattle.std.proofs.Common.{◌≡◌, ◌≤◌, ◌<◌, ◌⊎◌, inl, inr, ℕ, List, [], ◌∷◌, ◌-◌, drop, length, map, take, refl, sym, ap, ◌∙◌, subst, arith}
use Rattle.std.proofs.lemmas.List.{take_all}
use Rattle.std.specs.Prelude.{Option, Some, None}
use Rattle.bal_base.specs.declared.fault.FaultCode.TheVariants.{Duplicate, NoModule}
use Rattle.bal_base.specs.declared.fault.Refusal.{Refusal}
use Rattle.bal_base.specs.declared.place.Place.{Place}
use Rattle.bal_tree.specs.declared.package.Package.{Package}
use Rattle.bal_tree.specs.declared.package.SourceFile.{SourceFile}
use Rattle.manifests.specs.declared.reading.Manifest.{Manifest}
use Rattle.package_imports.specs.Imports.{Home, path_to}
use Rattle.package_making.specs.Making.{modules_from, numbered}
use Rattle.package_modules.specs.Modules.{AreModules}
use Rattle.module_loader.specs.Faults.{HasCycle, HasRepeat, HasUnknown}
use Rattle.module_loader.specs.Files.{Taken}
use Rattle.module_loader.specs.Packages.{Makes, behind_first, first_place, folders_of, graph_of, home_of, module_name, names_of, number_of, numbers_of, repeat_in, unknown_in}
use Rattle.module_loader.specs.inner.Linked.{IsLink, IsLinked, IsOfFew, IsOrdering, IsPutTogether, graph_in, import_refusal, refusal_or, refused_at}
use Rattle.module_loader.specs.inner.Sources.{folders_in}
use Rattle.module_loader.specs.declared.limits.TheConstants.{MOST_MODULES}
use Rattle.module_loader.specs.declared.linking.Link.{Link}
use Rattle.module_loader.specs.declared.linking.Link.TheVariants.{Ordered, Refused}
use Rattle.module_loader.specs.declared.linking.Linked.{Linked}
use Rattle.module_loader.specs.declared.sources.Source.{Source}
use Rattle.module_loader.proofs.Lists.{map-long, map-twice}

-- ---- the default module is there

pub some-folder : (folders names : List (List ℕ)) → AreModules folders names → 0 < length names
some-folder folders [] are = let here = are.default in let within = here.1 in absurd (let no-way : ⊥ = omega arith in no-way)
some-folder folders (n ∷ names) are = omega arith

pub fewer-behind : (folders : List (List ℕ)) → 0 < length folders → length (behind_first folders) < length folders
fewer-behind [] some = absurd (let no-way : ⊥ = omega arith in no-way)
fewer-behind (f ∷ folders) some = omega arith

pub behind-none : (folders : List (List ℕ)) → length folders ≡ 0 → folders ≡ behind_first folders
behind-none [] e = refl
behind-none (f ∷ folders) e = absurd (let no-way : ⊥ = omega arith in no-way)

pub behind-drop : (folders : List (List ℕ)) → take (length folders - 1) (drop 1 folders) ≡ behind_first folders
behind-drop [] = take_all (0 - 1) [] (omega arith)
behind-drop (f ∷ folders) = take_all (length (f ∷ folders) - 1) folders (omega arith)

pub fewer-paths : (manifest : Manifest) (folders : List (List ℕ)) (home : Home) (names : List (List ℕ)) → home ≡ home_of manifest folders → names ≡ names_of manifest folders → 0 < length folders
    → length home.paths < length names
fewer-paths manifest folders home names homes named some =
    let paths = ap (λ (h : Home). length h.paths) homes in
    let long = map-long (path_to manifest.name) (behind_first folders) in
    let count = ap length named in
    let same = map-long (module_name manifest) folders in
    let fewer = fewer-behind folders some in
    omega arith

pub numbered-as : (folders : List (List ℕ)) (taken : List Taken) (sources : List Source) → folders_of taken ≡ folders_in sources → map (λ (s : Source). number_of folders s.folder) sources ≡ numbers_of folders taken
numbered-as folders taken sources same = sym (map-twice (λ (s : Source). s.folder) (number_of folders) sources) ∙ ap (map (number_of folders)) (sym same)

pub modules-as : (folders : List (List ℕ)) (taken : List Taken) (sources : List Source) → folders_of taken ≡ folders_in sources → AreModules (folders_in sources) folders → AreModules (folders_of taken) folders
modules-as folders taken sources same are = subst (λ l. AreModules l folders) (sym same) are

-- ---- imports

module _ (manifest : Manifest) (folders : List (List ℕ)) (taken : List Taken) (read : List SourceFile) where
  abbrev Fault : Refusal → Type 0
  Fault r = HasRepeat manifest folders taken read r ⊎ (HasUnknown manifest folders taken read r ⊎ HasCycle manifest folders taken read r)

  pub refusal-found : (r : Refusal) → Some r ≡ import_refusal (home_of manifest folders) taken read → Fault r
  refusal-found r e = by (first_place repeat_in read) (first_place (unknown_in (home_of manifest folders)) read) refl refl e
    where
      by : (o p : Option Place) → first_place repeat_in read ≡ o → first_place (unknown_in (home_of manifest folders)) read ≡ p → Some r ≡ refusal_or (refused_at taken Duplicate o) (refused_at taken NoModule p) → Fault r
      by (Some at) p repeat unknown e = inl (record { at = at; first = repeat; is = cc })
      by None (Some at) repeat unknown e = inr (inl (record { unrepeated = repeat; at = at; first = unknown; is = cc }))
      by None None repeat unknown e = absurd (let no-way : ⊥ = cc in no-way)

  pub none-found : None ≡ import_refusal (home_of manifest folders) taken read → (first_place repeat_in read ≡ None) × (first_place (unknown_in (home_of manifest folders)) read ≡ None)
  none-found e = by (first_place repeat_in read) (first_place (unknown_in (home_of manifest folders)) read) refl refl e
    where
      by : (o p : Option Place) → first_place repeat_in read ≡ o → first_place (unknown_in (home_of manifest folders)) read ≡ p → None ≡ refusal_or (refused_at taken Duplicate o) (refused_at taken NoModule p)
          → (first_place repeat_in read ≡ None) × (first_place (unknown_in (home_of manifest folders)) read ≡ None)
      by (Some at) p repeat unknown e = absurd (let no-way : ⊥ = cc in no-way)
      by None (Some at) repeat unknown e = absurd (let no-way : ⊥ = cc in no-way)
      by None None repeat unknown e = (repeat, unknown)

  -- ---- the order

  pub link-of : (link : Link) → length folders ≤ MOST_MODULES → (first_place repeat_in read ≡ None) × (first_place (unknown_in (home_of manifest folders)) read ≡ None)
      → IsOrdering (names_of manifest folders) (numbers_of folders taken) (graph_of manifest folders taken read) link → IsLink manifest folders taken read link
  link-of (Refused r) few none h =
      inr (few, inr (inr (record { unrepeated = none.0; known = none.1; first = h.0; others = h.1; least = h.2; is = h.3 })))
  link-of (Ordered l) few none h = record { few = few; unrepeated = none.0; known = none.1; in_order = h }

  pub ordering-as : (home : Home) (names : List (List ℕ)) (numbers : List ℕ) (link : Link) → home ≡ home_of manifest folders → names ≡ names_of manifest folders → numbers ≡ numbers_of folders taken
      → IsOrdering names numbers (graph_in home numbers read (length names)) link → IsOrdering (names_of manifest folders) (numbers_of folders taken) (graph_of manifest folders taken read) link
  ordering-as home names numbers link homes named numbered h =
      let at-home : IsOrdering names numbers (graph_in (home_of manifest folders) numbers read (length names)) link =
      subst (λ (x : Home). IsOrdering names numbers (graph_in x numbers read (length names)) link) homes h in
      let at-numbers : IsOrdering names (numbers_of folders taken) (graph_in (home_of manifest folders) (numbers_of folders taken) read (length names)) link =
      subst (λ (x : List ℕ). IsOrdering names x (graph_in (home_of manifest folders) x read (length names)) link) numbered at-home in
      let count : length names ≡ length folders = ap length named ∙ map-long (module_name manifest) folders in
      let at-count : IsOrdering names (numbers_of folders taken) (graph_of manifest folders taken read) link =
      subst (λ (x : ℕ). IsOrdering names (numbers_of folders taken) (graph_in (home_of manifest folders) (numbers_of folders taken) read x) link) count at-numbers in
      subst (λ (x : List (List ℕ)). IsOrdering x (numbers_of folders taken) (graph_of manifest folders taken read) link) named at-count

  -- ---- the package

  pub made-of : (l : Linked) (p : Package) → AreModules (folders_of taken) folders → IsLinked manifest folders taken read l → IsPutTogether manifest l read p → Makes manifest taken read p
  made-of l p modules linked put =
      let o = linked.in_order in
      record {
        folders = folders;
        modules = modules;
        few = linked.few;
        unrepeated = linked.unrepeated;
        known = linked.known;
        acyclic = o.acyclic;
        order = l.order.items;
        ordered = o.ordered;
        name = put.name;
        org = put.org;
        made = put.made ∙ (λ i. modules_from (o.names_are i) (o.next_is i) l.order.items (numbered (o.numbers_are i) 0 read) 0 l.order.items);
        main = put.main;
      }

pub few-of : (names : List (List ℕ)) (numbers : List ℕ) (next : List (List ℕ)) (link : Link) → 0 < length names → length names ≤ MOST_MODULES → IsOrdering names numbers next link → IsOfFew link
few-of names numbers next (Refused r) some few h = tt
few-of names numbers next (Ordered l) some few h = (length names, h.each, some, few)
