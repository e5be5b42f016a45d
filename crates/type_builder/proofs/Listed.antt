-- Definitions listed one by one, with the numbers of their first atoms; and the places of all atoms, definition by definition.
use Rattle.std.proofs.Common.{◌≡◌, ℕ, suc, ◌+◌, ◌<◌, ◌≤◌, Bool, List, [], ◌∷◌, ◌++◌, length, fold, get_or, map, take, refl, sym, ap, subst, ◌∙◌, append_assoc, arith}
use Rattle.std.specs.Prelude.{All, slice_get, Some, None}
use Rattle.std.specs.Option.{option_map}
use Rattle.std.proofs.lemmas.List.{append-nil, length-map, length-take, map-append}
use Rattle.std.proofs.lemmas.List.Elements.{All-append, All-cons, All-nil, All-weaker}
use Rattle.std.proofs.lemmas.Option.{get_or_from_slice_get, slice_get-map, slice_get_read, slice_get_within}
use Rattle.bal_base.specs.declared.place.Place.{Place}
use Rattle.bal_tree.specs.declared.def.Def.{Def}
use Rattle.bal_tree.specs.declared.package.Module.{Module}
use Rattle.bal_tree.specs.declared.package.Package.{Package}
use Rattle.bal_tree.specs.declared.package.SourceFile.{SourceFile}
use Rattle.type_builder.specs.AtomPlaces.{def_places, file_places, module_places, package_places}
use Rattle.name_resolution.specs.Definitions.{Placed, definitions_of, in_files, in_modules, placed}
use Rattle.name_resolution.specs.Excerpts.{picked}
use Rattle.name_resolution.proofs.Excerpting.{picked-push}
use Rattle.type_builder.specs.Listing.{IsListing, Lists, if_wanted, placed_of, seen}
use Rattle.type_builder.specs.Passes.{placed_places, started}
use Rattle.type_builder.specs.declared.placed.Listing.{Listing}
use Rattle.type_builder.specs.declared.placed.Site.{Site}
use Rattle.type_builder.proofs.PlaceLoops.{take-more}

module _ {A B : Type 0} (f : B → A → B) where
  fold-more : (b : B) (xs ys : List A) → fold f b (xs ++ ys) ≡ fold f (fold f b xs) ys
  fold-more b [] ys = refl
  fold-more b (x ∷ xs) ys = fold-more (f b x) xs ys

-- ---- one definition more

started-push : (first : ℕ) (before : List Place) (ps : List Placed) (p : Placed)
    → started first before (ps ++ p ∷ []) ≡ started first before ps ++ (p, first + length (fold placed_places before ps)) ∷ []
started-push first before [] p = refl
started-push first before (q ∷ ps) p = ap (λ l. (q, first + length before) ∷ l) (started-push first (placed_places before q) ps p)

pub one-listed : (ps : List Placed) (p : Placed) (old new : Listing) (s : Site) → IsListing ps old → new.first ≡ old.first → new.sites.items ≡ old.sites.items ++ s ∷ []
    → seen s ≡ (p, old.first + length old.places.items) → new.places.items ≡ placed_places old.places.items p → IsListing (ps ++ p ∷ []) new
one-listed ps p old new s l first sites is places = record {
  sites_are = ap (map seen) sites ∙ map-append seen old.sites.items (s ∷ []) ∙ ap (λ x. map seen old.sites.items ++ x ∷ []) is
      ∙ ap (λ xs. xs ++ (p, old.first + length old.places.items) ∷ []) l.sites_are ∙ ap (λ b. started old.first [] ps ++ (p, old.first + length b) ∷ []) l.places_are
      ∙ sym (started-push old.first [] ps p) ∙ ap (λ n. started n [] (ps ++ p ∷ [])) (sym first);
  places_are = places ∙ ap (λ b. placed_places b p) l.places_are ∙ sym (fold-more placed_places [] ps (p ∷ []));
}

-- ---- some behind others

pub lists-then : (xs ys : List Placed) (a b c : Listing) → Lists xs a b → Lists ys b c → Lists (xs ++ ys) a c
lists-then xs ys a b c f g = record {
  first = g.first ∙ f.first;
  listed = λ ps h. subst (λ qs. IsListing qs c) (append_assoc ps xs ys) (g.listed (ps ++ xs) (f.listed ps h));
}

pub lists-one : (p : Placed) (old new : Listing) (s : Site) → new.first ≡ old.first → new.sites.items ≡ old.sites.items ++ s ∷ []
    → seen s ≡ (p, old.first + length old.places.items) → new.places.items ≡ placed_places old.places.items p → Lists (p ∷ []) old new
lists-one p old new s first sites is places = record { first = first; listed = λ ps h. one-listed ps p old new s h first sites is places }

-- the same of all files of a module, and of all modules, as far as a loop goes through them
files-push : (m n : ℕ) (files : List SourceFile) (f : SourceFile) → in_files m n (files ++ f ∷ []) ≡ in_files m n files ++ map (placed m (n + length files)) f.tree.defs.items
files-push m n [] f = append-nil (map (placed m n) f.tree.defs.items) ∙ ap (λ k. map (placed m k) f.tree.defs.items) (omega arith)
files-push m n (g ∷ files) f =
    ap (λ qs. map (placed m n) g.tree.defs.items ++ qs) (files-push m (suc n) files f ∙ ap (λ k. in_files m (suc n) files ++ map (placed m k) f.tree.defs.items) (omega arith))
    ∙ sym (append_assoc (map (placed m n) g.tree.defs.items) (in_files m (suc n) files) (map (placed m (n + length (g ∷ files))) f.tree.defs.items))

pub files-more : (m : ℕ) (files : List SourceFile) (i : ℕ) (f : SourceFile) (old mid new : Listing) → i < length files → f ≡ get_or files i f
    → Lists (in_files m 0 (take i files)) old mid → Lists (map (placed m i) f.tree.defs.items) mid new → Lists (in_files m 0 (take (i + 1) files)) old new
files-more m files i f old mid new lt is before next =
    subst (λ qs. Lists qs old new)
    (sym (ap (in_files m 0) (take-more files i f lt is) ∙ files-push m 0 (take i files) f
    ∙ ap (λ k. in_files m 0 (take i files) ++ map (placed m k) f.tree.defs.items) (grind (arith, length-take, lt))))
    (lists-then (in_files m 0 (take i files)) (map (placed m i) f.tree.defs.items) old mid new before next)

modules-push : (first : ℕ) (ms : List Module) (m : Module) → in_modules first (ms ++ m ∷ []) ≡ in_modules first ms ++ in_files (first + length ms) 0 m.files
modules-push first [] m = append-nil (in_files first 0 m.files) ∙ ap (λ n. in_files n 0 m.files) (omega arith)
modules-push first (k ∷ ms) m =
    ap (λ qs. in_files first 0 k.files ++ qs) (modules-push (suc first) ms m ∙ ap (λ n. in_modules (suc first) ms ++ in_files n 0 m.files) (omega arith))
    ∙ sym (append_assoc (in_files first 0 k.files) (in_modules (suc first) ms) (in_files (first + length (k ∷ ms)) 0 m.files))

pub modules-more : (ms : List Module) (i : ℕ) (m : Module) (old new : Listing) → i < length ms → m ≡ get_or ms i m
    → IsListing (in_modules 0 (take i ms)) old → Lists (in_files i 0 m.files) old new → IsListing (in_modules 0 (take (i + 1) ms)) new
modules-more ms i m old new lt is before next =
    subst (λ qs. IsListing qs new)
    (sym (ap (in_modules 0) (take-more ms i m lt is) ∙ modules-push 0 (take i ms) m ∙ ap (λ n. in_modules 0 (take i ms) ++ in_files n 0 m.files) (grind (arith, length-take, lt))))
    (next.listed (in_modules 0 (take i ms)) before)

-- ---- all of them

of-defs : (m n : ℕ) (before : List Place) (ds : List Def) → fold placed_places before (map (placed m n) ds) ≡ fold def_places before ds
of-defs m n before [] = refl
of-defs m n before (d ∷ ds) = of-defs m n (def_places before d) ds

of-files : (m n : ℕ) (before : List Place) (files : List SourceFile) → fold placed_places before (in_files m n files) ≡ fold file_places before files
of-files m n before [] = refl
of-files m n before (f ∷ files) =
    fold-more placed_places before (map (placed m n) f.tree.defs.items) (in_files m (suc n) files)
    ∙ ap (λ b. fold placed_places b (in_files m (suc n) files)) (of-defs m n before f.tree.defs.items) ∙ of-files m (suc n) (file_places before f) files

of-modules : (first : ℕ) (before : List Place) (modules : List Module) → fold placed_places before (in_modules first modules) ≡ fold module_places before modules
of-modules first before [] = refl
of-modules first before (m ∷ modules) =
    fold-more placed_places before (in_files first 0 m.files) (in_modules (suc first) modules)
    ∙ ap (λ b. fold placed_places b (in_modules (suc first) modules)) (of-files first 0 before m.files) ∙ of-modules (suc first) (module_places before m) modules

pub of-package : (p : Package) → fold placed_places [] (definitions_of p) ≡ package_places p
of-package p = of-modules 0 [] p.modules

-- those of an excerpt, as far as a loop goes through all definitions
pub one-picked : (chosen : ℕ → Bool) (ps : List Placed) (i : ℕ) (p : Placed) (old new : Listing) → slice_get ps i ≡ Some p
    → IsListing (picked chosen 0 (take i ps)) old → Lists (if_wanted (chosen i) p) old new → IsListing (picked chosen 0 (take (i + 1) ps)) new
one-picked chosen ps i p old new at before next =
    let lt = slice_get_within ps i p at in
    subst (λ qs. IsListing qs new)
    (sym (ap (picked chosen 0) (take-more ps i p lt (sym (get_or_from_slice_get ps i p p at))) ∙ picked-push chosen (take i ps) p i (grind (arith, length-take, lt))))
    (next.listed (picked chosen 0 (take i ps)) before)

-- nothing is listed
pub none-picked : (chosen : ℕ → Bool) (ps : List Placed) (l : Listing) → l.sites.items ≡ [] → l.places.items ≡ [] → IsListing (picked chosen 0 (take 0 ps)) l
none-picked chosen ps l sites places = record { sites_are = ap (map seen) sites; places_are = places }

-- ---- where they stand

-- the number of a definition's module
abbrev StandsIn : ℕ → ℕ → Placed → Type 0
StandsIn low high q = (low ≤ q.«module») × (q.«module» < high)

in-defs : (m n : ℕ) (ds : List Def) → All (StandsIn m (suc m)) (map (placed m n) ds)
in-defs m n [] = All-nil (StandsIn m (suc m))
in-defs m n (d ∷ ds) = All-cons (StandsIn m (suc m)) (placed m n d) (map (placed m n) ds) (omega arith, omega arith) (in-defs m n ds)

in-files : (m n : ℕ) (files : List SourceFile) → All (StandsIn m (suc m)) (in_files m n files)
in-files m n [] = All-nil (StandsIn m (suc m))
in-files m n (f ∷ files) = All-append (StandsIn m (suc m)) (map (placed m n) f.tree.defs.items) (in_files m (suc n) files) (in-defs m n f.tree.defs.items) (in-files m (suc n) files)

in-modules : (first : ℕ) (ms : List Module) → All (StandsIn first (first + length ms)) (in_modules first ms)
in-modules first [] = All-nil (StandsIn first (first + 0))
in-modules first (m ∷ ms) =
    All-append (StandsIn first (first + length (m ∷ ms))) (in_files first 0 m.files) (in_modules (suc first) ms)
    (All-weaker (StandsIn first (suc first)) (StandsIn first (first + length (m ∷ ms))) (λ q (low, high). (low, omega (arith, high))) (in_files first 0 m.files) (in-files first 0 m.files))
    (All-weaker (StandsIn (suc first) (suc first + length ms)) (StandsIn first (first + length (m ∷ ms))) (λ q (low, high). (omega (arith, low), omega (arith, high))) (in_modules (suc first) ms) (in-modules (suc first) ms))

-- the module of a definition is one of the package
pub module-there : (p : Package) (n : ℕ) (q : Placed) → slice_get (definitions_of p) n ≡ Some q → q.«module» < length p.modules
module-there p n q at =
    subst (λ r. r.«module» < length p.modules) (get_or_from_slice_get (definitions_of p) n q q at)
    (omega (arith, (in-modules 0 p.modules n q (slice_get_within (definitions_of p) n q at)).1))

-- the site with this number is that of the definition with this number, and has the number of its first atom
pub site-at : (ps : List Placed) (l : Listing) (i : ℕ) (s : Site) → IsListing ps l → slice_get l.sites.items i ≡ Some s → slice_get (started l.first [] ps) i ≡ Some (seen s)
site-at ps l i s h at = ap (λ xs. slice_get xs i) (sym h.sites_are) ∙ slice_get-map seen l.sites.items i ∙ ap (option_map seen) at

started-placed : (first : ℕ) (before : List Place) (ps : List Placed) → map (λ s. s.0) (started first before ps) ≡ ps
started-placed first before [] = refl
started-placed first before (p ∷ ps) = ap (λ l. p ∷ l) (started-placed first (placed_places before p) ps)

first-seen : (sites : List Site) → map placed_of sites ≡ map (λ s. s.0) (map seen sites)
first-seen [] = refl
first-seen (s ∷ sites) = ap (λ l. placed_of s ∷ l) (first-seen sites)

-- the sites are those of the definitions
pub sites-placed : (ps : List Placed) (l : Listing) → IsListing ps l → map placed_of l.sites.items ≡ ps
sites-placed ps l h = first-seen l.sites.items ∙ ap (map (λ s. s.0)) h.sites_are ∙ started-placed l.first [] ps

-- the definition with this number is that of the site with this number
pub listed-at : (ps : List Placed) (sites : List Site) (i : ℕ) (s : Site) → map placed_of sites ≡ ps → i < length sites → s ≡ get_or sites i s → slice_get ps i ≡ Some (placed_of s)
listed-at ps sites i s are lt is =
    ap (λ xs. slice_get xs i) (sym are) ∙ slice_get-map placed_of sites i ∙ ap (option_map placed_of) (slice_get_read sites (length sites) i s refl lt is)

-- where there is no site there is no definition
pub no-site : (ps : List Placed) (l : Listing) (i : ℕ) → IsListing ps l → slice_get l.sites.items i ≡ None → slice_get ps i ≡ None
no-site ps l i h none = ap (λ xs. slice_get xs i) (sym (sites-placed ps l h)) ∙ slice_get-map placed_of l.sites.items i ∙ ap (option_map placed_of) none

-- behind the last site there is no definition
pub all-listed : (ps : List Placed) (sites : List Site) (l : Listing) (i : ℕ) → IsListing ps l → sites ≡ l.sites.items → length sites ≤ i → length ps ≤ i
all-listed ps sites l i h same le =
    let long : length ps ≡ length l.sites.items = sym (ap length (sites-placed ps l h)) ∙ length-map l.sites.items placed_of in
    let there : length sites ≡ length l.sites.items = ap length same in omega (arith, long, there, le)
