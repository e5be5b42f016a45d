-- Where imports stand: in the text of the file whose number their places have.
use Rattle.std.proofs.Common.{◌≡◌, ◌+◌, ℕ, zero, suc, Bool, true, false, cond, List, [], ◌∷◌, ◌++◌, get_or, refl, sym, ap, ◌∙◌, subst, chars, arith}
use Rattle.std.specs.Prelude.{All, Option, Some, None, slice_get, IsUtf8}
use Rattle.std.specs.List.{list_any}
use Rattle.std.proofs.lemmas.Option.{get_or_from_slice_get}
use Rattle.std.proofs.lemmas.Str.{encodes-chars}
use lib.Utf8.{encodes}
use Rattle.bal_base.specs.declared.fault.FaultCode.{FaultCode}
use Rattle.bal_base.specs.declared.fault.Kept.TheVariants.{Nothing}
use Rattle.bal_base.specs.declared.fault.Refusal.{Refusal}
use Rattle.bal_base.specs.declared.place.Place.{Place}
use Rattle.bal_tree.specs.declared.def.Import.{Import}
use Rattle.bal_tree.specs.declared.package.SourceFile.{SourceFile}
use Rattle.package_imports.specs.Imports.{Home, first_unknown, is_known, is_same, prefix_of, target_of}
use Rattle.package_imports.specs.Repeats.{first_repeat}
use Rattle.source_files.specs.Files.{IsSource}
use Rattle.source_files.specs.Places.{AreImportsOf, IsPlaceOf}
use Rattle.source_files.specs.Told.{refusal_of}
use Rattle.source_files.proofs.ImportPlaces.{source-imports}
use Rattle.module_loader.specs.Faults.{at_import, no_file}
use Rattle.module_loader.specs.Files.{AreRead, Taken}
use Rattle.module_loader.specs.Packages.{first_or, first_place, repeat_in, unknown_in}
use Rattle.module_loader.specs.inner.Begun.{AreSources}
use Rattle.module_loader.specs.inner.Linked.{IsInFile, IsInFiles, IsTextOf}
use Rattle.module_loader.proofs.Lists.{all-first, all-rest}

pub some-same : {X : Type 0} {x y : X} → Some x ≡ Some y → x ≡ y
some-same e = cc

pub none-some : {X : Type 0} {x : X} → None ≡ Some x → ⊥
none-some e = cc

-- ---- the places that are refused are those of imports

module _ (P : Place → Type 0) where
  pub unknown-of : (home : Home) (imports : List Import) (at : Place) → All (λ (i : Import). P i.at) imports → first_unknown home imports ≡ Some at → P at
  unknown-of home [] at all e = absurd (none-some e)
  unknown-of home (i ∷ imports) at all e =
      by (is_known (target_of home i)) (all-first (λ (i : Import). P i.at) i imports all) (unknown-of home imports at (all-rest (λ (i : Import). P i.at) i imports all)) e
    where
      by : (b : Bool) → P i.at → (first_unknown home imports ≡ Some at → P at) → cond b (first_unknown home imports) (Some i.at) ≡ Some at → P at
      by true here rest e = rest e
      by false here rest e = subst P (some-same e) here

  pub repeat-of : (before : List (List ℕ)) (imports : List Import) (at : Place) → All (λ (i : Import). P i.at) imports → first_repeat before imports ≡ Some at → P at
  repeat-of before [] at all e = absurd (none-some e)
  repeat-of before (i ∷ imports) at all e =
      by (list_any (is_same (prefix_of i)) before) (all-first (λ (i : Import). P i.at) i imports all)
      (repeat-of (before ++ prefix_of i ∷ []) imports at (all-rest (λ (i : Import). P i.at) i imports all)) e
    where
      by : (b : Bool) → P i.at → (first_repeat (before ++ prefix_of i ∷ []) imports ≡ Some at → P at)
          → cond b (Some i.at) (first_repeat (before ++ prefix_of i ∷ []) imports) ≡ Some at → P at
      by true here rest e = subst P (some-same e) here
      by false here rest e = rest e

-- a search in a file gives the places of its imports alone
abbrev pub IsOfImports : (SourceFile → Option Place) → Type 0
IsOfImports place_in =
    (number : ℕ) (bytes : List ℕ) (file : SourceFile) (at : Place) → AreImportsOf number bytes file.tree.imports.items → place_in file ≡ Some at → IsPlaceOf number bytes at

pub repeats-are : IsOfImports repeat_in
repeats-are number bytes file at all e = repeat-of (IsPlaceOf number bytes) [] file.tree.imports.items at all e

pub unknowns-are : (home : Home) → IsOfImports (unknown_in home)
unknowns-are home number bytes file at all e = unknown-of (IsPlaceOf number bytes) home file.tree.imports.items at all e

-- ---- the file that has such a place

-- the file at a place of the list, and the place in it
record IsAt (n : ℕ) (read : List SourceFile) (at : Place) : Type 0 where
  file : SourceFile
  place : ℕ
  there : slice_get read place ≡ Some file
  number : at.file ≡ n + place
  inside : IsInFile at file

text-of : (number : ℕ) (name bytes : List ℕ) (file : SourceFile) → IsSource number name bytes file → IsTextOf bytes file
text-of number name bytes file h = (h.reads.are.0.1, h.text)

in-file : (number : ℕ) (name bytes : List ℕ) (file : SourceFile) (at : Place) → IsSource number name bytes file → IsPlaceOf number bytes at → IsInFile at file
in-file number name bytes file at h is = (bytes, text-of number name bytes file h, is.boundary, is.small)

module _ (place_in : SourceFile → Option Place) (of : IsOfImports place_in) where
  first-at : (n : ℕ) (taken : List Taken) (read : List SourceFile) (at : Place) → AreRead n taken read → first_place place_in read ≡ Some at → IsAt n read at
  first-at n [] [] at are e = absurd (none-some e)
  first-at n [] (s ∷ read) at are e = absurd are
  first-at n (t ∷ taken) [] at are e = absurd are
  first-at n (t ∷ taken) (s ∷ read) at are e = by (place_in s) refl (first-at (suc n) taken read at are.1) e
    where
      by : (o : Option Place) → place_in s ≡ o → (first_place place_in read ≡ Some at → IsAt (suc n) read at) → first_or o (first_place place_in read) ≡ Some at → IsAt n (s ∷ read) at
      by (Some p) is rest e =
          let here = of n t.bytes s at (source-imports n t.name t.bytes s are.0) (is ∙ e) in
          record { file = s; place = 0; there = refl; number = here.number ∙ (let z : n ≡ n + 0 = omega arith in z); inside = in-file n t.name t.bytes s at are.0 here }
      by None is rest e =
          let later = rest e in
          record { file = later.file; place = suc later.place; there = later.there; number = later.number ∙ (let z : suc n + later.place ≡ n + suc later.place = omega arith in z); inside = later.inside }

  pub first-in-files : (read : List SourceFile) (at : Place) → AreSources read → first_place place_in read ≡ Some at → IsInFiles read at
  first-in-files read at sources e =
      let here = first-at 0 sources.0 read at sources.1 e in
      let same : here.place ≡ at.file = let z = here.number in omega arith in
      (here.file, subst (λ k. slice_get read k ≡ Some here.file) same here.there, here.inside)

-- ---- the refusal at such a place

record IsReadAt (n k : ℕ) (taken : List Taken) (file : SourceFile) : Type 0 where
  of : Taken
  there : slice_get taken k ≡ Some of
  source : IsSource (n + k) of.name of.bytes file

read-at : (n : ℕ) (taken : List Taken) (read : List SourceFile) (k : ℕ) (file : SourceFile) → AreRead n taken read → slice_get read k ≡ Some file → IsReadAt n k taken file
read-at n [] [] k file are e = absurd (none-some e)
read-at n [] (s ∷ read) k file are e = absurd are
read-at n (t ∷ taken) [] k file are e = absurd are
read-at n (t ∷ taken) (s ∷ read) zero file are e =
    record { of = t; there = refl; source = subst (λ m. IsSource m t.name t.bytes file) (let z : n ≡ n + 0 = omega arith in z) (subst (IsSource n t.name t.bytes) (some-same e) are.0) }
read-at n (t ∷ taken) (s ∷ read) (suc k) file are e =
    let later = read-at (suc n) taken read k file are.1 e in
    record { of = later.of; there = later.there; source = subst (λ m. IsSource m later.of.name later.of.bytes file) (let z : suc n + k ≡ n + suc k = omega arith in z) later.source }

pub told-at : (read : List SourceFile) (file : SourceFile) (code : FaultCode) (at : Place) (r : Refusal) → slice_get read at.file ≡ Some file
    → ((bytes : List ℕ) → IsTextOf bytes file → r ≡ refusal_of file.name bytes (record { code = code; at = Some at; kept = Nothing }))
    → (taken : List Taken) → AreRead 0 taken read → r ≡ at_import taken code at
told-at read file code at r there is taken are =
    let here = read-at 0 taken read at.file file are there in
    let of = get_or_from_slice_get taken at.file here.of no_file here.there in
    is here.of.bytes (text-of (0 + at.file) here.of.name here.of.bytes file here.source)
    ∙ (ap (λ n. refusal_of n here.of.bytes (record { code = code; at = Some at; kept = Nothing })) here.source.named
    ∙ ap (λ (t : Taken). refusal_of t.name t.bytes (record { code = code; at = Some at; kept = Nothing })) (sym of))

-- ---- texts

pub same-text : (a b : List ℕ) → IsUtf8 a → IsUtf8 b → chars a ≡ chars b → a ≡ b
same-text a b one other e = sym (encodes-chars a one) ∙ (ap encodes e ∙ encodes-chars b other)

-- the file at the place is that which stands there
pub file-there : (read : List SourceFile) (at : Place) (item : SourceFile) (h : IsInFiles read at) → item ≡ get_or read at.file item → h.0 ≡ item
file-there read at item h is = sym (get_or_from_slice_get read at.file h.0 item h.1) ∙ sym is

-- told of the file that is read at the place
pub told-as : (read : List SourceFile) (item : SourceFile) (code : FaultCode) (at : Place) (r : Refusal) (h : IsInFiles read at) → h.0 ≡ item
    → ((bytes : List ℕ) → IsTextOf bytes item → r ≡ refusal_of item.name bytes (record { code = code; at = Some at; kept = Nothing }))
    → (taken : List Taken) → AreRead 0 taken read → r ≡ at_import taken code at
told-as read item code at r h same is taken are = told-at read item code at r (subst (λ f. slice_get read at.file ≡ Some f) same h.1) is taken are
