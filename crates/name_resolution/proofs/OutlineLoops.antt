-- Definitions one behind the other, file by file and module by module.
use Rattle.std.proofs.Common.{◌≡◌, ℕ, suc, ◌+◌, ◌<◌, Bool, true, false, List, [], ◌∷◌, ◌++◌, length, get_or, take, map, fold, refl, sym, ap, ◌∙◌, append_assoc, arith, Option, None, Some, cond}
use Rattle.std.specs.List.{flat_map}
use Rattle.std.specs.Option.{is_none, option_or}
use Rattle.std.specs.Cmp.Lexicographic.{bytes_decides}
use Rattle.std.proofs.lemmas.Bool.{false≢true}
use Rattle.std.proofs.lemmas.List.{append-nil, length-take}
use Rattle.bal_base.specs.declared.text.Name.{Name}
use Rattle.bal_tree.specs.declared.def.Import.{Import}
use Rattle.bal_tree.specs.declared.package.Module.{Module}
use Rattle.type_model.specs.Places.{is_same_text}
use Rattle.name_resolution.specs.declared.outlines.Outline.{Outline}
use Rattle.descriptors.specs.declared.names.Source.{Source}
use Rattle.package_imports.specs.InPackage.{Linked}
use Rattle.name_resolution.specs.Outlines.{file_outlines, import_source, outlines_from, source_by}
use Rattle.graphs.proofs.Rows.{map-more, take-more}
use Rattle.name_resolution.proofs.MentionLoops.{same_text-sym}

-- ---- lists

pub fold-more : {X S : Type 0} (step : S → X → S) (xs : List X) (i : ℕ) (x : X) (old mid new : S) → i < length xs → x ≡ get_or xs i x
    → mid ≡ fold step old (take i xs) → new ≡ step mid x → new ≡ fold step old (take (i + 1) xs)
fold-more {X} {S} step xs i x old mid new lt is before next =
    next ∙ ap (λ s. step s x) before ∙ sym (ap (fold step old) (take-more xs i x lt is) ∙ push (take i xs) old)
  where
    push : (ys : List X) (s : S) → fold step s (ys ++ x ∷ []) ≡ step (fold step s ys) x
    push [] s = refl
    push (y ∷ ys) s = push ys (step s y)

flat-push : {X Y : Type 0} (f : X → List Y) (xs : List X) (x : X) → flat_map f (xs ++ x ∷ []) ≡ flat_map f xs ++ f x
flat-push f [] x = append-nil (f x)
flat-push f (y ∷ ys) x = ap (λ zs. f y ++ zs) (flat-push f ys x) ∙ sym (append_assoc (f y) (flat_map f ys) (f x))

pub flat-more : {X Y : Type 0} (f : X → List Y) (xs : List X) (i : ℕ) (x : X) (old mid new : List Y) → i < length xs → x ≡ get_or xs i x
    → mid ≡ old ++ flat_map f (take i xs) → new ≡ mid ++ f x → new ≡ old ++ flat_map f (take (i + 1) xs)
flat-more f xs i x old mid new lt is before next =
    next ∙ ap (λ ys. ys ++ f x) before ∙ append_assoc old (flat_map f (take i xs)) (f x)
    ∙ ap (λ ys. old ++ ys) (sym (ap (flat_map f) (take-more xs i x lt is) ∙ flat-push f (take i xs) x))

pub each-more : {X Y : Type 0} (f : X → Y) (xs : List X) (i : ℕ) (x : X) (old mid new : List Y) → i < length xs → x ≡ get_or xs i x
    → mid ≡ old ++ map f (take i xs) → new ≡ mid ++ f x ∷ [] → new ≡ old ++ map f (take (i + 1) xs)
each-more f xs i x old mid new lt is before next =
    next ∙ ap (λ ys. ys ++ f x ∷ []) before ∙ append_assoc old (map f (take i xs)) (f x ∷ []) ∙ ap (λ ys. old ++ ys) (sym (map-more f xs i x lt is))

-- ---- modules

module _ (home : Linked) where
  abbrev module_part : ℕ → Module → List Outline
  module_part n m = flat_map (λ file. file_outlines home n file.tree) m.files

  modules-push : (first : ℕ) (ms : List Module) (m : Module) → outlines_from home first (ms ++ m ∷ []) ≡ outlines_from home first ms ++ module_part (first + length ms) m
  modules-push first [] m = append-nil (module_part first m) ∙ ap (λ n. module_part n m) (omega arith)
  modules-push first (k ∷ ms) m =
      ap (λ ys. module_part first k ++ ys) (modules-push (suc first) ms m ∙ ap (λ n. outlines_from home (suc first) ms ++ module_part n m) (omega arith))
      ∙ sym (append_assoc (module_part first k) (outlines_from home (suc first) ms) (module_part (first + length (k ∷ ms)) m))

  pub modules-more : (ms : List Module) (i : ℕ) (m : Module) (mid new : List Outline) → i < length ms → m ≡ get_or ms i m
      → mid ≡ outlines_from home 0 (take i ms) → new ≡ mid ++ module_part i m → new ≡ outlines_from home 0 (take (i + 1) ms)
  modules-more ms i m mid new lt is before next =
      next ∙ ap (λ ys. ys ++ module_part i m) before
      ∙ sym (ap (outlines_from home 0) (take-more ms i m lt is) ∙ modules-push 0 (take i ms) m
      ∙ ap (λ n. outlines_from home 0 (take i ms) ++ module_part n m) (grind (arith, length-take, lt)))

  -- ---- prefixes

  imports-push : (xs : List Import) (x : Import) (q : Name) → import_source home (xs ++ x ∷ []) q ≡ option_or (import_source home xs q) (source_by home x q)
  imports-push [] x q = or-none (source_by home x q)
    where
      or-none : (o : Option Source) → option_or o None ≡ o
      or-none None = refl
      or-none (Some s) = refl
  imports-push (y ∷ ys) x q = ap (option_or (source_by home y q)) (imports-push ys x q) ∙ turned (source_by home y q) (import_source home ys q) (source_by home x q)
    where
      turned : (a b c : Option Source) → option_or a (option_or b c) ≡ option_or (option_or a b) c
      turned None b c = refl
      turned (Some s) b c = refl

  pub imports-more : (xs : List Import) (i : ℕ) (x : Import) (before now : Name → Option Source) → i < length xs → x ≡ get_or xs i x
      → ((q : Name) → before q ≡ import_source home (take i xs) q)
      → ((q : Name) → now q ≡ option_or (before q) (source_by home x q))
      → (q : Name) → now q ≡ import_source home (take (i + 1) xs) q
  imports-more xs i x before now lt is known next q =
      next q ∙ ap (λ o. option_or o (source_by home x q)) (known q)
      ∙ sym (ap (λ ys. import_source home ys q) (take-more xs i x lt is) ∙ imports-push (take i xs) x q)

-- ---- a prefix that is noted

-- nothing stands under the prefix so far
pub noted-new : (prefix : Name) (s : Source) (before now : Name → Option Source) → before prefix ≡ None
    → ((q : Name) → now q ≡ cond (is_same_text prefix q) (Some s) (before q))
    → (q : Name) → now q ≡ option_or (before q) (cond (is_same_text q prefix) (Some s) None)
noted-new prefix s before now none next q = next q ∙ ap (λ b. cond b (Some s) (before q)) (same_text-sym prefix q) ∙ by (is_same_text q prefix) refl
  where
    or-none : (o : Option Source) → o ≡ option_or o None
    or-none None = refl
    or-none (Some x) = refl

    by : (b : Bool) → is_same_text q prefix ≡ b → cond b (Some s) (before q) ≡ option_or (before q) (cond b (Some s) None)
    by true e = sym (ap (λ o. option_or o (Some s)) (ap before ((bytes_decides q prefix).0 e) ∙ none))
    by false e = or-none (before q)

pub nothing-there : (o : Option Source) → is_none o ≡ true → o ≡ None
nothing-there None h = refl
nothing-there (Some s) h = absurd (false≢true h)
