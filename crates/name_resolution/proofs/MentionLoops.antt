-- Reading descriptors one behind the other.
use Rattle.std.proofs.Common.{◌≡◌, ◌||◌, ℕ, ◌+◌, ◌<◌, Bool, true, false, List, [], ◌∷◌, ◌++◌, length, get_or, take, map, refl, sym, ap, ◌∙◌, append_assoc, Option, cond}
use Rattle.std.specs.List.{list_any}
use Rattle.std.specs.Cmp.Lexicographic.{bytes_decides}
use Rattle.std.proofs.lemmas.Bool.Decides.{same_from_decides}
use Rattle.std.proofs.lemmas.List.{append-nil}
use Rattle.std.proofs.lemmas.List.Folds.{list_any-append}
use Rattle.bal_base.specs.declared.text.Name.{Name}
use Rattle.type_model.specs.Places.{is_same_text}
use Rattle.name_resolution.specs.declared.mentions.Mention.{Mention}
use Rattle.descriptors.specs.declared.names.Source.{Source}
use Rattle.descriptors.specs.Descriptors.{Descriptor, FieldOf, in_a_row, fields_in_a_row}
use Rattle.name_resolution.specs.Mentions.{again_if, mentioned, all_mentioned, fields_mentioned}
use Rattle.graphs.proofs.Rows.{map-more}

pub same_text-sym : (s t : List ℕ) → is_same_text s t ≡ is_same_text t s
same_text-sym s t = let d = bytes_decides s t in let e = bytes_decides t s in
    same_from_decides (is_same_text s t) (is_same_text t s) d ((λ h. sym (e.0 h)), (λ p. e.1 (sym p)))

abbrev pub field_name : FieldOf → Name
field_name f = f.name.name

module _ (m : ℕ) (source : Name → Option Source) where
  all-push : (ds : List Descriptor) (d : Descriptor) (b : List Mention) → all_mentioned m source true (in_a_row (ds ++ d ∷ [])) b ≡ mentioned m source true d (all_mentioned m source true (in_a_row ds) b)
  all-push [] d b = refl
  all-push (e ∷ ds) d b = all-push ds d (mentioned m source true e b)

  pub all-more : {X : Type 0} (f : X → Descriptor) (xs : List X) (i : ℕ) (x : X) (old mid new : List Mention) → i < length xs → x ≡ get_or xs i x
      → mid ≡ all_mentioned m source true (in_a_row (map f (take i xs))) old → new ≡ mentioned m source true (f x) mid
      → new ≡ all_mentioned m source true (in_a_row (map f (take (i + 1) xs))) old
  all-more f xs i x old mid new lt is before next =
      next ∙ ap (mentioned m source true (f x)) before
      ∙ sym (ap (λ ds. all_mentioned m source true (in_a_row ds) old) (map-more f xs i x lt is) ∙ all-push (map f (take i xs)) (f x) old)

  -- ---- fields

  abbrev with_field : List Name → FieldOf → List Mention → List Mention
  with_field earlier f before = again_if (list_any (is_same_text f.name.name) earlier) f.name (mentioned m source true f.ty before)

  fields-push : (earlier : List Name) (fs : List FieldOf) (f : FieldOf) (b : List Mention) → fields_mentioned m source earlier (fields_in_a_row (fs ++ f ∷ [])) b
      ≡ with_field (earlier ++ map field_name fs) f (fields_mentioned m source earlier (fields_in_a_row fs) b)
  fields-push earlier [] f b = ap (λ names. with_field names f b) (sym (append-nil earlier))
  fields-push earlier (g ∷ fs) f b =
      fields-push (earlier ++ field_name g ∷ []) fs f (with_field earlier g b)
      ∙ ap (λ names. with_field names f (fields_mentioned m source (earlier ++ field_name g ∷ []) (fields_in_a_row fs) (with_field earlier g b))) (append_assoc earlier (field_name g ∷ []) (map field_name fs))

  pub fields-more : {X : Type 0} (f : X → FieldOf) (xs : List X) (i : ℕ) (x : X) (taken : Bool) (old mid new : List Mention) → i < length xs → x ≡ get_or xs i x
      → taken ≡ list_any (is_same_text (f x).name.name) (map field_name (map f (take i xs)))
      → mid ≡ fields_mentioned m source [] (fields_in_a_row (map f (take i xs))) old → new ≡ again_if taken (f x).name (mentioned m source true (f x).ty mid)
      → new ≡ fields_mentioned m source [] (fields_in_a_row (map f (take (i + 1) xs))) old
  fields-more f xs i x taken old mid new lt is known before next =
      next ∙ ap (λ t. again_if t (f x).name (mentioned m source true (f x).ty mid)) known
      ∙ ap (with_field (map field_name (map f (take i xs))) (f x)) before
      ∙ sym (ap (λ fs. fields_mentioned m source [] (fields_in_a_row fs) old) (map-more f xs i x lt is) ∙ fields-push [] (map f (take i xs)) (f x) old)

any-push : (q n : Name) (names : List Name) → list_any (is_same_text q) (names ++ n ∷ []) ≡ (list_any (is_same_text q) names || is_same_text q n)
any-push q n names = list_any-append (is_same_text q) names (n ∷ []) ∙ ap (λ b. list_any (is_same_text q) names || b) (or-false (is_same_text q n))
  where
    or-false : (b : Bool) → (b || false) ≡ b
    or-false true = refl
    or-false false = refl

cond-or : (a b : Bool) → cond a true b ≡ (b || a)
cond-or true true = refl
cond-or true false = refl
cond-or false true = refl
cond-or false false = refl

-- the names of the fields so far, and one more
pub names-more : {X : Type 0} (f : X → FieldOf) (xs : List X) (i : ℕ) (x : X) (has : Name → Bool) (now : Name → Bool) → i < length xs → x ≡ get_or xs i x
    → ((q : Name) → has q ≡ list_any (is_same_text q) (map field_name (map f (take i xs))))
    → ((q : Name) → now q ≡ cond (is_same_text (f x).name.name q) true (has q))
    → (q : Name) → now q ≡ list_any (is_same_text q) (map field_name (map f (take (i + 1) xs)))
names-more f xs i x has now lt is before next q =
    next q ∙ cond-or (is_same_text (f x).name.name q) (has q)
    ∙ ap (λ b. b || is_same_text (f x).name.name q) (before q)
    ∙ ap (λ b. list_any (is_same_text q) (map field_name (map f (take i xs))) || b) (same_text-sym (f x).name.name q)
    ∙ sym (ap (λ fs. list_any (is_same_text q) (map field_name fs)) (map-more f xs i x lt is)
    ∙ ap (list_any (is_same_text q)) (map-push (map f (take i xs)))
    ∙ any-push q (f x).name.name (map field_name (map f (take i xs))))
  where
    map-push : (fs : List FieldOf) → map field_name (fs ++ f x ∷ []) ≡ map field_name fs ++ field_name (f x) ∷ []
    map-push [] = refl
    map-push (g ∷ fs) = ap (λ names. field_name g ∷ names) (map-push fs)
