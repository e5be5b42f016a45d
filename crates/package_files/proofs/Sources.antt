-- One more file: the listing goes on to be one of the files that were listed.
use Rattle.std.proofs.Common.{◌≡◌, ℕ, List, [], ◌∷◌, ◌++◌, length, Bool, true, false, cond, Option, Some, None, IsSome, is_some, Ordering, Less, Equal, Greater, nat_cmp, is_eq, ◌⊎◌, inl, inr, refl, sym, ap, ◌∙◌, subst}
use Rattle.std.proofs.lemmas.Map.Lookups.{exact_bytes}
use Rattle.std.proofs.lemmas.Option.{same_Some}
use Rattle.std.specs.BTreeMap.{BTreeMap, Updates, is_at}
use Rattle.std.specs.Cmp.Lexicographic.{slice_cmp}
use Rattle.package_files.proofs.Listed.{first-last, first-more, first_of-more, listed-split}
use Rattle.package_files.specs.Listings.{AreSources, IsFirst, IsFirstOf, IsListed, first_number, found_at, manifest_name}
use Rattle.package_files.specs.Names.{module_of}
use Rattle.package_files.specs.declared.listing.Found.{Found}

abbrev Sources : Type 0
Sources = BTreeMap (List ℕ) Found

tied : (o : Ordering) → is_eq o ≡ true → o ≡ Equal
tied Less e = cc
tied Equal e = refl
tied Greater e = cc

no-some : {A : Type 0} (x : A) → Some x ≡ None → ⊥
no-some x e = cc

no-truth : false ≡ true → ⊥
no-truth e = cc

-- what is found at a name after one more
found_split : (b : Bool) (new : Found) (old : Option Found) (f : Found) → cond b (Some new) old ≡ Some f → ((b ≡ true) × (f ≡ new)) ⊎ ((b ≡ false) × (old ≡ Some f))
found_split true new old f e = inl (refl, sym (same_Some _ _ e))
found_split false new old f e = inr (refl, e)

pub none-of : {A : Type 0} (o : Option A) → is_some o ≡ false → o ≡ None
none-of None e = refl
none-of (Some x) e = absurd (no-truth (sym e))

absent : (o : Option Found) → o ≡ None → IsSome o → ⊥
absent None e h = no-truth h
absent (Some f) e h = no-some f e

some_more : (b : Bool) (new : Found) (old : Option Found) → IsSome old → IsSome (cond b (Some new) old)
some_more true new old h = refl
some_more false new old h = h

module _ (names : List (List ℕ)) (name : List ℕ) (old : Sources) (are : AreSources names old) where
  -- the file is no source file
  pub sources-other : module_of name ≡ None → AreSources (names ++ name ∷ []) old
  sources-other none = record {
    first = λ q f e. first-more names name q f.number (are.first q f e);
    folder = are.folder;
    all = λ q folder h m. elim (listed-split names name q h) [
      | inl before ↦ are.all q folder before m
      | inr same ↦ absurd (no-some folder (sym m ∙ (ap module_of same ∙ none)))
    ];
  }

  -- a file with the name was there
  pub sources-same : IsSome (found_at old name) → AreSources (names ++ name ∷ []) old
  sources-same there = record {
    first = λ q f e. first-more names name q f.number (are.first q f e);
    folder = are.folder;
    all = λ q folder h m. elim (listed-split names name q h) [
      | inl before ↦ are.all q folder before m
      | inr same ↦ subst (λ n. IsSome (found_at old n)) (sym same) there
    ];
  }

  -- it is a new one
  module _ (new : Sources) (found : Found) (at : length names ≡ found.number) (is : module_of name ≡ Some found.«module»)
      (none : found_at old name ≡ None) (updates : Updates (slice_cmp nat_cmp) old new name (Some found)) where
    not-there : ¬ (IsListed names name)
    not-there h = absent (found_at old name) none (are.all name found.«module» h is)

    is-found : found_at new name ≡ Some found
    is-found = updates.1

    at-name : (q : List ℕ) (f : Found) → name ≡ q → f ≡ found → IsFirst (names ++ name ∷ []) q f.number × (module_of q ≡ Some f.«module»)
    at-name q f same is-it =
        let P : List ℕ → Type 0 = λ n. IsFirst (names ++ name ∷ []) n f.number × (module_of n ≡ Some f.«module») in
        let Q : Found → Type 0 = λ g. IsFirst (names ++ name ∷ []) name g.number × (module_of name ≡ Some g.«module») in
        let R : ℕ → Type 0 = λ n. IsFirst (names ++ name ∷ []) name n in
        subst P same (subst Q (sym is-it) (subst R at (first-last names name not-there), is))

    new-first : (q : List ℕ) (f : Found) → found_at new q ≡ Some f → IsFirst (names ++ name ∷ []) q f.number × (module_of q ≡ Some f.«module»)
    new-first q f e = elim (found_split (is_at (slice_cmp nat_cmp name) q) found (found_at old q) f (sym (updates.0 q) ∙ e)) [
      | inl here ↦ at-name q f (exact_bytes name q (tied (slice_cmp nat_cmp name q) here.0)) here.1
      | inr other ↦ (first-more names name q f.number (are.first q f other.1), are.folder q f other.1)
    ]

    pub sources-new : AreSources (names ++ name ∷ []) new
    sources-new = record {
      first = λ q f e. (new-first q f e).0;
      folder = λ q f e. (new-first q f e).1;
      all = λ q folder h m. elim (listed-split names name q h) [
        | inl before ↦ subst IsSome (sym (updates.0 q)) (some_more (is_at (slice_cmp nat_cmp name) q) found (found_at old q) (are.all q folder before m))
        | inr same ↦ subst (λ n. IsSome (found_at new n)) (sym same) (subst IsSome (sym is-found) refl)
      ];
    }

-- ---- the manifest

-- it is the one that is listed now
pub manifest-here : (names : List (List ℕ)) (old : Option ℕ) (name : List ℕ) (number : ℕ) → name ≡ manifest_name → length names ≡ number
    → IsFirstOf names manifest_name old → IsFirstOf (names ++ name ∷ []) manifest_name (first_number old number)
manifest-here names (Some k) name number is at h = first-more names name manifest_name k h
manifest-here names None name number is at h =
    let P : List ℕ → Type 0 = λ n. IsFirst (names ++ name ∷ []) n number in
    let R : ℕ → Type 0 = λ n. IsFirst (names ++ name ∷ []) name n in
    let N : List ℕ → Type 0 = λ n. IsListed names n in
    subst P is (subst R at (first-last names name (λ l. h (subst N is l))))

-- it is another file
pub manifest-other : (names : List (List ℕ)) (old : Option ℕ) (name : List ℕ) → (name ≡ manifest_name → ⊥) → IsFirstOf names manifest_name old → IsFirstOf (names ++ name ∷ []) manifest_name old
manifest-other names old name other h = first_of-more names name manifest_name old (λ e. other (sym e)) h

-- a source file is no manifest
no-source : module_of manifest_name ≡ None
no-source = refl

pub source-other : (name folder : List ℕ) → module_of name ≡ Some folder → name ≡ manifest_name → ⊥
source-other name folder m e = no-some folder (sym m ∙ (ap module_of e ∙ no-source))

pub other-file : (b : Bool) → b ≡ false → b ≡ true → ⊥
other-file b e h = no-truth (sym e ∙ h)
