-- What is asked of the parts of mappings at keys, and at keys that no atom names.
use Rattle.std.proofs.Common.{◌≡◌, ◌↔◌, ◌⊎◌, ⊎_elim, inl, inr, ℕ, zero, suc, List, [], ◌∷◌, ◌++◌, map, length, All, Contains, Bool, true, false, IsTrue, Some, slice_get, refl, sym, ap, subst, ◌∙◌, arith}
use Rattle.std.specs.Prelude.{if◌then◌else◌}
use Rattle.std.specs.Cmp.Lexicographic.{bytes_decides}
use Rattle.std.proofs.lemmas.Bool.{false≢true}
use Rattle.std.proofs.lemmas.List.Elements.{All-nil, All-cons, All-head, All-append, All-map, All-contains, Contains-append_right}
use Rattle.bal_base.specs.declared.text.Text.{Text}
use Rattle.bal_base.specs.declared.shape.Shape.{Shape}
use Rattle.bal_base.specs.Valid.{IsFrozen}
use Rattle.type_model.specs.declared.atoms.AtomDef.{AtomDef}
use Rattle.type_model.specs.Places.{is_same_text}
use Rattle.type_diagrams.specs.Conditions.{Meets, asks, frozen}
use Rattle.type_diagrams.specs.Members.{member_of}
use Rattle.type_diagrams.proofs.Elements.{All-parts, All-unmap, map-where}
use Rattle.type_diagrams.proofs.Meeting.{Meets-asks, Meets-frozen}
use Rattle.empty_product.specs.Keys.{Names, HasNamedKeys, IsBehind}
use Rattle.empty_product.specs.Mappings.{conditions_at, wanted_at}
use Rattle.empty_product.proofs.AtomFields.{member_of-unnamed}
use Rattle.type_model.proofs.TextOrder.{Below, below-apart}
use Rattle.empty_product.proofs.Zipped.{none_some, some_same}

-- ---- lists

pub all_or_one : {X : Type 0} (P : X → Type 0) → ((x : X) → P x ⊎ (¬ P x)) → (xs : List X) → All P xs ⊎ ((x : X) × Contains xs x × (¬ P x))
all_or_one P decided [] = inl (All-nil P)
all_or_one {X} P decided (x ∷ xs) = by (decided x) (all_or_one P decided xs)
  where
    by : P x ⊎ (¬ P x) → All P xs ⊎ ((y : X) × Contains xs y × (¬ P y)) → All P (x ∷ xs) ⊎ ((y : X) × Contains (x ∷ xs) y × (¬ P y))
    by (inr n) rest = inr (x, (0, omega arith, refl), n)
    by (inl p) (inl all) = inl (All-cons P x xs p all)
    by (inl p) (inr f) = inr (f.0, Contains-append_right (x ∷ []) xs f.0 f.1, f.2)

pub same_text : (s t : Text) → (s ≡ t) ⊎ (s ≡ t → ⊥)
same_text s t = by (is_same_text s t) refl
  where
    by : (b : Bool) → is_same_text s t ≡ b → (s ≡ t) ⊎ (s ≡ t → ⊥)
    by true e = inl ((bytes_decides s t).0 e)
    by false e = inr (λ same. false≢true (sym e ∙ (bytes_decides s t).1 same))

pub there_or_not : (keys : List Text) (key : Text) → Contains keys key ⊎ (¬ Contains keys key)
there_or_not keys key = by (all_or_one (λ k. k ≡ key → ⊥) (λ k. apart k) keys)
  where
    apart : (k : Text) → (k ≡ key → ⊥) ⊎ (¬ (k ≡ key → ⊥))
    apart k = ⊎_elim (λ (e : k ≡ key). inr (λ n. n e)) (λ (n : k ≡ key → ⊥). inl n) (same_text k key)

    same : (k : Text) → ¬ (k ≡ key → ⊥) → k ≡ key
    same k n = ⊎_elim (λ (e : k ≡ key). e) (λ (m : k ≡ key → ⊥). absurd (n m)) (same_text k key)

    by : All (λ k. k ≡ key → ⊥) keys ⊎ ((k : Text) × Contains keys k × (¬ (k ≡ key → ⊥))) → Contains keys key ⊎ (¬ Contains keys key)
    by (inl all) = inr (λ c. All-contains (λ k. k ≡ key → ⊥) keys key all c refl)
    by (inr f) = inl (subst (Contains keys) (same f.0 f.2) f.1)

module _ {X Y : Type 0} (f : X → Y) where
  pub map-at : (xs : List X) (k : ℕ) (x : X) → slice_get xs k ≡ Some x → slice_get (map f xs) k ≡ Some (f x)
  map-at [] k x is = absurd (none_some is)
  map-at (y ∷ ys) zero x is = ap (λ z. Some (f z)) (some_same is)
  map-at (y ∷ ys) (suc k) x is = map-at ys k x is

  pub at-map : (xs : List X) (k : ℕ) (y : Y) → slice_get (map f xs) k ≡ Some y → (x : X) × (slice_get xs k ≡ Some x) × (f x ≡ y)
  at-map [] k y is = absurd (none_some is)
  at-map (x ∷ xs) zero y is = (x, refl, some_same is)
  at-map (x ∷ xs) (suc k) y is = at-map xs k y is

  pub map-length : (xs : List X) → length (map f xs) ≡ length xs
  map-length [] = refl
  map-length (x ∷ xs) = let e = map-length xs in omega arith

-- ---- what is wanted at a key

module _ (env : List AtomDef) (wanted : List ℕ) (marked : Bool) where
  pub wanted-met : (key : Text) (y : Shape) → Meets env (wanted_at env wanted marked key) y ↔ (All (λ a. Meets env (member_of env key a) y) wanted × (IsTrue marked → IsFrozen y))
  wanted-met key y =
      let e = Meets-asks env (conditions_at env wanted marked key) [] y in (
        λ m. let parts = All-parts (λ c. Meets env c y) (map (member_of env key) wanted) (if marked then frozen ∷ [] else []) (e.0 m).0 in
            (All-unmap (λ c. Meets env c y) (member_of env key) wanted parts.0, (by marked).0 parts.1),
        λ h. e.1 (All-append (λ c. Meets env c y) (map (member_of env key) wanted) (if marked then frozen ∷ [] else []) (All-map (λ c. Meets env c y) (member_of env key) wanted h.0) ((by marked).1 h.1), All-nil _),
      )
    where
      by : (m : Bool) → All (λ c. Meets env c y) (if m then frozen ∷ [] else []) ↔ (IsTrue m → IsFrozen y)
      by true = (
        λ h t. (Meets-frozen env y).0 (All-head (λ c. Meets env c y) frozen [] h),
        λ f. All-cons (λ c. Meets env c y) frozen [] ((Meets-frozen env y).1 (f refl)) (All-nil _),
      )
      by false = (λ h t. absurd (false≢true t), λ f. All-nil _)

  -- a key that no atom names asks what any other such key asks
  pub wanted_at-unnamed : (key other : Text) → All (λ a. (¬ Names env a key) × (¬ Names env a other)) wanted → wanted_at env wanted marked key ≡ wanted_at env wanted marked other
  wanted_at-unnamed key other none =
      ap (λ cs. asks (cs ++ (if marked then frozen ∷ [] else [])) []) (map-where (λ a. (¬ Names env a key) × (¬ Names env a other)) (member_of env key) (member_of env other) (λ a n. member_of-unnamed env a key other n.0 n.1) wanted none)

-- a key behind others is none of them
pub behind-not-there : (keys : List Text) (fresh : Text) → IsBehind keys fresh → ¬ Contains keys fresh
behind-not-there keys fresh behind c = below-apart fresh fresh (All-contains (λ k. Below k fresh) keys fresh behind.above c) refl

module _ (env : List AtomDef) (atoms : List ℕ) (keys : List Text) (named : HasNamedKeys env atoms keys) where
  -- the atoms don't name a key that is none of the named ones
  pub not-named : (key : Text) → ¬ Contains keys key → (a : ℕ) → Contains atoms a → ¬ Names env a key
  not-named key out a c n = out (named.all a key c n)
