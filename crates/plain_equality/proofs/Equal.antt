-- What is held to be equal is equal, where the members of each held pair are held too.
use Rattle.std.proofs.Common.{◌≡◌, ◌∙◌, ℕ, Bool, true, false, List, [], ◌∷◌, Option, Some, None, Contains, refl, sym, ap}
use Rattle.std.proofs.lemmas.Bool.{false≢true}
use Rattle.std.specs.Prelude.{is_some, option_and_then, option_map, slice_get}
use Rattle.value_model.specs.declared.value.Value.{Value}
use Rattle.value_model.specs.declared.value.Value.TheVariants.{Struct}
use Rattle.value_model.specs.Heap.{Heap, Structure, Members, Items, Entries}
use Rattle.op_model.specs.Equality.{AreEqual, Face, IsList, IsMapping, IsOther, Step, face_of, member_at, value_at}
use Rattle.plain_equality.specs.Pairs.{AreKnownSides, IsKnown}

same_some : {A : Type 0} (x y : A) → Some x ≡ Some y → x ≡ y
same_some x y e = cc

abbrev pub is_leaf : Value → Bool
is_leaf (Struct n) = false
is_leaf _ = true

module _ (h : Heap) where
  -- ---- what is equal looks the same, and so do its members

  pub equal-faces : (v w : Value) → AreEqual h v w → face_of h v ≡ face_of h w
  equal-faces v w e = same_some (face_of h v) (face_of h w) (e [])

  some_face : (o : Option Value) → is_some (option_map (face_of h) (option_and_then (value_at h []) o)) ≡ is_some o
  some_face (Some v) = refl
  some_face None = refl

  pub equal-steps : (v w : Value) → AreEqual h v w → (step : Step) → is_some (member_at h step v) ≡ is_some (member_at h step w)
  equal-steps v w e step =
      sym (some_face (member_at h step v)) ∙ (ap is_some (e (step ∷ [])) ∙ some_face (member_at h step w))

  pub equal-members : (v w x y : Value) (step : Step) → AreEqual h v w → member_at h step v ≡ Some x → member_at h step w ≡ Some y → AreEqual h x y
  equal-members v w x y step e a b = λ path.
      sym (ap (λ o. option_map (face_of h) (option_and_then (value_at h path) o)) a)
      ∙ (e (step ∷ path) ∙ ap (λ o. option_map (face_of h) (option_and_then (value_at h path) o)) b)

  -- ---- structures look unlike all other values

  abbrev looks_leaf : Face → Bool
  looks_leaf IsList = false
  looks_leaf IsMapping = false
  looks_leaf (IsOther v) = is_leaf v

  structure-face : (n : ℕ) → looks_leaf (face_of h (Struct n)) ≡ false
  structure-face n = by (slice_get h.structures n)
    where
      of : Members → Face
      of (Items vs) = IsList
      of (Entries es) = IsMapping

      face : Option Structure → Face
      face (Some s) = of s.members
      face None = IsOther (Struct n)

      inside : (m : Members) → looks_leaf (of m) ≡ false
      inside (Items vs) = refl
      inside (Entries es) = refl

      by : (o : Option Structure) → looks_leaf (face o) ≡ false
      by (Some s) = inside s.members
      by None = refl

  pub leaf-apart : (n : ℕ) (w : Value) → is_leaf w ≡ true → ¬ (face_of h (Struct n) ≡ face_of h w)
  leaf-apart n (Struct m) l e = absurd (false≢true l)
  leaf-apart n w l e = absurd (false≢true (sym (structure-face n) ∙ ap looks_leaf e))

  other_face : (w : Value) → is_leaf w ≡ true → face_of h w ≡ IsOther w
  other_face (Struct m) l = absurd (false≢true l)
  other_face w l = refl

  same_other : (v w : Value) → IsOther v ≡ IsOther w → v ≡ w
  same_other v w e = cc

  pub leaf-same : (v w : Value) → is_leaf v ≡ true → face_of h v ≡ face_of h w → v ≡ w
  leaf-same v (Struct m) l e = absurd (leaf-apart m v l (sym e))
  leaf-same v w l e = same_other v w (sym (other_face v l) ∙ (e ∙ other_face w refl))

  -- ---- what is known to look the same at each step is equal

  module _ (held : List (ℕ × ℕ)) where
    members-known : ((n m : ℕ) → Contains held (n, m) → (step : Step) → AreKnownSides h held (member_at h step (Struct n)) (member_at h step (Struct m))) → (step : Step) (v w : Value) → IsKnown h held v w → AreKnownSides h held (member_at h step v) (member_at h step w)
    members-known closed step (Struct n) (Struct m) k = closed n m k.1 step
    members-known closed step (Struct n) w k = absurd (false≢true (sym (structure-face n) ∙ ap looks_leaf k.0))
    members-known closed step v (Struct m) k = absurd (false≢true (sym (structure-face m) ∙ sym (ap looks_leaf k.0)))
    members-known closed step v w k = tt

    through : (path : List Step) → ((x y : Value) → IsKnown h held x y → option_map (face_of h) (value_at h path x) ≡ option_map (face_of h) (value_at h path y)) → (a b : Option Value) → AreKnownSides h held a b → option_map (face_of h) (option_and_then (value_at h path) a) ≡ option_map (face_of h) (option_and_then (value_at h path) b)
    through path all (Some x) (Some y) k = all x y k
    through path all (Some x) None k = absurd k
    through path all None (Some y) k = absurd k
    through path all None None k = refl

    known-paths : ((n m : ℕ) → Contains held (n, m) → (step : Step) → AreKnownSides h held (member_at h step (Struct n)) (member_at h step (Struct m))) → (path : List Step) (v w : Value) → IsKnown h held v w → option_map (face_of h) (value_at h path v) ≡ option_map (face_of h) (value_at h path w)
    known-paths closed [] v w k = ap Some k.0
    known-paths closed (step ∷ path) v w k = through path (λ x y j. known-paths closed path x y j) (member_at h step v) (member_at h step w) (members-known closed step v w k)

    pub known-equal : ((n m : ℕ) → Contains held (n, m) → (step : Step) → AreKnownSides h held (member_at h step (Struct n)) (member_at h step (Struct m))) → (v w : Value) → IsKnown h held v w → AreEqual h v w
    known-equal closed v w k = λ path. known-paths closed path v w k
