-- Worked cases that ask for a proof: what belongs to `int`, stores at a key, and equality.
use Rattle.std.proofs.Common.{◌≡◌, ℕ, zero, suc, ℤ, pos, Bool, true, false, [], ◌∷◌, Some, None, inl, inr, refl, sym, ap, ◌∙◌, arith}
use Rattle.std.specs.Prelude.{codes, if◌then◌else◌, option_and_then, option_map}
use Rattle.std.specs.Cmp.Lexicographic.{bytes_decides}
use Rattle.std.proofs.lemmas.Bool.{false≢true}
use Rattle.bal_base.specs.declared.text.Text.{Text}
use Rattle.bal_base.specs.declared.shape.Shape.{Nil as NilShape, Bool as BoolShape, Int as IntShape, Str as StrShape, List', Mapping', Error', Function as FunctionShape, Future'}
use Rattle.type_model.specs.Places.{is_same_text}
use Rattle.value_model.specs.declared.value.Value.TheVariants.{Int, Str}
use Rattle.value_model.specs.Heap.{Heap}
use Rattle.value_model.specs.Stands.{Belongs}
use Rattle.op_model.specs.Equality.{ToPlace, ToKey, IsOther, face_of, value_at}
use Rattle.op_model.specs.Cases.{heap_of, one_key, own_maps, int_type, compared, SetsNewKey, SetsOldKey, SetsNoString, SetsNoImmutable, EqualLists, OtherLists, EqualMappings, EqualCycles}

-- ---- what belongs to `int`

-- each shape that an int stands for is that of an int
pub int_belongs : (h : Heap) (i : ℤ) → Belongs own_maps h (Int i) int_type.sem
int_belongs h i NilShape valid stands = absurd (cc stands)
int_belongs h i (BoolShape b) valid stands = absurd (cc stands)
int_belongs h i (IntShape j) valid stands = valid
int_belongs h i (StrShape t) valid stands = absurd (cc stands)
int_belongs h i (List' mark _ items) valid stands = absurd stands.1
int_belongs h i (Mapping' mark _ fields) valid stands = absurd stands.1
int_belongs h i (Error' _ detail) valid stands = absurd stands
int_belongs h i (FunctionShape isolated graph) valid stands = absurd stands
int_belongs h i (Future' _ results) valid stands = absurd stands

-- a string stands for its own shape, which is no int's
pub no_string_belongs : (h : Heap) → ¬ (Belongs own_maps h (Str (codes "x")) int_type.sem)
no_string_belongs h b = b (StrShape (codes "x")) refl refl

-- ---- stores at a key

pub sets_new_key : SetsNewKey
sets_new_key = inl (refl, inl (int_belongs (heap_of (one_key true ∷ []) []) (pos 2), refl))

pub sets_old_key : SetsOldKey
sets_old_key = inl (refl, inl (int_belongs (heap_of (one_key true ∷ []) []) (pos 2), refl))

pub sets_no_string : SetsNoString
sets_no_string = inl (refl, inr (no_string_belongs (heap_of (one_key true ∷ []) []), refl))

pub sets_no_immutable : SetsNoImmutable
sets_no_immutable = inr (λ h. false≢true h, refl)

-- ---- equality

pub equal_lists : EqualLists
equal_lists [] = refl
equal_lists (ToPlace k ∷ path) = refl
equal_lists (ToKey key ∷ path) = refl

-- their first items tell them apart
pub other_lists : OtherLists
other_lists e =
    let faces : Some (IsOther (Int (pos 1))) ≡ Some (IsOther (Int (pos 2))) = e (ToPlace 0 ∷ []) in
    let one : ℕ = 1 in
    let two : ℕ = 2 in
    let same : one ≡ two = cc in
    omega arith

pub equal_cycles : EqualCycles
equal_cycles [] = refl
equal_cycles (ToPlace zero ∷ path) = equal_cycles path
equal_cycles (ToPlace (suc k) ∷ path) = refl
equal_cycles (ToKey key ∷ path) = refl

-- of two tests that don't both hold it is all the same which comes first
either_first : {A : Type 0} (a b : Bool) (x y z : A) → ((a ≡ true) → (b ≡ true) → ⊥) → (if a then x else if b then y else z) ≡ (if b then y else if a then x else z)
either_first true true x y z apart = absurd (apart refl refl)
either_first true false x y z apart = refl
either_first false true x y z apart = refl
either_first false false x y z apart = refl

no_key_is_both : (key : Text) → is_same_text (codes "a") key ≡ true → is_same_text (codes "b") key ≡ true → ⊥
no_key_is_both key h k =
    false≢true ((bytes_decides (codes "a") (codes "b")).1 ((bytes_decides (codes "a") key).0 h ∙ sym ((bytes_decides (codes "b") key).0 k)))

pub equal_mappings : EqualMappings
equal_mappings [] = refl
equal_mappings (ToPlace k ∷ path) = refl
equal_mappings (ToKey key ∷ path) =
    ap (λ o. option_map (face_of compared) (option_and_then (value_at compared path) o)) (either_first (is_same_text (codes "a") key) (is_same_text (codes "b") key) (Some (Int (pos 1))) (Some (Int (pos 2))) None (no_key_is_both key))
