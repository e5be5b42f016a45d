-- What a mapping atom says of keys, by its fields.
use Rattle.std.proofs.Common.{◌≡◌, ◌↔◌, ⊎_elim, ℕ, List, [], ◌∷◌, Contains, Bool, true, false, cond, IsSomeAnd, Option, Some, None, refl, sym, ap, ◌∙◌, arith}
use Rattle.std.specs.List.{Any, find}
use Rattle.std.specs.Cmp.Lexicographic.{bytes_decides}
use Rattle.std.proofs.lemmas.Bool.{false≢true}
use Rattle.std.proofs.lemmas.List.Elements.{Contains-append_right}
use Rattle.bal_base.specs.declared.text.Text.{Text}
use Rattle.type_model.specs.declared.basic.Ty.{Ty}
use Rattle.type_model.specs.declared.atoms.FieldDef.{FieldDef}
use Rattle.type_model.specs.declared.atoms.AtomDef.{AtomDef}
use Rattle.type_model.specs.Places.{is_same_text, key_type}
use Rattle.type_diagrams.specs.Atoms.{parts_of, mapping_parts}
use Rattle.type_diagrams.specs.Members.{asked, type_asked, member_of, Requires}
use Rattle.empty_product.specs.Keys.{Names}
use Rattle.empty_product.specs.KeyBases.{fields_in, fields_of}
use Rattle.empty_product.proofs.Zipped.{none_some, some_same, Any-more, Any-first, Any-later, Any-weaker, Any-none}

abbrev pub IsNamed : Text → FieldDef → Type 0
IsNamed key f = f.name ≡ key

abbrev pub IsNeeded : Text → FieldDef → Type 0
IsNeeded key f = (f.name ≡ key) × (f.optional ≡ false)

-- ---- the first field of a name

same-name : (f : FieldDef) (key : Text) → is_same_text f.name key ≡ true → f.name ≡ key
same-name f key h = (bytes_decides f.name key).0 h

name-same : (f : FieldDef) (key : Text) → f.name ≡ key → is_same_text f.name key ≡ true
name-same f key h = (bytes_decides f.name key).1 h

abbrev pub field_of : List FieldDef → Text → Option FieldDef
field_of fields key = find (λ f. is_same_text f.name key) fields

-- the type of a key is that of its field, or the rest's
pub key_type-found : (fields : List FieldDef) (rest : Option Ty) (key : Text) (f : FieldDef) → field_of fields key ≡ Some f → key_type fields rest key ≡ Some f.ty
key_type-found [] rest key f h = absurd (none_some h)
key_type-found (g ∷ fields) rest key f h = by (is_same_text g.name key) (λ k. key_type-found fields rest key f k) h
  where
    by : (b : Bool) → (field_of fields key ≡ Some f → key_type fields rest key ≡ Some f.ty) → cond b (Some g) (field_of fields key) ≡ Some f → cond b (Some g.ty) (key_type fields rest key) ≡ Some f.ty
    by true r h = ap (λ (f : FieldDef). Some f.ty) (some_same h)
    by false r h = r h

pub key_type-none : (fields : List FieldDef) (rest : Option Ty) (key : Text) → field_of fields key ≡ None → key_type fields rest key ≡ rest
key_type-none [] rest key h = refl
key_type-none (g ∷ fields) rest key h = by (is_same_text g.name key) (λ k. key_type-none fields rest key k) h
  where
    by : (b : Bool) → (field_of fields key ≡ None → key_type fields rest key ≡ rest) → cond b (Some g) (field_of fields key) ≡ None → cond b (Some g.ty) (key_type fields rest key) ≡ rest
    by true r h = absurd (none_some (sym h))
    by false r h = r h

pub field_of-Some : (fields : List FieldDef) (key : Text) (f : FieldDef) → field_of fields key ≡ Some f → Contains fields f × (f.name ≡ key)
field_of-Some [] key f h = absurd (none_some h)
field_of-Some (g ∷ fields) key f h = by (is_same_text g.name key) (λ k. field_of-Some fields key f k) refl h
  where
    by : (b : Bool) → (field_of fields key ≡ Some f → Contains fields f × (f.name ≡ key)) → is_same_text g.name key ≡ b → cond b (Some g) (field_of fields key) ≡ Some f → Contains (g ∷ fields) f × (f.name ≡ key)
    by true r e h = ((0, omega arith, some_same h), ap (λ (x : FieldDef). x.name) (sym (some_same h)) ∙ same-name g key e)
    by false r e h = let rest = r h in (Contains-append_right (g ∷ []) fields f rest.0, rest.1)

pub field_of-None : (fields : List FieldDef) (key : Text) → field_of fields key ≡ None → ¬ Any (IsNamed key) fields
field_of-None [] key h a = Any-none (IsNamed key) a
field_of-None (g ∷ fields) key h a = by (is_same_text g.name key) (λ k. field_of-None fields key k) refl h
  where
    by : (b : Bool) → (field_of fields key ≡ None → ¬ Any (IsNamed key) fields) → is_same_text g.name key ≡ b → cond b (Some g) (field_of fields key) ≡ None → ⊥
    by true rest e h = none_some (sym h)
    by false rest e h = ⊎_elim (λ (n : IsNamed key g). false≢true (sym e ∙ name-same g key n)) (λ (r : Any (IsNamed key) fields). rest h r) (Any-more (IsNamed key) g fields a)

unnamed-field_of : (fields : List FieldDef) (key : Text) → ¬ Any (IsNamed key) fields → field_of fields key ≡ None
unnamed-field_of [] key h = refl
unnamed-field_of (g ∷ fields) key h = by (is_same_text g.name key) (λ k. unnamed-field_of fields key k) refl
  where
    by : (b : Bool) → (¬ Any (IsNamed key) fields → field_of fields key ≡ None) → is_same_text g.name key ≡ b → cond b (Some g) (field_of fields key) ≡ None
    by true r e = absurd (h (Any-first (IsNamed key) g fields (same-name g key e)))
    by false r e = r (λ a. h (Any-later (IsNamed key) g fields a))

-- ---- by the atom

module _ (env : List AtomDef) where
  pub Requires-fields : (key : Text) (a : ℕ) → Requires env key a ↔ Any (IsNeeded key) (fields_of env a)
  Requires-fields key a = by (parts_of mapping_parts env a)
    where
      by : (o : Option (List FieldDef × Option Ty)) → IsSomeAnd o (λ d. Any (IsNeeded key) d.0) ↔ Any (IsNeeded key) (fields_in o)
      by None = (λ h. absurd h, λ h. Any-none (IsNeeded key) h)
      by (Some d) = (λ h. h, λ h. h)

  pub Names-fields : (key : Text) (a : ℕ) → Names env a key ↔ Any (IsNamed key) (fields_of env a)
  Names-fields key a = by (parts_of mapping_parts env a)
    where
      by : (o : Option (List FieldDef × Option Ty)) → IsSomeAnd o (λ d. Any (IsNamed key) d.0) ↔ Any (IsNamed key) (fields_in o)
      by None = (λ h. absurd h, λ h. Any-none (IsNamed key) h)
      by (Some d) = (λ h. h, λ h. h)

  pub Requires-Names : (key : Text) (a : ℕ) → Requires env key a → Names env a key
  Requires-Names key a h = (Names-fields key a).1 (Any-weaker (IsNeeded key) (IsNamed key) (λ f n. n.0) (fields_of env a) ((Requires-fields key a).0 h))

  -- all keys that it doesn't name ask the same
  pub member_of-unnamed : (a : ℕ) (key other : Text) → ¬ Names env a key → ¬ Names env a other → member_of env key a ≡ member_of env other a
  member_of-unnamed a key other h k = by (parts_of mapping_parts env a) (λ n. h ((Names-fields key a).1 n)) (λ n. k ((Names-fields other a).1 n))
    where
      by : (o : Option (List FieldDef × Option Ty)) → ¬ Any (IsNamed key) (fields_in o) → ¬ Any (IsNamed other) (fields_in o) → asked (λ d. type_asked env (key_type d.0 d.1 key)) o ≡ asked (λ d. type_asked env (key_type d.0 d.1 other)) o
      by None h k = refl
      by (Some d) h k = ap (type_asked env) (key_type-none d.0 d.1 key (unnamed-field_of d.0 key h) ∙ sym (key_type-none d.0 d.1 other (unnamed-field_of d.0 other k)))
