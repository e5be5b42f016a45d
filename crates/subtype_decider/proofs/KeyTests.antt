-- The tests of keys are exact.
use Rattle.std.proofs.Common.{◌≡◌, ◌↔◌, ◌⊎◌, ⊎_elim, inl, inr, ◌||◌, List, get_or, IsTrue, Bool, true, false, refl}
use Rattle.std.specs.Cmp.Lexicographic.{bytes_decides}
use Rattle.std.proofs.lemmas.List.Folds.{Any-from_list_any, list_any-from_Any}
use Rattle.std.proofs.lemmas.List.Sums.{AllPass-from_list_all, list_all-from_AllPass}
use Rattle.std.proofs.lemmas.Bool.{false≢true}
use Rattle.bal_base.specs.declared.text.Text.{Text}
use Rattle.bal_base.specs.declared.shape.Shape.{Shape}
use Rattle.type_model.specs.declared.atoms.FieldDef.{FieldDef}
use Rattle.type_model.specs.Places.{is_same_text, HasKey, HasRequired}
use Rattle.subtype_decider.specs.Keys.{has_key, has_required}

has_key-exact : (members : List (Text × Shape)) (key : Text) → (has_key members key ≡ true) ↔ HasKey members key
has_key-exact members key = (
  λ h. let a = Any-from_list_any (λ m. is_same_text m.0 key) members h in (a.0, a.1, a.2, a.3, (bytes_decides a.1.0 key).0 a.4),
  λ h. list_any-from_Any (λ m. is_same_text m.0 key) members (h.0, h.1, h.2, h.3, (bytes_decides h.1.0 key).1 h.4),
)

or_true : (a b : Bool) → a || b ≡ true → IsTrue a ⊎ (b ≡ true)
or_true true b h = inl refl
or_true false b h = inr h

of_either : (a b : Bool) → IsTrue a ⊎ (b ≡ true) → a || b ≡ true
of_either true b h = refl
of_either false b h = ⊎_elim (λ (e : IsTrue false). absurd (false≢true e)) (λ (e : b ≡ true). e) h

pub has_required-exact : (fields : List FieldDef) (members : List (Text × Shape)) → (has_required fields members ≡ true) ↔ HasRequired fields members
has_required-exact fields members =
    let P : FieldDef → Bool = λ f. f.optional || has_key members f.name in (
      λ h k d lt. ⊎_elim (λ (o : IsTrue (get_or fields k d).optional). inl o) (λ (e : has_key members (get_or fields k d).name ≡ true). inr ((has_key-exact members (get_or fields k d).name).0 e)) (or_true _ _ (AllPass-from_list_all P fields h k d lt)),
      λ h. list_all-from_AllPass P fields (λ k d lt. of_either _ _ (⊎_elim (λ (o : IsTrue (get_or fields k d).optional). inl o) (λ (e : HasKey members (get_or fields k d).name). inr ((has_key-exact members (get_or fields k d).name).1 e)) (h k d lt))),
    )
