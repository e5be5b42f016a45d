-- The type at a key is that of the first field of its name.
use Rattle.std.proofs.Common.{◌≡◌, ◌∙◌, Bool, true, false, List, [], ◌∷◌, Option, Some, None, refl, ap}
use Rattle.std.specs.Prelude.{find, option_map, if◌then◌else◌}
use Rattle.bal_base.specs.declared.text.Text.{Text}
use Rattle.type_model.specs.declared.atoms.FieldDef.{FieldDef}
use Rattle.type_model.specs.declared.basic.Ty.{Ty}
use Rattle.type_model.specs.Places.{is_same_text, key_type, or_rest}

module _ (rest : Option Ty) (key : Text) where
  abbrev named : FieldDef → Bool
  named f = is_same_text f.name key

  key-first : (fields : List FieldDef) → key_type fields rest key ≡ or_rest (option_map (λ f. f.ty) (find named fields)) rest
  key-first [] = refl
  key-first (f ∷ fields) = by (key-first fields) (named f)
    where
      by : key_type fields rest key ≡ or_rest (option_map (λ x. x.ty) (find named fields)) rest → (b : Bool) → (if b then Some f.ty else key_type fields rest key) ≡ or_rest (option_map (λ x. x.ty) (if b then Some f else find named fields)) rest
      by behind true = refl
      by behind false = behind

  pub key-there : (fields : List FieldDef) (f : FieldDef) → find named fields ≡ Some f → key_type fields rest key ≡ Some f.ty
  key-there fields f e = key-first fields ∙ ap (λ o. or_rest (option_map (λ x. x.ty) o) rest) e

  pub key-absent : (fields : List FieldDef) → find named fields ≡ None → key_type fields rest key ≡ rest
  key-absent fields e = key-first fields ∙ ap (λ o. or_rest (option_map (λ x. x.ty) o) rest) e

pub ruleset keying = (key-there, key-absent)
