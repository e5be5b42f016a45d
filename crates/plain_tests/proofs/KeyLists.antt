-- The keys of entries, one entry after another.
use Rattle.std.proofs.Common.{◌≡◌, ℕ, ◌+◌, ◌<◌, List, [], take, length, get_or, sym, subst}
use Rattle.std.proofs.lemmas.List.{take_more}
use Rattle.std.specs.List.{Any}
use Rattle.bal_base.specs.declared.text.Text.{Text}
use Rattle.empty_product.specs.Keys.{AreInOrder, HasAdded}
use Rattle.empty_product.proofs.KeyInsert.{no-keys}
use Rattle.empty_product.proofs.MappingQuestions.{more-added, none-added, same-added}
use Rattle.value_model.specs.declared.value.Value.{Value}
use Rattle.plain_tests.specs.Shapes.{AreKeysOf, IsNamed}

pub none-keys : (keys : List Text) → [] ≡ keys → AreKeysOf [] keys
none-keys keys e = subst (AreKeysOf []) e (no-keys, none-added (λ e key. IsNamed key e) [])

pub more-keys : (es : List (Text × Value)) (i : ℕ) (e : Text × Value) (old new : List Text) → i < length es → e ≡ get_or es i e → AreKeysOf (take i es) old → AreInOrder new → HasAdded (λ k. k ≡ e.0) old new → AreKeysOf (take (i + 1) es) new
more-keys es i e old new lt is keys ordered added = (
  ordered,
  subst (λ all. HasAdded (λ key. Any (IsNamed key) all) [] new) (sym (take_more es i e lt))
      (more-added (λ e key. IsNamed key e) (take i es) (get_or es i e) [] old new keys.1 (subst (λ g. HasAdded (λ key. IsNamed key g) old new) is (same-added e.0 old new added))),
)
