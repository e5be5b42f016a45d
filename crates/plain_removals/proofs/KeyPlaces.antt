-- The first entry with a key: whether it is there, and what is left without it.
use Rattle.std.proofs.Common.{◌≡◌, ◌↔◌, ◌<◌, ℕ, zero, suc, Bool, true, false, IsTrue, IsSomeAnd, List, [], ◌∷◌, Option, Some, None, length, get_or, sym, subst, ap, ◌∙◌, arith}
use Rattle.std.specs.Prelude.{⊤, is_some, remove, if◌then◌else◌}
use Rattle.std.specs.List.{position}
use Rattle.std.proofs.lemmas.Bool.{false≢true}
use Rattle.std.proofs.lemmas.List.Quantifiers.{position-Some}
use Rattle.bal_base.specs.declared.text.Text.{Text}
use Rattle.value_model.specs.declared.value.Value.{Value}
use Rattle.value_model.specs.Heap.{entry_at}
use Rattle.op_model.specs.Stores.{remove_entry}
use Rattle.plain_run.proofs.KeyPlaces.{entry-no-position, entry-there, has_key}

module _ (key : Text) where
  removed-first : (es : List (Text × Value)) (i : ℕ) (d : Text × Value) → i < length es → has_key key (get_or es i d) ≡ true → ((k : ℕ) → k < i → has_key key (get_or es k d) ≡ false) → remove_entry es key ≡ remove es i
  removed-first [] i d l t f = absurd (omega (arith, l))
  removed-first (e ∷ es) zero d l t f = ap (λ b. if b then es else e ∷ remove_entry es key) t
  removed-first (e ∷ es) (suc i) d l t f =
      let first : 0 < suc i = omega arith in
      let m : i < length es = omega (arith, l) in
      ap (λ b. if b then es else e ∷ remove_entry es key) (f 0 first)
      ∙ ap (λ xs. e ∷ xs) (removed-first es i d m t (λ k b. let c : suc k < suc i = omega (arith, b) in f (suc k) c))

  pub removed-position : (es : List (Text × Value)) (i : ℕ) (d : Text × Value) → position (has_key key) es ≡ Some i → remove_entry es key ≡ remove es i
  removed-position es i d h = let at = position-Some (has_key key) es i d h in removed-first es i d at.0 at.1 at.2

  -- an entry has the key where it stands somewhere
  pub key-stands : (es : List (Text × Value)) (place : Option ℕ) (b : Bool) → position (has_key key) es ≡ place → b ≡ is_some place → IsTrue b ↔ IsSomeAnd (entry_at es key) (λ _. ⊤)
  key-stands es (Some i) b h e = (λ t. let there = entry-there key es i h in subst (λ o. IsSomeAnd o (λ _. ⊤)) (sym there.1) tt, λ x. e)
  key-stands es None b h e =
      (λ t. absurd (false≢true (sym e ∙ t)), λ x. absurd (subst (λ o. IsSomeAnd o (λ _. ⊤)) (entry-no-position key es h) x))
