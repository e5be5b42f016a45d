-- Unions of the types of a list, one after another.
use Rattle.std.proofs.Common.{◌≡◌, ◌↔◌, ◌⊎◌, ◌<◌, ◌+◌, ◌++◌, ℕ, List, [], ◌∷◌, length, Any, Contains, inl, inr, ⊎_elim, get_or, take, arith, refl, sym, subst}
use Rattle.std.proofs.lemmas.List.{take_more}
use Rattle.std.proofs.lemmas.List.Elements.{Contains-append_left, Contains-push, Contains-push_cases}
use Rattle.descriptors.specs.Described.{plain}
use Rattle.type_model.specs.declared.basic.BasicSet.TheVariants.{Never}
use Rattle.type_model.specs.declared.basic.SemType.{Basic}
use Rattle.type_model.specs.declared.basic.Ty.{Ty}
use Rattle.type_model.specs.Membership.{In}
use Rattle.check_words.specs.Words.{Atoms, UnionOf}
use Rattle.made_atoms.specs.Defs.{AnyOf}

module _ {X : Type 0} (P : X → Type 0) where
  Any-push : (xs : List X) (y : X) → Any P (xs ++ y ∷ []) ↔ (Any P xs ⊎ P y)
  Any-push xs y = (
    λ h. ⊎_elim
        (λ (c : Contains xs h.1). inl (c.0, h.1, c.1, c.2, h.4))
        (λ (e : y ≡ h.1). inr (subst P (sym e) h.4))
        (Contains-push_cases xs y h.1 (h.0, h.2, h.3)),
    ⊎_elim
        (λ (h : Any P xs). let c = Contains-append_left xs (y ∷ []) h.1 (h.0, h.2, h.3) in (c.0, h.1, c.1, c.2, h.4))
        (λ (p : P y). let c = Contains-push xs y in (c.0, y, c.1, c.2, p)),
  )

module _ (env : Atoms) where
  pub none-yet : AnyOf [] env (plain (Basic Never))
  none-yet = record { shapes = λ x valid. (λ i. absurd i, λ h. absurd (omega (arith, h.2))); lists = refl; maps = refl }

  pub one-type-more : (types : List Ty) (s t u : Ty) → AnyOf types env s → UnionOf s.sem t.sem env u → AnyOf (types ++ t ∷ []) env u
  one-type-more types s t u h k =
      record {
        shapes = λ x valid. let both = Any-push (λ v. In env x v.sem) types t in let old = h.shapes x valid in let new = k.shapes x valid in (
          λ i. both.1 (⊎_elim (λ (a : In env x s.sem). inl (old.0 a)) (λ (b : In env x t.sem). inr b) (new.0 i)),
          λ a. new.1 (⊎_elim (λ (b : Any (λ v. In env x v.sem) types). inl (old.1 b)) (λ (b : In env x t.sem). inr b) (both.0 a)),
        );
        lists = k.lists;
        maps = k.maps;
      }

  pub next-type : (all : List Ty) (i : ℕ) (t s u : Ty) → i < length all → t ≡ get_or all i t → AnyOf (take i all) env s → UnionOf s.sem t.sem env u → AnyOf (take (i + 1) all) env u
  next-type all i t s u lt is h k =
      subst (λ ts. AnyOf ts env u) (sym (take_more all i t lt)) (one-type-more (take i all) s (get_or all i t) u h (subst (λ (v : Ty). UnionOf s.sem v.sem env u) is k))
