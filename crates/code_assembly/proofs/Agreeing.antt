-- Code that was put together has what was made.
use Rattle.std.proofs.Common.{◌≡◌, ◌∙◌, ℕ, zero, suc, List, [], ◌∷◌, Some, refl, sym, ap, subst, length, map}
use Rattle.std.specs.Prelude.{slice_get}
use Rattle.std.specs.List.{AllZip}
use Rattle.std.proofs.lemmas.Option.{slice_get-map}
use Rattle.stack_code.specs.declared.code.Code.{Code}
use Rattle.stack_code.specs.declared.instr.Instr.{Instr}
use Rattle.stack_code.specs.Commands.{Command, Do, GoTo, GoToIfNot, OpenTrap, CloseTrap, command_in}
use Rattle.lower_model.specs.Laying.{Agrees, StandsFor}
use Rattle.lower_model.specs.Making.{Making, place_of, placed}
use Rattle.code_assembly.specs.declared.assembly.Made.{Made}
use Rattle.code_assembly.specs.declared.units.LaidUnit.{LaidUnit}
use Rattle.code_assembly.specs.Known.{IsMadeOf, stock_of}
use Rattle.code_assembly.specs.Standing.{HasStock, IsInstr, places_of}
use Rattle.code_assembly.specs.Unit.{IsUnitOf, params_in}

-- ---- lists one by one

by-some : {A B : Type 0} (R : A → B → Type 0) (a x : A) (b : B) → Some a ≡ Some x → R a b → R x b
by-some R a x b e r = let is : a ≡ x = cc in subst (λ z. R z b) is r

pub zip-at : {A B : Type 0} (R : A → B → Type 0) (xs : List A) (ys : List B) (n : ℕ) (x : A) → AllZip R xs ys → slice_get xs n ≡ Some x → (y : B) × (slice_get ys n ≡ Some y) × R x y
zip-at R [] ys n x all at = absurd (let bad : ⊥ = cc in bad)
zip-at R (a ∷ rest) [] n x all at = absurd all
zip-at R (a ∷ rest) (b ∷ bs) zero x all at = (b, refl, by-some R a x b at all.0)
zip-at R (a ∷ rest) (b ∷ bs) (suc n) x all at = zip-at R rest bs n x all.1 at

pub zip-map : {A B C : Type 0} (R : A → B → Type 0) (f : B → C) (g : A → C) (xs : List A) (ys : List B) → ((x : A) (y : B) → R x y → f y ≡ g x) → AllZip R xs ys → map f ys ≡ map g xs
zip-map R f g [] [] each all = refl
zip-map R f g [] (y ∷ ys) each all = absurd all
zip-map R f g (x ∷ xs) [] each all = absurd all
zip-map R f g (x ∷ xs) (y ∷ ys) each all = let here : f y ≡ g x = each x y all.0 in let rest = zip-map R f g xs ys each all.1 in λ i. here i ∷ rest i

-- ---- a code with these tables, units and instructions

module _ (m : Making) (laid : List LaidUnit) (x : Made) (is : IsMadeOf m laid x) (code : Code) (constants : code.constants ≡ x.tables.constants.items) (tested : code.tested ≡ x.tables.tested.items) (units : code.units ≡ x.units.items) (instrs : code.instrs ≡ x.instrs.items) where
  param-counts : map (λ v. length v.params) code.units ≡ x.tables.params.items
  param-counts =
      ap (map (λ v. length v.params)) units
      ∙ zip-map IsUnitOf (λ v. length v.params) params_in laid x.units.items (λ l v u. ap (λ f. f.params) u.facts) is.units ∙ sym is.params

  has : HasStock (stock_of x.tables) code
  has =
      record {
        constants = λ n c e. ap (λ l. slice_get l n) constants ∙ e;
        tested = λ n t e. ap (λ l. slice_get l n) tested ∙ e;
        params = λ n k e. sym (slice_get-map (λ v. length v.params) code.units n) ∙ ap (λ l. slice_get l n) param-counts ∙ e;
      }

  stands : (p : ℕ) (c : Command) (i : Instr) → slice_get code.instrs p ≡ Some i → IsInstr code (places_of m.labels) c i → StandsFor code (place_of m) p c
  stands p (Do op) i at r = (r.0, ap (command_in code) at ∙ r.1, r.2)
  stands p (GoTo l) i at r = ap (command_in code) at ∙ r
  stands p (GoToIfNot l) i at r = ap (command_in code) at ∙ r
  stands p (OpenTrap l) i at r = ap (command_in code) at ∙ r
  stands p CloseTrap i at r = ap (command_in code) at ∙ r

  pub agrees : Agrees code (place_of m) m
  agrees =
      record {
        sound = is.sound;
        steps = λ p c at.
            let found = zip-at (IsInstr code (places_of m.labels)) m.steps x.instrs.items p c (is.come.are code has) at in
            stands p c found.0 (ap (λ l. slice_get l p) instrs ∙ found.1) found.2;
        labels = λ l q at. ap placed at;
      }
