-- One more unit that is met, and a tree with operands.
use Rattle.std.proofs.Common.{◌≡◌, ◌≢◌, ◌∙◌, ◌<◌, ◌+◌, ◌++◌, ℕ, List, [], ◌∷◌, Option, Some, None, refl, sym, ap, map, take, get_or, replicate, length, false, true}
use Rattle.std.specs.Prelude.{Bool, IfOk, Result, Ok, Err, option_map, slice_get, slice_set}
use Rattle.std.specs.Global.{Vec}
use Rattle.std.proofs.lemmas.List.{map-append, replicate-append-replicate, take_more}
use Rattle.std.proofs.lemmas.Option.{slice_get-map}
use Rattle.bal_base.specs.declared.stop.Memory.{Memory}
use Rattle.typed_tree.specs.declared.expr.TypedExpr.{TypedExpr, TypedExpr-F, map-TypedExpr, out-TypedExpr, para-TypedExpr}
use Rattle.typed_tree.specs.declared.expr.TypedExpr.TheVariants.{Strict, outs-Strict}
use Rattle.typed_tree.specs.declared.expr.TypedExpr.TheOpen as layer
use Rattle.typed_tree.specs.declared.form.StrictForm.{StrictForm}
use Rattle.typed_tree.specs.Listed.{joined, run}
use Rattle.typed_tree.specs.SharedTypes.{Shared}
use Rattle.typed_tree.specs.Units.{expr_units}
use Rattle.typed_tree.specs.declared.package.TypedPackage.{TypedPackage}
use Rattle.bal_base.specs.declared.place.Place.{Place}
use Rattle.lower_model.specs.Assembled.{HasUnits}
use Rattle.package_units.specs.declared.held.HeldUnit.{HeldUnit}
use Rattle.package_units.specs.Held.{tree_of}
use Rattle.package_units.specs.Noted.{AreAll, Noted, noted, noted_at, unmet}
use Rattle.package_units.proofs.Found.{all-listed, has-units, listed}
use Rattle.typed_tree.proofs.SeenParts.{para_out, seconds}
use Rattle.package_units.proofs.Noting.{map-slice_set}

-- ---- one more unit

abbrev held : List (Option HeldUnit) → Bool → Noted
held units fits = record { units = map (option_map tree_of) units; fits = fits }

module _ (units : List (Option HeldUnit)) (fits : Bool) (met : HeldUnit) where
  noted-here : (here : Option (Option HeldUnit)) → slice_get units met.unit.now.number ≡ here → noted (tree_of met) (held units fits) ≡ noted_at (tree_of met) (option_map (option_map tree_of) here) (held units fits)
  noted-here here at = ap (λ o. noted_at (tree_of met) o (held units fits)) (slice_get-map (option_map tree_of) units met.unit.now.number ∙ ap (option_map (option_map tree_of)) at)

  pub noted-none : (o : Option HeldUnit) → slice_get units met.unit.now.number ≡ Some o → o ≡ None → held (slice_set units met.unit.now.number (Some met)) fits ≡ noted (tree_of met) (held units fits)
  noted-none o at is =
      ap (λ us. record { units = us; fits = fits }) (map-slice_set (option_map tree_of) units met.unit.now.number (Some met))
      ∙ sym (noted-here (Some None) (at ∙ ap Some is))

  pub noted-some : (o : Option HeldUnit) → slice_get units met.unit.now.number ≡ Some o → o ≢ None → held units false ≡ noted (tree_of met) (held units fits)
  noted-some (Some v) at not = sym (noted-here (Some (Some v)) at)
  noted-some None at not = absurd (not refl)

-- ---- a tree with operands

para-at : (A : Type 0) (step : TypedExpr-F (TypedExpr × A) → A) (e : TypedExpr) (x : TypedExpr-F TypedExpr) → out-TypedExpr e ≡ x → para-TypedExpr A step e ≡ step (map-TypedExpr TypedExpr (TypedExpr × A) (λ t. (t, para-TypedExpr A step t)) x)
para-at A step e x o = para_out A step e ∙ ap (λ y. step (map-TypedExpr TypedExpr (TypedExpr × A) (λ t. (t, para-TypedExpr A step t)) y)) o

pub strict-units : (e : TypedExpr) (form : StrictForm) (operands : Vec TypedExpr) (type : Shared) (at : Place) → e ≡ Strict form operands type at → expr_units e ≡ joined (map expr_units operands.items)
strict-units e form operands type at is =
    para-at _ _ e (layer.Strict form operands type at) (ap out-TypedExpr is ∙ outs-Strict form operands type at) ∙ ap joined (seconds expr_units operands.items)

-- ---- rooms

pub room-next : (us news : List (Option HeldUnit)) (k : ℕ) → news ≡ us ++ None ∷ [] → map (option_map tree_of) us ≡ replicate k None → map (option_map tree_of) news ≡ replicate (k + 1) None
room-next us news k pushed e =
    ap (map (option_map tree_of)) pushed ∙ map-append (option_map tree_of) us (None ∷ []) ∙ ap (λ l. l ++ None ∷ []) e ∙ replicate-append-replicate k 1 None

pub gathered-next : (met : List (Option HeldUnit)) (k : ℕ) (x : Option HeldUnit) (us news : List HeldUnit) (u : HeldUnit) → k < length met → x ≡ get_or met k x → news ≡ us ++ u ∷ []
    → map (option_map tree_of) (take k met) ≡ map Some (map tree_of us) → x ≡ Some u → map (option_map tree_of) (take (k + 1) met) ≡ map Some (map tree_of news)
gathered-next met k x us news u lt at pushed before is =
    ap (map (option_map tree_of)) (take_more met k x lt ∙ ap (λ y. take k met ++ y ∷ []) (sym at)) ∙ map-append (option_map tree_of) (take k met) (x ∷ [])
    ∙ ap (λ l. l ++ option_map tree_of x ∷ []) before ∙ ap (λ y. map Some (map tree_of us) ++ option_map tree_of y ∷ []) is
    ∙ sym (ap (λ l. map Some (map tree_of l)) pushed ∙ ap (map Some) (map-append tree_of us (u ∷ [])) ∙ map-append Some (map tree_of us) (tree_of u ∷ []))

pub all-gathered : (p : TypedPackage) (final : Noted) → final ≡ run noted (listed p) (unmet p.units) → final.fits ≡ true
    → (r : Result (Vec HeldUnit) Memory) → IfOk r (λ us. final.units ≡ map Some (map tree_of us.items)) → IfOk r (λ us. HasUnits p (map tree_of us.items))
all-gathered p final is fits (Ok us) all = has-units p (map tree_of us.items) final is fits all
all-gathered p final is fits (Err m) all = tt

pub all-hold : (p : TypedPackage) (final : Noted) → final ≡ run noted (listed p) (unmet p.units) → final.fits ≡ true
    → (r : Result (Vec HeldUnit) Memory) → IfOk r (λ us. final.units ≡ map Some (map tree_of us.items)) → IfOk r (λ us. AreAll p (map tree_of us.items))
all-hold p final is fits (Ok us) all = all-listed p (map tree_of us.items) final is fits all
all-hold p final is fits (Err m) all = tt
