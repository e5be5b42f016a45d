-- The places of a unit, one after another.
use Rattle.std.proofs.Common.{◌≡◌, ◌⊎◌, ◌<◌, ◌+◌, ℕ, List, Result, Ok, Err, arith, inl, inr, subst, sym}
use Rattle.std.specs.Prelude.{IsErr, IsErrAnd}
use Rattle.bal_base.specs.declared.stop.Stop.{Stop}
use Rattle.bal_base.specs.declared.stop.Stop.TheVariants.{Fault, Memory}
use Rattle.bal_base.specs.Stops.{IfFault}
use Rattle.type_model.specs.declared.answers.TypeLimit.{TypeLimit}
use Rattle.type_model.specs.declared.atoms.AtomDef.{AtomDef}
use Rattle.type_model.specs.Calls.{Asked, KeepsTypes}
use Rattle.stack_code.specs.declared.code.Code.{Code}
use Rattle.stack_code.specs.declared.code.Unit.{Unit as CodeUnit}
use Rattle.stack_code.specs.Places.{IsIn, Station}
use Rattle.code_verifier.specs.declared.kind_types.KnownTypes.{KnownTypes}
use Rattle.atom_questions.specs.declared.limits.QuestionLimit.{QuestionLimit}
use Rattle.atom_questions.proofs.Stops.{kept-on}
use Rattle.needs_of_places.specs.declared.site.Site.{Site}
use Rattle.place_checks.specs.Standing.{StandBefore, Stands}
use Rattle.place_checks.specs.Stopping.{StopsFirst}
use Rattle.place_checks.proofs.Asking.{known-kept}
use Rattle.unit_checks.specs.declared.places.Checking.{Checking}
use Rattle.unit_checks.specs.Ready.{IsReady}
use Rattle.unit_checks.specs.Telling.{PlaceStops}

-- what was ready is so where atoms were added
pub ready-on : (site : Site) (checking : Checking) (env new : List AtomDef) → IsReady site checking env → KeepsTypes env new → IsReady site checking new
ready-on site checking env new h keeps = record {
  keeps = kept-on site.code.now.atoms env new h.keeps keeps;
  known = known-kept env new keeps checking.serving.known.now h.known;
  always = h.always;
  callable = h.callable;
  unit = h.unit;
}

module _ (code : Code) (u : CodeUnit) (station : Station) (p : ℕ) where
  last-or : (a b : ℕ) → a < b + 1 → (a < b) ⊎ (a ≡ b)
  last-or a b h = grind arith

  pub stand-more : StandBefore code u station p → Stands code u station p → StandBefore code u station (p + 1)
  stand-more before here q le lt = by (last-or q p lt)
    where
      by : (q < p) ⊎ (q ≡ p) → Stands code u station q
      by (inl less) = before q le less
      by (inr e) = subst (Stands code u station) (sym e) here

  module _ (passes : List AtomDef → Asked → TypeLimit → Type 0) (known : KnownTypes) (inside : IsIn u p) (before : StandBefore code u station p) where
    pub stops-first : (A B : Type 0) (stop : Stop QuestionLimit) (r : Result B (Stop QuestionLimit)) → IsErr r × IsErrAnd r (λ e. e ≡ stop) → IfFault {T = A} (Err stop) (PlaceStops code u station passes known p)
        → IfFault r (StopsFirst passes code u station known)
    stops-first A B stop (Ok b) h k = tt
    stops-first A B stop (Err s) h k = subst (λ (e : Stop QuestionLimit). IfFault {T = B} (Err e) (StopsFirst passes code u station known)) (sym h.1) (on stop k)
      where
        on : (e : Stop QuestionLimit) → IfFault {T = A} (Err e) (PlaceStops code u station passes known p) → IfFault {T = B} (Err e) (StopsFirst passes code u station known)
        on Memory k = tt
        on (Fault l) k = record { place = p; inside = inside; before = before; numbers = k.0; question = k.1 }
