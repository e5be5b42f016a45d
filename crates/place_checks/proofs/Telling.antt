-- What the answers to the questions of a place tell of it.
use Rattle.std.proofs.Common.{◌≡◌, ◌∙◌, ℕ, Bool, true, false, List, Option, Some, None, Result, Ok, Err, All, Contains, IfOk, IsSome, IsSomeAnd, if◌then◌else◌, refl, slice_get, subst, sym}
use Rattle.std.specs.List.{flat_map}
use Rattle.bal_base.specs.declared.shape.Shape.{Shape}
use Rattle.bal_base.specs.declared.stop.Stop.{Stop}
use Rattle.bal_base.specs.declared.stop.Stop.TheVariants.{Fault, Memory}
use Rattle.bal_base.specs.Stops.{IfFault}
use Rattle.type_model.specs.declared.answers.TypeLimit.{TypeLimit}
use Rattle.type_model.specs.declared.atoms.AtomDef.{AtomDef}
use Rattle.type_model.specs.Calls.{Asked, KeepsTypes}
use Rattle.stack_code.specs.declared.code.Code.{Code}
use Rattle.stack_code.specs.declared.code.Unit.{Unit as CodeUnit}
use Rattle.stack_code.specs.Places.{Station}
use Rattle.code_needs.specs.Combining.{AreMet, Needs}
use Rattle.code_needs.specs.Needs.{IsMet, Need}
use Rattle.code_needs.specs.PlaceNeeds.{place_needs}
use Rattle.code_verifier.specs.declared.kind_types.KnownTypes.{KnownTypes}
use Rattle.code_verifier.specs.Asked.{IsAgainst}
use Rattle.code_verifier.specs.KindSets.{AreKnown}
use Rattle.atom_questions.specs.declared.limits.QuestionLimit.{QuestionLimit}
use Rattle.atom_questions.specs.Kept.{AnswersKept}
use Rattle.need_questions.specs.declared.question.NeedQuestion.{NeedQuestion}
use Rattle.need_questions.specs.NeedStops.{FirstStops}
use Rattle.need_questions.specs.NeedsAsked.{AreAnswered, needs_of}
use Rattle.needs_of_rows.specs.declared.found.Found.{Found}
use Rattle.needs_of_rows.specs.Finding.{needs_in}
use Rattle.needs_of_commands.specs.Askable.{HasDefined, MakesCallable, MayBeAsked}
use Rattle.needs_of_commands.specs.Laws.{PlaceNeedsMayBeAsked}
use Rattle.place_checks.specs.declared.needs.Standing.TheVariants as told
use Rattle.place_checks.specs.inner.Answered.{standing_of}
use Rattle.place_checks.specs.Standing.{IsUnmetBy}
use Rattle.place_checks.specs.Stopping.{QuestionStops}
use Rattle.place_checks.specs.Telling.{NeedsTell}
use Rattle.place_checks.proofs.Asking.{all-met, one-unmet}

module _ (code : Code) (u : CodeUnit) (station : Station) (p : ℕ) (found : Found) (is : needs_in found ≡ place_needs code u station p) where
  pub refused-so : found.refused ≡ true → NeedsTell code u station p (told.Falls None)
  refused-so e = sym is ∙ (λ i. if e i then None else Some (flat_map needs_of found.questions.items))

  module _ (passed : found.refused ≡ false) where
    pub needs-are : place_needs code u station p ≡ Some (flat_map needs_of found.questions.items)
    needs-are = sym is ∙ (λ i. if passed i then None else Some (flat_map needs_of found.questions.items))

    -- all that is asked may be
    pub may-be : PlaceNeedsMayBeAsked → HasDefined code → (n : ℕ) × (slice_get code.units n ≡ Some u) → MakesCallable code p → All (MayBeAsked code.atoms) (flat_map needs_of found.questions.items)
    may-be law defined (n, there) callable = law code n u station p (flat_map needs_of found.questions.items) defined there callable needs-are

    module _ (new : List AtomDef) (keeps : KeepsTypes code.atoms new) (kept : AnswersKept) (may : All (MayBeAsked code.atoms) (flat_map needs_of found.questions.items)) where
      pub stands-so : AreAnswered new found.questions.items None → NeedsTell code u station p told.Stands
      stands-so h = subst (λ (n : Needs). AreMet code.atoms n) (sym needs-are) (all-met code.atoms new keeps kept found.questions.items may h)

      pub falls-so : (x : Shape) → AreAnswered new found.questions.items (Some x) → NeedsTell code u station p (told.Falls (Some x))
      falls-so x h = by (one-unmet code.atoms new keeps kept found.questions.items may x h)
        where
          by : (need : Need) × Contains (flat_map needs_of found.questions.items) need × IsAgainst code.atoms need x × (¬ (IsMet code.atoms need)) → NeedsTell code u station p (told.Falls (Some x))
          by (need, there, against, unmet) = (
            subst (λ (n : Needs). IsSome n) (sym needs-are) refl,
            record { need = need; here = subst (λ (n : Needs). IsSomeAnd n (λ all. Contains all need)) (sym needs-are) there; against = against; unmet = unmet },
          )

      pub answered-so : (r : Result (Option Shape) (Stop QuestionLimit)) → IfOk r (AreAnswered new found.questions.items) → IfOk (standing_of r) (NeedsTell code u station p)
      answered-so (Ok (Some x)) h = falls-so x h
      answered-so (Ok None) h = stands-so h
      answered-so (Err stop) h = tt

      module _ (passes : List AtomDef → Asked → TypeLimit → Type 0) (known : KnownTypes) (are : AreKnown new known) where
        stops-so : (limit : QuestionLimit) → FirstStops passes known new found.questions.items limit → QuestionStops passes code u station known p limit
        stops-so limit h = record { questions = found.questions.items; are = needs-are; env = new; keeps = keeps; are_known = are; stops = h }

        pub stopped-so : (r : Result (Option Shape) (Stop QuestionLimit)) → IfFault r (FirstStops passes known new found.questions.items) → IfFault (standing_of r) (QuestionStops passes code u station known p)
        stopped-so (Ok (Some x)) h = tt
        stopped-so (Ok None) h = tt
        stopped-so (Err Memory) h = tt
        stopped-so (Err (Fault limit)) h = stops-so limit h
