-- What the tests of a place tell of it.
use Rattle.std.proofs.Common.{◌≡◌, ◌∙◌, ℕ, zero, suc, Bool, true, false, List, [], ◌∷◌, Option, Some, None, Result, Ok, Err, All, IfOk, IsSome, IsSomeAnd, get_or, refl, subst, sym}
use Rattle.std.proofs.lemmas.List.Elements.{All-head, All-nil, All-tail}
use Rattle.std.proofs.lemmas.Bool.{false≢true}
use Rattle.bal_base.specs.declared.stop.Stop.{Stop}
use Rattle.bal_base.specs.declared.stop.Stop.TheVariants.{Fault, Memory}
use Rattle.bal_base.specs.Stops.{IfFault}
use Rattle.type_model.specs.declared.answers.TypeLimit.{TypeLimit}
use Rattle.type_model.specs.declared.atoms.AtomDef.{AtomDef}
use Rattle.type_model.specs.declared.basic.SemType.{SemType}
use Rattle.type_model.specs.Calls.{Asked}
use Rattle.type_model.specs.Defined.{IsDefined}
use Rattle.stack_code.specs.declared.code.Code.{Code}
use Rattle.stack_code.specs.declared.code.StackMap.{StackMap}
use Rattle.stack_code.specs.declared.code.Unit.{Unit as CodeUnit}
use Rattle.stack_code.specs.Commands.{Command, Do, command_at}
use Rattle.stack_code.specs.Places.{Station, no_map}
use Rattle.code_needs.specs.Combining.{AreMet, Needs, ◌&◌, of_some}
use Rattle.code_needs.specs.PlaceNeeds.{CommandPasses, PlacePasses, command_needs, place_needs, trap_needs}
use Rattle.code_verifier.specs.declared.kind_types.KnownTypes.{KnownTypes}
use Rattle.atom_questions.specs.declared.limits.QuestionLimit.{QuestionLimit}
use Rattle.needs_of_commands.specs.Askable.{HasDefined, MakesCallable}
use Rattle.place_numbers.specs.Numbers.{TellsNumbers}
use Rattle.place_checks.specs.declared.needs.Standing.{Standing}
use Rattle.place_checks.specs.declared.needs.Standing.TheVariants as told
use Rattle.place_checks.specs.Laws.{NeedsTellPlaces}
use Rattle.place_checks.specs.Standing.{NumbersPass}
use Rattle.place_checks.specs.Stopping.{QuestionStops}
use Rattle.place_checks.specs.Telling.{NeedsTell, PlaceTells}
use Rattle.unit_checks.specs.Calling.{TellsMade}
use Rattle.unit_checks.specs.Telling.{PlaceStops}

in-map : (P : List SemType → Type 0) → P [] → (maps : List StackMap) (p : ℕ) → All (λ m. P m.stack) maps → P (get_or maps p no_map).stack
in-map P none [] p all = none
in-map P none (m ∷ maps) zero all = All-head (λ (n : StackMap). P n.stack) m maps all
in-map P none (m ∷ maps) (suc p) all = in-map P none maps p (All-tail (λ (n : StackMap). P n.stack) m maps all)

met-there : (env : List AtomDef) (needs : Needs) → AreMet env needs → IsSome needs
met-there env (Some all) h = refl
met-there env None h = absurd h

pub all-made : (code : Code) (p : ℕ) (r : Bool) → r ≡ true → TellsMade code p r → MakesCallable code p
all-made code p r t tells = λ o e. (tells (Do o) e).0 t o e

module _ (code : Code) (u : CodeUnit) (station : Station) (p : ℕ) where
  -- ---- where a test fails

  not-both : (P : Command → Type 0) → ((c : Command) → command_at code p ≡ Some c → P c → ⊥) → (q : Option Command) → command_at code p ≡ q → IsSomeAnd q P → ⊥
  not-both P none (Some c) e k = none c e k
  not-both P none None e k = absurd k

  pub shown-unmade : (r : Bool) → r ≡ false → TellsMade code p r → ¬ (NumbersPass code u station p)
  shown-unmade r f tells n =
      not-both (CommandPasses code u station p) (λ c e k. false≢true (sym f ∙ (tells c e).1 n.callable)) (command_at code p) refl n.place.command

  pub shown-failed : (r : Bool) → r ≡ false → TellsNumbers code u station p r → ¬ (NumbersPass code u station p)
  shown-failed r f tells n =
      not-both (CommandPasses code u station p) (λ c e k. false≢true (sym f ∙ (tells c e).1 k)) (command_at code p) refl n.place.command

  -- ---- where they pass

  module _ (defined : HasDefined code) (callable : MakesCallable code p) (r : Bool) (t : r ≡ true) (tells : TellsNumbers code u station p r) where
    command-passes : (q : Option Command) → command_at code p ≡ q → IsSome (of_some q (command_needs code u station p) & trap_needs code u station p) → IsSomeAnd q (CommandPasses code u station p)
    command-passes (Some c) e some = (tells c e).0 t
    command-passes None e some = absurd (false≢true some)

    passes : IsSome (place_needs code u station p) → PlacePasses code u station p
    passes some = record {
      command = command-passes (command_at code p) refl some;
      defined = in-map (All (IsDefined code.atoms)) (All-nil (IsDefined code.atoms)) code.maps p defined.maps;
    }

    told-so : NeedsTellPlaces → (told : Standing) → NeedsTell code u station p told → PlaceTells code u station p told
    told-so law told.Stands h = law code u station p told.Stands callable (passes (met-there code.atoms (place_needs code u station p) h)) h
    told-so law (told.Falls None) h = λ n. false≢true (subst (λ (needs : Needs). IsSome needs) h n.needs)
    told-so law (told.Falls (Some x)) h = law code u station p (told.Falls (Some x)) callable (passes h.0) h

    pub answer-told : NeedsTellPlaces → (answer : Result Standing (Stop QuestionLimit)) → IfOk answer (NeedsTell code u station p) → IfOk answer (PlaceTells code u station p)
    answer-told law (Ok told) h = told-so law told h
    answer-told law (Err stop) h = tt

    module _ (passed : List AtomDef → Asked → TypeLimit → Type 0) (known : KnownTypes) where
      stops-so : (limit : QuestionLimit) → QuestionStops passed code u station known p limit → PlaceStops code u station passed known p limit
      stops-so limit h =
          let some : IsSome (place_needs code u station p) = subst (λ (needs : Needs). IsSome needs) (sym h.are) refl in
          (record { callable = callable; place = passes some; needs = some }, h)

      pub answer-stops : (answer : Result Standing (Stop QuestionLimit)) → IfFault answer (QuestionStops passed code u station known p) → IfFault answer (PlaceStops code u station passed known p)
      answer-stops (Ok told) h = tt
      answer-stops (Err Memory) h = tt
      answer-stops (Err (Fault limit)) h = stops-so limit h
