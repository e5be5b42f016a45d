-- A place holds exactly where its numbers pass and its needs are met.
use Rattle.std.proofs.Common.{◌≡◌, ◌≢◌, ◌<◌, ℕ, List, [], ◌∷◌, Option, Some, None, IsSome, IsSomeAnd, Contains, inl, inr, arith, get_or, length, refl, slice_get, subst, zero, suc}
use Rattle.std.proofs.lemmas.Bool.{false≢true}
use Rattle.type_model.specs.declared.atoms.AtomDef.{AtomDef}
use Rattle.stack_code.specs.declared.code.Code.{Code}
use Rattle.stack_code.specs.declared.code.Unit.{Unit as CodeUnit}
use Rattle.stack_code.specs.WellTyped.{HoldsAt}
use Rattle.code_needs.specs.CodeNeeds.{NeedsAt, Passes}
use Rattle.code_needs.specs.Combining.{AreMet, Needs}
use Rattle.code_needs.specs.FieldNeeds.{FieldsPass, initialiser_needs, main_needs, own_needs, unit_needs}
use Rattle.code_needs.specs.Laws.{NeedsDecideCode, NeedsDecideFields}
use Rattle.code_needs.specs.Needs.{IsMet, Need}
use Rattle.verifier_answers.specs.Laws.{PlacesDecide, ShownPlacesBreak, VerifiedIsNotBad}
use Rattle.verifier_answers.specs.Showing.{AllMet, FieldNumbersPass, IsAmong, IsFieldNeed, NumbersPass}

own-there : {X : Type 0} (xs : List X) (i : ℕ) (d : X) → i < length xs → get_or xs i (get_or xs i d) ≡ get_or xs i d
own-there [] i d lt = absurd (omega (arith, lt))
own-there (x ∷ xs) zero d lt = refl
own-there (x ∷ xs) (suc i) d lt = own-there xs i d (omega (arith, lt))

-- ---- needs that are met are there, and each is met

module _ (env : List AtomDef) where
  there : (needs : Needs) → AreMet env needs → IsSome needs
  there (Some all) h = refl
  there None h = absurd h

  each-met : (needs : Needs) → AreMet env needs → (need : Need) → IsAmong needs need → IsMet env need
  each-met (Some all) h need (k, lt, is) = subst (IsMet env) is (h k need lt)
  each-met None h need one = absurd h

  are-met : (needs : Needs) → IsSome needs → ((need : Need) → IsAmong needs need → IsMet env need) → AreMet env needs
  are-met (Some all) some met = λ k d lt. met (get_or all k d) (k, lt, own-there all k d lt)
  are-met None some met = absurd (false≢true some)

some-so : {X : Type 0} (o : Option X) (P Q : X → Type 0) → ((x : X) → o ≡ Some x → P x → Q x) → IsSomeAnd o P → IsSomeAnd o Q
some-so (Some x) P Q on h = on x refl h
some-so None P Q on h = absurd h

-- ---- fields

module _ (code : Code) where
  abbrev EachFieldMet : Type 0
  EachFieldMet = (need : Need) → IsFieldNeed code need → IsMet code.atoms need

  numbers-of : FieldsPass code → FieldNumbersPass code
  numbers-of f = record {
    types = f.types;
    constants = f.constants;
    places = f.places;
    maps = f.maps;
    stacks = f.stacks;
    units = λ n u is. there code.atoms (unit_needs code u) (f.units n u is);
    rests = f.rests;
    without = f.without;
    own = λ n u is no_worker no_initialiser. there code.atoms (own_needs code u) (f.own n u is no_worker no_initialiser);
    workers = f.workers;
    initialisers = λ k n lt. some-so (slice_get code.units (get_or code.initialisers k n)) _ _ (λ u is h. (h.0, there code.atoms (initialiser_needs code u) h.1)) (f.initialisers k n lt);
    main = some-so (slice_get code.units code.start) _ _ (λ u is h. there code.atoms (main_needs code u) h) f.main;
    inherent = f.inherent;
  }

  at-unit : (n : ℕ) (u : CodeUnit) (P : CodeUnit → Type 0) → slice_get code.units n ≡ Some u → IsSomeAnd (slice_get code.units n) P → P u
  at-unit n u P is h = subst (λ (o : Option CodeUnit). IsSomeAnd o P) is h

  needs-of : FieldsPass code → EachFieldMet
  needs-of f need (inl (inl o)) = each-met code.atoms (unit_needs code o.unit) (f.units o.number o.unit o.there) need o.one
  needs-of f need (inl (inr o)) = each-met code.atoms (own_needs code o.unit) (f.own o.number o.unit o.there o.no_worker o.no_initialiser) need o.one
  needs-of f need (inr (inl o)) = by o.named
    where
      by : Contains code.initialisers o.number → IsMet code.atoms need
      by (k, lt, is) =
          let named = subst (λ (n : ℕ). IsSomeAnd (slice_get code.units n) (λ u. (code.start ≢ n) × AreMet code.atoms (initialiser_needs code u))) is (f.initialisers k o.number lt) in
          let own = at-unit o.number o.unit (λ u. (code.start ≢ o.number) × AreMet code.atoms (initialiser_needs code u)) o.there named in each-met code.atoms (initialiser_needs code o.unit) own.1 need o.one
  needs-of f need (inr (inr o)) = each-met code.atoms (main_needs code o.unit) (at-unit code.start o.unit (λ u. AreMet code.atoms (main_needs code u)) o.there f.main) need o.one

  fields-from : FieldNumbersPass code → EachFieldMet → FieldsPass code
  fields-from f met = record {
    types = f.types;
    constants = f.constants;
    places = f.places;
    maps = f.maps;
    stacks = f.stacks;
    units = λ n u is. are-met code.atoms (unit_needs code u) (f.units n u is) (λ need one. met need (inl (inl (record { number = n; unit = u; there = is; one = one }))));
    rests = f.rests;
    without = f.without;
    own = λ n u is no_worker no_initialiser.
        are-met code.atoms (own_needs code u) (f.own n u is no_worker no_initialiser)
        (λ need one. met need (inl (inr (record { number = n; unit = u; there = is; no_worker = no_worker; no_initialiser = no_initialiser; one = one }))));
    workers = f.workers;
    initialisers = λ k n lt.
        some-so (slice_get code.units (get_or code.initialisers k n)) _ _
        (λ u is h. (h.0, are-met code.atoms (initialiser_needs code u) h.1 (λ need one. met need (inr (inl (record { number = get_or code.initialisers k n; unit = u; named = (k, lt, own-there code.initialisers k n lt); there = is; one = one }))))))
        (f.initialisers k n lt);
    main = some-so (slice_get code.units code.start) _ _ (λ u is h. are-met code.atoms (main_needs code u) h (λ need one. met need (inr (inr (record { unit = u; there = is; one = one }))))) f.main;
    inherent = f.inherent;
  }

-- ---- places

pub places-decided : NeedsDecideCode → NeedsDecideFields → PlacesDecide
places-decided of_places of_fields code made p tells = (forth, back)
  where
    forth : HoldsAt code p → NumbersPass code made p × AllMet code made p
    forth h = (((λ e. numbers-of code ((of_fields code).0 (h.0 e))), place.0), met)
      where
        place : Passes code made p × ((need : Need) → NeedsAt code made p need → IsMet code.atoms need)
        place = (of_places code made p tells).0 h.1

        met : AllMet code made p
        met need (inl (e, one)) = needs-of code ((of_fields code).0 (h.0 e)) need one
        met need (inr one) = place.1 need one

    back : NumbersPass code made p × AllMet code made p → HoldsAt code p
    back h = (
      (λ e. (of_fields code).1 (fields-from code (h.0.0 e) (λ need one. h.1 need (inl (e, one))))),
      (of_places code made p tells).1 (h.0.1, (λ need one. h.1 need (inr one))),
    )

pub shown-break : PlacesDecide → ShownPlacesBreak
shown-break decide code made p None tells before none = ((λ h. none ((decide code made p tells).0 h).0), before)
shown-break decide code made p (Some x) tells before shown = ((λ h. shown.1.unmet (((decide code made p tells).0 h).1 shown.1.need shown.1.here)), before)

pub never-bad : ShownPlacesBreak → VerifiedIsNotBad
never-bad breaks code table place shape verified bad =
    let first = breaks code bad.made place shape bad.tells bad.before bad.shown in first.0 ((λ e. verified.typed.fields), verified.typed.places place)
