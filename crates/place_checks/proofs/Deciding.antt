-- A place stands exactly where its numbers pass and its needs are met, and only one is the first that doesn't.
use Rattle.std.proofs.Common.{◌≡◌, ◌<◌, ◌≤◌, ◌⊎◌, ℕ, zero, suc, List, [], ◌∷◌, Option, Some, None, IsSome, IsSomeAnd, Contains, inl, inr, arith, get_or, length, refl, subst, sym}
use Rattle.std.proofs.lemmas.Bool.{false≢true}
use Rattle.bal_base.specs.declared.shape.Shape.{Shape}
use Rattle.type_model.specs.declared.atoms.AtomDef.{AtomDef}
use Rattle.stack_code.specs.declared.code.Code.{Code}
use Rattle.stack_code.specs.declared.code.Unit.{Unit as CodeUnit}
use Rattle.stack_code.specs.Places.{Station}
use Rattle.code_needs.specs.Combining.{AreMet, Needs}
use Rattle.code_needs.specs.Laws.{NeedsDecidePlaces}
use Rattle.code_needs.specs.Needs.{IsMet, Need}
use Rattle.code_needs.specs.PlaceNeeds.{place_needs}
use Rattle.place_checks.specs.declared.needs.Standing.TheVariants as told
use Rattle.place_checks.specs.Laws.{FirstIsOne, NeedsDecideStanding, NeedsTellPlaces, NoneIsFirst, ShownIsFallen}
use Rattle.place_checks.specs.Standing.{IsFirstFallen, IsNeedOf, NumbersPass, Shows, Stands}

own-there : {X : Type 0} (xs : List X) (i : ℕ) (d : X) → i < length xs → get_or xs i (get_or xs i d) ≡ get_or xs i d
own-there [] i d lt = absurd (omega (arith, lt))
own-there (x ∷ xs) zero d lt = refl
own-there (x ∷ xs) (suc i) d lt = own-there xs i d (omega (arith, lt))

module _ (env : List AtomDef) where
  there : (needs : Needs) → AreMet env needs → IsSome needs
  there (Some all) h = refl
  there None h = absurd h

  each-met : (needs : Needs) → AreMet env needs → (need : Need) → IsSomeAnd needs (λ all. Contains all need) → IsMet env need
  each-met (Some all) h need (k, lt, is) = subst (IsMet env) is (h k need lt)
  each-met None h need one = absurd h

  are-met : (needs : Needs) → IsSome needs → ((need : Need) → IsSomeAnd needs (λ all. Contains all need) → IsMet env need) → AreMet env needs
  are-met (Some all) some met = λ k d lt. met (get_or all k d) (k, lt, own-there all k d lt)
  are-met None some met = absurd (false≢true some)

pub standing-decided : NeedsDecidePlaces → NeedsDecideStanding
standing-decided decide code u station p = (forth, back)
  where
    forth : Stands code u station p → NumbersPass code u station p × ((need : Need) → IsNeedOf code u station p need → IsMet code.atoms need)
    forth h =
        let passed = (decide code u station p).0 h.1 in (
          record { callable = h.0; place = passed.0; needs = there code.atoms (place_needs code u station p) passed.1 },
          each-met code.atoms (place_needs code u station p) passed.1,
        )

    back : NumbersPass code u station p × ((need : Need) → IsNeedOf code u station p need → IsMet code.atoms need) → Stands code u station p
    back h = (h.0.callable, (decide code u station p).1 (h.0.place, are-met code.atoms (place_needs code u station p) h.0.needs h.1))

pub shown-fallen : NeedsDecideStanding → ShownIsFallen
shown-fallen decide code u station p None shown h = shown ((decide code u station p).0 h).0
shown-fallen decide code u station p (Some x) shown h = shown.1.unmet (((decide code u station p).0 h).1 shown.1.need shown.1.here)

pub places-told : NeedsDecidePlaces → NeedsTellPlaces
places-told decide code u station p told.Stands callable passes h = (callable, (decide code u station p).1 (passes, h))
places-told decide code u station p (told.Falls None) callable passes h = λ numbers. false≢true (subst (λ (n : Needs). IsSome n) h numbers.needs)
places-told decide code u station p (told.Falls (Some x)) callable passes h = (record { callable = callable; place = passes; needs = h.0 }, h.1)

pub none-first : ShownIsFallen → NoneIsFirst
none-first fallen code u station p why all first = fallen code u station p why first.shown (all p first.inside)

pub first-one : ShownIsFallen → FirstIsOne
first-one fallen code u station p q why other one two = by (tricho p q)
  where
    tricho : (a b : ℕ) → (a < b) ⊎ ((b < a) ⊎ (a ≡ b))
    tricho zero zero = inr (inr refl)
    tricho zero (suc b) = inl (omega arith)
    tricho (suc a) zero = inr (inl (omega arith))
    tricho (suc a) (suc b) = up (tricho a b)
      where
        up : (a < b) ⊎ ((b < a) ⊎ (a ≡ b)) → (suc a < suc b) ⊎ ((suc b < suc a) ⊎ (suc a ≡ suc b))
        up (inl lt) = inl (omega (arith, lt))
        up (inr (inl lt)) = inr (inl (omega (arith, lt)))
        up (inr (inr e)) = inr (inr (λ i. suc (e i)))

    by : (p < q) ⊎ ((q < p) ⊎ (p ≡ q)) → p ≡ q
    by (inl lt) = absurd (fallen code u station p why one.shown (two.before p one.inside.0 lt))
    by (inr (inl lt)) = absurd (fallen code u station q other two.shown (one.before q two.inside.0 lt))
    by (inr (inr e)) = e
