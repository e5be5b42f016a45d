-- What one name of a wait needs.
use Rattle.std.proofs.Common.{◌≡◌, ◌∙◌, ◌≤◌, ◌<◌, ◌-◌, ◌+◌, ℕ, List, [], ◌∷◌, Option, Some, None, drop, length, slice_get, slice_index_or, take, refl, sym, ap, arith}
use Rattle.std.proofs.Math.Seq.{take-length}
use Rattle.type_model.specs.declared.answers.Keys.{Keys}
use Rattle.type_model.specs.declared.answers.Keys.TheVariants.{Results}
use Rattle.type_model.specs.declared.basic.SemType.{SemType}
use Rattle.operations.specs.Rows.{Surroundings}
use Rattle.code_needs.specs.Combining.{Needs, ◌&◌, need, of_some}
use Rattle.code_needs.specs.declared.kind.Kind.TheVariants.{Errors, Futures}
use Rattle.code_needs.specs.Needs.{Has, PartIn}
use Rattle.code_needs.specs.RowNeeds.{awaits, gives_future, has_all, within}
use Rattle.needs_of_rows.specs.declared.found.Found.{Found}
use Rattle.needs_of_rows.specs.Finding.{Finds}
use Rattle.needs_of_rows.proofs.Finding.{and-assoc, found-as}
use Rattle.needs_of_places.specs.inner.Awaited.{AwaitsOne}

module _ (place : Surroundings) (held : Option SemType) where
  pub worker-left : (name : Option ℕ) (w : ℕ) (left : List SemType) (ended : Option SemType) (old new : Found) → name ≡ Some w → ended ≡ slice_get place.workers w
      → Finds (of_some ended (λ t. has_all held t)) old new → AwaitsOne place held name left old new left
  worker-left name w left ended old new is at finds = (
    of_some ended (λ t. has_all held t),
    finds,
    λ f k names given.
        ap (λ n. awaits place f k (n ∷ names) left) is
        ∙ (λ i. of_some (sym at i) (λ t. has_all (given i) t) & awaits place f (k + 1) names left),
  )

  -- the first one that is left may end
  abbrev ends : SemType → Keys → Needs
  ends t keys = within t Futures & of_some held (λ r. need (PartIn t keys r) & need (Has r Errors))

  pub future-left : (left : List SemType) (t : SemType) (keys : Keys) (old new : Found) → 1 ≤ length left → t ≡ slice_index_or left 0 t → keys ≡ Results
      → Finds (ends t keys) old new → AwaitsOne place held None left old new (take (length left - 1) (drop 1 left))
  future-left left t keys old new some is all finds = by left some is
    where
      by : (ts : List SemType) → 1 ≤ length ts → t ≡ slice_index_or ts 0 t → AwaitsOne place held None ts old new (take (length ts - 1) (drop 1 ts))
      by [] some is = absurd (omega (arith, some))
      by (s ∷ ts) some is =
          let long : length (s ∷ ts) - 1 ≡ length ts = omega arith in
          let behind : ts ≡ take (length (s ∷ ts) - 1) (drop 1 (s ∷ ts)) = sym (ap (λ n. take n ts) long ∙ take-length ts) in (
            ends s Results,
            found-as (ends t keys) (ends s Results) old new (λ i. ends (is i) (all i)) finds,
            λ f k names given.
                (λ i. within s Futures & gives_future s (given i) & awaits place f (k + 1) names (behind i))
                ∙ sym (and-assoc (within s Futures) (gives_future s held) (awaits place f (k + 1) names (take (length (s ∷ ts) - 1) (drop 1 (s ∷ ts))))),
          )

  pub no-future : (left : List SemType) (old new : Found) → length left < 1 → Finds None old new → AwaitsOne place held None left old new left
  no-future left old new none finds = by left none
    where
      by : (ts : List SemType) → length ts < 1 → AwaitsOne place held None ts old new ts
      by [] none = (None, finds, λ f k names given. refl)
      by (t ∷ ts) none = absurd (omega (arith, none))
