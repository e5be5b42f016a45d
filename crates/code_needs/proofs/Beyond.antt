-- What holds of numbers that are no places, and so of a whole code.
use Rattle.std.proofs.Common.{◌≡◌, ◌≤◌, ◌<◌, ℕ, zero, suc, Bool, true, false, List, [], ◌∷◌, Option, Some, None, length, refl, subst, arith}
use Rattle.std.specs.Prelude.{IsSomeAnd, nat_lt, slice_get}
use Rattle.std.proofs.lemmas.Bool.{ltb-false, ltb-true}
use Rattle.stack_code.specs.declared.code.Code.{Code}
use Rattle.stack_code.specs.declared.code.Unit.{Unit as CodeUnit}
use Rattle.stack_code.specs.Messages.{IsOf, worker}
use Rattle.stack_code.specs.Places.{IsIn, Station}
use Rattle.stack_code.specs.Tables.{FollowFrom}
use Rattle.stack_code.specs.WellTyped.{PlaceHolds, WellTyped}
use Rattle.code_needs.specs.CodeNeeds.{NeedsAt, Passes}
use Rattle.code_needs.specs.FieldNeeds.{FieldsPass}
use Rattle.code_needs.specs.Laws.{NeedsDecideAll, NothingBeyond}
use Rattle.code_needs.specs.Needs.{IsMet, Need}
use Rattle.code_needs.proofs.Codes.{code-decided}
use Rattle.code_needs.proofs.FieldsDecided.{fields-decided}

module _ (code : Code) where
  rises : (p : ℕ) (us : List CodeUnit) (q : ℕ) → FollowFrom code p us q → p ≤ q
  rises p [] q e = omega (arith, e)
  rises p (u ∷ us) q h = let l : u.end ≤ q = rises u.end us q h.2 in let k : p < u.end = h.1 in omega (arith, l, k)

  -- each unit ends where the last one does, or before
  ends-within : (p : ℕ) (us : List CodeUnit) (q : ℕ) → FollowFrom code p us q → (n : ℕ) (u : CodeUnit) → slice_get us n ≡ Some u → u.end ≤ q
  ends-within p [] q h n u e = absurd (let w : ⊥ = cc in w)
  ends-within p (v ∷ us) q h zero u e = let same : v ≡ u = cc in subst (λ (w : CodeUnit). w.end ≤ q) same (rises v.end us q h.2)
  ends-within p (v ∷ us) q h (suc n) u e = ends-within v.end us q h.2 n u e

  at-some : (o : Option CodeUnit) (p : ℕ) → ((u : CodeUnit) → o ≡ Some u → IsIn u p → ⊥) → IsSomeAnd o (λ u. IsIn u p) → ⊥
  at-some (Some u) p f h = f u refl h
  at-some None p f h = h

  module _ (p : ℕ) (fields : FieldsPass code) (past : length code.instrs ≤ p) where
    in-none : (n : ℕ) (u : CodeUnit) → slice_get code.units n ≡ Some u → IsIn u p → ⊥
    in-none n u is inside =
        let l : u.end ≤ length code.instrs = ends-within 0 code.units (length code.instrs) fields.places n u is in
        let k : p < u.end = inside.1 in
        omega (arith, l, k, past)

    nowhere : (station : Station) → IsOf code station p → ⊥
    nowhere station o = at-some (slice_get code.units o.0) p (λ u e inside. in-none o.0 u e inside) o.2

    beyond : PlaceHolds code p
    beyond =
        record {
          typed = (λ n u is inside. absurd (in-none n u is inside));
          uses = (λ n u is inside. absurd (in-none n u is inside));
          talks = record {
            workers = (λ f v operation at does. absurd (nowhere (worker code f v) at));
            sends = (λ f v w n s. absurd (nowhere (worker code f v) s.0));
            receives = (λ f v w n r. absurd (nowhere (worker code f w) r.0));
            returns = (λ f v tally at does numbers. absurd (nowhere (worker code f v) at));
          };
        }

pub nothing-beyond : NothingBeyond
nothing-beyond code p fields past = beyond code p fields past

pub all-decided : NeedsDecideAll
all-decided code made tells = (so, back)
  where
    so : WellTyped code → FieldsPass code × ((p : ℕ) → p < length code.instrs → Passes code made p × ((need : Need) → NeedsAt code made p need → IsMet code.atoms need))
    so t = ((fields-decided code).0 t.fields, (λ p l. (code-decided code made p tells).0 (t.places p)))

    at : FieldsPass code × ((p : ℕ) → p < length code.instrs → Passes code made p × ((need : Need) → NeedsAt code made p need → IsMet code.atoms need)) → (p : ℕ) (b : Bool) → nat_lt p (length code.instrs) ≡ b → PlaceHolds code p
    at h p true e = (code-decided code made p tells).1 (h.1 p (ltb-true p (length code.instrs) e))
    at h p false e = beyond code p h.0 (ltb-false p (length code.instrs) e)

    back : FieldsPass code × ((p : ℕ) → p < length code.instrs → Passes code made p × ((need : Need) → NeedsAt code made p need → IsMet code.atoms need)) → WellTyped code
    back h = record { fields = (fields-decided code).1 h.0; places = (λ p. at h p (nat_lt p (length code.instrs)) refl) }
