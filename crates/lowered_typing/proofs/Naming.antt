-- A piece that is typed whatever older labels are to have names none of these.
use Rattle.std.proofs.Common.{◌≡◌, ◌∙◌, ◌≤◌, ◌<◌, ◌++◌, ◌⊎◌, ℕ, zero, suc, List, [], ◌∷◌, Some, inl, inr, length, refl, sym, subst, ap, arith, length-append, replicate}
use Rattle.std.proofs.lemmas.Bool.{cases_lt}
use Rattle.std.specs.Prelude.{slice_get}
use Rattle.type_model.specs.declared.atoms.AtomDef.{AtomDef}
use Rattle.type_model.specs.declared.basic.SemType.{SemType}
use Rattle.operations.specs.Rows.{AreBelow, Surroundings}
use Rattle.eval_model.specs.Expressions.{error_type, nil_type}
use Rattle.stack_code.specs.Commands.{Command, Do, GoTo, GoToIfNot, OpenTrap, CloseTrap}
use Rattle.tree_promises.specs.Types.{Stack, TakesTypes}
use Rattle.typed_making.specs.Mapped.{IsTyped, More, Wants}
use Rattle.lowered_typing.specs.Typed.{NamesFrom}

-- each is to have these types
pub each-wants : (n l : ℕ) (w : Stack) → l < n → slice_get (replicate n w) l ≡ Some w
each-wants zero l w lt = absurd (omega (arith, lt))
each-wants (suc n) zero w lt = refl
each-wants (suc n) (suc l) w lt = each-wants n l w (omega (arith, lt))

pub many-wants : {X : Type 0} (n : ℕ) (w : X) → length (replicate n w) ≡ n
many-wants zero w = refl
many-wants (suc n) w = ap suc (many-wants n w)

apart : (t : SemType) (s : Stack) → length s ≡ length (t ∷ s) → ⊥
apart t s e = omega (arith, e)

some-same : {X : Type 0} (a b : X) → Some a ≡ Some b → a ≡ b
some-same a b e = cc

module _ (env : List AtomDef) (place : Surroundings) where
  below-long : (rs ss : Stack) → AreBelow env rs ss → length rs ≡ length ss
  below-long [] [] h = refl
  below-long [] (s ∷ ss) h = absurd h
  below-long (r ∷ rs) [] h = absurd h
  below-long (r ∷ rs) (s ∷ ss) h = ap suc (below-long rs ss h.1)

  -- an older label has what it was to have
  old-want : (n l : ℕ) (w : Stack) (wants : List Stack) (P : Stack → Type 0) → l < n → More (replicate n w) wants → Wants env place wants l P → P w
  old-want n l w wants P lt grown (want, e, h) = subst P (some-same want w (sym e ∙ grown l w (each-wants n l w lt))) h

  module _ (n : ℕ) (at next : Stack) (a b : List Stack) (grown-a : More (replicate n []) a) (grown-b : More (replicate n (nil_type ∷ [])) b) where
    none-for : (l : ℕ) (P : Stack → Type 0) → ((s t : Stack) → P s → P t → length s ≡ length t) → Wants env place a l P → Wants env place b l P → (l < n) ⊎ (n ≤ l) → n ≤ l
    none-for l P alike x y (inl lt) =
        absurd (apart nil_type [] (alike [] (nil_type ∷ []) (old-want n l [] a P lt grown-a x) (old-want n l (nil_type ∷ []) b P lt grown-b y)))
    none-for l P alike x y (inr le) = le

    taken-alike : (s t : Stack) → TakesTypes env place at s → TakesTypes env place at t → length s ≡ length t
    taken-alike s t x y =
        let first = below-long x.below s x.behind in
        let second = below-long y.below t y.behind in
        omega (arith, first, second, ap length x.are, ap length y.are, length-append x.below (x.condition ∷ []), length-append y.below (y.condition ∷ []))

    pub names-from : (c : Command) → IsTyped env place a c at next → IsTyped env place b c at next → NamesFrom n c
    names-from (Do op) x y = tt
    names-from (GoTo l) x y = none-for l (λ want. AreBelow env at want) (λ s t h k. sym (below-long at s h) ∙ below-long at t k) x y (cases_lt l n)
    names-from (GoToIfNot l) x y = none-for l (λ want. TakesTypes env place at want) taken-alike x.1 y.1 (cases_lt l n)
    names-from (OpenTrap l) x y = none-for l (λ want. want ≡ at ++ error_type ∷ []) (λ s t h k. ap length (h ∙ sym k)) x.1 y.1 (cases_lt l n)
    names-from CloseTrap x y = tt
