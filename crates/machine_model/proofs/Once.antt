-- A state and an order have at most one next state.
use Rattle.std.proofs.Common.{◌≡◌, List, [], ◌∷◌, Some, sym, ap, ◌∙◌}
use Rattle.value_model.specs.Meaning.{Answers}
use Rattle.op_model.specs.Laws.{AnswerOnce}
use Rattle.op_model.proofs.PerformsOnce.{one-effect}
use Rattle.machine_model.specs.Machine.{Machine, Ask, On, Does, Stuck, Frame, State, Next, Takes, TakesTop, caller, carried}
use Rattle.machine_model.specs.Laws.{StepsOnce}

pub some-same : {A : Type 0} (x y : A) → Some x ≡ Some y → x ≡ y
some-same x y e = let q : x ≡ y = cc in q

module _ {C : Type 0} (natives : Answers) (M : Machine C) (once : AnswerOnce natives) where
  takes-one : (s : State C) (f : Frame C) (fs : List (Frame C)) (ask : Ask C) (x y : Next C) → Takes natives M s f fs ask x → Takes natives M s f fs ask y → x ≡ y
  takes-one s f fs (On c) x y h k = h ∙ sym k
  takes-one s f fs (Does op vs k) x y (e, p, q) (d, r, t) =
      some-same x y (sym q ∙ (ap (λ z. carried M s f k fs z) (one-effect natives M.facts once op vs (caller f fs) s.common e d p r) ∙ t))
  takes-one s f fs Stuck x y h k = absurd h

  top-one : (s : State C) (fs : List (Frame C)) (x y : Next C) → TakesTop natives M s fs x → TakesTop natives M s fs y → x ≡ y
  top-one s [] x y h k = absurd h
  top-one s (f ∷ fs) x y h k = takes-one s f fs (M.look f.unit f.control) x y h k

pub steps-once : {C : Type 0} (natives : Answers) (M : Machine C) → StepsOnce natives M
steps-once natives M once s x y h k = top-one natives M once s s.frames x y h k
