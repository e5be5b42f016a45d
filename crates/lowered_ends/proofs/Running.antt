-- A state that is reached is one of a run, and the end of a run is a state that is reached.
use Rattle.std.proofs.Common.{◌≡◌, ◌++◌, ℕ, suc, List, [], ◌∷◌, Some, refl, sym, subst}
use Rattle.std.proofs.lemmas.List.{append_assoc}
use Rattle.bal_base.specs.declared.text.Text.{Text}
use Rattle.value_model.specs.Meaning.{Answers}
use Rattle.op_model.specs.Common.{Common}
use Rattle.machine_model.specs.Machine.{Machine, State}
use Rattle.machine_model.specs.Runs.{IsReached, Phase, Picking, Reaches, Runs, Stop, Over, after_block, after_end, after_move, after_pick, blocks, ends, moves, needs_tick, over, passes, picks, start, starts}
use Rattle.machine_model.proofs.Forth.{came-blocked, came-ended, came-moved, came-picked}

module _ {C : Type 0} (natives : Answers) (M : Machine C) (words : List Text) (input : List ℕ) (ticks : ℕ) where
  abbrev pub IsRun : Phase → State C → List ℕ → Stop → Common → Type 0
  IsRun phase s order stop c = (m : ℕ) × Runs natives M phase m s order stop c

  -- the run goes on from the state, so it goes from the start
  pub record FromStart (order : List ℕ) (stop : Stop) (c : Common) : Type 0 where
    pub first : State C
    pub begins : start M words input ticks ≡ Some first
    pub run : IsRun Picking first order stop c

  pub from-start : {phase : Phase} {n : ℕ} {order : List ℕ} {s : State C} → Reaches natives M words input ticks phase n order s → (tail : List ℕ) (stop : Stop) (c : Common) → IsRun phase s tail stop c → FromStart (order ++ tail) stop c
  from-start {s = s} (starts e) tail stop c run = record { first = s; begins = e; run = run }
  from-start (after_move r step) tail stop c (m, run) = from-start r tail stop c (suc m, moves step run)
  from-start (after_block r step) tail stop c (m, run) = from-start r tail stop c (suc m, blocks step run)
  from-start (after_end r step) tail stop c (m, run) = from-start r tail stop c (suc m, ends step run)
  from-start (after_pick place {order = order} r e) tail stop c (m, run) =
      subst (λ l. FromStart l stop c) (sym (append_assoc order (place ∷ []) tail)) (from-start r (place ∷ tail) stop c (m, picks e run))

  -- where it is over, the last state is reached
  pub record Last (c : Common) : Type 0 where
    pub state : State C
    pub reached : IsReached natives M words input ticks Picking state
    pub same : state.common ≡ c
    pub idle : state.common.ready ≡ []

  pub run-ends : {phase : Phase} {m : ℕ} {s : State C} {order : List ℕ} {stop : Stop} {c : Common} → Runs natives M phase m s order stop c → IsReached natives M words input ticks phase s → stop ≡ Over → Last c
  run-ends {s = s} (moves {t = t} step run) came is = run-ends run (came-moved natives M words input ticks s t came step) is
  run-ends {s = s} (blocks {t = t} step run) came is = run-ends run (came-blocked natives M words input ticks s t came step) is
  run-ends {s = s} (ends {t = t} step run) came is = run-ends run (came-ended natives M words input ticks s t came step) is
  run-ends (needs_tick step) came is = absurd (let q : ⊥ = cc in q)
  run-ends (passes step) came is = absurd (let q : ⊥ = cc in q)
  run-ends {s = s} (picks {place = place} {k = k} e run) came is = run-ends run (came-picked natives M words input ticks s place k came e) is
  run-ends {s = s} (over idle) came is = record { state = s; reached = came; same = refl; idle = idle }
