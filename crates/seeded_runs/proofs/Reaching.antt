-- A run from a state that was reached is one from the start.
use Rattle.std.proofs.Common.{◌≡◌, ◌+◌, ℕ, suc, List, [], ◌∷◌, ◌++◌, Some, append_assoc, sym, subst, arith}
use Rattle.std.proofs.lemmas.List.{append-nil}
use Rattle.bal_base.specs.declared.text.Text.{Text}
use Rattle.value_model.specs.Meaning.{Answers}
use Rattle.op_model.specs.Common.{Common}
use Rattle.machine_model.specs.Machine.{Machine, State}
use Rattle.machine_model.specs.Runs.{Phase, Picking, Reaches, Runs, Stop, after_move, after_block, after_end, after_pick, blocks, ends, moves, picks, start, starts}

module _ {C : Type 0} (natives : Answers) (M : Machine C) (words : List Text) (input : List ℕ) (ticks : ℕ) where
  abbrev pub FromStart : ℕ → List ℕ → Stop → Common → Type 0
  FromStart n order stop c = (s : State C) × (start M words input ticks ≡ Some s) × Runs natives M Picking n s order stop c

  one-later : (n m : ℕ) (order : List ℕ) (stop : Stop) (c : Common) → FromStart (n + suc m) order stop c → FromStart (suc n + m) order stop c
  one-later n m order stop c h = let same : n + suc m ≡ suc n + m = omega arith in subst (λ k. FromStart k order stop c) same h

  none-before : (m : ℕ) (order : List ℕ) (stop : Stop) (c : Common) → FromStart m order stop c → FromStart (0 + m) order stop c
  none-before m order stop c h = let same : m ≡ 0 + m = omega arith in subst (λ k. FromStart k order stop c) same h

  pub runs-through : {phase : Phase} {n : ℕ} {order : List ℕ} {s : State C} → Reaches natives M words input ticks phase n order s → (m : ℕ) (more : List ℕ) (stop : Stop) (c : Common) → Runs natives M phase m s more stop c → FromStart (n + m) (order ++ more) stop c
  runs-through (starts {s = s} e) m more stop c r = none-before m more stop c (s, e, r)
  runs-through (after_move {n = n} {order = order} reached h) m more stop c r = one-later n m (order ++ more) stop c (runs-through reached (suc m) more stop c (moves h r))
  runs-through (after_block {n = n} {order = order} reached h) m more stop c r = one-later n m (order ++ more) stop c (runs-through reached (suc m) more stop c (blocks h r))
  runs-through (after_end {n = n} {order = order} reached h) m more stop c r = one-later n m (order ++ more) stop c (runs-through reached (suc m) more stop c (ends h r))
  runs-through (after_pick place {n = n} {k = k} {order = order} reached e) m more stop c r =
      subst (λ l. FromStart (n + m) l stop c) (sym (append_assoc order (place ∷ []) more)) (runs-through reached m (place ∷ more) stop c (picks e r))

  -- and it ends where it was reached
  pub runs-to : {phase : Phase} {n : ℕ} {order : List ℕ} {s : State C} (stop : Stop) (c d : Common) → Reaches natives M words input ticks phase n order s → Runs natives M phase 0 s [] stop d → c ≡ d → FromStart n order stop c
  runs-to {n = n} {order = order} stop c d reached r e =
      let none : n + 0 ≡ n = omega arith in
      subst (λ x. FromStart n order stop x) (sym e)
      (subst (λ l. FromStart n l stop d) (append-nil order) (subst (λ k. FromStart k (order ++ []) stop d) none (runs-through reached 0 [] stop d r)))
