-- Which frame of the code follows a frame of the package: one with the same at hand, which stands where there is a way through the
-- tasks that are left, in traps that keep what waits there.
use Rattle.std.specs.Prelude.{◌≡◌, ℕ, List, [], ◌∷◌, map}
use Rattle.value_model.specs.declared.value.Value.{Value}
use Rattle.eval_model.specs.Laws.{HasWay}
use Rattle.eval_model.specs.Tasks.{Task, Eval, Exec, Do, Get, Choose, Turn, Guard, Doing}
use Rattle.stack_code.specs.declared.code.Code.{Code}
use Rattle.stack_code.specs.CodeMachine.{OpenedTrap, Standing}
use Rattle.lower_model.specs.Lowered.{code_ways, spot}

-- the values that wait at the ends of traps, the innermost one first
abbrev pub waiting : List Task → List (List Value)
waiting [] = []
waiting (Guard vs ∷ ts) = vs ∷ waiting ts
waiting (Eval e ∷ ts) = waiting ts
waiting (Exec s ∷ ts) = waiting ts
waiting (Do op ∷ ts) = waiting ts
waiting (Get slot narrowed ∷ ts) = waiting ts
waiting (Choose first second ∷ ts) = waiting ts
waiting (Turn loop ∷ ts) = waiting ts

abbrev pub landings_of : List OpenedTrap → List ℕ
landings_of traps = map (λ t. t.landing) traps

pub record Follows (code : Code) (d : Doing) (s : Standing) : Type 0 where
  pub local : d.local ≡ s.local
  pub way : HasWay (code_ways code) d.tasks (spot s.place (landings_of s.traps))
  pub below : waiting d.tasks ≡ map (λ t. t.below) s.traps
