-- Functions whose actions are of other workers of theirs: those of the default worker, and those of each named one.
use Rattle.std.specs.Prelude.{All, List, [], map, suc, ℕ, ⊤, ◌∷◌}
use Rattle.bal_base.specs.declared.text.Name.{Name}
use Rattle.bal_tree.specs.declared.def.Body.{Body}
use Rattle.bal_tree.specs.declared.def.FunctionDef.{FunctionDef}
use Rattle.bal_tree.specs.declared.def.Worker.{Worker}
use Rattle.check_words.specs.Units.{workers_of}
use Rattle.typed_blocks.specs.Actions.{actions_in_block}
use Rattle.typed_tree.specs.Listed.{members}
use Rattle.typed_units.specs.Functions.{actions_in_body}
use Rattle.typed_units.specs.Peers.{ActsOnPeers}

abbrev pub worker_names : Body → List Name
worker_names b = map (λ (w : Worker). w.name.name) (workers_of b)

-- named workers have the numbers from 1 on, in the order of the text
abbrev pub WorkersAct : List Name → ℕ → List Worker → Type 0
WorkersAct names n [] = ⊤
WorkersAct names n (w ∷ ws) = All (ActsOnPeers names n) (members (actions_in_block w.body)) × WorkersAct names (suc n) ws

pub record ActsOnItsOwn (d : FunctionDef) : Type 0 where
  pub default : All (ActsOnPeers (worker_names d.body) 0) (members (actions_in_body d.body))
  pub named : WorkersAct (worker_names d.body) 1 (workers_of d.body)
