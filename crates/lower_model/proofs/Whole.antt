-- Code that is lowered from a package does what the package means.
use Rattle.std.proofs.Common.{◌≡◌, ℕ, List, [], Option, Some, None, refl, sym, subst, ap}
use Rattle.std.specs.Prelude.{option_map, slice_get}
use Rattle.type_model.specs.declared.atoms.AtomDef.{AtomDef}
use Rattle.value_model.specs.declared.filler.Filler.{Filler}
use Rattle.value_model.specs.declared.value.Value.{Value}
use Rattle.value_model.specs.Meaning.{Answers}
use Rattle.typed_tree.specs.declared.package.TypedPackage.{TypedPackage}
use Rattle.typed_tree.specs.Units.{UnitTree, unit_at}
use Rattle.op_model.specs.Common.{Common, Caller}
use Rattle.machine_model.specs.Machine.{Machine, captured_slots, first_slots}
use Rattle.machine_model.specs.Following.{Both, ComesTo, FramesFollow}
use Rattle.machine_model.proofs.SameOutcomes.{followers-do-the-same}
use Rattle.eval_model.specs.Narrowed.{AreFineTasks, IsFine}
use Rattle.eval_model.specs.Tasks.{Doing}
use Rattle.eval_model.specs.Trees.{entered, facts_of, next_of, trees}
use Rattle.eval_model.proofs.Settled.{doing-settles}
use Rattle.stack_code.specs.declared.code.Code.{Code}
use Rattle.stack_code.specs.declared.code.Unit.{Unit as CodeUnit}
use Rattle.stack_code.specs.CodeMachine.{Standing, code_facts, codes, entry, standing}
use Rattle.lower_model.specs.Following.{Follows}
use Rattle.lower_model.specs.Lowered.{UnitAt}
use Rattle.lower_model.specs.Whole.{CodeDoesTheSame, IsLowered}
use Rattle.lower_model.proofs.Bodies.{body-waits}
use Rattle.lower_model.proofs.Simulation.{task-answers}

module _ (natives : Answers) (atoms : List AtomDef) (fillers : ℕ → List Filler) (p : TypedPackage) (code : Code) (lowered : IsLowered atoms p code) where
  abbrev M : Machine Doing
  M = trees atoms fillers p

  abbrev N : Machine Standing
  N = codes fillers code

  same-facts : facts_of atoms fillers p ≡ code_facts fillers code
  same-facts = λ i. record { atoms = lowered.atoms i; units = lowered.facts i; initialisers = lowered.initialisers i; fillers = fillers }

  -- ---- units

  unit-follows : (args : List Value) (u : UnitTree) (v : CodeUnit) → UnitAt code u v → Follows code (entered args u) (entry args v)
  unit-follows args u v at =
      record { local = ap (λ n. record { slots = first_slots n args; stack = [] }) (sym at.slots); way = (None, at.body); below = body-waits u.body }

  units-follow : (args : List Value) (u : Option UnitTree) (v : Option CodeUnit) → Both (UnitAt code) u v → Both (Follows code) (option_map (entered args) u) (option_map (entry args) v)
  units-follow args (Some u) (Some v) at = unit-follows args u v at
  units-follow args (Some u) None at = at
  units-follow args None (Some v) at = at
  units-follow args None None at = tt

  -- ---- the machines side by side

  answers : (caller : Caller) (c : Common) (d : Doing) (s : Standing) → IsFine (facts_of atoms fillers p) c d → Follows code d s → ComesTo M N (Follows code) natives caller c d (M.look caller.unit d) s
  answers caller c d s fine f =
      subst (λ facts. ComesTo M N (Follows code) natives caller c d (next_of (captured_slots facts caller.unit) d.local d.tasks) s) (sym same-facts)
      (subst (λ l. ComesTo M N (Follows code) natives caller c d (next_of (captured_slots (code_facts fillers code) caller.unit) d.local d.tasks) (standing s.place s.traps l)) f.local
      (task-answers atoms p fillers code natives caller c d.local d.tasks _ f.way.0 s.traps (subst (λ facts. AreFineTasks facts c d.local d.tasks) same-facts fine) f.way.1 refl f.below))

  pub frames-follow : FramesFollow natives M N (Follows code) (IsFine (facts_of atoms fillers p))
  frames-follow =
      record {
        facts = same-facts;
        launch = lowered.launch;
        enters = λ unit args. units-follow args (unit_at p unit) (slice_get code.units unit) (lowered.units unit);
        answers = answers;
      }

pub code-does-the-same : (natives : Answers) → CodeDoesTheSame natives
code-does-the-same natives atoms fillers p code lowered narrows =
    followers-do-the-same natives (trees atoms fillers p) (codes fillers code) (Follows code) (IsFine (facts_of atoms fillers p)) (frames-follow natives atoms fillers p code lowered) narrows
    (doing-settles atoms fillers p)
