-- Workers of code that is lowered from a package in which each function has a plan.
use Rattle.std.proofs.Common.{◌≡◌, ◌∙◌, ℕ, List, [], ◌∷◌, Option, Some, None, ap, refl, sym, subst}
use Rattle.type_model.specs.declared.answers.TypeLimit.{TypeLimit}
use Rattle.type_model.specs.declared.atoms.AtomDef.{AtomDef}
use Rattle.type_model.specs.Calls.{Asked}
use Rattle.operations.specs.declared.operation.Operation.{Operation}
use Rattle.operations.specs.declared.operation.Operation.TheVariants as op
use Rattle.typed_tree.specs.declared.package.TypedPackage.{TypedPackage}
use Rattle.value_model.specs.declared.filler.Filler.{Filler}
use Rattle.value_model.specs.declared.value.Value.{Value}
use Rattle.value_model.specs.Meaning.{Answers}
use Rattle.op_model.specs.Common.{Caller, Common, Need}
use Rattle.op_model.specs.Effects.{Waits}
use Rattle.op_model.specs.ProgramFacts.{ProgramFacts}
use Rattle.op_model.specs.Local.{Local, loaded}
use Rattle.op_model.specs.Performs.{Performs}
use Rattle.machine_model.specs.Machine.{Does, Machine, asks, captured_slots}
use Rattle.machine_model.specs.Runs.{does_in}
use Rattle.machine_model.specs.Strands.{StartsOnce, WaitsForSome}
use Rattle.machine_model.proofs.Once.{some-same}
use Rattle.machine_model.proofs.ShapeRows.{performs-shape}
use Rattle.eval_model.specs.Narrowed.{AreFineTasks, IsFine}
use Rattle.eval_model.specs.Tasks.{Choose, Do, Doing, Eval, Exec, Get, Guard, Task, Turn, doing}
use Rattle.eval_model.specs.Trees.{facts_of, next_of, trees}
use Rattle.eval_model.proofs.Settled.{doing-settles}
use Rattle.worker_waits.specs.Planned.{ArePlanned}
use Rattle.worker_waits.proofs.PlannedTrees.{K, begun-well, planned-never-ring}
use Rattle.worker_waits.proofs.TreeStanding.{starts-once, waits-for-some}
use Rattle.stack_code.specs.declared.code.Code.{Code}
use Rattle.stack_code.specs.CodeMachine.{codes}
use Rattle.lower_model.specs.Following.{Follows}
use Rattle.lower_model.proofs.Whole.{frames-follow}
use Rattle.lowered_waits.specs.Laws.{IsLoweredPlan, LoweredHolds, LoweredNeverRings}
use Rattle.lowered_waits.proofs.Beside.{never-rings-too, second-holds, wanted}

-- a variable that is read of a narrower type has a value or can't be read, and so nothing is waited for
load-waits-not : (natives : Answers) (facts : ProgramFacts) (who : Caller) (c : Common) (need : Need) (ts : List Task) (l : Local) (slot : ℕ) (o : Option (Option Value)) (other : Operation) (vs : List Value) (k : Doing) →
    asks (λ x. doing x ts) (loaded l slot o) ≡ Does other vs k → Performs facts natives other vs who c (Waits need) → ⊥
load-waits-not natives facts who c need ts l slot (Some (Some v)) other vs k e h = let q : ⊥ = cc in q
load-waits-not natives facts who c need ts l slot None other vs k e h = let q : ⊥ = cc in q
load-waits-not natives facts who c need ts l slot (Some None) other vs k e h =
    let same : wanted (op.Load slot) [] ≡ wanted other vs = some-same _ _ (ap does_in e) in
    let q : Performs facts natives (op.Load slot) [] who c (Waits need) = subst (λ x. Performs facts natives x.0 x.1 who c (Waits need)) (sym same) h in
    (performs-shape facts natives [] who c (Waits need) (op.Load slot) (λ ns e. absurd (let z : ⊥ = cc in z)) q).0

module _ (passes : List AtomDef → Asked → TypeLimit → Type 0) (natives : Answers) (fillers : ℕ → List Filler) (code : Code) (plan : IsLoweredPlan passes natives fillers code) where
  abbrev M : Machine Doing
  M = trees plan.atoms fillers plan.tree

  -- a frame of the package that waits is as it has to be
  ready : (who : Caller) (c : Common) (d k : Doing) (o : Operation) (vs : List Value) (need : Need) → M.look who.unit d ≡ Does o vs k → Performs M.facts natives o vs who c (Waits need) → IsFine M.facts c d
  ready who c d k o vs need looks waits = by d.tasks looks
    where
      by : (ts : List Task) → next_of (captured_slots M.facts who.unit) d.local ts ≡ Does o vs k → AreFineTasks M.facts c d.local ts
      by [] e = let q : ⊥ = cc in absurd q
      by (Get slot (Some t) ∷ ts) e = absurd (load-waits-not natives M.facts who c need ts d.local slot _ o vs k e waits)
      by (Get slot None ∷ ts) e = tt
      by (Eval x ∷ ts) e = tt
      by (Exec x ∷ ts) e = tt
      by (Do x ∷ ts) e = tt
      by (Choose x y ∷ ts) e = tt
      by (Turn x ∷ ts) e = tt
      by (Guard x ∷ ts) e = tt

  once : StartsOnce natives M
  once = starts-once natives (K passes plan.tree plan.planned) plan.atoms fillers plan.tree (begun-well passes plan.tree plan.planned plan.atoms fillers)

  some : WaitsForSome natives M
  some = waits-for-some natives (K passes plan.tree plan.planned) plan.atoms fillers plan.tree (begun-well passes plan.tree plan.planned plan.atoms fillers)

pub lowered-holds : (passes : List AtomDef → Asked → TypeLimit → Type 0) (natives : Answers) → LoweredHolds passes natives
lowered-holds passes natives fillers code plan =
    second-holds natives (trees plan.atoms fillers plan.tree) (codes fillers code) (Follows code) (IsFine (facts_of plan.atoms fillers plan.tree)) (frames-follow natives plan.atoms fillers plan.tree code plan.lowered) plan.narrows
    (doing-settles plan.atoms fillers plan.tree) (once passes natives fillers code plan) (some passes natives fillers code plan)

pub lowered-never-rings : (passes : List AtomDef → Asked → TypeLimit → Type 0) (natives : Answers) → LoweredNeverRings passes natives
lowered-never-rings passes natives fillers code plan =
    never-rings-too natives (trees plan.atoms fillers plan.tree) (codes fillers code) (Follows code) (IsFine (facts_of plan.atoms fillers plan.tree)) (frames-follow natives plan.atoms fillers plan.tree code plan.lowered) plan.narrows
    (doing-settles plan.atoms fillers plan.tree) (ready passes natives fillers code plan) (once passes natives fillers code plan) (some passes natives fillers code plan)
    (planned-never-ring passes natives plan.atoms fillers plan.tree plan.planned)
