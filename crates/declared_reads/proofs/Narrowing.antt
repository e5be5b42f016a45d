-- A package whose variables are read as declared narrows well, so its code has the outcomes of the package.
use Rattle.std.proofs.Common.{◌≡◌, ℕ, List, Option, Some, None, refl, subst, inl, inr}
use Rattle.std.specs.Prelude.{option_map, slice_get}
use Rattle.std.proofs.lemmas.Option.{none-some}
use Rattle.type_model.specs.declared.atoms.AtomDef.{AtomDef}
use Rattle.value_model.specs.declared.filler.Filler.{Filler}
use Rattle.value_model.specs.declared.value.Value.{Value}
use Rattle.value_model.specs.Meaning.{Answers}
use Rattle.typed_tree.specs.declared.package.TypedPackage.{TypedPackage}
use Rattle.typed_tree.specs.Units.{UnitTree, unit_at}
use Rattle.machine_model.specs.Following.{Both}
use Rattle.machine_model.specs.Machine.{Machine, caller, captured_slots}
use Rattle.machine_model.specs.Runs.{Running}
use Rattle.machine_model.proofs.Once.{some-same}
use Rattle.eval_model.specs.Narrowed.{NarrowsWell}
use Rattle.eval_model.specs.Tasks.{Doing}
use Rattle.eval_model.specs.Trees.{entered, trees}
use Rattle.stack_code.specs.declared.code.Code.{Code}
use Rattle.stack_code.specs.declared.code.Unit.{Unit as CodeUnit}
use Rattle.lower_model.specs.Lowered.{UnitAt, code_ways}
use Rattle.lower_model.specs.Whole.{IsLowered}
use Rattle.lower_model.proofs.Whole.{code-does-the-same}
use Rattle.declared_reads.specs.Declared.{IsDeclared}
use Rattle.declared_reads.specs.Laws.{DeclaredCodeDoesTheSame, DeclaredNarrowsWell}
use Rattle.declared_reads.proofs.Knowing.{Nothing}
use Rattle.declared_reads.proofs.KnownFrames.{Rests, Runs, asks-one, goes-on, lands-on, rests-run, runs-fine}
use Rattle.declared_reads.proofs.KnownStates.{AreKept, TopRuns, reached-holds}
use Rattle.declared_reads.proofs.KnownWays.{body-way}
use Rattle.declared_reads.proofs.Machines.{declared-does-the-same}
use Rattle.declared_reads.proofs.Units.{IsUnit, unit-zip}

module _ (natives : Answers) (atoms : List AtomDef) (fillers : ℕ → List Filler) (p q : TypedPackage) (code : Code) (is : IsDeclared p q) (lowered : IsLowered atoms q code) where
  abbrev M : Machine Doing
  M = trees atoms fillers q

  abbrev captured : ℕ → List ℕ
  captured unit = captured_slots M.facts unit

  entered-rests : (args : List Value) (u v : Option UnitTree) (w : Option CodeUnit) → Both IsUnit u v → Both (UnitAt code) v w → (x : Doing) → option_map (entered args) v ≡ Some x → Rests x
  entered-rests args (Some u) (Some v) (Some w) at has x e =
      let (m, n, c, tick, way) = has.body in
      subst Rests (some-same (entered args v) x e) (None, (Nothing, Nothing, inl refl, inr refl, body-way (code_ways code) at.body n way))
  entered-rests args u None w at has x e = absurd (none-some x e)
  entered-rests args None (Some v) w at has x e = absurd at
  entered-rests args (Some u) (Some v) None at has x e = absurd has

  kept : AreKept natives M (Runs M.facts natives) Rests
  kept =
      record {
        begins = λ c a h. rests-run M.facts natives c a h;
        goes = λ c unit a b h e. goes-on M.facts natives c (captured unit) a.local a.tasks b h e;
        gives = λ c d f fs k o vs ws h look performs. (asks-one M.facts natives c (captured f.unit) f.control.local f.control.tasks o vs k h look).gives (caller f fs) ws d performs;
        waits = λ c f fs k o vs effect h look performs long. (asks-one M.facts natives c (captured f.unit) f.control.local f.control.tasks o vs k h look).long (caller f fs) effect performs long;
        resumes = λ k vs h. h;
        throws = λ c unit a k x o vs e h look caught.
            let (n, way) = (asks-one M.facts natives c (captured unit) a.local a.tasks o vs k h look).way in lands-on k.local e k.tasks n x way caught;
        catches = λ k x e h caught. lands-on k.local e k.tasks Nothing x h caught;
        enters = λ unit args x e. entered-rests args (unit_at p unit) (unit_at q unit) (slice_get code.units unit) (unit-zip p q is unit) (lowered.units unit) x e;
      }

  narrows-well : NarrowsWell natives atoms fillers q
  narrows-well words input ticks s f fs texts came at =
      let holds = reached-holds natives M (Runs M.facts natives) Rests kept words input ticks Running s came in
      let top = subst (λ l. TopRuns natives M (Runs M.facts natives) Rests s.common l) at holds.frames in
      runs-fine M.facts natives s.common f.control.local f.control.tasks top.0

pub declared-narrows-well : (natives : Answers) → DeclaredNarrowsWell natives
declared-narrows-well natives atoms fillers p q code is lowered = narrows-well natives atoms fillers p q code is lowered

pub declared-code-does-the-same : (natives : Answers) → DeclaredCodeDoesTheSame natives
declared-code-does-the-same natives atoms fillers p q code is lowered words input order ticks o texts =
    let first = declared-does-the-same natives atoms fillers p q is words input order ticks o texts in
    let second = code-does-the-same natives atoms fillers q code lowered (declared-narrows-well natives atoms fillers p q code is lowered) words input order ticks o texts in
    ((λ x. second.0 (first.0 x)), (λ x. first.1 (second.1 x)))
