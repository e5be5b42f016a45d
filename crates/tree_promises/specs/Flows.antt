-- What operations make of what is known of slots: the points of the ways through a body are what is known there. So a variable is read
-- only where it holds a value, and as what it is narrowed to only where it holds one of that type (Ballerina specification, "Type
-- narrowing").
use Rattle.std.specs.Prelude.{◌≡◌, ◌⊎◌, ℕ, List, All, Option, Some, None, Bool, true, false, slice_get, ⊤}
use Rattle.type_model.specs.declared.atoms.AtomDef.{AtomDef}
use Rattle.type_model.specs.declared.basic.SemType.{SemType}
use Rattle.type_model.specs.Inclusion.{HasExactly, Sub}
use Rattle.type_model.specs.Membership.{In}
use Rattle.operations.specs.declared.operation.Constant.TheVariants as constant
use Rattle.operations.specs.declared.operation.Operation.{Operation}
use Rattle.operations.specs.declared.operation.Operation.TheVariants as operation
use Rattle.typed_tree.specs.declared.unit.Captured.{Captured}
use Rattle.typed_tree.specs.SharedTypes.{sem_of}
use Rattle.flow_narrowing.specs.Narrowed.{MayFail, part_of}
use Rattle.eval_model.specs.Ways.{Ways}
use Rattle.tree_promises.specs.Known.{BaseBelow, Below, Flow, FlowBelow, HasSome, IsFree, Known, Point, loaded, narrowed, plain, stored, told, way, with_twin}

-- what is known of a unit all along: the declared types of its slots, and the variables that its named workers capture
pub record Around : Type 0 where
  pub slots : List SemType
  pub captured : List Captured

module _ (env : List AtomDef) where
  -- ---- tests

  -- a type of what is of s and passes a test for t, and one of what is of s and fails it
  abbrev pub LeavesTrue : SemType → SemType → SemType → Type 0
  LeavesTrue s t u = HasExactly env u (λ x. In env x s × In env x t)

  abbrev pub LeavesFalse : SemType → SemType → SemType → Type 0
  LeavesFalse s t u = HasExactly env u (λ x. In env x s × MayFail env s t x (part_of x))

  -- what a slot holds is tested, and narrowed by what the test says; and so is a slot that holds the same
  pub record Narrows (t : SemType) (p q : Point) : Type 0 where
    pub slot : ℕ
    pub known : Known
    pub from : SemType
    pub holds : SemType
    pub fails : SemType
    pub of : p.of ≡ Some slot
    pub flow : p.flow ≡ Some known
    pub has : slice_get known slot ≡ Some (Some from)
    pub on_true : LeavesTrue from t holds
    pub on_false : LeavesFalse from t fails
    pub behind : Below env (told (Some (narrowed (with_twin slot p.twin) holds known)) (Some (narrowed (with_twin slot p.twin) fails known)) p) q

  -- ---- operations

  -- named workers begin with what is known of the variables that they capture
  abbrev pub CapturesFit : List Captured → Point → Type 0
  CapturesFit captured p = All (λ c. HasSome env (λ s. Sub env s (sem_of c.ty)) c.slot p.flow) captured

  module _ (around : Around) where
    -- what is stored is of the slot's declared type; wherever a panic lands nothing may be known of the slot
    abbrev pub Stores : ℕ → Point → Point → Type 0
    Stores slot p q =
        IsFree slot p.base × (t : SemType) × (slice_get around.slots slot ≡ Some t) × Below env (stored slot t p) q

    -- a slot is loaded only where it holds a value
    abbrev pub Loads : ℕ → Point → Point → Type 0
    Loads slot p q = HasSome env (λ s. ⊤) slot p.flow × Below env (loaded slot p) q

    -- nothing more is known behind it
    abbrev pub Keeps : Point → Point → Type 0
    Keeps p q = Below env (plain p.flow p.base) q

    -- nothing comes behind it
    abbrev pub Ends : Point → Point → Type 0
    Ends p q = Below env (plain None p.base) q

    abbrev pub Gives : Bool → Point → Point → Type 0
    Gives true p q = Below env (told p.flow None (plain p.flow p.base)) q
    Gives false p q = Below env (told None p.flow (plain p.flow p.base)) q

    abbrev pub DoesFlow : Operation → Point → Point → Type 0
    DoesFlow (operation.Store slot) p q = Stores slot p q
    DoesFlow (operation.Load slot) p q = Loads slot p q
    DoesFlow (operation.Test t) p q = Narrows t p q ⊎ Keeps p q
    DoesFlow operation.Not p q = Below env (told p.on_false p.on_true p) q
    DoesFlow (operation.Const (constant.Bool b)) p q = Gives b p q
    DoesFlow operation.Return p q = Ends p q
    DoesFlow operation.Panic p q = Ends p q
    DoesFlow operation.Workers p q = CapturesFit around.captured p × Keeps p q
    DoesFlow op p q = Keeps p q

    -- a variable is loaded as what it is narrowed to only where it is known to hold such a value
    abbrev pub GetsFlow : ℕ → Option SemType → Point → Point → Type 0
    GetsFlow slot None p q = Loads slot p q
    GetsFlow slot (Some t) p q = HasSome env (λ s. Sub env s t) slot p.flow × Loads slot p q

    abbrev pub TakesFlow : Bool → Point → Point → Type 0
    TakesFlow true p a = Below env (way p.on_true p) a
    TakesFlow false p a = Below env (way p.on_false p) a

    -- This is known wherever a panic lands: no slot of which it says something is stored inside.
    pub record Guards (p a b q : Point) : Type 0 where
      pub kept : Flow
      pub is : FlowBelow env p.flow kept
      pub outer : BaseBelow env kept p.base
      pub begins : Below env (plain p.flow (Some kept)) a
      pub ends : b.base ≡ Some kept
      pub behind : Below env (plain kept p.base) q

    pub record Closes (b q : Point) : Type 0 where
      pub kept : Flow
      pub around_it : Option Flow
      pub outer : BaseBelow env kept around_it
      pub ends : b.base ≡ Some kept
      pub behind : Below env (plain kept around_it) q

    -- at p a trap may be opened
    pub record Opens (p a : Point) : Type 0 where
      pub kept : Flow
      pub is : FlowBelow env p.flow kept
      pub outer : BaseBelow env kept p.base
      pub begins : Below env (plain p.flow (Some kept)) a

    abbrev pub flow_ways : Ways Point
    flow_ways =
        record {
          comes = Below env;
          does = DoesFlow;
          gets = GetsFlow;
          takes = TakesFlow;
          guards = Guards;
          stops = Ends;
          closes = Closes;
          ends = λ p. FlowBelow env p.flow None;
          arrives = λ p a. (p ≡ a) ⊎ Opens p a;
        }
