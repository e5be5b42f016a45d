-- Facts of one machine's frames that ride on what another machine keeps, whose frames follow.
use Rattle.std.specs.Prelude.{◌≡◌, ℕ, suc, List, [], ◌∷◌, Option, Some, None, length, ⊤}
use Rattle.value_model.specs.declared.value.Value.{Value}
use Rattle.value_model.specs.Meaning.{Answers}
use Rattle.op_model.specs.Common.{Common, Role}
use Rattle.op_model.specs.Effects.{Effect, Gives, Fails, Waits, Enters, Leaves, Spawns, NoTick, Beyond, Spawned}
use Rattle.op_model.specs.Performs.{Performs}
use Rattle.machine_model.specs.Machine.{Machine, Ask, On, Does, Stuck, Frame, goes_to}
use Rattle.machine_model.specs.Runs.{Phase, Running}
use Rattle.machine_model.specs.Following.{Await}
use Rattle.machine_model.specs.Keeping.{Invariant}

-- the same call of the other machine
abbrev pub beside : {A B : Type 0} → Frame A → B → Frame B
beside f b = record { unit = f.unit; role = f.role; control = b }

-- the call that goes on so
abbrev pub call_of : {A : Type 0} → ℕ → Option Role → A → Frame A
call_of unit role a = record { unit = unit; role = role; control = a }

-- `I` is what the second machine keeps, whose frames follow those of the first where `Fine` holds of these.
-- `Flows` and `FlowsBehind` are what is to hold besides of frames of the first: of one that is about to go on, and of one
-- that awaits the result of a unit.
module _ {A B : Type 0} (natives : Answers) (M : Machine A) (N : Machine B) (Follows : A → B → Type 0) (Fine : Common → A → Type 0)
    (I : Invariant B) (Flows : Common → Frame A → Type 0) (FlowsBehind : Common → Frame A → ℕ → Type 0) where
  -- a frame of the second machine goes along, and fits
  pub record Along (c : Common) (n depth : ℕ) (f : Frame A) : Type 0 where
    pub other : B
    pub follows : Follows f.control other
    pub fits : I.fits c n depth (beside f other)

  -- one goes along that awaits the result too
  pub record AlongBelow (c : Common) (n depth : ℕ) (f : Frame A) (callee : ℕ) : Type 0 where
    pub other : B
    pub follows : Await M N Follows f.control other
    pub awaits : I.awaits c n depth (beside f other) callee

  -- what the first machine keeps
  abbrev pub along : Invariant A
  along =
      record {
        good = I.good;
        nearly = I.nearly;
        later = I.later;
        fits = λ c n depth f. Along c n depth f × Flows c f;
        awaits = λ c n depth f callee. AlongBelow c n depth f callee × FlowsBehind c f callee;
        holds = I.holds;
        throws = I.throws;
        lowest = I.lowest;
        gone = I.gone;
      }

  -- ---- what is asked of these facts: each time the other machine's frame is known to fit already

  abbrev pub FlowsIf : Common → (n depth : ℕ) → Frame A → Type 0
  FlowsIf c n depth f = Along c n depth f → Flows c f

  abbrev pub FlowsBegin : Common → (n depth : ℕ) → ℕ → List Value → Option Role → Type 0
  FlowsBegin c n depth unit args role = (x : A) → M.enter unit args ≡ Some x → FlowsIf c n depth (call_of unit role x)

  -- the strands that are made have the numbers from n on
  abbrev pub AllFlow : Common → ℕ → List Spawned → Type 0
  AllFlow c n [] = ⊤
  AllFlow c n (s ∷ ss) = FlowsBegin c n 1 s.unit s.args s.role × AllFlow c (suc n) ss

  -- where the frame f at this depth of the running strand asked and k awaits the result
  abbrev pub EffectFlows : Common → ℕ → Frame A → A → Effect → Type 0
  EffectFlows c depth f k (Gives vs d) = I.later None c d → FlowsIf d c.running depth (goes_to f (M.resume k vs))
  EffectFlows c depth f k (Fails e d) = I.later None c d → (x : A) → M.catch k e ≡ Some x → FlowsIf d c.running depth (goes_to f x)
  EffectFlows c depth f k (Waits need) = ⊤
  EffectFlows c depth f k (Enters unit args d) = I.later None c d → FlowsBegin d c.running (suc depth) unit args None × FlowsBehind d (goes_to f k) unit
  EffectFlows c depth f k (Leaves v) = ⊤
  EffectFlows c depth f k (Spawns ss role vs d) =
      I.later None c d → FlowsIf d c.running depth (call_of f.unit role (M.resume k vs)) × AllFlow d (length c.strands) ss
  EffectFlows c depth f k NoTick = ⊤
  EffectFlows c depth f k (Beyond limit) = ⊤

  abbrev pub AskFlows : Common → ℕ → Frame A → Ask A → Type 0
  AskFlows c depth f (On x) = FlowsIf c c.running depth (goes_to f x)
  AskFlows c depth f (Does op vs k) =
      (effect : Effect) → Performs M.facts natives op vs (record { unit = f.unit; role = f.role; depth = depth }) c effect → EffectFlows c depth f k effect
  AskFlows c depth f Stuck = ⊤

  pub record FlowsKept : Type 0 where
    -- they are what the second machine needs
    pub fine : (c : Common) (depth : ℕ) (f : Frame A) → I.good Running c → Along c c.running depth f → Flows c f → Fine c f.control
    pub asks : (c : Common) (depth : ℕ) (f : Frame A) → I.good Running c → Along c c.running depth f → Flows c f → AskFlows c depth f (M.look f.unit f.control)
    pub resumes : (c : Common) (n depth : ℕ) (f : Frame A) (callee : ℕ) (v : Value) → AlongBelow c n depth f callee → FlowsBehind c f callee → I.holds c v callee → FlowsIf c n depth (goes_to f (M.resume f.control (v ∷ [])))
    pub catches : (c : Common) (n depth : ℕ) (f : Frame A) (callee : ℕ) (e : Value) → AlongBelow c n depth f callee → FlowsBehind c f callee → I.throws c e → (x : A) → M.catch f.control e ≡ Some x → FlowsIf c n depth (goes_to f x)
    -- they stay
    pub stays : (c d : Common) (n depth : ℕ) (f : Frame A) → I.later f.role c d → Along c n depth f → Flows c f → Flows d f
    pub stays_behind : (c d : Common) (n depth : ℕ) (f : Frame A) (callee : ℕ) → I.later f.role c d → AlongBelow c n depth f callee → FlowsBehind c f callee → FlowsBehind d f callee
    -- the units that strand 0 runs begin so
    pub begins : (phase : Phase) (c : Common) (n unit : ℕ) (args : List Value) → I.good phase c → FlowsBegin c n 1 unit args None
