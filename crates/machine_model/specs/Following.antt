-- That each frame of one machine is followed by one of another, so that both ask for the same.
use Rattle.std.specs.Prelude.{◌≡◌, ◌↔◌, ℕ, List, ◌∷◌, Option, Some, None, ⊤}
use Rattle.bal_base.specs.declared.text.Text.{Text}
use Rattle.operations.specs.declared.operation.Operation.{Operation}
use Rattle.operations.specs.declared.operation.Operation.TheVariants.{Return, Panic}
use Rattle.operations.specs.Talk.{talk_of}
use Rattle.value_model.specs.declared.value.Value.{Value}
use Rattle.value_model.specs.Meaning.{Answers}
use Rattle.op_model.specs.Common.{Common, Caller}
use Rattle.op_model.specs.ProgramFacts.{ProgramFacts}
use Rattle.op_model.specs.Effects.{Effect, Gives}
use Rattle.op_model.specs.Performs.{Performs}
use Rattle.machine_model.specs.Machine.{Machine, Ask, On, Does, Stuck, Frame, State}
use Rattle.machine_model.specs.Runs.{AreWords, Running, IsReached}

-- the operation ends its frame, so that nothing is awaited
abbrev pub EndsFrame : Operation → Type 0
EndsFrame Return = ⊤
EndsFrame Panic = ⊤
EndsFrame op = ⊥

-- on the same operands they come to the same
abbrev pub AreAlike : ProgramFacts → Answers → Operation → Operation → Type 0
AreAlike facts natives op other =
    (vs : List Value) (caller : Caller) (c : Common) (effect : Effect) → Performs facts natives op vs caller c effect ↔ Performs facts natives other vs caller c effect

-- ---- steps that change nothing that is shared

module _ {C : Type 0} (natives : Answers) (M : Machine C) (caller : Caller) (common : Common) where
  -- some steps lead from the first to the second: by itself, or by operations that here can only give this
  pub data Quiet : C → C → Type 0 where
    here : {a : C} → Quiet a a
    step : {a b c : C} → M.look caller.unit a ≡ On b → Quiet b c → Quiet a c
    pass : {a k c : C} {op : Operation} {vs ws : List Value} → M.look caller.unit a ≡ Does op vs k → Performs M.facts natives op vs caller common (Gives ws common) → ((effect : Effect) → Performs M.facts natives op vs caller common effect → effect ≡ Gives ws common) → Quiet (M.resume k ws) c → Quiet a c

-- a frame of this unit comes by itself to what it asks
module _ {C : Type 0} (M : Machine C) (unit : ℕ) where
  pub data Settles : C → Type 0 where
    asks : {a k : C} {op : Operation} {vs : List Value} → M.look unit a ≡ Does op vs k → Settles a
    stuck : {a : C} → M.look unit a ≡ Stuck → Settles a
    on : {a b : C} → M.look unit a ≡ On b → Settles b → Settles a

-- ---- frames that follow frames, where `Follows` says which do

abbrev pub Both : {A B : Type 0} → (A → B → Type 0) → Option A → Option B → Type 0
Both P (Some a) (Some b) = P a b
Both P (Some a) None = ⊥
Both P None (Some b) = ⊥
Both P None None = ⊤

module _ {A B : Type 0} (M : Machine A) (N : Machine B) (Follows : A → B → Type 0) where
  -- whatever a call gives, both go on alike
  pub record Await (a : A) (b : B) : Type 0 where
    pub resumes : (vs : List Value) → Follows (M.resume a vs) (N.resume b vs)
    pub catches : (e : Value) → Both Follows (M.catch a e) (N.catch b e)

  -- and so where the first asked for the operation and the second for the other one, which says the same to other workers: a and b
  -- ask again where it can't be done yet, k and m await its result
  pub record Held (op other : Operation) (a : A) (b : B) (k : A) (m : B) : Type 0 where
    pub talk : talk_of other ≡ talk_of op
    pub waits : (¬ (EndsFrame op)) → Follows a b
    pub resumes : (¬ (EndsFrame op)) → (vs : List Value) → Follows (M.resume k vs) (N.resume m vs)
    pub catches : (e : Value) → Both Follows (M.catch k e) (N.catch m e)

  -- the second machine comes to what the first one, at a, asks, or to an operation that comes to the same
  abbrev pub ComesTo : Answers → Caller → Common → A → Ask A → B → Type 0
  ComesTo natives caller c a (On x) b = (d : B) × Quiet natives N caller c b d × Follows x d
  ComesTo natives caller c a (Does op vs k) b =
      (d : B) × (m : B) × (other : Operation) × Quiet natives N caller c b d × (N.look caller.unit d ≡ Does other vs m)
      × AreAlike N.facts natives op other × Held op other a d k m
  ComesTo natives caller c a Stuck b = (d : B) × Quiet natives N caller c b d × (N.look caller.unit d ≡ Stuck)

-- what holds of the running frame of each state that is reached on words that are texts, as far as the second machine needs it
abbrev pub AreFine : {A : Type 0} → Answers → Machine A → (Common → A → Type 0) → Type 0
AreFine {A} natives M Fine =
    (words : List Text) (input : List ℕ) (ticks : ℕ) (s : State A) (f : Frame A) (fs : List (Frame A)) → AreWords words →
    IsReached natives M words input ticks Running s → s.frames ≡ f ∷ fs → Fine s.common f.control

-- each frame of the first machine of which this holds is followed by one of the second
module _ {A B : Type 0} (natives : Answers) (M : Machine A) (N : Machine B) (Follows : A → B → Type 0) (Fine : Common → A → Type 0) where
  pub record FramesFollow : Type 0 where
    pub facts : M.facts ≡ N.facts
    pub launch : M.launch ≡ N.launch
    pub enters : (unit : ℕ) (args : List Value) → Both Follows (M.enter unit args) (N.enter unit args)
    pub answers : (caller : Caller) (c : Common) (a : A) (b : B) → Fine c a → Follows a b → ComesTo M N Follows natives caller c a (M.look caller.unit a) b
