-- That states of one machine are followed by states of another, frame by frame: the same is shared, and the same strands have
-- as many frames, of the same units and workers.
use Rattle.std.specs.Prelude.{◌≡◌, ◌⊎◌, ℕ, List, [], ◌∷◌, ⊤}
use Rattle.bal_base.specs.declared.text.Text.{Text}
use Rattle.operations.specs.declared.operation.Operation.{Operation}
use Rattle.value_model.specs.declared.value.Value.{Value}
use Rattle.value_model.specs.Meaning.{Answers}
use Rattle.op_model.specs.Common.{Common}
use Rattle.machine_model.specs.Following.{AreAlike, AreFine, Await, FramesFollow, Held, Quiet, Settles}
use Rattle.machine_model.specs.Machine.{Does, Frame, Machine, State, Stuck, caller}
use Rattle.machine_model.specs.Runs.{AreWords, IsReached, Phase, Picking, Running}

abbrev pub SameCall : {A B : Type 0} → Frame A → Frame B → Type 0
SameCall f g = (f.unit ≡ g.unit) × (f.role ≡ g.role)

module _ {A B : Type 0} (M : Machine A) (N : Machine B) (Follows : A → B → Type 0) where
  -- frames that await the end of a call
  abbrev pub BelowMatch : List (Frame A) → List (Frame B) → Type 0
  BelowMatch [] [] = ⊤
  BelowMatch (f ∷ fs) (g ∷ gs) = SameCall f g × Await M N Follows f.control g.control × BelowMatch fs gs
  BelowMatch [] (g ∷ gs) = ⊥
  BelowMatch (f ∷ fs) [] = ⊥

  abbrev pub FramesMatch : List (Frame A) → List (Frame B) → Type 0
  FramesMatch [] [] = ⊤
  FramesMatch (f ∷ fs) (g ∷ gs) = SameCall f g × Follows f.control g.control × BelowMatch fs gs
  FramesMatch [] (g ∷ gs) = ⊥
  FramesMatch (f ∷ fs) [] = ⊥

  abbrev pub OthersMatch : List (List (Frame A)) → List (List (Frame B)) → Type 0
  OthersMatch [] [] = ⊤
  OthersMatch (x ∷ xs) (y ∷ ys) = FramesMatch x y × OthersMatch xs ys
  OthersMatch [] (y ∷ ys) = ⊥
  OthersMatch (x ∷ xs) [] = ⊥

  abbrev pub StateMatch : State A → State B → Type 0
  StateMatch s t = (s.common ≡ t.common) × FramesMatch s.frames t.frames × OthersMatch s.others t.others

  -- both ask for what comes to the same on the same operands, or both can do nothing
  abbrev pub AskAlike : Answers → ℕ → A → B → Type 0
  AskAlike natives unit x y =
      ((op : Operation) × (vs : List Value) × (k : A) × (m : B) × (other : Operation) × (M.look unit x ≡ Does op vs k) × (N.look unit y ≡ Does other vs m) × AreAlike N.facts natives op other × Held M N Follows op other x y k m)
      ⊎ ((M.look unit x ≡ Stuck) × (N.look unit y ≡ Stuck))

  -- the running frame of the second comes quietly to where it asks for the same as that of the first
  abbrev pub TopsAlong : Answers → Common → List (Frame A) → List (Frame B) → Type 0
  TopsAlong natives c [] [] = ⊤
  TopsAlong natives c (f ∷ fs) (g ∷ gs) =
      SameCall f g × BelowMatch fs gs × ((d : B) × Quiet natives N (caller g gs) c g.control d × AskAlike natives f.unit f.control d)
  TopsAlong natives c [] (g ∷ gs) = ⊥
  TopsAlong natives c (f ∷ fs) [] = ⊥

  abbrev pub Alongside : Answers → Phase → State A → State B → Type 0
  Alongside natives Picking s t = StateMatch s t
  Alongside natives Running s t = (s.common ≡ t.common) × OthersMatch s.others t.others × TopsAlong natives t.common s.frames t.frames

-- each state that the second machine reaches goes along with one that the first reaches: with the same in common, the same
-- strands blocked, and each of their frames followed
abbrev pub ReachedFollow : {A B : Type 0} → Answers → Machine A → Machine B → (A → B → Type 0) → (Common → A → Type 0) → Type 0
ReachedFollow {A} {B} natives M N Follows Fine =
    FramesFollow natives M N Follows Fine → AreFine natives M Fine → ((unit : ℕ) (a : A) → Settles M unit a) →
    (words : List Text) (input : List ℕ) (ticks : ℕ) (phase : Phase) (t : State B) → AreWords words → IsReached natives N words input ticks phase t →
    (s : State A) × IsReached natives M words input ticks phase s × Alongside M N Follows natives phase s t
