-- Workers that wait for one another, in states of any machine.
use Rattle.std.specs.Prelude.{◌≡◌, ℕ, true, List, [], ◌∷◌, Some, IsSomeAnd, All, Any, Contains, slice_get}
use Rattle.bal_base.specs.declared.text.Text.{Text}
use Rattle.value_model.specs.Meaning.{Answers}
use Rattle.op_model.specs.Common.{Need, IsBlocked}
use Rattle.op_model.specs.Strands.{activation_at, has_ended, strand_at}
use Rattle.machine_model.specs.Machine.{Machine, State}
use Rattle.machine_model.specs.Runs.{AreWords, Picking, Phase, IsReached, next_operation}
use Rattle.machine_model.specs.Strands.{IsUnfinished, frames_of, role_of, top_role}
use Rattle.operations.specs.Talk.{Talk, Sends, Receives, Flushes, StartsWorkers, AwaitsWorkers, NoTalk, talk_of}

-- whose events an operation awaits
abbrev pub awaited_workers : Talk → List ℕ
awaited_workers (Sends w) = []
awaited_workers (Receives w) = w ∷ []
awaited_workers (Flushes w) = w ∷ []
awaited_workers StartsWorkers = []
awaited_workers (AwaitsWorkers ws) = ws
awaited_workers NoTalk = []

-- strand n is blocked in the worker w of the activation a, where it is to do this
pub record StopsAt {C : Type 0} (M : Machine C) (s : State C) (a w n : ℕ) (talk : Talk) : Type 0 where
  pub runs : slice_get (activation_at s.common a).strands w ≡ Some n
  pub need : Need
  pub blocked : (strand_at s.common n).status ≡ IsBlocked need
  pub role : top_role (frames_of s n) ≡ Some (role_of a w)
  pub next : IsSomeAnd (next_operation M (frames_of s n)) (λ o. talk_of o.0 ≡ talk)

-- in the activation a the worker w is blocked where it awaits the worker u, which is unfinished
pub record Waits {C : Type 0} (M : Machine C) (s : State C) (a w u : ℕ) : Type 0 where
  pub strand : ℕ
  pub talk : Talk
  pub stops : StopsAt M s a w strand talk
  pub awaits : Contains (awaited_workers talk) u
  pub unfinished : IsUnfinished s.common a u

-- no workers of an activation, but none at all, are unfinished and wait each for another of them
abbrev pub HasNoRing : {C : Type 0} → Machine C → State C → ℕ → Type 0
HasNoRing M s a = (ws : List ℕ) → All (λ w. IsUnfinished s.common a w × Any (λ u. Waits M s a w u) ws) ws → ws ≡ []

-- at no time
abbrev pub NeverRings : Answers → {C : Type 0} → Machine C → Type 0
NeverRings natives {C} M =
    (words : List Text) (input : List ℕ) (ticks : ℕ) (phase : Phase) (s : State C) → AreWords words →
    IsReached natives M words input ticks phase s → (a : ℕ) → HasNoRing M s a

-- whenever no strand is ready to be picked, main has ended
abbrev pub NeverStalls : Answers → {C : Type 0} → Machine C → Type 0
NeverStalls natives {C} M =
    (words : List Text) (input : List ℕ) (ticks : ℕ) (s : State C) → AreWords words →
    IsReached natives M words input ticks Picking s → s.common.ready ≡ [] → has_ended s.common 0 ≡ true
