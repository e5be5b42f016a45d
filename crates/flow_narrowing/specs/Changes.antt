-- Changes of what is known of variables: they are logged, undone where a way is left, and made again where it is entered anew.
use Rattle.std.specs.Prelude.{◌≡◌, ◌≤◌, ◌++◌, ◌==◌, if◌then◌else◌, Bool, ℕ, zero, suc, List, [], ◌∷◌, Option, None, drop, length, take}
use Rattle.std.specs.List.{list_any}
use Rattle.typed_tree.specs.SharedTypes.{Shared}
use Rattle.flow_narrowing.specs.declared.flow.Variable.{Variable}
use Rattle.flow_narrowing.specs.declared.changes.Change.{Change}

abbrev pub with_narrowed : Variable → Option Shared → Variable
with_narrowed v t =
    record { name = v.name; slot = v.slot; declared = v.declared; narrowed = t; fixed = v.fixed; assigned = v.assigned; captured = v.captured }

-- the variables, where the one at the index has this narrowed type
abbrev pub put : List Variable → ℕ → Option Shared → List Variable
put [] index t = []
put (v ∷ vs) zero t = with_narrowed v t ∷ vs
put (v ∷ vs) (suc index) t = v ∷ put vs index t

-- the narrowed type of the variable at the index
abbrev pub narrowed_at : List Variable → ℕ → Option Shared
narrowed_at [] index = None
narrowed_at (v ∷ vs) zero = v.narrowed
narrowed_at (v ∷ vs) (suc index) = narrowed_at vs index

-- the changes are taken back, the last one first: each variable gets what it had before
abbrev pub undone : List Change → List Variable → List Variable
undone [] vs = vs
undone (c ∷ cs) vs = put (undone cs vs) c.index c.was

-- what the changes give the variable at the index, the first one of it, or else t
abbrev pub told : List Change → ℕ → Option Shared → Option Shared
told [] index t = t
told (c ∷ cs) index t = if c.index == index then c.was else told cs index t

-- whether one of the changes is of the variable at the index
abbrev pub is_told : List Change → ℕ → Bool
is_told cs index = list_any (λ c. c.index == index) cs

-- Of the way that began where the log and the variables were these, the log has all that became of the variables: it has more at its
-- end, which takes that back. Behind them stand those that were declared in the way.
pub record Logs (old : List Change) (vs : List Variable) (new : List Change) (us : List Variable) : Type 0 where
  pub more : List Change
  pub behind : new ≡ old ++ more
  pub back : take (length vs) (undone more us) ≡ vs

-- the log has more at its end, which makes again what was taken back of the variables
pub record MakesAgain (old : List Change) (vs : List Variable) (new : List Change) (us : List Variable) : Type 0 where
  pub more : List Change
  pub behind : new ≡ old ++ more
  pub again : undone more us ≡ vs

-- ---- laws of logs

-- where a way begins nothing has become of the variables
abbrev pub LogsBegin : Type 0
LogsBegin = (log : List Change) (vs : List Variable) → Logs log vs log vs

-- what is logged in one call and then in another one is logged in both
abbrev pub LogsGoOn : Type 0
LogsGoOn =
    (first second third : List Change) (vs us ws : List Variable) → Logs first vs second us → Logs second us third ws → Logs first vs third ws

-- a block in the way ends, and what was declared in it goes
abbrev pub BlocksEnd : Type 0
BlocksEnd =
    (old new : List Change) (vs us : List Variable) (scope : ℕ) → length vs ≤ scope → Logs old vs new us → Logs old vs new (take scope us)

-- a way that is left leaves no trace
abbrev pub WaysLeaveNoTrace : Type 0
WaysLeaveNoTrace =
    (old new : List Change) (vs us : List Variable) → Logs old vs new us
    → (take (length old) new ≡ old) × (take (length vs) (undone (drop (length old) new) us) ≡ vs)
