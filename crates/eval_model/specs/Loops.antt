-- Loops: how they begin, their turns and rounds, and how statements leave them.
use Rattle.std.specs.Prelude.{◌+◌, ◌++◌, pos, negsuc, ℕ, List, [], ◌∷◌, None}
use Rattle.operations.specs.declared.library.LibraryCall.TheVariants.{ListLength}
use Rattle.operations.specs.declared.operation.Constant.TheVariants as constant
use Rattle.operations.specs.declared.operation.Operation.{Operation}
use Rattle.operations.specs.declared.operation.Operation.TheVariants.{Const, Load, Store, Tick, Add, Less, LessEqual, GetItem, Library}
use Rattle.typed_tree.specs.declared.stmt.RangeEnd.TheVariants.{Included, Excluded}
use Rattle.typed_tree.specs.declared.stmt.Source.{Source}
use Rattle.typed_tree.specs.declared.stmt.Source.TheVariants.{Range, List as ListSource}
use Rattle.typed_tree.specs.declared.stmt.TypedStmt.{TypedStmt}
use Rattle.eval_model.specs.Tasks.{Loop, AsLongAs, OverRange, OverList, These, Round, Task, Eval, Exec, Do, Get, Choose, Turn, Guard, dos, execs}

-- the int in the slot is one more
abbrev pub raises : ℕ → List Operation
raises slot = Load slot ∷ Const (constant.Int (pos 1)) ∷ Add ∷ Store slot ∷ []

-- the ends of a range are evaluated once; where the last int is included, whether one is left is kept as well. The index of
-- a list begins before its first item
abbrev pub begins_loop : ℕ → Source → List TypedStmt → List Task → List Task
begins_loop slot (Range own Included from to) body ts =
    Eval from.value ∷ Do (Store own) ∷ Eval to.value ∷ Do (Store (own + 1))
    ∷ dos (Load own ∷ Load (own + 1) ∷ LessEqual ∷ Store (own + 2) ∷ []) (Turn (OverRange Included slot own body) ∷ ts)
begins_loop slot (Range own Excluded from to) body ts =
    Eval from.value ∷ Do (Store own) ∷ Eval to.value ∷ Do (Store (own + 1)) ∷ Turn (OverRange Excluded slot own body) ∷ ts
begins_loop slot (ListSource own list) body ts =
    Eval list.value ∷ dos (Store own ∷ Const (constant.Int (negsuc 0)) ∷ Store (own + 1) ∷ []) (Turn (OverList slot own body) ∷ ts)

-- whether there is a further round; the length of a list is read each time
abbrev pub tries : Loop → List Task → List Task
tries (AsLongAs condition body) ts = Eval condition ∷ ts
tries (OverRange Included slot own body) ts = Do (Load (own + 2)) ∷ ts
tries (OverRange Excluded slot own body) ts = dos (Load own ∷ Load (own + 1) ∷ Less ∷ []) ts
tries (OverList slot own body) ts =
    dos (raises (own + 1) ++ Load (own + 1) ∷ Load own ∷ Library ListLength None 1 ∷ Less ∷ []) ts

-- a tick is spent before each turn is tried
abbrev pub turn : Loop → List Task → List Task
turn loop ts = Do Tick ∷ tries loop (Choose (Round loop) (These []) ∷ ts)

-- the variable gets its value, and then the body is done. Where the last int is included it is not raised, so that it may
-- be the greatest one
abbrev pub round : Loop → List Task → List Task
round (AsLongAs condition body) ts = execs body ts
round (OverRange Included slot own body) ts =
    dos (Load own ∷ Store slot ∷ Load own ∷ Load (own + 1) ∷ Less ∷ Store (own + 2) ∷ Load (own + 2) ∷ [])
    (Choose (These (raises own)) (These []) ∷ execs body ts)
round (OverRange Excluded slot own body) ts = dos (Load own ∷ Store slot ∷ raises own) (execs body ts)
round (OverList slot own body) ts = dos (Load own ∷ Load (own + 1) ∷ GetItem ∷ Store slot ∷ []) (execs body ts)

-- ---- `break` and `continue`

-- behind the innermost loop
abbrev pub behind_loop : List Task → List Task
behind_loop [] = []
behind_loop (Turn loop ∷ ts) = ts
behind_loop (Eval e ∷ ts) = behind_loop ts
behind_loop (Exec s ∷ ts) = behind_loop ts
behind_loop (Do op ∷ ts) = behind_loop ts
behind_loop (Get slot narrowed ∷ ts) = behind_loop ts
behind_loop (Choose first second ∷ ts) = behind_loop ts
behind_loop (Guard vs ∷ ts) = behind_loop ts

-- from the next turn of the innermost loop on
abbrev pub from_loop : List Task → List Task
from_loop [] = []
from_loop (Turn loop ∷ ts) = Turn loop ∷ ts
from_loop (Eval e ∷ ts) = from_loop ts
from_loop (Exec s ∷ ts) = from_loop ts
from_loop (Do op ∷ ts) = from_loop ts
from_loop (Get slot narrowed ∷ ts) = from_loop ts
from_loop (Choose first second ∷ ts) = from_loop ts
from_loop (Guard vs ∷ ts) = from_loop ts
