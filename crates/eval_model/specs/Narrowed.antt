-- That a narrowed variable, wherever it is read, holds a value, and one of its narrower type; and that a body whose end isn't
-- reached isn't done.
use Rattle.std.specs.Prelude.{◌≡◌, ℕ, List, [], ◌∷◌, Some, None, slice_get, ⊤}
use Rattle.type_model.specs.declared.atoms.AtomDef.{AtomDef}
use Rattle.type_model.specs.declared.basic.SemType.{SemType}
use Rattle.typed_tree.specs.declared.package.TypedPackage.{TypedPackage}
use Rattle.value_model.specs.declared.filler.Filler.{Filler}
use Rattle.value_model.specs.declared.value.Value.{Value}
use Rattle.value_model.specs.Meaning.{Answers}
use Rattle.value_model.specs.Stands.{Belongs}
use Rattle.op_model.specs.Common.{Common}
use Rattle.op_model.specs.ProgramFacts.{ProgramFacts, own_types}
use Rattle.op_model.specs.Local.{Local, pushed}
use Rattle.machine_model.specs.Following.{AreFine}
use Rattle.machine_model.specs.Machine.{On}
use Rattle.eval_model.specs.Tasks.{Task, Eval, Exec, Do, Get, Choose, Turn, Guard, Doing, doing}
use Rattle.eval_model.specs.Trees.{next_of, trees}

-- the slot holds a value of the type
abbrev pub HoldsIn : ProgramFacts → Common → Local → ℕ → SemType → Value → Type 0
HoldsIn facts c l slot t v = (slice_get l.slots slot ≡ Some (Some v)) × Belongs (own_types facts) c.world.heap v t

-- if a variable is read next that is of a narrower type here, it holds a value of this type; and something is next
abbrev pub AreFineTasks : ProgramFacts → Common → Local → List Task → Type 0
AreFineTasks facts c l (Get slot (Some t) ∷ ts) = (v : Value) × HoldsIn facts c l slot t v
AreFineTasks facts c l (Get slot None ∷ ts) = ⊤
AreFineTasks facts c l (Eval e ∷ ts) = ⊤
AreFineTasks facts c l (Exec s ∷ ts) = ⊤
AreFineTasks facts c l (Do op ∷ ts) = ⊤
AreFineTasks facts c l (Choose first second ∷ ts) = ⊤
AreFineTasks facts c l (Turn loop ∷ ts) = ⊤
AreFineTasks facts c l (Guard vs ∷ ts) = ⊤
AreFineTasks facts c l [] = ⊥

abbrev pub IsFine : ProgramFacts → Common → Doing → Type 0
IsFine facts c d = AreFineTasks facts c d.local d.tasks

-- of each state that a package reaches: what flows say of its narrowed variables holds when they are read, and of its ends
abbrev pub NarrowsWell : Answers → List AtomDef → (ℕ → List Filler) → TypedPackage → Type 0
NarrowsWell natives atoms fillers p = let M = trees atoms fillers p in AreFine natives M (IsFine M.facts)

-- so it is read by itself, and what is read belongs to the narrower type
abbrev pub NarrowedReadsGoOn : Type 0
NarrowedReadsGoOn =
    (facts : ProgramFacts) (c : Common) (captured : List ℕ) (l : Local) (slot : ℕ) (t : SemType) (ts : List Task) → AreFineTasks facts c l (Get slot (Some t) ∷ ts) →
    (v : Value) × (next_of captured l (Get slot (Some t) ∷ ts) ≡ On (doing (pushed l v) ts)) × Belongs (own_types facts) c.world.heap v t
