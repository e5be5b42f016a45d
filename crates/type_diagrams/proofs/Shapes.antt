-- What the condition of a diagram says of its shapes.
use Rattle.std.proofs.Common.{◌↔◌, ◌⊎◌, ℕ, ◌≤◌, List, length, Result, Ok, Err, IfOk, sym, subst, ◌∙◌}
use Rattle.type_model.specs.declared.basic.SemType.{SemType}
use Rattle.type_model.specs.declared.atoms.AtomDef.{AtomDef}
use Rattle.type_model.specs.Membership.{In}
use Rattle.type_diagrams.specs.declared.operation.Operation.{Operation}
use Rattle.type_diagrams.specs.Operations.{meaning}
use Rattle.type_diagrams.specs.Kinds.{the_mark}
use Rattle.type_diagrams.specs.Conditions.{Condition, AreOne, condition_of, or_of, and_of, without, Meets}
use Rattle.type_diagrams.specs.Tables.{Table, condition}
use Rattle.type_diagrams.specs.Whole.{Keeps, Gives, IsMetWhere, combined}
use Rattle.type_diagrams.proofs.Meeting.{In-condition, Meets-or, Meets-and, Meets-without, Meets-same}
use Rattle.type_diagrams.proofs.Keeping.{length-grows}

through : {A B C : Type 0} → A ↔ B → B ↔ C → A ↔ C
through e f = (λ a. f.0 (e.0 a), λ c. e.1 (f.1 c))

swap : {A B : Type 0} → A ↔ B → B ↔ A
swap e = (λ b. e.1 b, λ a. e.0 a)

-- what follows of the value that a call gives
pub IfOk-map : {A E : Type 0} (P Q : A → Type 0) → ((a : A) → P a → Q a) → (r : Result A E) → IfOk r P → IfOk r Q
IfOk-map P Q f (Ok a) h = f a h
IfOk-map P Q f (Err e) h = h

module _ (t : Table) (c d : Condition) (n : ℕ) (env : List AtomDef) where
  pub or-IsMetWhere : Gives t (or_of c d) n → IsMetWhere env (condition t n) (λ x. Meets env c x ⊎ Meets env d x)
  or-IsMetWhere g x valid = through (Meets-same env (condition t n) (or_of c d) x valid g.condition) (Meets-or env c d x)

  pub and-IsMetWhere : Gives t (and_of c d) n → IsMetWhere env (condition t n) (λ x. Meets env c x × Meets env d x)
  and-IsMetWhere g x valid = through (Meets-same env (condition t n) (and_of c d) x valid g.condition) (Meets-and env c d x)

  pub without-IsMetWhere : Gives t (without c d) n → IsMetWhere env (condition t n) (λ x. Meets env c x × ¬ Meets env d x)
  without-IsMetWhere g x valid = through (Meets-same env (condition t n) (without c d) x valid g.condition) (Meets-without env c d x)

-- the shapes of the diagram of a type are those of the type
pub type-IsMetWhere : (t : Table) (env : List AtomDef) (s : SemType) (n : ℕ) → length env ≤ the_mark → Gives t (condition_of env s) n → IsMetWhere env (condition t n) (λ x. In env x s)
type-IsMetWhere t env s n small g x valid =
    through (Meets-same env (condition t n) (condition_of env s) x valid g.condition) (swap (In-condition env small x s))

-- conditions that count as one stay so under operations
pub one-further : (c d e : Condition) → AreOne c d → AreOne d e → AreOne c e
one-further c d e p q = record { simple = λ x s v. p.simple x s v ∙ q.simple x s v; by_kind = λ k v. p.by_kind k v ∙ q.by_kind k v }

pub combined-AreOne : (o : Operation) (c d e f : Condition) → AreOne c e → AreOne d f → AreOne (combined o c d) (combined o e f)
combined-AreOne o c d e f p q = record {
  simple = λ x s v. λ i. meaning o (p.simple x s v i) (q.simple x s v i);
  by_kind = λ k v. λ i. meaning o (p.by_kind k v i) (q.by_kind k v i);
}

-- a diagram has its condition still
pub gives-keeps : (old new : Table) (c : Condition) (a : ℕ) → Keeps old new → Gives old c a → Gives new c a
gives-keeps old new c a k g = record {
  diagram = length-grows old.diagrams new.diagrams a k.diagrams g.diagram;
  condition = subst (λ d. AreOne d c) (sym (k.conditions a g.diagram)) g.condition;
}

-- the result of an operation on diagrams of two conditions
pub combined-Gives : (old new : Table) (o : Operation) (c d : Condition) (a b n : ℕ) → Gives old c a → Gives old d b → Gives new (combined o (condition old a) (condition old b)) n → Gives new (combined o c d) n
combined-Gives old new o c d a b n ga gb gn = record {
  diagram = gn.diagram;
  condition = one-further (condition new n) (combined o (condition old a) (condition old b)) (combined o c d) gn.condition
      (combined-AreOne o (condition old a) (condition old b) c d ga.condition gb.condition);
}
