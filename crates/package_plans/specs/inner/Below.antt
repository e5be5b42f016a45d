-- Workers, as they are held, whose types name only the first atoms.
use Rattle.std.specs.Prelude.{ℕ, All}
use Rattle.type_model.specs.Defined.{NamesBelow}
use Rattle.typed_tree.specs.SharedTypes.{sem_of}
use Rattle.worker_members.specs.Held.{sem_said}
use Rattle.worker_members.specs.declared.held.HeldMember.{HeldMember}

pub record IsMemberBelow (n : ℕ) (m : HeldMember) : Type 0 where
  pub sayings : All (λ s. NamesBelow n (sem_said s.ty)) m.sayings.items
  pub returns : All (λ r. NamesBelow n (sem_said r.ty)) m.returns.items
  pub result : NamesBelow n (sem_of m.result.now)
