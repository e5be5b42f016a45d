-- Workers whose types name only atoms that are there.
use Rattle.std.specs.Prelude.{All}
use Rattle.type_model.specs.Defined.{IsDefined}
use Rattle.worker_pairing.specs.Faults.{Atoms}
use Rattle.worker_pairing.specs.Marks.{Member, Members}

-- of a worker what is sent, received and returned
pub record IsMemberDefined (env : Atoms) (m : Member) : Type 0 where
  pub sayings : All (λ s. IsDefined env s.type) m.sayings
  pub returns : All (λ r. IsDefined env r.type) m.returns
  pub result : IsDefined env m.result

abbrev pub AreDefined : Atoms → Members → Type 0
AreDefined env ms = All (IsMemberDefined env) ms
