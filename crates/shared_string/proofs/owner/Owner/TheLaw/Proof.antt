-- A `&` to an owner holds some share of the loan's token.
use denote.Param.Shared.{copy_shared}
use denote.Struct.Field.{RawPtr-field}
use denote.Struct.Laws.{RawPtr-copy}
use denote.Struct.Lending.{of_Lends}
use Rattle.shared_string.specs.contracts.owner.Owner as owner
use Rattle.shared_string.proofs.owner.Owner.TheLaw.Statement.{statement}
use Rattle.shared_string.proofs.Lending.{shares_laws, owner_lends}

pub shares : statement
shares = of_Lends owner.struct owner.the_codes owner.the_heap owner.the_lent (λ d p. shares_laws d.at d.text) (copy_shared RawPtr-field RawPtr-copy, tt) (λ M 𝓤 𝓛 d p. owner_lends d.at d.text 𝓛 owner.the_row.lives)
