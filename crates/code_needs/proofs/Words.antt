-- What is within a kind, and results that have all of a kind or a type.
use Rattle.std.proofs.Common.{List, Option}
use Rattle.type_model.specs.declared.atoms.AtomDef.{AtomDef}
use Rattle.type_model.specs.declared.basic.SemType.{SemType}
use Rattle.type_model.specs.Membership.{In}
use Rattle.operations.specs.Rows.{IsWithin, ResultHas}
use Rattle.code_needs.specs.declared.kind.Kind.{Kind}
use Rattle.code_needs.specs.Needs.{Has, IsOfKind, Within}
use Rattle.code_needs.specs.RowNeeds.{has, has_all, within}
use Rattle.code_needs.proofs.Combined.{Decided, met-all_of, met-given, met-need}

module _ (env : List AtomDef) where
  pub met-within : (s : SemType) (kind : Kind) → Decided env (IsWithin env (IsOfKind kind) s) (within s kind)
  met-within s kind = met-need env (Within s kind)

  pub met-has : (result : Option SemType) (kind : Kind) → Decided env (ResultHas env result (IsOfKind kind)) (has result kind)
  met-has result kind = met-given env result (λ r. met-need env (Has r kind))

  pub met-has_all : (result : Option SemType) (t : SemType) → Decided env (ResultHas env result (λ x. In env x t)) (has_all result t)
  met-has_all result t = met-given env result (λ r. met-all_of env t r)
