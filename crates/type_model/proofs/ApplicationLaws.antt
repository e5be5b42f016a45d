-- The least result of an application is below every result type that the functions have.
use Rattle.std.proofs.Common.{List, Option, Some, None, IsSomeAnd, false, sym, subst}
use Rattle.std.proofs.lemmas.List.Elements.{All-contains}
use Rattle.bal_base.specs.declared.shape.Shape.{Shape, Function}
use Rattle.bal_base.specs.Shapes.{graph_list}
use Rattle.type_model.specs.declared.basic.SemType.{SemType}
use Rattle.type_model.specs.declared.atoms.AtomDef.{AtomDef}
use Rattle.type_model.specs.declared.atoms.AtomDef.TheVariants.{Arrow}
use Rattle.type_model.specs.Membership.{In, Fits}
use Rattle.type_model.specs.Inclusion.{Sub}
use Rattle.type_model.specs.Application.{Answers, IsBelowArrow, IsLeastResult, IsOutside}
use Rattle.type_model.specs.Elements.{CaseMaps}
use Rattle.type_model.proofs.Unfolding.{Fits-Function}

module _ (env : List AtomDef) (args r : SemType) where
  -- a function that fits the arrow args -> r answers arguments in args by a result in r
  pub Answers-in : (f arguments : Shape) (answer : Option Shape) → Fits env f (Arrow args r false) → Answers f arguments answer → In env arguments args → IsSomeAnd answer (λ x. In env x r)
  Answers-in (Function isolated graph) arguments answer fits h i =
      let maps = ((Fits-Function env isolated graph (Arrow args r false)).0 fits).1 in
      let case = All-contains (CaseMaps env args r) (graph_list graph) h.0 maps h.1 in
      subst (λ o. IsSomeAnd o (λ x. In env x r)) h.3 (case (subst (λ a. In env a args) (sym h.2) i))
  Answers-in _ arguments answer fits h i = absurd h

module _ (env : List AtomDef) (f args : SemType) where
  pub IsLeastResult-Sub : (r q : SemType) → IsLeastResult env f args r → IsBelowArrow env f args q → Sub env r q
  IsLeastResult-Sub r q is below x v i =
      let result = is.least x v i in
      let g = result.2.0 in
      Answers-in env args q g result.0 (Some x) (below g result.2.1.0 result.2.1.1) result.2.2 result.1.1

  -- where some arguments are outside the domain, there is no result type
  pub IsOutside-no_result : (arguments : Shape) (q : SemType) → IsOutside env f args arguments → ¬ IsBelowArrow env f args q
  IsOutside-no_result arguments q out below =
      let g = out.1.0 in
      Answers-in env args q g arguments None (below g out.1.1.0 out.1.1.1) out.1.2 out.0.1
