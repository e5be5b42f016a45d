use Rattle.std.proofs.Common.{⊎_elim, refl, sym, ◌∙◌}
use Rattle.std.proofs.lemmas.Bool.{false≢true}
use Rattle.std.specs.List.{Any}
use Rattle.type_diagrams.proofs.AskedDiagrams.{then_all}
use Rattle.type_diagrams.proofs.Shapes.{IfOk-map}
use Rattle.empty_product.specs.KeyBases.{IsApartAt, IsApartBy, fields_of}
use Rattle.empty_product.proofs.MappingQuestions.{named-out, out-somewhere, own-out}
use Rattle.empty_product.proofs.mapping_atoms.is_out_of_play.Goals as goal

pub returns-then-branch-clause-out : goal.returns-then-branch-clause-out
returns-then-branch-clause-out c =
    (λ _. named-out c.args.env.now c.args.wanted.now c.args.atom c.args.dia.now c.args.bases.now c.requires.bases (c.in_ok-is_apart_at_named.ensures.apart.0 c.if-branch.true), λ _. refl)

pub returns-clause-extends : goal.returns-clause-extends
returns-clause-extends c = then_all _ _ _ _ c.is_apart_at_named.ensures.extends c.is_apart_at_own.ensures.extends

pub returns-clause-out : goal.returns-clause-out
returns-clause-out c =
    let env = c.args.env.now in
    let wanted = c.args.wanted.now in
    let a = c.args.atom in
    IfOk-map _ _ (λ r e. (
      λ h. own-out env wanted a (e.0 h),
      λ out. ⊎_elim
          (λ (n : Any (IsApartAt env c.args.dia.now a) c.args.bases.now). absurd (false≢true (sym c.if-branch.false ∙ c.in_ok-is_apart_at_named.ensures.apart.1 n)))
          (λ (o : Any (IsApartBy env wanted a) (fields_of env a)). e.1 o)
          (out-somewhere env wanted a c.args.dia.now c.args.bases.now c.requires.bases out),
    )) c.is_apart_at_own.result c.is_apart_at_own.ensures.apart
