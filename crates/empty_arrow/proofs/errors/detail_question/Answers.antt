use Rattle.std.proofs.Common.{◌∷◌, [], ◌++◌, map, ◌≡◌, ◌∙◌, subst}
use Rattle.type_diagrams.specs.Members.{atoms_in}
use Rattle.type_diagrams.specs.Questions.{mappings, readonly}
use Rattle.type_diagrams.specs.Whole.{Gives}
use Rattle.type_diagrams.proofs.Shapes.{IfOk-map}
use Rattle.empty_arrow.specs.Parts.{part_of}
use Rattle.type_diagrams.proofs.AskedDiagrams.{then_all}
use Rattle.empty_arrow.proofs.Details.{wanted-Gives, then_unwanted, detail_asked}
use Rattle.empty_arrow.proofs.errors.detail_question.Goals as goal

pub returns-in_err-mappings-clause-extends : goal.returns-in_err-mappings-clause-extends
returns-in_err-mappings-clause-extends c = then_all _ _ _ _ c.within_parts.ensures.extends c.within.ensures.extends

pub returns-in_err-marked-clause-extends : goal.returns-in_err-marked-clause-extends
returns-in_err-marked-clause-extends c = then_all _ _ _ _ c.within_parts.ensures.extends (then_all _ _ _ _ c.within.ensures.extends c.within-2.ensures.extends)

pub returns-clause-extends : goal.returns-clause-extends
returns-clause-extends c =
    then_all _ _ _ _ c.within_parts.ensures.extends (then_all _ _ _ _ c.within.ensures.extends (then_all _ _ _ _ c.within-2.ensures.extends c.outside_parts.ensures.extends))

pub returns-clause-made : goal.returns-clause-made
returns-clause-made c =
    let env = c.args.env.now in
    let wanted : c.deref.result.now ≡ atoms_in c.args.path.now.pos = c.deref.ensures.value ∙ c.in_ok-wanted.ensures in
    let unwanted : c.deref-2.result.now ≡ atoms_in c.args.path.now.neg = c.deref-2.ensures.value ∙ c.in_ok-unwanted.ensures in
    let all = map (part_of env) c.deref.result.now ++ mappings env ∷ readonly env ∷ [] in
    let no = map (part_of env) c.deref-2.result.now in
    let third = wanted-Gives env c.within_parts.new.dia c.within.new.dia c.within-2.new.dia c.deref.result.now c.in_ok-details.details c.in_ok-mappings.mappings c.in_ok-marked.marked c.in_ok-details.ensures.made c.in_ok-mappings.ensures.made c.in_ok-marked.ensures.made in
    IfOk-map _ _ (λ n g. subst (λ ws. Gives c.outside_parts.new.dia (detail_asked env ws (atoms_in c.args.path.now.neg)) n) wanted
    (subst (λ us. Gives c.outside_parts.new.dia (detail_asked env c.deref.result.now us) n) unwanted
    (then_unwanted env c.within_parts.new.dia c.within.new.dia c.within-2.new.dia [] 0 0 c.in_ok-marked.marked c.outside_parts.new.dia all no n third g)))
    c.outside_parts.result c.outside_parts.ensures.made
