use Rattle.std.proofs.Common.{◌∷◌, [], ◌++◌, map, sym, ◌∙◌, subst}
use Rattle.std.proofs.lemmas.List.Elements.{All-weaker}
use Rattle.type_diagrams.specs.declared.kind.Kind.TheVariants.{Error as Errors}
use Rattle.bal_base.specs.Valid.{IsValid}
use Rattle.type_diagrams.specs.Conditions.{AreOne, asks, IsShapeOf}
use Rattle.type_diagrams.specs.Members.{atoms_in, detail_of}
use Rattle.type_diagrams.specs.Paths.{IsOnPath}
use Rattle.type_diagrams.specs.Questions.{mappings, readonly}
use Rattle.type_diagrams.specs.Tables.{condition}
use Rattle.empty_arrow.specs.Parts.{HasPart, part_of}
use Rattle.type_diagrams.specs.Finding.{IsFinding}
use Rattle.type_diagrams.proofs.Elements.{map-where}
use Rattle.type_diagrams.proofs.Tellings.{shared-IsShapeOf, held-HasLower}
use Rattle.empty_arrow.proofs.Details.{no_marked_error, error-on_path, path-detail, detail-lower, detail_in, detail_asked}
use Rattle.empty_arrow.proofs.PartLaws.{error-HasPart, error-part_of}
use Rattle.type_diagrams.proofs.PathShapes.{IsAtomOf, atoms-are}
use Rattle.empty_arrow.proofs.errors.err_shape.Goals as goal

pub detail_question-requires-clause-wanted : goal.detail_question-requires-clause-wanted
detail_question-requires-clause-wanted g c =
    let env = c.args.env.now in
    All-weaker (IsAtomOf env Errors) (HasPart env) (error-HasPart env) (atoms_in c.args.path.now.pos) (atoms-are env Errors c.args.path.now.pos c.requires.literals.holding)

pub detail_question-requires-clause-unwanted : goal.detail_question-requires-clause-unwanted
detail_question-requires-clause-unwanted g c =
    let env = c.args.env.now in
    All-weaker (IsAtomOf env Errors) (HasPart env) (error-HasPart env) (atoms_in c.args.path.now.neg) (atoms-are env Errors c.args.path.now.neg c.requires.literals.failing)

pub returns-then-is_marked-clause-turns : goal.returns-then-is_marked-clause-turns
returns-then-is_marked-clause-turns g c =
    λ x on. absurd (no_marked_error c.args.env.now c.in_ok-question.ensures.few c.args.path.now (sym c.is_marked.ensures ∙ c.if-is_marked.true) x on.1)

pub returns-in_ok-error-in-Part-clause-turns : goal.returns-in_ok-error-in-Part-clause-turns
returns-in_ok-error-in-Part-clause-turns g c =
    let env = c.args.env.now in
    let kept = g.M.Member.kept c.args.m.now in
    let q = c.in_ok-question.question in
    let told = subst (IsFinding kept q) c.in-Part.is c.in_ok-detail.ensures in
    let is = shared-IsShapeOf env c.args.dia.now c.detail_question.new.dia kept (detail_asked env (atoms_in c.args.path.now.pos) (atoms_in c.args.path.now.neg)) q c.in_ok-question.ensures.made c.requires.sound c.detail_question.ensures.extends.keeps c.in-Part.detail told in
    let made = c.in_ok-error-in-Part.ensures in
    subst (λ x. IsValid x × IsOnPath env Errors c.args.path.now x) (sym made.2)
    (error-on_path env c.in_ok-question.ensures.few c.args.path.now
    (atoms-are env Errors c.args.path.now.pos c.requires.literals.holding)
    (atoms-are env Errors c.args.path.now.neg c.requires.literals.failing)
    made.0 (sym c.is_marked.ensures ∙ c.if-is_marked.false)
    (subst (IsShapeOf env (detail_asked env (atoms_in c.args.path.now.pos) (atoms_in c.args.path.now.neg))) (sym made.1) is))

pub returns-in-Held-clause-turns : goal.returns-in-Held-clause-turns
returns-in-Held-clause-turns g c = λ x on.
    let env = c.args.env.now in
    let kept = g.M.Member.kept c.args.m.now in
    let q = c.in_ok-question.question in
    let told = subst (IsFinding kept q) c.in-Held.is c.in_ok-detail.ensures in
    held-HasLower env c.args.dia.now c.detail_question.new.dia kept (detail_asked env (atoms_in c.args.path.now.pos) (atoms_in c.args.path.now.neg)) q c.in_ok-question.ensures.made told x (detail_in x)
    (path-detail env c.in_ok-question.ensures.few c.args.path.now
    (atoms-are env Errors c.args.path.now.pos c.requires.literals.holding)
    (atoms-are env Errors c.args.path.now.neg c.requires.literals.failing) x on.0 on.1)
    (detail-lower env c.in_ok-question.ensures.few x on.1.kind)

pub returns-in-Unknown-clause-turns : goal.returns-in-Unknown-clause-turns
returns-in-Unknown-clause-turns g c =
    let env = c.args.env.now in
    let kept = g.M.Member.kept c.args.m.now in
    let q = c.in_ok-question.question in
    let told = subst (IsFinding kept q) c.in-Unknown.is c.in_ok-detail.ensures in
    let made = c.in_ok-question.ensures.made in
    let pos = map-where (IsAtomOf env Errors) (part_of env) (detail_of env) (error-part_of env) (atoms_in c.args.path.now.pos) (atoms-are env Errors c.args.path.now.pos c.requires.literals.holding) in
    let neg = map-where (IsAtomOf env Errors) (part_of env) (detail_of env) (error-part_of env) (atoms_in c.args.path.now.neg) (atoms-are env Errors c.args.path.now.neg c.requires.literals.failing) in (
      told,
      made.diagram,
      subst (λ ps. AreOne (condition c.detail_question.new.dia q) (asks (ps ++ mappings env ∷ readonly env ∷ []) (map (detail_of env) (atoms_in c.args.path.now.neg)))) pos
          (subst (λ ps. AreOne (condition c.detail_question.new.dia q) (asks (map (part_of env) (atoms_in c.args.path.now.pos) ++ mappings env ∷ readonly env ∷ []) ps)) neg made.condition),
    )
