use Rattle.std.proofs.Common.{All, [], map, sym, ◌∙◌, subst}
use Rattle.std.proofs.lemmas.List.Elements.{All-weaker}
use Rattle.type_diagrams.specs.declared.kind.Kind.TheVariants.{Future as Futures}
use Rattle.type_diagrams.specs.Conditions.{AreOne, asks}
use Rattle.type_diagrams.specs.Members.{atoms_in}
use Rattle.type_diagrams.specs.Tables.{condition}
use Rattle.type_diagrams.proofs.Shapes.{IfOk-map}
use Rattle.empty_arrow.specs.Parts.{HasPart, part_of}
use Rattle.empty_arrow.specs.Results.{TellsResults}
use Rattle.empty_arrow.proofs.FutureResults.{no_marked_future}
use Rattle.empty_arrow.proofs.FutureTurns.{results-Turns}
use Rattle.empty_arrow.proofs.PartLaws.{future-HasPart}
use Rattle.type_diagrams.proofs.PathShapes.{IsAtomOf, atoms-are}
use Rattle.type_diagrams.proofs.AskedDiagrams.{then_all}
use Rattle.empty_arrow.proofs.futures.fut_shape.Goals as goal

pub within_parts-requires : goal.within_parts-requires
within_parts-requires g c =
    let env = c.args.env.now in
    subst (All (HasPart env)) (sym (c.deref.ensures.value ∙ c.in_ok-wanted.ensures))
    (All-weaker (IsAtomOf env Futures) (HasPart env) (future-HasPart env) (atoms_in c.args.path.now.pos) (atoms-are env Futures c.args.path.now.pos c.requires.literals.holding))

pub results-requires-clause-atoms : goal.results-requires-clause-atoms
results-requires-clause-atoms g c =
    let env = c.args.env.now in
    subst (All (HasPart env)) (sym (c.deref-2.ensures.value ∙ c.in_ok-unwanted.ensures))
    (All-weaker (IsAtomOf env Futures) (HasPart env) (future-HasPart env) (atoms_in c.args.path.now.neg) (atoms-are env Futures c.args.path.now.neg c.requires.literals.failing))

pub returns-then-is_marked-clause-turns : goal.returns-then-is_marked-clause-turns
returns-then-is_marked-clause-turns g c =
    λ x on. absurd (no_marked_future c.args.env.now c.in_ok-all.ensures.few c.args.path.now (sym c.is_marked.ensures ∙ c.if-is_marked.true) x on.1)

pub returns-clause-extends : goal.returns-clause-extends
returns-clause-extends g c = then_all _ _ _ _ c.within_parts.ensures.extends c.results.ensures.extends

pub returns-clause-turns : goal.returns-clause-turns
returns-clause-turns g c =
    let env = c.args.env.now in
    let p = c.args.path.now in
    let kept = g.M.Member.kept c.args.m.now in
    let all = condition c.within_parts.new.dia c.in_ok-all.all in
    let is = subst (λ ws. AreOne all (asks (map (part_of env) ws) [])) (c.deref.ensures.value ∙ c.in_ok-wanted.ensures) c.in_ok-all.ensures.made.condition in
    let unwanted = c.deref-2.ensures.value ∙ c.in_ok-unwanted.ensures in
    IfOk-map _ _ (λ turn h. results-Turns env c.in_ok-all.ensures.few c.results.new.dia kept p
    (atoms-are env Futures p.pos c.requires.literals.holding)
    (atoms-are env Futures p.neg c.requires.literals.failing)
    all is (sym c.is_marked.ensures ∙ c.if-is_marked.false) turn
    (subst (λ us. TellsResults env c.results.new.dia kept all us turn) unwanted h))
    c.results.result c.results.ensures.tells
