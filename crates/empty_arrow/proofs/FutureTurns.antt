-- What is told of the results of a future path is said of the path.
use Rattle.std.proofs.Common.{◌≡◌, ℕ, ◌≤◌, List, [], ◌∷◌, map, length, false, All, Option, subst, sym}
use Rattle.std.proofs.lemmas.List.Elements.{All-contains}
use Rattle.bal_base.specs.declared.shape.Shape.{Shape}
use Rattle.type_model.specs.declared.atoms.AtomDef.{AtomDef}
use Rattle.type_diagrams.specs.declared.kind.Kind.TheVariants.{Future as Futures}
use Rattle.type_diagrams.specs.declared.path.Path.{Path}
use Rattle.type_diagrams.specs.declared.turn.Turn.{Turn}
use Rattle.type_diagrams.specs.declared.turn.Turn.TheVariants.{Shape as Found, Empty, Ask}
use Rattle.type_diagrams.specs.Kinds.{the_mark}
use Rattle.type_diagrams.specs.Conditions.{Condition, AreOne, without, asks}
use Rattle.type_diagrams.specs.Members.{atoms_in, results_of}
use Rattle.type_diagrams.specs.Questions.{IsMemberQuestion}
use Rattle.type_diagrams.specs.Tables.{Table, condition}
use Rattle.type_diagrams.specs.Turns.{Turns, IsShapeOn}
use Rattle.type_diagrams.proofs.Shapes.{one-further}
use Rattle.empty_arrow.specs.Parts.{part_of}
use Rattle.empty_arrow.specs.Results.{IsAvoidance, TellsResults}
use Rattle.type_diagrams.proofs.Asking.{asks_one_less}
use Rattle.type_diagrams.proofs.Elements.{map-where}
use Rattle.empty_arrow.proofs.FutureResults.{future-on_path, path-result}
use Rattle.empty_arrow.proofs.PartLaws.{future-part_of}
use Rattle.type_diagrams.proofs.PathShapes.{IsAtomOf, has_mark}
use Rattle.type_diagrams.proofs.Tellings.{held-HasLower}

module _ (env : List AtomDef) (small : length env ≤ the_mark) (table : Table) (kept : List (ℕ × Option Shape)) (p : Path) (pos : All (IsAtomOf env Futures) (atoms_in p.pos)) (neg : All (IsAtomOf env Futures) (atoms_in p.neg)) where
  module _ (all : Condition) (is : AreOne all (asks (map (part_of env) (atoms_in p.pos)) [])) where
    -- the question is one of the path
    avoidance-asked : (q : ℕ) → IsAvoidance env table all (atoms_in p.neg) q → IsMemberQuestion env Futures p (condition table q)
    avoidance-asked q av =
        let def = All-contains (IsAtomOf env Futures) (atoms_in p.neg) av.atom neg av.among in
        let wanted = map-where (IsAtomOf env Futures) (part_of env) (results_of env) (future-part_of env) (atoms_in p.pos) pos in
        let parts = asks_one_less all (map (part_of env) (atoms_in p.pos)) [] (part_of env av.atom) is in
        let asked = one-further (condition table q) (without all (part_of env av.atom)) (asks (map (part_of env) (atoms_in p.pos)) (part_of env av.atom ∷ [])) av.gives.condition parts in (
          av.atom,
          av.among,
          subst (λ d. AreOne (condition table q) (asks (map (results_of env) (atoms_in p.pos)) (d ∷ []))) (future-part_of env av.atom def)
              (subst (λ ps. AreOne (condition table q) (asks ps (part_of env av.atom ∷ []))) wanted asked),
        )

    pub results-Turns : has_mark p ≡ false → (turn : Turn) → TellsResults env table kept all (atoms_in p.neg) turn → Turns env table kept Futures p turn
    results-Turns none (Found x) h =
        subst (IsShapeOn env Futures p) (sym h.1) (future-on_path env small p pos neg all is h.0 none h.2)
    results-Turns none Empty h =
        λ x on. let av = h.2 in
        let y = path-result env small p pos neg all is x on.0 on.1 av.atom av.among in
        held-HasLower env table table kept (without all (part_of env av.atom)) h.0 av.gives h.1 x y.0 y.1 y.2
    results-Turns none (Ask q) h = (h.0, h.1.gives.diagram, avoidance-asked q h.1)
