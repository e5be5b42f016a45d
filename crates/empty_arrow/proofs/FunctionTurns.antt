-- What is told of the pairs of a function path is said of the path.
use Rattle.std.proofs.Common.{◌≡◌, ◌≢◌, ◌⊎◌, ⊎_elim, inl, inr, ℕ, ◌<◌, ◌≤◌, List, [], ◌∷◌, ◌&&◌, not, map, length, Bool, true, false, All, Contains, Option, Some, IfSome, refl, sym, ap, subst, ◌∙◌}
use Rattle.std.specs.List.{filter, list_all}
use Rattle.std.proofs.lemmas.Bool.{false≢true}
use Rattle.std.proofs.lemmas.List.Folds.{list_all-map}
use Rattle.std.proofs.lemmas.List.Elements.{filter_agree, All-contains}
use Rattle.bal_base.specs.declared.shape.Shape.{Shape}
use Rattle.bal_base.specs.declared.shape.Case.{Case}
use Rattle.bal_base.specs.Levels.{levels}
use Rattle.bal_base.proofs.Lower.{CaseIsBelow}
use Rattle.type_model.specs.declared.atoms.AtomDef.{AtomDef}
use Rattle.type_model.specs.Application.{arguments_of as list_of}
use Rattle.type_diagrams.specs.declared.kind.Kind.TheVariants.{Function as Functions}
use Rattle.type_diagrams.specs.declared.path.Path.{Path}
use Rattle.type_diagrams.specs.declared.turn.Turn.{Turn}
use Rattle.type_diagrams.specs.declared.turn.Turn.TheVariants.{Shape as AShape, Empty, Ask}
use Rattle.type_diagrams.specs.Kinds.{the_mark}
use Rattle.type_diagrams.specs.Conditions.{Condition, AreOne, asks}
use Rattle.type_diagrams.specs.Members.{atoms_in, arguments_of, outcome_of}
use Rattle.type_diagrams.specs.Questions.{IsArrowQuestion}
use Rattle.type_diagrams.specs.Tables.{Table, condition}
use Rattle.type_diagrams.specs.Turns.{Turns, IsShapeOn, HasLower}
use Rattle.type_diagrams.proofs.Shapes.{one-further}
use Rattle.empty_arrow.specs.Arrows.{IsArrow}
use Rattle.empty_arrow.specs.Graphs.{TellsGraph, arguments_sought, results_sought}
use Rattle.empty_arrow.specs.Pairs.{HasHeldPart, AsksArguments, AsksResults}
use Rattle.empty_arrow.proofs.ChosenArrows.{is_in, is_in-here, same-members, chosen-members, arguments-question}
use Rattle.empty_arrow.proofs.GraphLaws.{cases_in, lower_cases, function-on_path, path-pair}
use Rattle.type_diagrams.proofs.PathShapes.{has_mark}

-- ---- questions of the path

module _ (env : List AtomDef) (wanted : List ℕ) (a : ℕ) where
  module _ (taken : List ℕ) (among : All (Contains wanted) taken) where
    twice : (b : Bool) → not (not b) ≡ b
    twice true = refl
    twice false = refl

    -- those that are left by a test
    others : List ℕ
    others = filter (λ b. not (not (is_in taken b))) wanted

    others-chosen : others ≡ filter (is_in taken) wanted
    unfolding others
    others-chosen = filter_agree (λ b. not (not (is_in taken b))) (is_in taken) (λ b. twice (is_in taken b)) wanted

    module _ (p : Condition → Bool) where
      results-same : list_all p (map (outcome_of env) taken) ≡ list_all p (map (outcome_of env) others)
      results-same =
          list_all-map p (outcome_of env) taken
          ∙ same-members (λ b. p (outcome_of env b)) taken (filter (is_in taken) wanted) (λ b. sym (chosen-members wanted taken among b))
          ∙ ap (list_all (λ b. p (outcome_of env b))) (sym others-chosen)
          ∙ sym (list_all-map p (outcome_of env) others)

      turn_round : (n t : Bool) → (((n && true) && t) && true) ≡ (t && (n && true))
      turn_round true true = refl
      turn_round true false = refl
      turn_round false true = refl
      turn_round false false = refl

      results-at : (((not (p (outcome_of env a)) && true) && list_all p (map (outcome_of env) taken)) && true) ≡ (list_all p (map (outcome_of env) others) && (not (p (outcome_of env a)) && true))
      results-at = ap (λ t. ((not (p (outcome_of env a)) && true) && t) && true) results-same ∙ turn_round (not (p (outcome_of env a))) (list_all p (map (outcome_of env) others))

    results-question : AreOne (asks (results_sought env a ∷ map (outcome_of env) taken) []) (asks (map (outcome_of env) others) (outcome_of env a ∷ []))
    results-question = record { simple = λ x s v. results-at (λ c. c.simple x); by_kind = λ k v. results-at (λ c. c.by_kind k v) }

    others-some : taken ≢ [] → others ≢ []
    others-some some none = by taken refl
      where
        by : (ts : List ℕ) → taken ≡ ts → ⊥
        by [] e = some e
        by (t ∷ ts) e =
            let chosen = chosen-members wanted taken among t ∙ ap (λ us. is_in us t) e ∙ is_in-here t ts in
            false≢true (ap (λ us. is_in us t) (sym none ∙ others-chosen) ∙ chosen)

  -- what is asked of arguments and results is asked of the arrow
  arrow-question : (d : Condition) → AsksArguments env (arguments_sought env a) wanted d ⊎ AsksResults env (results_sought env a) true wanted d → IsArrowQuestion env wanted a d
  unfolding others
  arrow-question d = ⊎_elim
      (λ (h : AsksArguments env (arguments_sought env a) wanted d). (is_in h.left, inl (one-further _ _ _ h.asked (arguments-question env wanted h.left h.among (arguments_of env a)))))
      (λ (h : AsksResults env (results_sought env a) true wanted d). (λ b. not (is_in h.taken b), inr (others-some h.taken h.among (h.some refl), one-further _ _ _ h.asked (results-question h.taken h.among))))

module _ (env : List AtomDef) (small : length env ≤ the_mark) (table : Table) (kept : List (ℕ × Option Shape)) (p : Path) (pos : All (IsArrow env) (atoms_in p.pos)) (neg : All (IsArrow env) (atoms_in p.neg)) where
  -- a held part of a pair is a lower part of the function
  part-HasLower : (x : Shape) (c : Case) → CaseIsBelow (levels x) c → HasHeldPart env table kept c → HasLower env table kept x
  part-HasLower x c below h = record {
    question = h.question;
    held = h.held;
    part = h.part;
    inside = h.inside;
    lower = ⊎_elim
        (λ (s : h.part ≡ list_of c). subst (λ y. levels y < levels x) (sym s) below.0)
        (λ (s : c.result ≡ Some h.part). subst (λ o. IfSome o (λ y. levels y < levels x)) s below.1)
        h.stands;
  }

  pub graph-Turns : has_mark p ≡ false → (turn : Turn) → TellsGraph env table kept (atoms_in p.pos) (atoms_in p.neg) turn → Turns env table kept Functions p turn
  graph-Turns none (AShape x) h = subst (IsShapeOn env Functions p) (sym h.1) (function-on_path env small p pos neg h.0 none h.2)
  graph-Turns none Empty h =
      λ x on. let c = path-pair env small p pos neg x on.0 on.1 h.0 h.1 h.2 in
      part-HasLower x c.0 (All-contains (CaseIsBelow (levels x)) (cases_in x) c.0 (lower_cases x on.1.kind) c.1) (h.3 c.0 c.2)
  graph-Turns none (Ask q) h = (h.3.0, h.3.1, (h.0, h.1, arrow-question env (atoms_in p.pos) h.0 (condition table q) h.3.2))
