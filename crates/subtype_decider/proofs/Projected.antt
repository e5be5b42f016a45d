-- The questions for parts, path by path.
use Rattle.std.proofs.Common.{◌≡◌, ◌↔◌, ◌⊎◌, ⊎_elim, inl, inr, ℕ, zero, suc, ◌+◌, ◌<◌, ◌≤◌, List, [], ◌∷◌, ◌++◌, length, take, get_or, None, All, Any, Contains, ◌||◌, refl, sym, subst, ◌∙◌, arith}
use Rattle.std.proofs.lemmas.List.{take_all, take_more}
use Rattle.std.proofs.lemmas.List.Elements.{All-contains, All-weaker}
use Rattle.bal_base.specs.declared.shape.Shape.{Shape, List', Mapping', Future'}
use Rattle.type_model.specs.declared.basic.SemType.{SemType, Basic}
use Rattle.type_model.specs.declared.basic.BasicSet.TheVariants.{Never}
use Rattle.type_model.specs.declared.atoms.AtomDef.{AtomDef}
use Rattle.type_model.specs.declared.answers.Keys.{Keys}
use Rattle.type_model.specs.declared.answers.Keys.TheVariants.{Index, AnyIndex, Field, AnyField, Results}
use Rattle.type_model.specs.Inclusion.{HasExactly}
use Rattle.type_model.specs.Membership.{In}
use Rattle.type_model.specs.Parts.{StandsAt, StandsIn}
use Rattle.type_diagrams.specs.declared.path.Path.{Path}
use Rattle.type_diagrams.specs.Kinds.{IsOfKind}
use Rattle.type_diagrams.specs.declared.kind.Kind.{Kind}
use Rattle.type_diagrams.specs.Paths.{IsOnPath, paths_of}
use Rattle.type_diagrams.specs.Conditions.{Condition, LooksAtKinds, Meets, IsShapeOf, or_of}
use Rattle.type_diagrams.specs.Projections.{AreParts}
use Rattle.type_diagrams.specs.Questions.{IsPathOf, IsUnionOf}
use Rattle.type_diagrams.specs.Tables.{Table as Diagrams, DependBelow, IsDiagram, condition}
use Rattle.type_diagrams.specs.Turns.{HasLiteralsOf, HasLower, IsReady, IsSound}
use Rattle.type_diagrams.specs.Whole.{Gives, IsMetWhere, Keeps}
use Rattle.type_diagrams.proofs.PathLiterals.{HasPaths-HasLiteralsOf}
use Rattle.type_diagrams.proofs.Reaching.{one-Looks}
use Rattle.type_diagrams.proofs.Shapes.{or-IsMetWhere}
use Rattle.subtype_decider.specs.Closed.{IsClosed, IsRight}
use Rattle.subtype_decider.specs.Projections.{IsQuestionOf, StandsInShapeOf, StandsOn, kind_at}
use Rattle.subtype_decider.proofs.Ends.{right-IsSound}
use Rattle.subtype_decider.proofs.Grown.{Entries, condition-grown, diagram-grown}
use Rattle.subtype_decider.proofs.Members.{Any-Contains, Any-append_cases, Any-here, Any-left, Any-right, Contains-Any}

-- what stands at such keys stands in a shape of their kind
stands-kind : (keys : Keys) (x y : Shape) → StandsIn keys x y → IsOfKind (kind_at keys) x
stands-kind (Index place) (List' mark _ items) y h = refl
stands-kind (Index place) _ y h = absurd h
stands-kind AnyIndex (List' mark _ items) y h = refl
stands-kind AnyIndex _ y h = absurd h
stands-kind (Field name) (Mapping' mark _ fields) y h = refl
stands-kind (Field name) _ y h = absurd h
stands-kind AnyField (Mapping' mark _ fields) y h = refl
stands-kind AnyField _ y h = absurd h
stands-kind Results (Future' _ results) y h = refl
stands-kind Results _ y h = absurd h

-- the only member of a list
the_one : {X : Type 0} (x y : X) → Contains (x ∷ []) y → x ≡ y
the_one x y (zero, lt, is) = is
the_one x y (suc k, lt, is) = absurd (omega (arith, lt))

module _ (env : List AtomDef) where
  no-lower : (d : Diagrams) (kept : Entries) (x : Shape) → IsClosed env d kept → ¬ HasLower env d kept x
  no-lower d kept x closed low = (All-contains (IsRight env d) kept (low.question, None) closed.right low.held).1 low.part low.inside

  -- where the table is closed
  pub parts-IsQuestionOf : (d : Diagrams) (kept : Entries) (p : Path) (keys : Keys) (q : ℕ) → IsClosed env d kept → AreParts env d kept (kind_at keys) p keys q → IsQuestionOf env d (StandsOn env keys p) q
  parts-IsQuestionOf d kept p keys q closed parts = record {
    diagram = parts.diagram;
    looks = parts.looks;
    shapes = λ y valid. (
      λ m. parts.from y (valid, m),
      λ s. ⊎_elim (λ (i : IsShapeOf env (condition d q) y). i.1) (λ (low : HasLower env d kept s.0). absurd (no-lower d kept s.0 closed low)) (parts.to s.0 y s.1 s.2),
    );
  }

  pub question-grown : (old new : Diagrams) (P : Shape → Type 0) (q : ℕ) → Keeps old new → IsQuestionOf env old P q → IsQuestionOf env new P q
  question-grown old new P q keeps is = record {
    diagram = diagram-grown env old new keeps q is.diagram;
    looks = condition-grown env old new keeps (LooksAtKinds env) q is.diagram is.looks;
    shapes = condition-grown env old new keeps (λ c. IsMetWhere env c P) q is.diagram is.shapes;
  }

  question-same : (d : Diagrams) (P Q : Shape → Type 0) (q : ℕ) → ((y : Shape) → P y ↔ Q y) → IsQuestionOf env d P q → IsQuestionOf env d Q q
  question-same d P Q q same is = record {
    diagram = is.diagram;
    looks = is.looks;
    shapes = λ y valid. (λ m. (same y).0 ((is.shapes y valid).0 m), λ h. (is.shapes y valid).1 ((same y).1 h));
  }

  either-IsQuestionOf : (d new : Diagrams) (P Q : Shape → Type 0) (a b n : ℕ) → IsQuestionOf env d P a → IsQuestionOf env d Q b → Gives new (or_of (condition d a) (condition d b)) n → IsQuestionOf env new (λ y. P y ⊎ Q y) n
  either-IsQuestionOf d new P Q a b n p q gives = record {
    diagram = gives.diagram;
    looks = one-Looks env (or_of (condition d a) (condition d b)) (condition new n) gives.condition (λ k v w agree i. p.looks k v w agree i || q.looks k v w agree i);
    shapes = λ y valid.
        let met = or-IsMetWhere new (condition d a) (condition d b) n env gives y valid in (
          λ m. ⊎_elim (λ (l : Meets env (condition d a) y). inl ((p.shapes y valid).0 l)) (λ (r : Meets env (condition d b) y). inr ((q.shapes y valid).0 r)) (met.0 m),
          λ h. met.1 (⊎_elim (λ (l : P y). inl ((p.shapes y valid).1 l)) (λ (r : Q y). inr ((q.shapes y valid).1 r)) h),
        );
  }

  module _ (keys : Keys) where
    abbrev pub StandsOnAny : List Path → Shape → Type 0
    StandsOnAny paths y = Any (λ p. StandsOn env keys p y) paths

    -- no path
    pub none-IsQuestionOf : (d : Diagrams) (q : ℕ) (paths : List Path) → IsDiagram d q → LooksAtKinds env (condition d q) → IsMetWhere env (condition d q) (λ x. In env x (Basic Never)) → IsQuestionOf env d (StandsOnAny (take 0 paths)) q
    none-IsQuestionOf d q paths diagram looks shapes = record {
      diagram = diagram;
      looks = looks;
      shapes = λ y valid. (λ m. absurd ((shapes y valid).0 m), λ h. absurd (omega (arith, h.2)));
    }

    -- one path more
    pub more-IsQuestionOf : (old d new : Diagrams) (paths : List Path) (i : ℕ) (p : Path) (a b n : ℕ) → i < length paths → p ≡ get_or paths i p → Keeps old d → IsQuestionOf env old (StandsOnAny (take i paths)) a → IsQuestionOf env d (StandsOn env keys p) b
        → Gives new (or_of (condition d a) (condition d b)) n → IsQuestionOf env new (StandsOnAny (take (i + 1) paths)) n
    more-IsQuestionOf old d new paths i p a b n lt at keeps before here gives =
        subst (λ ps. IsQuestionOf env new (StandsOnAny ps) n) (sym (take_more paths i p lt))
        (question-same new (λ y. StandsOnAny (take i paths) y ⊎ StandsOn env keys p y) (StandsOnAny (take i paths ++ get_or paths i p ∷ [])) n both
        (either-IsQuestionOf d new (StandsOnAny (take i paths)) (StandsOn env keys p) a b n (question-grown old d (StandsOnAny (take i paths)) a keeps before) here gives))
      where
        both : (y : Shape) → (StandsOnAny (take i paths) y ⊎ StandsOn env keys p y) ↔ StandsOnAny (take i paths ++ get_or paths i p ∷ []) y
        both y =
            let P : Path → Type 0 = λ r. StandsOn env keys r y in (
              ⊎_elim
                  (λ (l : Any P (take i paths)). Any-left P (take i paths) (get_or paths i p ∷ []) l)
                  (λ (r : StandsOn env keys p y). Any-right P (take i paths) (get_or paths i p ∷ []) (Any-here P (get_or paths i p) [] (subst P at r))),
              λ h. ⊎_elim
                  (λ (l : Any P (take i paths)). inl l)
                  (λ (r : Any P (get_or paths i p ∷ [])). let c = Any-Contains P (get_or paths i p ∷ []) r in inr (subst P (sym (at ∙ the_one (get_or paths i p) c.0 c.1)) c.2))
                  (Any-append_cases P (take i paths) (get_or paths i p ∷ []) h),
            )

    -- all paths of a condition
    pub all-IsQuestionOf : (d : Diagrams) (c : Condition) (paths : List Path) (i q : ℕ) → length paths ≤ i → IsUnionOf c (kind_at keys) paths → IsQuestionOf env d (StandsOnAny (take i paths)) q → IsQuestionOf env d (StandsInShapeOf env c keys) q
    all-IsQuestionOf d c paths i q end union is =
        question-same d (StandsOnAny paths) (StandsInShapeOf env c keys) q whole (subst (λ ps. IsQuestionOf env d (StandsOnAny ps) q) (take_all i paths end) is)
      where
        whole : (y : Shape) → StandsOnAny paths y ↔ StandsInShapeOf env c keys y
        whole y = (
          λ h.
              let found = Any-Contains (λ p. StandsOn env keys p y) paths h in
              let x = found.2.0 in
              let on = found.2.1 in
              (x, (on.0, (union env x on.1.kind).1 (Contains-Any (λ p. IsOnPath env (kind_at keys) p x) paths found.0 found.1 on.1)), found.2.2),
          λ s.
              let kind = stands-kind keys s.0 y s.2 in
              let found = Any-Contains (λ p. IsOnPath env (kind_at keys) p s.0) paths ((union env s.0 kind).0 s.1.1) in
              Contains-Any (λ p. StandsOn env keys p y) paths found.0 found.1 (s.0, (s.1.0, found.2), s.2),
        )

-- a path of a question is one that can be settled
pub path-IsReady : (env : List AtomDef) (d : Diagrams) (kept : Entries) (c : Condition) (k : Kind) (p : Path) → LooksAtKinds env c → IsPathOf c k p → DependBelow (length env) d.nodes → IsClosed env d kept → IsReady env d kept k p
path-IsReady env d kept c k p looks path defined closed = record {
  literals = All-contains (HasLiteralsOf env k) (paths_of path.0) p (HasPaths-HasLiteralsOf env c k (paths_of path.0) looks (path.0, path.1, refl)) path.2;
  defined = defined;
  sound = All-weaker (IsRight env d) (IsSound env d) (right-IsSound env d) kept closed.right;
}

-- what a table keeps that keeps all of a second one, which keeps all of a third
pub kept-further : (old mid new : Entries) → All (Contains mid) old → All (Contains new) mid → All (Contains new) old
kept-further old mid new first second = All-weaker (Contains mid) (Contains new) (λ e c. All-contains (Contains new) mid e second c) old first

-- a type with the shapes of the question
pub written-HasExactly : (env : List AtomDef) (d : Diagrams) (c : Condition) (keys : Keys) (q : ℕ) (t m : SemType) → IsQuestionOf env d (StandsInShapeOf env c keys) q → IsMetWhere env (condition d q) (λ x. In env x m) → IsMetWhere env c (λ x. In env x t) → HasExactly env m (StandsAt env t keys)
written-HasExactly env d c keys q t m is written met y valid = (
  λ i. let s = (is.shapes y valid).0 ((written y valid).1 i) in (s.0, (s.1.0, (met s.0 s.1.0).0 s.1.1), s.2),
  λ s. (written y valid).0 ((is.shapes y valid).1 (s.0, (s.1.0, (met s.0 s.1.0).1 s.1.1), s.2)),
)
