-- The shapes of a condition are those of its paths.
use Rattle.std.proofs.Common.{◌≡◌, ◌↔◌, ℕ, List, true, not, sym, ◌∙◌}
use Rattle.std.specs.List.{list_all}
use Rattle.bal_base.specs.declared.shape.Shape.{Shape}
use Rattle.type_model.specs.declared.atoms.AtomDef.{AtomDef}
use Rattle.type_diagrams.specs.declared.kind.Kind.{Kind}
use Rattle.type_diagrams.specs.declared.path.Path.{Path}
use Rattle.type_diagrams.specs.Kinds.{IsOfKind, HoldsOf}
use Rattle.type_diagrams.specs.Trees.{Tree}
use Rattle.type_diagrams.specs.Paths.{paths_of, is_along, IsOnPath}
use Rattle.type_diagrams.specs.Conditions.{Condition}
use Rattle.type_diagrams.specs.Questions.{IsTreeOf, IsUnionOf}
use Rattle.type_diagrams.proofs.Truths.{and_true, not_true, all_true, any_true}
use Rattle.type_diagrams.proofs.PathLaws.{eval-paths}
use Rattle.type_diagrams.proofs.Meeting.{says_of, Says-says_of, Meets-by_kind}

through : {A B C : Type 0} → A ↔ B → B ↔ C → A ↔ C
through e f = (λ a. f.0 (e.0 a), λ c. e.1 (f.1 c))

swap : {A B : Type 0} → A ↔ B → B ↔ A
swap e = (λ b. e.1 b, λ a. e.0 a)

module _ (env : List AtomDef) (k : Kind) (x : Shape) (kind : IsOfKind k x) where
  along-IsOnPath : (p : Path) → IsOnPath env k p x ↔ (is_along (says_of env x) p ≡ true)
  along-IsOnPath p =
      let v = says_of env x in
      let says : (l : ℕ) → HoldsOf env x l ↔ (v l ≡ true) = λ l. swap (Says-says_of env x l) in
      through
      (λ (h : IsOnPath env k p x). (h.holding, h.failing), λ h. record { kind = kind; holding = h.0; failing = h.1 })
      (and_true (list_all v p.pos) (list_all (λ l. not (v l)) p.neg)
      (all_true (HoldsOf env x) v p.pos says)
      (all_true (λ l. ¬ HoldsOf env x l) (λ l. not (v l)) p.neg (λ l. not_true (v l) (says l))))

pub paths-IsUnionOf : (c : Condition) (k : Kind) (t : Tree) → IsTreeOf c k t → IsUnionOf c k (paths_of t)
paths-IsUnionOf c k t is env x kind =
    let v = says_of env x in
    let meets = Meets-by_kind env c k x kind in
    let any = any_true (λ p. IsOnPath env k p x) (is_along v) (paths_of t) (along-IsOnPath env k x kind) in
    (λ m. any.1 (sym (eval-paths t v) ∙ is.same v ∙ meets.0 m), λ a. meets.1 (sym (is.same v) ∙ eval-paths t v ∙ any.0 a))
