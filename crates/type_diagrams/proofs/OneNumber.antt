-- Diagrams with equal conditions have one number.
use Rattle.std.proofs.Common.{◌≡◌, ℕ, Some, slice_get, sym, ◌∙◌, ap}
use Rattle.bal_base.specs.declared.shape.Shape.{Shape}
use Rattle.bal_base.specs.Valid.{IsValid}
use Rattle.type_diagrams.specs.declared.kind.Kind.{Kind}
use Rattle.type_diagrams.specs.declared.kind.Kind.TheVariants.{List as Lists, Mapping as Mappings, Error as Errors, Function as Functions, Future as Futures}
use Rattle.type_diagrams.specs.declared.node.Diagram.{Diagram}
use Rattle.type_diagrams.specs.Kinds.{IsSimple}
use Rattle.type_diagrams.specs.Conditions.{AreOne}
use Rattle.type_diagrams.specs.Tables.{Table, AreNodes, condition, condition_at, is_in_set, root_of, tree_of}
use Rattle.type_diagrams.specs.Whole.{IsTable, HasOneNumberEach}
use Rattle.type_diagrams.proofs.Canonical.{canonical}
use Rattle.type_diagrams.proofs.CanonicalSets.{sets-same}
use Rattle.type_diagrams.proofs.NodeTrees.{member_at, tree_of-injective, tree_of-ordered}

pub diagram-same : (d e : Diagram) → d.simple ≡ e.simple → ((k : Kind) → root_of d k ≡ root_of e k) → d ≡ e
diagram-same d e s r = λ i. record { simple = s i; list = r Lists i; mapping = r Mappings i; error = r Errors i; function = r Functions i; future = r Futures i }

module _ (t : Table) (is : IsTable t) where
  are : AreNodes t.nodes
  are = is.nodes

  one : (a b : ℕ) (d e : Diagram) → slice_get t.diagrams a ≡ Some d → slice_get t.diagrams b ≡ Some e → AreOne (condition t a) (condition t b) → a ≡ b
  one a b d e da eb same =
      let od = is.each a d da in
      let oe = is.each b e eb in
      let sd = member_at t.sets d.simple od.set in
      let se = member_at t.sets e.simple oe.set in
      let shapes : (x : Shape) → IsSimple x → IsValid x → is_in_set (slice_get t.sets d.simple) x ≡ is_in_set (slice_get t.sets e.simple) x =
      λ x s v. ap (λ o. (condition_at t o).simple x) (sym da) ∙ same.simple x s v ∙ ap (λ o. (condition_at t o).simple x) eb in
      let sets = sets-same sd.0 se.0 (is.canonical d.simple sd.0 sd.1) (is.canonical e.simple se.0 se.1)
      (λ x s v. ap (λ o. is_in_set o x) (sym sd.1) ∙ shapes x s v ∙ ap (λ o. is_in_set o x) se.1) in
      let simple : d.simple ≡ e.simple = is.sets_apart d.simple e.simple sd.0 sd.1 (se.1 ∙ ap Some (sym sets)) in
      let roots : (k : Kind) → root_of d k ≡ root_of e k = λ k. tree_of-injective t.nodes are (root_of d k) (root_of e k) (od.roots k) (oe.roots k)
      (canonical (tree_of t.nodes (root_of d k)) (tree_of t.nodes (root_of e k)) (tree_of-ordered t.nodes are (root_of d k) (od.roots k)) (tree_of-ordered t.nodes are (root_of e k) (oe.roots k))
      (λ v. ap (λ o. (condition_at t o).by_kind k v) (sym da) ∙ same.by_kind k v ∙ ap (λ o. (condition_at t o).by_kind k v) eb)) in
      is.diagrams_apart a b d da (eb ∙ ap Some (sym (diagram-same d e simple roots)))

  pub one_number : HasOneNumberEach t
  one_number a b ia ib same =
      let d = member_at t.diagrams a ia in
      let e = member_at t.diagrams b ib in
      one a b d.0 e.0 d.1 e.1 same
