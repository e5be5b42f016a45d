-- Diagrams that have no shape.
use Rattle.std.proofs.Common.{◌≡◌, ℕ, false, None, Some, slice_get, refl, sym, ◌∙◌, ap, arith}
use Rattle.type_diagrams.specs.declared.kind.Kind.{Kind}
use Rattle.type_diagrams.specs.declared.node.Diagram.{Diagram}
use Rattle.type_diagrams.specs.declared.simple.SimpleSet.{SimpleSet}
use Rattle.type_diagrams.specs.Simple.{by_simple}
use Rattle.type_diagrams.specs.Found.{FindsSimple}
use Rattle.type_diagrams.specs.Sets.{IsCanonical, IsSetOf, has_shape, set_of}
use Rattle.type_diagrams.specs.Conditions.{IsNothing, nothing}
use Rattle.type_diagrams.specs.Tables.{Table, condition, condition_at, is_in_set, root_of, tree_of}
use Rattle.type_diagrams.specs.Whole.{IsTable}
use Rattle.type_diagrams.proofs.Canonical.{canonical}
use Rattle.type_diagrams.proofs.CanonicalSets.{sets-same}
use Rattle.type_diagrams.proofs.Combined.{by_kinds, parts-Gives}
use Rattle.type_diagrams.proofs.Keeping.{extends-itself}
use Rattle.type_diagrams.proofs.NodeTrees.{tree_of-injective, tree_of-ordered}
use Rattle.type_diagrams.proofs.OneNumber.{diagram-same}
use Rattle.type_diagrams.proofs.TypeParts.{nothing-HasParts, simple-all}

module _ (t : Table) (is : IsTable t) (a : ℕ) (d bare : Diagram) (at : slice_get t.diagrams a ≡ Some d) (plain : bare ≡ record { simple = d.simple; list = 0; mapping = 0; error = 0; function = 0; future = 0 }) where
  module _ (h : IsNothing (condition t a)) where
    root-none : (k : Kind) → root_of d k ≡ 0
    root-none k =
        tree_of-injective t.nodes is.nodes (root_of d k) 0 ((is.each a d at).roots k) (omega arith)
        (canonical (tree_of t.nodes (root_of d k)) (tree_of t.nodes 0) (tree_of-ordered t.nodes is.nodes (root_of d k) ((is.each a d at).roots k)) (tree_of-ordered t.nodes is.nodes 0 (omega arith))
        (λ v. ap (λ o. (condition_at t o).by_kind k v) (sym at) ∙ h.by_kind k v))

    pub IsNothing-bare : d ≡ bare
    IsNothing-bare =
        diagram-same d (record { simple = d.simple; list = 0; mapping = 0; error = 0; function = 0; future = 0 }) refl
        (λ k. root-none k ∙ by_kinds (λ j. 0 ≡ root_of (record { simple = d.simple; list = 0; mapping = 0; error = 0; function = 0; future = 0 }) j) refl refl refl refl refl k) ∙ sym plain

  module _ (s none : SimpleSet) (set : slice_get t.sets d.simple ≡ Some (set_of s)) (empty : IsSetOf (by_simple false (λ b. false) (λ i. false) (λ u. false)) none) where
    pub empty-IsNothing : d ≡ bare → set_of s ≡ set_of none → IsNothing (condition t a)
    empty-IsNothing same e =
        (parts-Gives t t d nothing a (nothing-HasParts t none d.simple (set ∙ ap Some e) d empty (same ∙ plain)) (extends-itself t).keeps at).condition

    pub IsNothing-empty : IsNothing (condition t a) → set_of s ≡ set_of none
    IsNothing-empty h =
        sets-same (set_of s) (set_of none) (is.canonical d.simple (set_of s) set) empty.canonical
        (λ x i v. ap (λ o. is_in_set o x) (sym set) ∙ ap (λ o. (condition_at t o).simple x) (sym at) ∙ h.simple x i v ∙ sym (empty.same x v ∙ simple-all false x i))

-- ---- sets alone

module _ (s none : SimpleSet) (empty : IsSetOf (by_simple false (λ b. false) (λ i. false) (λ u. false)) none) where
  pub empty-FindsSimple : set_of s ≡ set_of none → FindsSimple (has_shape (set_of s)) None
  empty-FindsSimple e x i v = ap (λ t. has_shape t x) e ∙ empty.same x v ∙ simple-all false x i

  pub FindsSimple-empty : IsCanonical (set_of s) → FindsSimple (has_shape (set_of s)) None → set_of s ≡ set_of none
  FindsSimple-empty is h = sets-same (set_of s) (set_of none) is empty.canonical (λ x i v. h x i v ∙ sym (empty.same x v ∙ simple-all false x i))
