-- Going along the nodes of a number ends in what its decision comes to.
use Rattle.std.proofs.Common.{◌≡◌, ℕ, zero, suc, ◌<◌, ◌+◌, List, Bool, true, false, if◌then◌else◌, Some, slice_get, refl, sym, subst, ◌∙◌, ap, arith}
use Rattle.std.proofs.lemmas.Option.{slice_get_within}
use Rattle.type_diagrams.specs.declared.node.Node.{Node}
use Rattle.type_diagrams.specs.Trees.{eval}
use Rattle.type_diagrams.specs.Tables.{AreNodes, Leads, at_false, at_true, to_yes, to_no}
use Rattle.type_diagrams.specs.Decisions.{IsNumber, value_of}
use Rattle.type_diagrams.proofs.NodeTrees.{View, is_no, is_yes, is_node, tree_of_node, view}

module _ (nodes : List Node) (are : AreNodes nodes) (v : ℕ → Bool) where
  along : (k : ℕ) (m : Node) (b : Bool) → slice_get nodes k ≡ Some m → v m.on ≡ b → Leads nodes v m.yes (value_of nodes m.yes v) → Leads nodes v m.no (value_of nodes m.no v) → Leads nodes v (k + 2) (if b then value_of nodes m.yes v else value_of nodes m.no v)
  along k m true e h y n = to_yes k m (value_of nodes m.yes v) e h y
  along k m false e h y n = to_no k m (value_of nodes m.no v) e h n

  step : (n : ℕ) → ((i : ℕ) → i < n → IsNumber nodes i → Leads nodes v i (value_of nodes i v)) → View nodes n → Leads nodes v n (value_of nodes n v)
  step n below (is_no p q) = subst (λ m. Leads nodes v m (value_of nodes n v)) (sym p) (subst (λ b. Leads nodes v 0 b) (sym (ap (λ t. eval t v) q)) at_false)
  step n below (is_yes p q) = subst (λ m. Leads nodes v m (value_of nodes n v)) (sym p) (subst (λ b. Leads nodes v 1 b) (sym (ap (λ t. eval t v) q)) at_true)
  step n below (is_node k m p o q) =
      let is = are.each k m o in
      let within = slice_get_within nodes k m o in
      let yes = below m.yes (omega (arith, p, is.yes_earlier)) (omega (arith, is.yes_earlier, within)) in
      let no = below m.no (omega (arith, p, is.no_earlier)) (omega (arith, is.no_earlier, within)) in
      subst (λ j. Leads nodes v j (value_of nodes n v)) (sym p)
      (subst (λ b. Leads nodes v (k + 2) b) (sym (ap (λ t. eval t v) q)) (along k m (v m.on) o refl yes no))

  leads_to : (b n : ℕ) → n < b → IsNumber nodes n → Leads nodes v n (value_of nodes n v)
  leads_to zero n lt is = absurd (omega (arith, lt))
  leads_to (suc b) n lt is = step n (λ i less i_in. leads_to b i (omega (arith, lt, less)) i_in) (view nodes are n is)

  pub leads : (n : ℕ) → IsNumber nodes n → Leads nodes v n (value_of nodes n v)
  leads n is = leads_to (n + 1) n (omega arith) is

  -- and in nothing else
  pub leads-value : (n : ℕ) (b : Bool) → Leads nodes v n b → value_of nodes n v ≡ b
  leads-value _ _ at_false = refl
  leads-value _ _ at_true = refl
  leads-value _ _ (to_yes k m b at h l) =
      ap (λ t. eval t v) (tree_of_node nodes are k m at) ∙ (λ i. if h i then value_of nodes m.yes v else value_of nodes m.no v) ∙ leads-value m.yes b l
  leads-value _ _ (to_no k m b at h l) =
      ap (λ t. eval t v) (tree_of_node nodes are k m at) ∙ (λ i. if h i then value_of nodes m.yes v else value_of nodes m.no v) ∙ leads-value m.no b l
