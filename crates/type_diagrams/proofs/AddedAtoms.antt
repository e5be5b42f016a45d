-- Where atoms are added behind those on which diagrams depend, each diagram has the shapes that it had.
use Rattle.std.proofs.Common.{◌≡◌, ◌↔◌, ℕ, zero, suc, ◌<◌, ◌+◌, ◌==◌, List, length, Bool, true, false, if◌then◌else◌, MatchBool, Some, refl, sym, subst, ◌∙◌, ap, arith}
use Rattle.std.proofs.lemmas.Bool.{false≢true, eq-eqb}
use Rattle.std.proofs.lemmas.Option.{slice_get_within}
use Rattle.bal_base.specs.declared.shape.Shape.{Shape}
use Rattle.type_model.specs.declared.basic.SemType.{Atom}
use Rattle.type_model.specs.declared.atoms.AtomDef.{AtomDef}
use Rattle.type_model.specs.Calls.{KeepsTypes}
use Rattle.type_model.specs.Membership.{In}
use Rattle.type_diagrams.specs.declared.kind.Kind.{Kind}
use Rattle.type_diagrams.specs.declared.node.Node.{Node}
use Rattle.type_diagrams.specs.declared.node.Diagram.{Diagram}
use Rattle.type_diagrams.specs.Kinds.{IsMarked, HoldsOf, Says, the_mark}
use Rattle.type_diagrams.specs.Trees.{eval}
use Rattle.type_diagrams.specs.Conditions.{Condition, Meets}
use Rattle.type_diagrams.specs.Tables.{Table, AreNodes, IsDiagram, IsBelow, DependBelow, root_of, condition, condition_at}
use Rattle.type_diagrams.specs.Decisions.{IsNumber, value_of}
use Rattle.type_diagrams.specs.Whole.{IsTable}
use Rattle.type_diagrams.proofs.Canonical.{same_if}
use Rattle.type_diagrams.proofs.Meeting.{says_of, Says-says_of}
use Rattle.type_diagrams.proofs.NodeTrees.{View, is_no, is_yes, is_node, view, member_at}

-- ---- on what a number depends

module _ (nodes : List Node) (are : AreNodes nodes) (most : ℕ) (below : DependBelow most nodes) (v w : ℕ → Bool) (agree : (l : ℕ) → IsBelow most l → v l ≡ w l) where
  step : (n : ℕ) → ((i : ℕ) → i < n → IsNumber nodes i → value_of nodes i v ≡ value_of nodes i w) → View nodes n → value_of nodes n v ≡ value_of nodes n w
  step n before (is_no p q) = ap (λ t. eval t v) q ∙ sym (ap (λ t. eval t w) q)
  step n before (is_yes p q) = ap (λ t. eval t v) q ∙ sym (ap (λ t. eval t w) q)
  step n before (is_node k m p o q) =
      let is = are.each k m o in
      let within = slice_get_within nodes k m o in
      let first = before m.yes (omega (arith, p, is.yes_earlier)) (omega (arith, is.yes_earlier, within)) in
      let second = before m.no (omega (arith, p, is.no_earlier)) (omega (arith, is.no_earlier, within)) in
      ap (λ t. eval t v) q
      ∙ same_if (v m.on) (value_of nodes m.yes v) (value_of nodes m.yes w) (value_of nodes m.no v) (value_of nodes m.no w) first second
      ∙ ap (λ b. if b then value_of nodes m.yes w else value_of nodes m.no w) (agree m.on (below k m o))
      ∙ sym (ap (λ t. eval t w) q)

  up_to : (b n : ℕ) → n < b → IsNumber nodes n → value_of nodes n v ≡ value_of nodes n w
  up_to zero n lt is = absurd (omega (arith, lt))
  up_to (suc b) n lt is = step n (λ i less i_in. up_to b i (omega (arith, lt, less)) i_in) (view nodes are n is)

  pub value-agree : (n : ℕ) → IsNumber nodes n → value_of nodes n v ≡ value_of nodes n w
  value-agree n is = up_to (n + 1) n (omega arith) is

-- ---- two environments, of which one keeps the types of the other

module _ (old new : List AtomDef) (keeps : KeepsTypes old new) (x : Shape) where
  -- a literal of the old environment holds of a shape in both
  holds_both : (l : ℕ) → IsBelow (length old) l → HoldsOf old x l ↔ HoldsOf new x l
  holds_both l is = by (l == the_mark) refl
    where
      by : (b : Bool) → l == the_mark ≡ b → MatchBool b (IsMarked x) (In old x (Atom l)) ↔ MatchBool b (IsMarked x) (In new x (Atom l))
      by true e = (λ h. h, λ h. h)
      by false e = keeps.shapes (Atom l) (is (λ q. false≢true (sym e ∙ eq-eqb l the_mark q))) x

  same_truth : (a b : Bool) → (a ≡ true → b ≡ true) → (b ≡ true → a ≡ true) → a ≡ b
  same_truth true b f g = sym (f refl)
  same_truth false true f g = g refl
  same_truth false false f g = refl

  agrees : (v w : ℕ → Bool) → Says old x v → Says new x w → (l : ℕ) → IsBelow (length old) l → v l ≡ w l
  agrees v w p q l is =
      let h = holds_both l is in
      same_truth (v l) (w l) (λ e. (q l).1 (h.0 ((p l).0 e))) (λ e. (p l).1 (h.1 ((q l).0 e)))

  module _ (t : Table) (are : AreNodes t.nodes) (below : DependBelow (length old) t.nodes) (d : Diagram) (roots : (k : Kind) → IsNumber t.nodes (root_of d k)) where
    part-Meets : (c : Condition) → c ≡ condition_at t (Some d) → Meets old c x ↔ Meets new c x
    part-Meets c is = subst (λ e. Meets old e x ↔ Meets new e x) (sym is) (forward, backward)
      where
        by_kind : (k : Kind) (v w : ℕ → Bool) → Says old x v → Says new x w → value_of t.nodes (root_of d k) v ≡ value_of t.nodes (root_of d k) w
        by_kind k v w p q = value-agree t.nodes are (length old) below v w (agrees v w p q) (root_of d k) (roots k)

        forward : Meets old (condition_at t (Some d)) x → Meets new (condition_at t (Some d)) x
        forward m = record {
          simple = m.simple;
          by_kind = λ k w i says. sym (by_kind k (says_of old x) w (Says-says_of old x) says) ∙ m.by_kind k (says_of old x) i (Says-says_of old x);
        }

        backward : Meets new (condition_at t (Some d)) x → Meets old (condition_at t (Some d)) x
        backward m = record {
          simple = m.simple;
          by_kind = λ k v i says. by_kind k v (says_of new x) says (Says-says_of new x) ∙ m.by_kind k (says_of new x) i (Says-says_of new x);
        }

-- a diagram has the shapes that it had
pub Meets-added : (old new : List AtomDef) (t : Table) → KeepsTypes old new → IsTable t → DependBelow (length old) t.nodes → (a : ℕ) → IsDiagram t a → (x : Shape) → Meets old (condition t a) x ↔ Meets new (condition t a) x
Meets-added old new t keeps is below a there x =
    let d = member_at t.diagrams a there in
    part-Meets old new keeps x t is.nodes below d.0 (is.each a d.0 d.1).roots (condition t a) (ap (condition_at t) d.1)
