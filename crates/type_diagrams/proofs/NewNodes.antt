-- What a node that is found in a table or put into it comes to.
use Rattle.std.proofs.Common.{◌≡◌, ◌≢◌, ℕ, ◌<◌, ◌≤◌, ◌+◌, ◌==◌, ◌&&◌, List, [], ◌∷◌, ◌++◌, length, Bool, true, false, if◌then◌else◌, Some, slice_get, ⊎_elim, refl, sym, subst, ◌∙◌, ap, length-append, arith}
use Rattle.std.specs.List.{list_any}
use Rattle.std.proofs.lemmas.Bool.{eqb-true, eq-eqb, false≢true}
use Rattle.std.proofs.lemmas.Option.{slice_get_within}
use Rattle.type_diagrams.specs.declared.node.Node.{Node}
use Rattle.type_diagrams.specs.declared.node.TheConstants.{MOST_NODES}
use Rattle.type_diagrams.specs.Trees.{Tree, No, Yes, By, eval, rank, RisesFrom}
use Rattle.type_diagrams.specs.Tables.{tree_of, ComesAfter, IsNodeAt, AreNodes, IsBelow, DependBelow}
use Rattle.type_diagrams.specs.Decisions.{IsNumber, value_of, StartsFrom, CanFollow, IsNodeFor}
use Rattle.type_diagrams.proofs.NodeTrees.{View, is_no, is_yes, is_node, view, tree_of_node, tree_of-append, slice_get-append, slice_get-last}
use Rattle.type_diagrams.proofs.Interning.{at_or_last, no_twins-push}

-- ---- equal nodes

and_parts : (a b : Bool) → (a && b) ≡ true → (a ≡ true) × (b ≡ true)
and_parts true b e = (refl, e)
and_parts false b e = absurd (false≢true e)

-- the derived test of equality
abbrev pub is_same_node : Node → Node → Bool
is_same_node m n = m.on == n.on && (m.yes == n.yes && m.no == n.no)

and_true : (a b c : Bool) → a ≡ true → b ≡ true → c ≡ true → (a && (b && c)) ≡ true
and_true true true true e f g = refl
and_true true true false e f g = g
and_true true false c e f g = f
and_true false b c e f g = e

node_self : (m : Node) → is_same_node m m ≡ true
node_self m =
    and_true (m.on == m.on) (m.yes == m.yes) (m.no == m.no) (eq-eqb m.on m.on refl) (eq-eqb m.yes m.yes refl) (eq-eqb m.no m.no refl)

pub node_test : (m n : Node) → is_same_node m n ≡ true → m ≡ n
node_test m n e =
    let a = and_parts (m.on == n.on) (m.yes == n.yes && m.no == n.no) e in
    let b = and_parts (m.yes == n.yes) (m.no == n.no) a.1 in
    λ i. record { on = eqb-true m.on n.on a.0 i; yes = eqb-true m.yes n.yes b.0 i; no = eqb-true m.no n.no b.1 i }

-- ---- starting places

pub rises-weaken : (m n : ℕ) (t : Tree) → m ≤ n → RisesFrom n t → RisesFrom m t
rises-weaken m n No le h = tt
rises-weaken m n Yes le h = tt
rises-weaken m n (By l s t) le h = (omega (arith, le, h.0), h.1, h.2)

no_less : (x : Bool) (p q : Bool) → p ≡ q → p ≡ (if x then p else q)
no_less true p q e = refl
no_less false p q e = e

-- both ways lead to the same
pub follower-IsNodeFor : (nodes : List Node) (m : Node) → CanFollow nodes m → m.yes ≡ m.no → IsNodeFor nodes nodes m m.yes
follower-IsNodeFor nodes m can e = record {
  number = can.yes;
  value = λ v. no_less (v m.on) (value_of nodes m.yes v) (value_of nodes m.no v) (ap (λ n. value_of nodes n v) e);
  starts = rises-weaken (rank m.on) (rank m.on + 1) (tree_of nodes m.yes) (omega arith) can.yes_after;
}

module _ (nodes : List Node) (are : AreNodes nodes) (m : Node) (can : CanFollow nodes m) where
  -- the node is there
  pub found-IsNodeFor : (k : ℕ) → slice_get nodes k ≡ Some m → IsNodeFor nodes nodes m (k + 2)
  found-IsNodeFor k e = record {
    number = omega (arith, slice_get_within nodes k m e);
    value = λ v. ap (λ t. eval t v) (tree_of_node nodes are k m e);
    starts = subst (RisesFrom (rank m.on)) (sym (tree_of_node nodes are k m e)) (omega arith, can.yes_after, can.no_after);
  }

  -- ---- the node is put behind the others

  comes_after : (n : ℕ) → View nodes n → StartsFrom nodes (rank m.on + 1) n → ComesAfter nodes m.on n
  comes_after n (is_no p q) h k f e t = absurd (omega (arith, p, e))
  comes_after n (is_yes p q) h k f e t = absurd (omega (arith, p, e))
  comes_after n (is_node j g p o q) h k f e t =
      let place : j ≡ k = omega (arith, p, e) in
      let both : Some g ≡ Some f = sym o ∙ ap (λ i. slice_get nodes i) place ∙ t in
      let same : g ≡ f = cc in
      let from = subst (RisesFrom (rank m.on + 1)) q h in
      subst (λ x. rank m.on < rank x.on) same (omega (arith, from.0))

  -- a follower in the longer table is the one in this table
  after_more : (l n : ℕ) → IsNumber nodes n → ComesAfter nodes l n → ComesAfter (nodes ++ m ∷ []) l n
  after_more l n is h k f e t = h k f e (sym (slice_get-append nodes (m ∷ []) k (omega (arith, is, e))) ∙ t)

  module _ (none : list_any (is_same_node m) nodes ≡ false) (differ : m.yes ≢ m.no) (room : length nodes < MOST_NODES) where
    each_more : (k : ℕ) (x : Node) → slice_get (nodes ++ m ∷ []) k ≡ Some x → IsNodeAt (nodes ++ m ∷ []) k x
    each_more k x e =
        ⊎_elim
        (λ (o : slice_get nodes k ≡ Some x).
        let is = are.each k x o in
        let lt = slice_get_within nodes k x o in
        record {
          literal = is.literal;
          differ = is.differ;
          yes_earlier = is.yes_earlier;
          no_earlier = is.no_earlier;
          yes_after = after_more x.on x.yes (omega (arith, is.yes_earlier, lt)) is.yes_after;
          no_after = after_more x.on x.no (omega (arith, is.no_earlier, lt)) is.no_after;
        })
        (λ (o : (k ≡ length nodes) × (m ≡ x)). subst (λ y. IsNodeAt (nodes ++ m ∷ []) k y) o.1 (record {
          literal = can.literal;
          differ = differ;
          yes_earlier = omega (arith, can.yes, o.0);
          no_earlier = omega (arith, can.no, o.0);
          yes_after = after_more m.on m.yes can.yes (comes_after m.yes (view nodes are m.yes can.yes) can.yes_after);
          no_after = after_more m.on m.no can.no (comes_after m.no (view nodes are m.no can.no) can.no_after);
        }))
        (at_or_last nodes m k x e)

    pub AreNodes-push : AreNodes (nodes ++ m ∷ [])
    AreNodes-push = record {
      few = omega (arith, room, length-append nodes (m ∷ []));
      each = each_more;
      no_twins = no_twins-push (is_same_node m) nodes m are.no_twins none (node_self m);
    }

    pub pushed-IsNodeFor : IsNodeFor nodes (nodes ++ m ∷ []) m (length nodes + 2)
    pushed-IsNodeFor =
        let more = nodes ++ m ∷ [] in
        let node = tree_of_node more AreNodes-push (length nodes) m (slice_get-last nodes [] m) in
        let yes = tree_of-append nodes (m ∷ []) m.yes can.yes in
        let no = tree_of-append nodes (m ∷ []) m.no can.no in
        let all : tree_of more (length nodes + 2) ≡ By m.on (tree_of nodes m.yes) (tree_of nodes m.no) = node ∙ (λ i. By m.on (yes i) (no i)) in
        record {
          number = omega (arith, length-append nodes (m ∷ []));
          value = λ v. ap (λ t. eval t v) all;
          starts = subst (RisesFrom (rank m.on)) (sym all) (omega arith, can.yes_after, can.no_after);
        }

-- ---- on which atoms nodes decide

pub DependBelow-push : (nodes : List Node) (m : Node) (n : ℕ) → IsBelow n m.on → DependBelow n nodes → DependBelow n (nodes ++ m ∷ [])
DependBelow-push nodes m n b h k x e =
    ⊎_elim (λ (o : slice_get nodes k ≡ Some x). h k x o) (λ (o : (k ≡ length nodes) × (m ≡ x)). subst (λ y. IsBelow n y.on) o.1 b) (at_or_last nodes m k x e)
