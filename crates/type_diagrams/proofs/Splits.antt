-- Where decisions begin, and what follows.
use Rattle.std.proofs.Common.{◌≡◌, ◌≢◌, ℕ, zero, suc, ◌<◌, ◌≤◌, ◌+◌, ◌-◌, List, length, get_or, Bool, true, false, if◌then◌else◌, nat_lt, Option, Some, None, slice_get, ⊎_elim, inl, inr, refl, sym, subst, ◌∙◌, ap, arith}
use Rattle.std.proofs.lemmas.Bool.Decides.{nat_tests}
use Rattle.std.proofs.lemmas.Option.{slice_get_within, slice_get-get_or}
use Rattle.type_diagrams.specs.declared.node.Node.{Node}
use Rattle.type_diagrams.specs.Kinds.{the_mark}
use Rattle.type_diagrams.specs.Trees.{By, eval, rank, RisesFrom}
use Rattle.type_diagrams.specs.Tables.{tree_of, AreNodes, IsBelow, DependBelow}
use Rattle.type_diagrams.specs.Decisions.{IsNumber, value_of, StartsFrom, node_at, Begins, IsSplit, IsFirstLiteral}
use Rattle.type_diagrams.proofs.Literals.{rank-injective}
use Rattle.type_diagrams.proofs.NodeTrees.{View, is_no, is_yes, is_node, view, tree_of_node, tree_of-ordered}

-- 0 and 1 are no nodes, and all others are
node_at-leaf : (nodes : List Node) (n : ℕ) → n < 2 → node_at nodes n ≡ None
node_at-leaf nodes n lt = ap (λ b. if b then None else slice_get nodes (n - 2)) (test n lt)
  where
    test : (m : ℕ) → m < 2 → nat_lt m 2 ≡ true
    test m l = grind (arith, nat_tests)

pub node_at-node : (nodes : List Node) (k : ℕ) → node_at nodes (k + 2) ≡ slice_get nodes k
node_at-node nodes k =
    ap (λ b. if b then None else slice_get nodes (k + 2 - 2)) (test k) ∙ ap (λ j. slice_get nodes j) (back k)
  where
    test : (m : ℕ) → nat_lt (m + 2) 2 ≡ false
    test m = grind (arith, nat_tests)

    back : (m : ℕ) → m + 2 - 2 ≡ m
    back m = omega arith

module _ (nodes : List Node) (are : AreNodes nodes) where
  -- a node that a number is
  pub of_node : (n : ℕ) (m : Node) → node_at nodes n ≡ Some m → (k : ℕ) × (n ≡ k + 2) × (slice_get nodes k ≡ Some m)
  of_node zero m e = absurd (bad (node_at-leaf nodes 0 (omega arith)) e)
    where
      bad : {o : Option Node} → o ≡ None → o ≡ Some m → ⊥
      bad p q = cc
  of_node (suc zero) m e = absurd (bad (node_at-leaf nodes 1 (omega arith)) e)
    where
      bad : {o : Option Node} → o ≡ None → o ≡ Some m → ⊥
      bad p q = cc
  of_node (suc (suc k)) m e =
      let two : suc (suc k) ≡ k + 2 = omega arith in
      (k, two, sym (node_at-node nodes k) ∙ ap (λ j. node_at nodes j) (sym two) ∙ e)

  pub tree : (n : ℕ) (m : Node) → node_at nodes n ≡ Some m → tree_of nodes n ≡ By m.on (tree_of nodes m.yes) (tree_of nodes m.no)
  tree n m e = let o = of_node n m e in ap (λ j. tree_of nodes j) o.1 ∙ tree_of_node nodes are o.0 m o.2

  node_starts : (n : ℕ) (m : Node) → IsNumber nodes n → node_at nodes n ≡ Some m → RisesFrom 0 (By m.on (tree_of nodes m.yes) (tree_of nodes m.no))
  node_starts n m is e = subst (RisesFrom 0) (tree n m e) (tree_of-ordered nodes are n is).rises

  constant : (x : Bool) (p : Bool) → p ≡ (if x then p else p)
  constant true p = refl
  constant false p = refl

  -- a number that doesn't begin by the literal is on both ways
  stays : (l n : ℕ) → IsNumber nodes n → StartsFrom nodes (rank l + 1) n → ¬ Begins nodes l n → IsSplit nodes l n n n
  stays l n is starts not = record {
    yes_number = is;
    no_number = is;
    value = λ v. constant (v l) (value_of nodes n v);
    yes_starts = starts;
    no_starts = starts;
    yes_within = omega arith;
    no_within = omega arith;
    shrinks = λ b. absurd (not b);
  }

  pub leaf-IsSplit : (l n : ℕ) → IsNumber nodes n → node_at nodes n ≡ None → IsSplit nodes l n n n
  leaf-IsSplit l n is e = stays l n is (start (view nodes are n is)) (λ b. bad b.0 e b.1)
    where
      bad : (m : Node) → node_at nodes n ≡ None → node_at nodes n ≡ Some m → ⊥
      bad m p q = cc

      start : View nodes n → StartsFrom nodes (rank l + 1) n
      start (is_no p q) = subst (RisesFrom (rank l + 1)) (sym q) tt
      start (is_yes p q) = subst (RisesFrom (rank l + 1)) (sym q) tt
      start (is_node k m p o q) = absurd (bad m e (ap (λ j. node_at nodes j) p ∙ node_at-node nodes k ∙ o))

  pub other-IsSplit : (l n : ℕ) (m : Node) → IsNumber nodes n → StartsFrom nodes (rank l) n → node_at nodes n ≡ Some m → m.on ≢ l → IsSplit nodes l n n n
  other-IsSplit l n m is starts e ne =
      let from = subst (RisesFrom (rank l)) (tree n m e) starts in
      let apart : rank l ≢ rank m.on = (λ r. ne (rank-injective m.on l (sym r))) in
      let after : rank l + 1 ≤ rank m.on = omega (arith, from.0) in
      stays l n is (subst (RisesFrom (rank l + 1)) (sym (tree n m e)) (after, from.1, from.2)) (λ b. ne (same b.0 e b.1 b.2))
    where
      same : (x : Node) → node_at nodes n ≡ Some m → node_at nodes n ≡ Some x → x.on ≡ l → m.on ≡ l
      same x p q r = let s : m ≡ x = cc in ap (λ y. y.on) s ∙ r

  pub own-IsSplit : (l n : ℕ) (m : Node) → IsNumber nodes n → node_at nodes n ≡ Some m → m.on ≡ l → IsSplit nodes l n m.yes m.no
  own-IsSplit l n m is e on =
      let o = of_node n m e in
      let is_node = are.each o.0 m o.2 in
      let within = slice_get_within nodes o.0 m o.2 in
      let from = node_starts n m is e in
      subst (λ j. IsSplit nodes j n m.yes m.no) on (record {
        yes_number = omega (arith, within, is_node.yes_earlier);
        no_number = omega (arith, within, is_node.no_earlier);
        value = λ v. ap (λ t. eval t v) (tree n m e);
        yes_starts = from.1;
        no_starts = from.2;
        yes_within = omega (arith, is_node.yes_earlier, o.1);
        no_within = omega (arith, is_node.no_earlier, o.1);
        shrinks = λ b. (omega (arith, is_node.yes_earlier, o.1), omega (arith, is_node.no_earlier, o.1));
      })

  -- ---- the first literal of two

  begins_from : (place n : ℕ) (m : Node) → IsNumber nodes n → node_at nodes n ≡ Some m → place ≤ rank m.on → StartsFrom nodes place n
  begins_from place n m is e le =
      let from = node_starts n m is e in
      subst (RisesFrom place) (sym (tree n m e)) (le, from.1, from.2)

  leaf_starts : (place n : ℕ) → View nodes n → node_at nodes n ≡ None → StartsFrom nodes place n
  leaf_starts place n (is_no p q) e = subst (RisesFrom place) (sym q) tt
  leaf_starts place n (is_yes p q) e = subst (RisesFrom place) (sym q) tt
  leaf_starts place n (is_node k m p o q) e = absurd (bad e (ap (λ j. node_at nodes j) p ∙ node_at-node nodes k ∙ o))
    where
      bad : node_at nodes n ≡ None → node_at nodes n ≡ Some m → ⊥
      bad p q = cc

  last_of : (place n : ℕ) (m : Node) → node_at nodes n ≡ Some m → StartsFrom nodes place n → place ≤ rank m.on
  last_of place n m e s = (subst (RisesFrom place) (tree n m e) s).0

  literal_of : (n : ℕ) (m : Node) → node_at nodes n ≡ Some m → m.on ≤ the_mark
  literal_of n m e = let o = of_node n m e in (are.each o.0 m o.2).literal

  module _ (left right : ℕ) (a_in : IsNumber nodes left) (b_in : IsNumber nodes right) (b : Node) (eb : node_at nodes right ≡ Some b) where
    pub right-IsFirstLiteral : node_at nodes left ≡ None → IsFirstLiteral nodes left right b.on
    right-IsFirstLiteral e = record {
      literal = literal_of right b eb;
      left_starts = leaf_starts (rank b.on) left (view nodes are left a_in) e;
      right_starts = begins_from (rank b.on) right b b_in eb (omega arith);
      begins = inr (b, eb, refl);
      last = λ place p q. last_of place right b eb q;
    }

    pub later-IsFirstLiteral : (a : Node) → node_at nodes left ≡ Some a → rank b.on ≤ rank a.on → IsFirstLiteral nodes left right b.on
    later-IsFirstLiteral a ea le = record {
      literal = literal_of right b eb;
      left_starts = begins_from (rank b.on) left a a_in ea le;
      right_starts = begins_from (rank b.on) right b b_in eb (omega arith);
      begins = inr (b, eb, refl);
      last = λ place p q. last_of place right b eb q;
    }

    pub left-IsFirstLiteral : (a : Node) → node_at nodes left ≡ Some a → rank a.on < rank b.on → IsFirstLiteral nodes left right a.on
    left-IsFirstLiteral a ea lt = record {
      literal = literal_of left a ea;
      left_starts = begins_from (rank a.on) left a a_in ea (omega arith);
      right_starts = begins_from (rank a.on) right b b_in eb (omega (arith, lt));
      begins = inl (a, ea, refl);
      last = λ place p q. last_of place left a ea p;
    }

  -- the literal of a node is bounded as all are
  begins_below : (l n b : ℕ) → Begins nodes l n → DependBelow b nodes → IsBelow b l
  begins_below l n b (m, e, on) h = let o = of_node n m e in subst (IsBelow b) on (h o.0 m o.2)

  pub first-IsBelow : (left right l b : ℕ) → IsFirstLiteral nodes left right l → DependBelow b nodes → IsBelow b l
  first-IsBelow left right l b first h =
      ⊎_elim (λ (o : Begins nodes l left). begins_below l left b o h) (λ (o : Begins nodes l right). begins_below l right b o h) first.begins

-- the node of a number, read at its place
pub node_at-read : (nodes slice : List Node) (n : ℕ) (d : Node) → 1 < n → n < length nodes + 2 → slice ≡ nodes → node_at nodes n ≡ Some (get_or slice (n - 2) d)
node_at-read nodes slice n d big lt e =
    let two : n ≡ n - 2 + 2 = omega (arith, big) in
    ap (λ j. node_at nodes j) two ∙ node_at-node nodes (n - 2) ∙ slice_get-get_or nodes (n - 2) d (omega (arith, big, lt)) ∙ ap (λ xs. Some (get_or xs (n - 2) d)) (sym e)
