-- The trees of the numbers of a table of nodes.
use Rattle.std.proofs.Common.{◌≡◌, ℕ, zero, suc, ◌<◌, ◌+◌, List, [], ◌∷◌, ◌++◌, length, fold, Some, slice_get, unwrap_or, refl, sym, subst, ◌∙◌, ap, append_assoc, length-append, arith}
use Rattle.std.proofs.lemmas.List.Sums.{fold-append}
use Rattle.std.proofs.lemmas.Option.{slice_get_within}
use Rattle.type_diagrams.specs.declared.node.Node.{Node}
use Rattle.type_diagrams.specs.Trees.{Tree, No, Yes, By, rank, RisesFrom, IsOrdered}
use Rattle.type_diagrams.specs.Tables.{tree_at, with_node, trees_of, tree_of, ComesAfter, AreNodes}

-- ---- lists

pub slice_get-append : {X : Type 0} (xs ys : List X) (k : ℕ) → k < length xs → slice_get (xs ++ ys) k ≡ slice_get xs k
slice_get-append [] ys k lt = absurd (omega (arith, lt))
slice_get-append (x ∷ xs) ys zero lt = refl
slice_get-append (x ∷ xs) ys (suc k) lt = slice_get-append xs ys k (omega (arith, lt))

pub slice_get-last : {X : Type 0} (xs ys : List X) (y : X) → slice_get (xs ++ y ∷ ys) (length xs) ≡ Some y
slice_get-last [] ys y = refl
slice_get-last (x ∷ xs) ys y = slice_get-last xs ys y

pub member_at : {X : Type 0} (xs : List X) (k : ℕ) → k < length xs → (x : X) × (slice_get xs k ≡ Some x)
member_at [] k lt = absurd (omega (arith, lt))
member_at (x ∷ xs) zero lt = (x, refl)
member_at (x ∷ xs) (suc k) lt = member_at xs k (omega (arith, lt))

-- ---- trees of longer tables

tree_at-append : (ts more : List Tree) (n : ℕ) → n < length ts + 2 → tree_at (ts ++ more) n ≡ tree_at ts n
tree_at-append ts more zero lt = refl
tree_at-append ts more (suc zero) lt = refl
tree_at-append ts more (suc (suc k)) lt = ap (λ o. unwrap_or o No) (slice_get-append ts more k (omega (arith, lt)))

grows : (ts : List Tree) (nodes : List Node) → (more : List Tree) × (fold with_node ts nodes ≡ ts ++ more)
grows ts [] = ([], simp_nil ts)
  where
    simp_nil : (xs : List Tree) → xs ≡ xs ++ []
    simp_nil [] = refl
    simp_nil (x ∷ xs) = ap (λ ys. x ∷ ys) (simp_nil xs)
grows ts (m ∷ nodes) =
    let t = By m.on (tree_at ts m.yes) (tree_at ts m.no) in
    let g = grows (with_node ts m) nodes in
    (t ∷ g.0, g.1 ∙ append_assoc ts (t ∷ []) g.0)

length-trees : (ts : List Tree) (nodes : List Node) → length (fold with_node ts nodes) ≡ length ts + length nodes
length-trees ts [] = omega arith
length-trees ts (m ∷ nodes) =
    let t = By m.on (tree_at ts m.yes) (tree_at ts m.no) in
    omega (arith, length-trees (with_node ts m) nodes, length-append ts (t ∷ []))

-- what a number stands for stays in a longer table
pub tree_of-append : (nodes more : List Node) (n : ℕ) → n < length nodes + 2 → tree_of (nodes ++ more) n ≡ tree_of nodes n
tree_of-append nodes more n lt =
    let g = grows (trees_of nodes) more in
    ap (λ ts. tree_at ts n) (fold-append with_node [] nodes more ∙ g.1)
    ∙ tree_at-append (trees_of nodes) g.0 n (omega (arith, lt, length-trees [] nodes))

-- ---- the tree of a node

node_tree : (ts : List Tree) (nodes : List Node) (k : ℕ) (m : Node) → slice_get nodes k ≡ Some m → m.yes < length ts + k + 2 → m.no < length ts + k + 2
    → slice_get (fold with_node ts nodes) (length ts + k) ≡ Some (By m.on (tree_at (fold with_node ts nodes) m.yes) (tree_at (fold with_node ts nodes) m.no))
node_tree ts [] k m e y n = cc
node_tree ts (x ∷ xs) zero m e y n =
    let same : x ≡ m = cc in
    let t : Tree = By x.on (tree_at ts x.yes) (tree_at ts x.no) in
    let g = grows (with_node ts x) xs in
    let all : fold with_node ts (x ∷ xs) ≡ ts ++ (t ∷ g.0) = g.1 ∙ append_assoc ts (t ∷ []) g.0 in
    let place : length ts + 0 ≡ length ts = omega arith in
    let found : slice_get (fold with_node ts (x ∷ xs)) (length ts + 0) ≡ Some t =
    ap (λ j. slice_get (fold with_node ts (x ∷ xs)) j) place ∙ ap (λ us. slice_get us (length ts)) all ∙ slice_get-last ts g.0 t in
    let yes : tree_at (fold with_node ts (x ∷ xs)) m.yes ≡ tree_at ts x.yes =
    ap (λ us. tree_at us m.yes) all ∙ tree_at-append ts (t ∷ g.0) m.yes (omega (arith, y)) ∙ ap (λ j. tree_at ts j.yes) (sym same) in
    let no : tree_at (fold with_node ts (x ∷ xs)) m.no ≡ tree_at ts x.no =
    ap (λ us. tree_at us m.no) all ∙ tree_at-append ts (t ∷ g.0) m.no (omega (arith, n)) ∙ ap (λ j. tree_at ts j.no) (sym same) in
    found ∙ ap Some (λ i. By (same i).on (yes_back yes i) (yes_back no i))
  where
    yes_back : {a b : Tree} → a ≡ b → b ≡ a
    yes_back e = sym e
node_tree ts (x ∷ xs) (suc k) m e y n =
    let t : Tree = By x.on (tree_at ts x.yes) (tree_at ts x.no) in
    let l : length (with_node ts x) ≡ length ts + 1 = omega (arith, length-append ts (t ∷ [])) in
    let h = node_tree (with_node ts x) xs k m e (omega (arith, l, y)) (omega (arith, l, n)) in
    let place : length ts + suc k ≡ length (with_node ts x) + k = omega (arith, l) in
    ap (λ j. slice_get (fold with_node ts (x ∷ xs)) j) place ∙ h

-- what a number is, and its tree
pub data View (nodes : List Node) (n : ℕ) : Type 0 where
  is_no : n ≡ 0 → tree_of nodes n ≡ No → View nodes n
  is_yes : n ≡ 1 → tree_of nodes n ≡ Yes → View nodes n
  is_node : (k : ℕ) (m : Node) → n ≡ k + 2 → slice_get nodes k ≡ Some m → tree_of nodes n ≡ By m.on (tree_of nodes m.yes) (tree_of nodes m.no) → View nodes n

module _ (nodes : List Node) (are : AreNodes nodes) where
  pub tree_of_node : (k : ℕ) (m : Node) → slice_get nodes k ≡ Some m → tree_of nodes (k + 2) ≡ By m.on (tree_of nodes m.yes) (tree_of nodes m.no)
  tree_of_node k m e =
      let is = are.each k m e in
      let two : k + 2 ≡ suc (suc k) = omega arith in
      let h = node_tree [] nodes k m e (omega (arith, is.yes_earlier)) (omega (arith, is.no_earlier)) in
      ap (λ j. tree_of nodes j) two ∙ ap (λ o. unwrap_or o No) (ap (λ j. slice_get (trees_of nodes) j) (zero_plus k) ∙ h)
    where
      zero_plus : (j : ℕ) → j ≡ 0 + j
      zero_plus j = omega arith

  pub view : (n : ℕ) → n < length nodes + 2 → View nodes n
  view zero lt = is_no refl refl
  view (suc zero) lt = is_yes refl refl
  view (suc (suc k)) lt =
      let m = member_at nodes k (omega (arith, lt)) in
      let two : suc (suc k) ≡ k + 2 = omega arith in
      is_node k m.0 two m.1 (ap (λ j. tree_of nodes j) two ∙ tree_of_node k m.0 m.1)

  -- ---- one tree, one number

  node_same : (m n : Node) → m.on ≡ n.on → m.yes ≡ n.yes → m.no ≡ n.no → m ≡ n
  node_same m n e f g = λ i. record { on = e i; yes = f i; no = g i }

  abbrev IsIn : ℕ → Type 0
  IsIn n = n < length nodes + 2

  abbrev OneNumber : ℕ → ℕ → Type 0
  OneNumber m n = IsIn n → tree_of nodes m ≡ tree_of nodes n → m ≡ n

  one_number : (m n : ℕ) → tree_of nodes m ≡ tree_of nodes n → ((i j : ℕ) → i < m → IsIn i → OneNumber i j) → View nodes m → View nodes n → m ≡ n
  one_number m n e below (is_no p q) (is_no r s) = p ∙ sym r
  one_number m n e below (is_no p q) (is_yes r s) = cc
  one_number m n e below (is_no p q) (is_node j y r t s) = cc
  one_number m n e below (is_yes p q) (is_no r s) = cc
  one_number m n e below (is_yes p q) (is_yes r s) = p ∙ sym r
  one_number m n e below (is_yes p q) (is_node j y r t s) = cc
  one_number m n e below (is_node k x p o q) (is_no r s) = cc
  one_number m n e below (is_node k x p o q) (is_yes r s) = cc
  one_number m n e below (is_node k x p o q) (is_node j y r t s) =
      let all : By x.on (tree_of nodes x.yes) (tree_of nodes x.no) ≡ By y.on (tree_of nodes y.yes) (tree_of nodes y.no) = sym q ∙ e ∙ s in
      let xs = are.each k x o in
      let ys = are.each j y t in
      let k_in : k < length nodes = slice_get_within nodes k x o in
      let j_in : j < length nodes = slice_get_within nodes j y t in
      let on : x.on ≡ y.on = cc in
      let yes : tree_of nodes x.yes ≡ tree_of nodes y.yes = cc in
      let no : tree_of nodes x.no ≡ tree_of nodes y.no = cc in
      let yes_same = below x.yes y.yes (omega (arith, p, xs.yes_earlier)) (omega (arith, xs.yes_earlier, k_in)) (omega (arith, ys.yes_earlier, j_in)) yes in
      let no_same = below x.no y.no (omega (arith, p, xs.no_earlier)) (omega (arith, xs.no_earlier, k_in)) (omega (arith, ys.no_earlier, j_in)) no in
      let same : x ≡ y = node_same x y on yes_same no_same in
      let place : k ≡ j = are.no_twins k j x o (t ∙ ap Some (sym same)) in
      omega (arith, p, r, place)

  injective_to : (b m n : ℕ) → m < b → IsIn m → OneNumber m n
  injective_to zero m n lt a c e = absurd (omega (arith, lt))
  injective_to (suc b) m n lt a c e =
      one_number m n e (λ i j less i_in. injective_to b i j (omega (arith, lt, less)) i_in) (view m a) (view n c)

  pub tree_of-injective : (m n : ℕ) → m < length nodes + 2 → n < length nodes + 2 → tree_of nodes m ≡ tree_of nodes n → m ≡ n
  tree_of-injective m n a c e = injective_to (m + 1) m n (omega arith) a c e

  -- ---- each tree is in order

  rises_after : (l n : ℕ) → View nodes n → ComesAfter nodes l n → RisesFrom 0 (tree_of nodes n) → RisesFrom (rank l + 1) (tree_of nodes n)
  rises_after l n (is_no p q) after h = subst (RisesFrom (rank l + 1)) (sym q) tt
  rises_after l n (is_yes p q) after h = subst (RisesFrom (rank l + 1)) (sym q) tt
  rises_after l n (is_node k m p o q) after h =
      let below : rank l < rank m.on = after k m p o in
      let from = subst (RisesFrom 0) q h in
      subst (RisesFrom (rank l + 1)) (sym q) (omega (arith, below), from.1, from.2)

  ordered : (n : ℕ) → ((i : ℕ) → i < n → IsIn i → IsOrdered (tree_of nodes i)) → View nodes n → IsOrdered (tree_of nodes n)
  ordered n below (is_no p q) = subst IsOrdered (sym q) (record { rises = tt; reduced = tt })
  ordered n below (is_yes p q) = subst IsOrdered (sym q) (record { rises = tt; reduced = tt })
  ordered n below (is_node k m p o q) =
      let is = are.each k m o in
      let k_in : k < length nodes = slice_get_within nodes k m o in
      let yes_in : m.yes < length nodes + 2 = omega (arith, is.yes_earlier, k_in) in
      let no_in : m.no < length nodes + 2 = omega (arith, is.no_earlier, k_in) in
      let yes = below m.yes (omega (arith, p, is.yes_earlier)) yes_in in
      let no = below m.no (omega (arith, p, is.no_earlier)) no_in in
      subst IsOrdered (sym q) (record {
        rises = (omega arith, rises_after m.on m.yes (view m.yes yes_in) is.yes_after yes.rises, rises_after m.on m.no (view m.no no_in) is.no_after no.rises);
        reduced = ((λ e. is.differ (tree_of-injective m.yes m.no yes_in no_in e)), yes.reduced, no.reduced);
      })

  ordered_to : (b n : ℕ) → n < b → IsIn n → IsOrdered (tree_of nodes n)
  ordered_to zero n lt a = absurd (omega (arith, lt))
  ordered_to (suc b) n lt a = ordered n (λ i less i_in. ordered_to b i (omega (arith, lt, less)) i_in) (view n a)

  pub tree_of-ordered : (n : ℕ) → n < length nodes + 2 → IsOrdered (tree_of nodes n)
  tree_of-ordered n a = ordered_to (n + 1) n (omega arith) a
