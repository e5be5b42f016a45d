-- The paths of a decision, behind the literals on the way to it.
use Rattle.std.specs.Option.{option_to_list}
use Rattle.std.proofs.lemmas.Bool.{false≢true}
use Rattle.std.proofs.lemmas.List.{same_from_push}
use Rattle.std.proofs.Common.{◌≡◌, ◌↔◌, ◌<◌, length, Option, Some, None, IsSome, length-append, arith, ℕ, List, [], ◌∷◌, ◌++◌, map, refl, sym, ◌∙◌, ap, append_assoc}
use Rattle.type_diagrams.specs.declared.path.Path.{Path}
use Rattle.type_diagrams.specs.Trees.{Tree, Yes, By}
use Rattle.type_diagrams.specs.Paths.{paths_of, with_pos, with_neg, behind}

map_append : (f : Path → Path) (ps qs : List Path) → map f (ps ++ qs) ≡ map f ps ++ map f qs
map_append f [] qs = refl
map_append f (p ∷ ps) qs = ap (λ l. f p ∷ l) (map_append f ps qs)

path_same : (p q : Path) → p.pos ≡ q.pos → p.neg ≡ q.neg → p ≡ q
path_same p q e f = λ i. record { pos = e i; neg = f i }

module _ (pos neg : List ℕ) (l : ℕ) where
  behind-with_pos : (ps : List Path) → map (behind pos neg) (map (with_pos l) ps) ≡ map (behind (pos ++ l ∷ []) neg) ps
  behind-with_pos [] = refl
  behind-with_pos (p ∷ ps) =
      λ i. path_same (behind pos neg (with_pos l p)) (behind (pos ++ l ∷ []) neg p) (sym (append_assoc pos (l ∷ []) p.pos)) refl i ∷ behind-with_pos ps i

  behind-with_neg : (ps : List Path) → map (behind pos neg) (map (with_neg l) ps) ≡ map (behind pos (neg ++ l ∷ [])) ps
  behind-with_neg [] = refl
  behind-with_neg (p ∷ ps) =
      λ i. path_same (behind pos neg (with_neg l p)) (behind pos (neg ++ l ∷ []) p) refl (sym (append_assoc neg (l ∷ []) p.neg)) i ∷ behind-with_neg ps i

  -- the paths of a decision by a literal: those on which it holds, and then those on which it doesn't
  pub behind-By : (s t : Tree) → map (behind pos neg) (paths_of (By l s t)) ≡ map (behind (pos ++ l ∷ []) neg) (paths_of s) ++ map (behind pos (neg ++ l ∷ [])) (paths_of t)
  behind-By s t =
      map_append (behind pos neg) (map (with_pos l) (paths_of s)) (map (with_neg l) (paths_of t))
      ∙ (λ i. behind-with_pos (paths_of s) i ++ behind-with_neg (paths_of t) i)

-- behind no literals a path is itself
pub behind-none : (ps : List Path) → map (behind [] []) ps ≡ ps
behind-none [] = refl
behind-none (p ∷ ps) = ap (λ l. p ∷ l) (behind-none ps)

-- ---- what is found from a number on

module _ (pos neg : List ℕ) (tree : Tree) (found : List Path) where
  pub found_true : (copy_pos copy_neg : List ℕ) (last : List Path) → tree ≡ Yes → copy_pos ≡ pos → copy_neg ≡ neg → last ≡ found ++ record { pos = copy_pos; neg = copy_neg } ∷ [] → last ≡ found ++ map (behind pos neg) (paths_of tree)
  found_true copy_pos copy_neg last true_here p n e =
      e ∙ (λ i. found ++ path_same (record { pos = copy_pos; neg = copy_neg }) (behind pos neg (record { pos = []; neg = [] })) (p ∙ sym (append_nil pos)) (n ∙ sym (append_nil neg)) i ∷ [])
      ∙ ap (λ t. found ++ map (behind pos neg) (paths_of t)) (sym true_here)
    where
      append_nil : (xs : List ℕ) → xs ++ [] ≡ xs
      append_nil [] = refl
      append_nil (x ∷ xs) = ap (λ ys. x ∷ ys) (append_nil xs)

  pub found_node : (l : ℕ) (s t : Tree) (longer_pos neg_again pos_again neg_before longer_neg : List ℕ) (mid last : List Path) → tree ≡ By l s t
      → longer_pos ≡ pos ++ l ∷ [] → neg_again ≡ neg → pos_again ≡ pos → neg_before ≡ neg → longer_neg ≡ neg_before ++ l ∷ []
      → mid ≡ found ++ map (behind longer_pos neg_again) (paths_of s) → last ≡ mid ++ map (behind pos_again longer_neg) (paths_of t)
      → last ≡ found ++ map (behind pos neg) (paths_of tree)
  found_node l s t longer_pos neg_again pos_again neg_before longer_neg mid last node lp n p before ln first second =
      second
      ∙ (λ i. (first ∙ (λ j. found ++ map (behind (lp j) (n j)) (paths_of s))) i ++ map (behind (p i) ((ln ∙ ap (λ ns. ns ++ l ∷ []) before) i)) (paths_of t))
      ∙ append_assoc found (map (behind (pos ++ l ∷ []) neg) (paths_of s)) (map (behind pos (neg ++ l ∷ [])) (paths_of t))
      ∙ ap (λ ps. found ++ ps) (sym (behind-By pos neg l s t))
      ∙ ap (λ u. found ++ map (behind pos neg) (paths_of u)) (sym node)

-- what is left when the last, which was put behind them, is taken away
pub popped : (xs ws zs ys : List ℕ) (l : ℕ) (r : Option ℕ) (n : ℕ) → zs ≡ ws → ws ≡ xs ++ l ∷ [] → zs ≡ ys ++ option_to_list r → IsSome r ↔ (0 < n) → n ≡ length zs → ys ≡ xs
popped xs ws zs ys l (Some x) n e g f some long = (same_from_push ys xs x l (sym f ∙ e ∙ g)).0
popped xs ws zs ys l None n e g f some long = absurd (false≢true (some.1 (omega (arith, long, ap length (e ∙ g), length-append xs (l ∷ [])))))
