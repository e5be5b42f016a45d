-- A path has no more literals than there are: they rise on the way.
use Rattle.std.proofs.Common.{◌≡◌, ℕ, ◌+◌, ◌<◌, ◌≤◌, ◌==◌, List, [], ◌∷◌, map, length, cond, filter, Bool, true, false, if◌then◌else◌, All, Option, Some, None, slice_get, refl, sym, ◌∙◌, eq-eqb, arith}
use Rattle.std.proofs.lemmas.Bool.{false≢true}
use Rattle.std.proofs.lemmas.Option.{slice_get_within}
use Rattle.std.proofs.lemmas.List.Elements.{All-nil, All-cons, All-head, All-tail, All-append, All-map, All-weaker, All-contains}
use Rattle.type_model.specs.declared.atoms.AtomDef.{AtomDef}
use Rattle.type_diagrams.specs.declared.kind.Kind.{Kind}
use Rattle.type_diagrams.specs.declared.path.Path.{Path}
use Rattle.type_diagrams.specs.Kinds.{the_mark}
use Rattle.type_diagrams.specs.Trees.{Tree, No, Yes, By, rank, RisesFrom}
use Rattle.type_diagrams.specs.Paths.{paths_of, with_pos, with_neg}
use Rattle.type_diagrams.specs.Conditions.{Condition, IsLiteralOf, is_def_of}
use Rattle.type_diagrams.specs.Questions.{IsPathOf}
use Rattle.type_diagrams.specs.Turns.{HasLiteralsOf}

pub length-filter-le : (f : ℕ → Bool) (ls : List ℕ) → length (filter f ls) ≤ length ls
length-filter-le f [] = omega arith
length-filter-le f (l ∷ ls) = by (f l) (length-filter-le f ls)
  where
    by : (b : Bool) → length (filter f ls) ≤ length ls → length (cond b (l ∷ filter f ls) (filter f ls)) ≤ length (l ∷ ls)
    by true le = omega (arith, le)
    by false le = omega (arith, le)

module _ (top : ℕ) where
  abbrev AreRanked : List ℕ → Type 0
  AreRanked ls = All (λ l. rank l ≤ top) ls

  -- behind so many places in the order of decisions
  abbrev IsShort : ℕ → Path → Type 0
  IsShort n p = n ≤ top + 1 → AreRanked p.pos → AreRanked p.neg → n + length p.pos + length p.neg ≤ top + 1

  short_paths : (n : ℕ) (t : Tree) → RisesFrom n t → All (IsShort n) (paths_of t)
  short_paths n No rises = All-nil (IsShort n)
  short_paths n Yes rises = All-cons (IsShort n) (record { pos = []; neg = [] }) [] (λ le p q. omega (arith, le)) (All-nil (IsShort n))
  short_paths n (By l s t) rises =
      All-append (IsShort n) (map (with_pos l) (paths_of s)) (map (with_neg l) (paths_of t))
      (All-map (IsShort n) (with_pos l) (paths_of s) (All-weaker (IsShort (rank l + 1)) (λ p. IsShort n (with_pos l p)) on_pos (paths_of s) (short_paths (rank l + 1) s rises.1)))
      (All-map (IsShort n) (with_neg l) (paths_of t) (All-weaker (IsShort (rank l + 1)) (λ p. IsShort n (with_neg l p)) on_neg (paths_of t) (short_paths (rank l + 1) t rises.2)))
    where
      Low : ℕ → Type 0
      Low k = rank k ≤ top

      on_pos : (p : Path) → IsShort (rank l + 1) p → IsShort n (with_pos l p)
      on_pos p h le a b =
          let low : rank l ≤ top = All-head (λ k. rank k ≤ top) l p.pos a in
          let rest = h (omega (arith, low)) (All-tail (λ k. rank k ≤ top) l p.pos a) b in
          let first : n ≤ rank l = rises.0 in
          omega (arith, rest, first)

      on_neg : (p : Path) → IsShort (rank l + 1) p → IsShort n (with_neg l p)
      on_neg p h le a b =
          let low : rank l ≤ top = All-head (λ k. rank k ≤ top) l p.neg b in
          let rest = h (omega (arith, low)) a (All-tail (λ k. rank k ≤ top) l p.neg b) in
          let first : n ≤ rank l = rises.0 in
          omega (arith, rest, first)

module _ (env : List AtomDef) (small : length env ≤ the_mark) (k : Kind) where
  def-within : (l : ℕ) → is_def_of k (slice_get env l) ≡ true → l < length env
  def-within l h = by (slice_get env l) refl h
    where
      by : (o : Option AtomDef) → slice_get env l ≡ o → is_def_of k o ≡ true → l < length env
      by None e h = absurd (false≢true h)
      by (Some d) e h = slice_get_within env l d e

  literal-rank : (l : ℕ) → IsLiteralOf env k l → rank l ≤ the_mark + 1
  literal-rank l is = by (l == the_mark) refl
    where
      by : (b : Bool) → (l == the_mark) ≡ b → (if b then 0 else l + 1) ≤ the_mark + 1
      by true e = omega arith
      by false e = let lt = def-within l (is (λ q. false≢true (sym e ∙ eq-eqb l the_mark q))) in omega (arith, lt, small)

  pub few_literals : (c : Condition) (p : Path) → IsPathOf c k p → HasLiteralsOf env k p → length p.pos + length p.neg ≤ the_mark + 2
  few_literals c p (t, is, among) literals =
      let short = All-contains (IsShort (the_mark + 1) 0) (paths_of t) p (short_paths (the_mark + 1) 0 t is.ordered.rises) among in
      let few = short (omega arith) (All-weaker (IsLiteralOf env k) (λ l. rank l ≤ the_mark + 1) literal-rank p.pos literals.holding) (All-weaker (IsLiteralOf env k) (λ l. rank l ≤ the_mark + 1) literal-rank p.neg literals.failing) in
      omega (arith, few)
