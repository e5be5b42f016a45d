-- The int nearest to 0 of those that a first answer and flips have.
use Rattle.std.proofs.Common.{rules, w64, to_z, of_z, ◌≡◌, ◌⊎◌, inl, inr, ⊎_elim, ◌≤◌, ℤ, pos, negsuc, ◌+ℤ◌, ◌-ℤ◌, ◌<ℤ◌, ◌≤ℤ◌, unsigned_abs, List, [], ◌∷◌, Bool, true, false, not, if◌then◌else◌, Some, None, refl, sym, subst, ◌∙◌, ap, arith}
use Rattle.std.proofs.lemmas.Bool.{false≢true}
use Rattle.std.proofs.lemmas.Cmp.{int_cmp_total}
use Rattle.std.proofs.lemmas.Int.{ints as int_laws, to_z-of_z}
use Rattle.std.specs.Cmp.{int_ranks}
use Rattle.std.specs.declared.cmp.Ordering.{Ordering}
use Rattle.std.specs.declared.cmp.Ordering.TheVariants.{Less, Equal, Greater}
use Rattle.std.specs.Ordering.{int_cmp, MatchOrdering}
use Rattle.bal_base.specs.Valid.{IsInt}
use Rattle.type_diagrams.specs.Found.{FindsInt, IsNextToZero}
use Rattle.type_diagrams.specs.Sets.{Each, IsBelowAll, Rises, answer_for, covers, least_int}
use Rattle.type_diagrams.proofs.Places.{answer-none, at_head, none-covers, below_through}
use Rattle.type_diagrams.proofs.SimpleLaws.{le_true}
use Rattle.type_diagrams.proofs.WrittenSets.{before-IsInt, below_less, less_below}

-- an int is no further from 0 than one beyond it on its side of 0, or on the other side
abbrev IsAsNear : ℤ → ℤ → Type 0
IsAsNear i j = ((i ≤ℤ j) × (pos 0 ≤ℤ (i +ℤ j))) ⊎ ((j ≤ℤ i) × ((i +ℤ j) ≤ℤ pos 0))

near : (i j : ℤ) → IsAsNear i j → unsigned_abs i ≤ unsigned_abs j
near (pos a) (pos b) (inl h) = omega (arith, int_laws, h)
near (pos a) (pos b) (inr h) = omega (arith, int_laws, h)
near (pos a) (negsuc b) (inl h) = omega (arith, int_laws, h)
near (pos a) (negsuc b) (inr h) = omega (arith, int_laws, h)
near (negsuc a) (pos b) (inl h) = omega (arith, int_laws, h)
near (negsuc a) (pos b) (inr h) = omega (arith, int_laws, h)
near (negsuc a) (negsuc b) (inl h) = omega (arith, int_laws, h)
near (negsuc a) (negsuc b) (inr h) = omega (arith, int_laws, h)

-- an int that is written and read back
pub back : (z : ℤ) → IsInt z → to_z w64 (of_z w64 z) ≡ z
back z fits = to_z-of_z w64 z (search rules)

-- an int above the least one has one before it, and the least one has none
pub below-least : (low : ℤ) → IsInt (low -ℤ pos 1) → least_int <ℤ low
below-least low h = omega (arith, int_laws, h)

pub at_least : (low : ℤ) → IsInt low → (IsInt (low -ℤ pos 1) → ⊥) → low ≡ least_int
at_least low is none = by (int_cmp least_int low) (int_ranks least_int low)
  where
    by : (o : Ordering) → MatchOrdering o (least_int <ℤ low) (least_int ≡ low) (low <ℤ least_int) → low ≡ least_int
    by Less lt = absurd (none (omega (arith, int_laws, lt), omega (arith, int_laws, is.1)))
    by Equal same = sym same
    by Greater gt = absurd (omega (arith, int_laws, gt, is.0))

abbrev pub answers : Bool → List ℤ → ℤ → Bool
answers a flips i = answer_for (covers true int_cmp) a flips i

-- The flips up to 0 are met: the ints from the last one on have the answer up to the next flip, and the one
-- before it has the other answer.
pub record Nearing (first : Bool) (flips : List ℤ) (low : ℤ) (inside : Bool) (rest : List ℤ) : Type 0 where
  pub same : (i : ℤ) → IsInt i → low ≤ℤ i → answers first flips i ≡ answers inside rest i
  pub before : least_int <ℤ low → answers first flips (low -ℤ pos 1) ≡ not inside
  pub fits : IsInt low
  pub small : low ≤ℤ pos 0
  pub ints : Each IsInt rest
  pub above : IsBelowAll int_cmp low rest
  pub rise : Rises int_cmp rest

pub nearing-start : (first : Bool) (flips : List ℤ) → Each IsInt flips → IsBelowAll int_cmp least_int flips → Rises int_cmp flips → Nearing first flips least_int first flips
nearing-start first flips ints above rise = record {
  same = λ i is le. refl;
  before = λ lt. absurd (omega (arith, int_laws, lt));
  fits = (omega (arith, int_laws), omega (arith, int_laws));
  small = omega (arith, int_laws);
  ints = ints;
  above = above;
  rise = rise;
}

twice : (b : Bool) → b ≡ not (not b)
twice true = refl
twice false = refl

module _ (first : Bool) (flips : List ℤ) (low : ℤ) (inside : Bool) (rest : List ℤ) (r : Nearing first flips low inside rest) where
  -- the answer before all flips that are left
  gap : (i : ℤ) → IsInt i → low ≤ℤ i → IsBelowAll int_cmp i rest → answers first flips i ≡ inside
  gap i is le below = r.same i is le ∙ answer-none (covers true int_cmp) inside rest i (none-covers int_cmp int_cmp_total true i rest below)

  zero_is : IsInt (pos 0)
  zero_is = (omega (arith, int_laws), omega (arith, int_laws))

  pub zero-FindsInt : inside ≡ true → IsBelowAll int_cmp (pos 0) rest → FindsInt (answers first flips) (Some (pos 0))
  zero-FindsInt e below = (zero_is, gap (pos 0) zero_is r.small below ∙ e, λ j is has. omega arith)

  -- the int before
  under_is : least_int <ℤ low → IsInt (low -ℤ pos 1)
  under_is lt = (omega (arith, int_laws, lt), omega (arith, int_laws, r.fits.1))

  under_has : least_int <ℤ low → inside ≡ false → answers first flips (low -ℤ pos 1) ≡ true
  under_has lt e = r.before lt ∙ ap not e

  under_near : (j : ℤ) → j <ℤ low → unsigned_abs (low -ℤ pos 1) ≤ unsigned_abs j
  under_near j lt = near (low -ℤ pos 1) j (inr (omega (arith, int_laws, lt), omega (arith, int_laws, lt, r.small)))

-- where the ints end
module _ (first : Bool) (flips : List ℤ) (low : ℤ) (inside : Bool) (r : Nearing first flips low inside []) (e : inside ≡ false) where
  pub none-FindsInt : low ≡ least_int → FindsInt (answers first flips) None
  none-FindsInt at i is = gap first flips low inside [] r i is (omega (arith, int_laws, at, is.0)) tt ∙ e

  pub last-FindsInt : least_int <ℤ low → FindsInt (answers first flips) (Some (low -ℤ pos 1))
  last-FindsInt lt = (under_is first flips low inside [] r lt, under_has first flips low inside [] r lt e, λ j is has. by j is has (int_cmp j low) (int_ranks j low))
    where
      gone : (j : ℤ) → IsInt j → answers first flips j ≡ true → low ≤ℤ j → ⊥
      gone j is has le = false≢true (sym (gap first flips low inside [] r j is le tt ∙ e) ∙ has)

      by : (j : ℤ) → IsInt j → answers first flips j ≡ true → (o : Ordering) → MatchOrdering o (j <ℤ low) (j ≡ low) (low <ℤ j) → unsigned_abs (low -ℤ pos 1) ≤ unsigned_abs j
      by j is has Less lt' = under_near first flips low inside [] r j lt'
      by j is has Equal same = absurd (gone j is has (omega (arith, int_laws, same)))
      by j is has Greater gt = absurd (gone j is has (omega (arith, int_laws, gt)))

-- where another flip follows
module _ (first : Bool) (flips : List ℤ) (low : ℤ) (inside : Bool) (p : ℤ) (ps : List ℤ) (r : Nearing first flips low inside (p ∷ ps)) where
  -- one that is not above 0
  pub nearing-step : p ≤ℤ pos 0 → Nearing first flips p (not inside) ps
  nearing-step small = record {
    same = λ i is le.
        let at = (le_true p i).0 le in
        let lt = less_below low p r.above.0 in
        r.same i is (omega (arith, int_laws, le, lt)) ∙ (λ j. answers (if at j then not inside else inside) ps i);
    before = λ low_lt.
        let lt = less_below low p r.above.0 in
        let under : (p -ℤ pos 1) <ℤ p = omega (arith, int_laws) in
        gap first flips low inside (p ∷ ps) r (p -ℤ pos 1) (before-IsInt low p ps r.fits r.ints.0 r.above) (omega (arith, int_laws, lt))
        (below_less (p -ℤ pos 1) p under, below_through int_cmp int_cmp_total (p -ℤ pos 1) p ps (below_less (p -ℤ pos 1) p under) r.rise.0) ∙ twice inside;
    fits = r.ints.0;
    small = small;
    ints = r.ints.1;
    above = r.rise.0;
    rise = r.rise.1;
  }

  -- one that is
  module _ (big : pos 0 <ℤ p) where
    under_all : (j : ℤ) → j <ℤ p → IsBelowAll int_cmp j (p ∷ ps)
    under_all j lt = (below_less j p lt, below_through int_cmp int_cmp_total j p ps (below_less j p lt) r.rise.0)

    flip_has : inside ≡ false → answers first flips p ≡ true
    flip_has e =
        let lt = less_below low p r.above.0 in
        r.same p r.ints.0 (omega (arith, int_laws, lt)) ∙ at_head int_cmp int_cmp_total true inside p ps r.rise.0 ∙ ap not e

    -- none between the two
    beyond : (j : ℤ) → IsInt j → answers first flips j ≡ true → inside ≡ false → (j <ℤ low) ⊎ (p ≤ℤ j)
    beyond j is has e = by (int_cmp j low) (int_ranks j low) (int_cmp j p) (int_ranks j p)
      where
        gone : low ≤ℤ j → j <ℤ p → ⊥
        gone le lt = false≢true (sym (gap first flips low inside (p ∷ ps) r j is le (under_all j lt) ∙ e) ∙ has)

        by : (o : Ordering) → MatchOrdering o (j <ℤ low) (j ≡ low) (low <ℤ j) → (q : Ordering) → MatchOrdering q (j <ℤ p) (j ≡ p) (p <ℤ j) → (j <ℤ low) ⊎ (p ≤ℤ j)
        by Less lt q h = inl lt
        by Equal same Less h = absurd (gone (omega (arith, int_laws, same)) h)
        by Equal same Equal h = inr (omega (arith, int_laws, h))
        by Equal same Greater h = inr (omega (arith, int_laws, h))
        by Greater gt Less h = absurd (gone (omega (arith, int_laws, gt)) h)
        by Greater gt Equal h = inr (omega (arith, int_laws, h))
        by Greater gt Greater h = inr (omega (arith, int_laws, h))

    flip_near : (j : ℤ) → p ≤ℤ j → unsigned_abs p ≤ unsigned_abs j
    flip_near j le = near p j (inl (le, omega (arith, int_laws, le, big)))

    flip-FindsInt : inside ≡ false → (low ≡ least_int) ⊎ (((low -ℤ pos 1) +ℤ p) ≤ℤ pos 0) → FindsInt (answers first flips) (Some p)
    flip-FindsInt e h = (r.ints.0, flip_has e, λ j is has. ⊎_elim (λ (lt : j <ℤ low). before j is lt h) (λ (le : p ≤ℤ j). flip_near j le) (beyond j is has e))
      where
        before : (j : ℤ) → IsInt j → j <ℤ low → (low ≡ least_int) ⊎ (((low -ℤ pos 1) +ℤ p) ≤ℤ pos 0) → unsigned_abs p ≤ unsigned_abs j
        before j is lt (inl at) = absurd (omega (arith, int_laws, at, lt, is.0))
        before j is lt (inr sum) = near p j (inr (omega (arith, int_laws, lt, big, r.small), omega (arith, int_laws, lt, sum)))

    under-FindsInt : inside ≡ false → least_int <ℤ low → pos 0 ≤ℤ ((low -ℤ pos 1) +ℤ p) → FindsInt (answers first flips) (Some (low -ℤ pos 1))
    under-FindsInt e lt sum = (
      under_is first flips low inside (p ∷ ps) r lt,
      under_has first flips low inside (p ∷ ps) r lt e,
      λ j is has. ⊎_elim (λ (less : j <ℤ low). under_near first flips low inside (p ∷ ps) r j less)
          (λ (le : p ≤ℤ j). near (low -ℤ pos 1) j (inl (omega (arith, int_laws, le, big, r.small), omega (arith, int_laws, le, sum)))) (beyond j is has e),
    )

    pub next-FindsInt : (i : ℤ) → IsNextToZero low inside p i → FindsInt (answers first flips) (Some i)
    next-FindsInt i h = by inside refl h
      where
        by : (b : Bool) → inside ≡ b → IsNextToZero low b p i → FindsInt (answers first flips) (Some i)
        by true e s = subst (λ k. FindsInt (answers first flips) (Some k)) (sym s) (zero-FindsInt first flips low inside (p ∷ ps) r e (under_all (pos 0) big))
        by false e (inl s) = subst (λ k. FindsInt (answers first flips) (Some k)) (sym s.0) (flip-FindsInt e s.1)
        by false e (inr s) = subst (λ k. FindsInt (answers first flips) (Some k)) (sym s.0) (under-FindsInt e s.1 s.2)
