-- Traps stand before the places in whose reach they are, so a chain of them ends.
use Rattle.std.proofs.Common.{◌≡◌, ◌∙◌, ◌≤◌, ◌<◌, ◌-◌, ◌+◌, ◌⊎◌, ℕ, zero, suc, List, [], ◌∷◌, Option, Some, None, inl, inr, arith, ap, length, refl, slice_get, subst, sym, take}
use Rattle.std.specs.Prelude.{All, unwrap_or, ⊤}
use Rattle.std.proofs.lemmas.List.Elements.{All-cons, All-nil}
use Rattle.std.proofs.lemmas.Option.{slice_get_within}
use Rattle.type_model.specs.declared.basic.SemType.{SemType}
use Rattle.stack_code.specs.declared.code.Code.{Code}
use Rattle.stack_code.specs.declared.code.Unit.{Unit as CodeUnit}
use Rattle.stack_code.specs.Commands.{Command, CloseTrap, Do, GoTo, GoToIfNot, OpenTrap, command_at}
use Rattle.stack_code.specs.Places.{Station, stack_at, traps_behind, traps_from, traps_then}
use Rattle.code_numbers.specs.Traps.{AreTrapRows, IsChain, TellsTraps}
use Rattle.code_needs.specs.Combining.{Needs, ◌&◌, each, need, nothing, of_some}
use Rattle.code_needs.specs.Needs.{Below}
use Rattle.code_needs.specs.PlaceNeeds.{begins_below, trap_needs}
use Rattle.code_needs.specs.RowNeeds.{below_each}
use Rattle.needs_of_rows.specs.declared.found.Found.{Found}
use Rattle.needs_of_rows.specs.Finding.{Finds}
use Rattle.needs_of_rows.proofs.Finding.{and-assoc, and-nothing, found-as, found-nothing, found-then, nothing-and}
use Rattle.needs_of_commands.specs.inner.Descending.{Descends}
use Rattle.needs_of_commands.specs.Laws.{RowsDescend, TrapsStandBefore}

-- ---- where traps stand

abbrev pub Before : ℕ → ℕ → List ℕ → Type 0
Before first p [] = ⊤
Before first p (t ∷ ts) = (first ≤ t) × (t < p) × Before first p ts

pub inside : {A : Type 0} (xs ys : A) → Some xs ≡ Some ys → xs ≡ ys
inside xs ys e = ap (λ o. unwrap_or o xs) e

pub no-such : {A : Type 0} {B : Type 0} (x : A) → None ≡ Some x → B
no-such x e = absurd (let bad : None ≡ Some x = e in let bot : ⊥ = cc in bot)

later : (first p q : ℕ) (ts : List ℕ) → p ≤ q → Before first p ts → Before first q ts
later first p q [] le h = tt
later first p q (t ∷ ts) le (a, b, more) = (a, omega (arith, le, b), later first p q ts le more)

next-later : (first p : ℕ) (ts : List ℕ) → Before first p ts → Before first (p + 1) ts
next-later first p ts h = later first p (p + 1) ts (omega arith) h

behind-before : (first p : ℕ) (c : Option Command) (ts us : List ℕ) → first ≤ p → Before first p ts → traps_behind p c ts ≡ Some us → Before first (p + 1) us
behind-before first p (Some (OpenTrap to)) ts us le h e = subst (Before first (p + 1)) (inside (p ∷ ts) us e) (le, omega arith, next-later first p ts h)
behind-before first p (Some CloseTrap) (t ∷ ts) us le h e = subst (Before first (p + 1)) (inside ts us e) (next-later first p ts h.2)
behind-before first p (Some CloseTrap) [] us le h e = no-such us e
behind-before first p (Some (Do o)) ts us le h e = subst (Before first (p + 1)) (inside ts us e) (next-later first p ts h)
behind-before first p (Some (GoTo to)) ts us le h e = subst (Before first (p + 1)) (inside ts us e) (next-later first p ts h)
behind-before first p (Some (GoToIfNot to)) ts us le h e = subst (Before first (p + 1)) (inside ts us e) (next-later first p ts h)
behind-before first p None ts us le h e = subst (Before first (p + 1)) (inside ts us e) (next-later first p ts h)

then-before : (first p q : ℕ) (c : Option Command) (o : Option (List ℕ)) (us : List ℕ) → first ≤ p → p + 1 ≡ q → ((ts : List ℕ) → o ≡ Some ts → Before first p ts) → traps_then p c o ≡ Some us → Before first q us
then-before first p q c (Some ts) us le is h e = subst (λ (n : ℕ). Before first n us) is (behind-before first p c ts us le (h ts refl) e)
then-before first p q c None us le is h e = no-such us e

pub traps-before : (code : Code) (first k : ℕ) (ts : List ℕ) → traps_from code first k ≡ Some ts → Before first (first + k) ts
traps-before code first zero ts e = subst (Before first (first + zero)) (inside [] ts e) tt
traps-before code first (suc n) ts e =
    then-before first (first + n) (first + suc n) (command_at code (first + n)) (traps_from code first n) ts (omega arith) (omega arith) (traps-before code first n) e

module _ (first : ℕ) (rows : List (Option ℕ)) where
  -- ---- chains

  head-before : (s bound : ℕ) (ts : List ℕ) → IsChain first rows (Some s) ts → Before first bound ts → s < bound
  head-before s bound [] h b = absurd h
  head-before s bound (t ∷ ts) (e, le, more) (a, b, c) = subst (λ (n : ℕ). n < bound) (sym e) b

  pub unique : (o : Option ℕ) (ts us : List ℕ) → IsChain first rows o ts → IsChain first rows o us → ts ≡ us
  unique None [] [] a b = refl
  unique None [] (u ∷ us) a b = absurd b
  unique None (t ∷ ts) us a b = absurd a
  unique (Some s) [] us a b = absurd a
  unique (Some s) (t ∷ ts) [] a b = absurd b
  unique (Some s) (t ∷ ts) (u ∷ us) (e, le, (o, at, more)) (f, lf, (q, there, others)) =
      let same : q ≡ o = inside q o (sym there ∙ at) in
      let rest = unique o ts us more (subst (λ (x : Option ℕ). IsChain first rows x us) same others) in
      λ i. (sym e ∙ f) i ∷ rest i

  pub ended : (ts : List ℕ) → IsChain first rows None ts → ts ≡ []
  ended [] h = refl
  ended (t ∷ ts) h = absurd h

  pub descends : (code : Code) (count : ℕ) → AreTrapRows code first count rows → Descends first rows
  descends code count (every, last) k s at = by (every k (slice_get_within rows k (Some s) at))
    where
      by : TellsTraps code first rows k → s < first + k
      by (o, ts, there, are, chain) =
          head-before s (first + k) ts (subst (λ (x : Option ℕ). IsChain first rows x ts) (inside o (Some s) (sym there ∙ at)) chain) (traps-before code first k ts are)

  -- how many places may come before a trap, and itself
  abbrev pub size : Option ℕ → ℕ
  size (Some s) = suc s
  size None = 0

  pub smaller-by : (trap : ℕ) (o : Option ℕ) → first ≤ trap → Descends first rows → slice_get rows (trap - first) ≡ Some o → size o < suc trap
  smaller-by trap None le d at = omega arith
  smaller-by trap (Some s) le d at =
      let less : s < first + (trap - first) = d (trap - first) s at in
      omega (arith, less, le)

  -- ---- what a chain needs

  module _ (code : Code) (p : ℕ) where
    abbrev pub below_trap : ℕ → Needs
    below_trap t = begins_below (stack_at code p) (stack_at code t)

    abbrev pub Goes : Option ℕ → Option ℕ → Found → Found → Type 0
    Goes innermost next old new =
        (front : Needs) × (left : List ℕ) × Finds front old new × IsChain first rows next left
        × ((ts : List ℕ) → IsChain first rows innermost ts → each below_trap ts ≡ front & each below_trap left)

    pub chain-none : (innermost : Option ℕ) (f : Found) → (ts : List ℕ) × IsChain first rows innermost ts → Goes innermost innermost f f
    chain-none innermost f (left, chain) =
        (nothing, left, found-nothing f, chain, λ ts h. ap (each below_trap) (unique innermost ts left h chain) ∙ sym (nothing-and (each below_trap left)))

    pub chain-more : (innermost next after : Option ℕ) (trap : ℕ) (old mid new : Found) → next ≡ Some trap → Goes innermost next old mid → Finds (below_trap trap) mid new
        → ((o : Option ℕ) → slice_get rows (trap - first) ≡ Some o → after ≡ o) → Goes innermost after old new
    chain-more innermost next after trap old mid new is (front, left, found, chain, all) finds told = by left (subst (λ (o : Option ℕ). IsChain first rows o left) is chain) all
      where
        by : (us : List ℕ) → IsChain first rows (Some trap) us → ((ts : List ℕ) → IsChain first rows innermost ts → each below_trap ts ≡ front & each below_trap us) → Goes innermost after old new
        by [] h all = absurd h
        by (t ∷ more) (e, le, (o, at, rest)) all = (
          front & below_trap trap,
          more,
          found-then front (below_trap trap) old mid new found finds,
          subst (λ (x : Option ℕ). IsChain first rows x more) (sym (told o at)) rest,
          λ ts h. all ts h ∙ ap (λ (n : ℕ). front & (below_trap n & each below_trap more)) (sym e) ∙ sym (and-assoc front (below_trap trap) (each below_trap more)),
        )

    pub chain-end : (innermost next : Option ℕ) (old new : Found) → ((x : ℕ) → next ≡ Some x → ⊥) → Goes innermost next old new → (ts : List ℕ) → IsChain first rows innermost ts → Finds (each below_trap ts) old new
    chain-end innermost (Some x) old new no-more goes ts h = absurd (no-more x refl)
    chain-end innermost None old new no-more (front, left, found, chain, all) ts h =
        found-as front (each below_trap ts) old new (sym (all ts h ∙ ap (λ l. front & each below_trap l) (ended left chain) ∙ and-nothing front)) found

    pub from-first : (innermost next : Option ℕ) (trap : ℕ) (old new : Found) → next ≡ Some trap → Goes innermost next old new → first ≤ trap
    from-first innermost next trap old new is (front, left, found, chain, all) = by left (subst (λ (o : Option ℕ). IsChain first rows o left) is chain)
      where
        by : (us : List ℕ) → IsChain first rows (Some trap) us → first ≤ trap
        by [] h = absurd h
        by (t ∷ more) (e, le, rest) = le

    pub smaller : (innermost next after : Option ℕ) (trap : ℕ) (old new : Found) → next ≡ Some trap → Goes innermost next old new → Descends first rows
        → ((o : Option ℕ) → slice_get rows (trap - first) ≡ Some o → after ≡ o) → size after < size next
    smaller innermost next after trap old new is (front, left, found, chain, all) d told = by left (subst (λ (o : Option ℕ). IsChain first rows o left) is chain)
      where
        by : (us : List ℕ) → IsChain first rows (Some trap) us → size after < size next
        by [] h = absurd h
        by (t ∷ more) (e, le, (o, at, rest)) =
            subst (λ (x : Option ℕ). size x < size next) (sym (told o at)) (subst (λ (x : Option ℕ). size o < size x) (sym is) (smaller-by trap o le d at))

-- ---- a place

-- where more traps are closed than were opened, it is so from there on
pub none-on : (code : Code) (first n d : ℕ) → traps_from code first n ≡ None → traps_from code first (n + d) ≡ None
none-on code first n zero e =
    let same : n + zero ≡ n = omega arith in
    ap (traps_from code first) same ∙ e
none-on code first n (suc d) e =
    let next : n + suc d ≡ suc (n + d) = omega arith in
    ap (traps_from code first) next ∙ ap (λ o. traps_then (first + (n + d)) (command_at code (first + (n + d))) o) (none-on code first n d e)

pub out-of : {A : Type 0} (xs : List A) (k : ℕ) → slice_get xs k ≡ None → length xs ≤ k
out-of [] k e = omega arith
out-of (x ∷ xs) zero e = absurd (let bad : Some x ≡ None = e in let bot : ⊥ = cc in bot)
out-of (x ∷ xs) (suc k) e =
    let less : length xs ≤ k = out-of xs k e in
    omega (arith, less)

module _ (code : Code) (u : CodeUnit) (station : Station) (p : ℕ) (rows : List (Option ℕ)) (count : ℕ) where
  pub has-chain : (innermost : Option ℕ) → AreTrapRows code u.first count rows → slice_get rows (p - u.first) ≡ Some innermost → (ts : List ℕ) × IsChain u.first rows innermost ts
  has-chain innermost (every, last) at = by (every (p - u.first) (slice_get_within rows (p - u.first) innermost at))
    where
      by : TellsTraps code u.first rows (p - u.first) → (ts : List ℕ) × IsChain u.first rows innermost ts
      by (o, ts, there, are, chain) = (ts, subst (λ (x : Option ℕ). IsChain u.first rows x ts) (inside o innermost (sym there ∙ at)) chain)

  pub trapped : (innermost : Option ℕ) (old new : Found) → AreTrapRows code u.first count rows → slice_get rows (p - u.first) ≡ Some innermost
      → ((ts : List ℕ) → IsChain u.first rows innermost ts → Finds (each (below_trap u.first rows code p) ts) old new) → Finds (trap_needs code u station p) old new
  trapped innermost old new (every, last) at finds = by (every (p - u.first) (slice_get_within rows (p - u.first) innermost at))
    where
      by : TellsTraps code u.first rows (p - u.first) → Finds (trap_needs code u station p) old new
      by (o, ts, there, are, chain) =
          found-as (each (below_trap u.first rows code p) ts) (trap_needs code u station p) old new (ap (λ x. of_some x (each (below_trap u.first rows code p))) (sym are))
          (finds ts (subst (λ (x : Option ℕ). IsChain u.first rows x ts) (inside o innermost (sym there ∙ at)) chain))

  pub untrapped : (old new : Found) → p - u.first ≤ count → AreTrapRows code u.first count rows → slice_get rows (p - u.first) ≡ None → Finds None old new → Finds (trap_needs code u station p) old new
  untrapped old new le (every, last) at finds = by last
    where
      by : (length rows ≡ count + 1) ⊎ ((length rows ≤ count) × (traps_from code u.first (length rows) ≡ None)) → Finds (trap_needs code u station p) old new
      by (inl long) =
          let out : length rows ≤ p - u.first = out-of rows (p - u.first) at in
          absurd (omega (arith, long, out, le))
      by (inr (short, closed)) =
          let out : length rows ≤ p - u.first = out-of rows (p - u.first) at in
          let same : length rows + ((p - u.first) - length rows) ≡ p - u.first = omega (arith, out) in
          found-as None (trap_needs code u station p) old new
          (sym (ap (λ x. of_some x (each (below_trap u.first rows code p))) (ap (traps_from code u.first) (sym same) ∙ none-on code u.first (length rows) ((p - u.first) - length rows) closed))) finds

-- ---- the first types

pub begins-as : (types below : List SemType) → begins_below types below ≡ below_each (take (length below) types) below
begins-as [] [] = refl
begins-as (s ∷ types) [] = refl
begins-as [] (t ∷ below) = refl
begins-as (s ∷ types) (t ∷ below) = ap (λ n. need (Below s t) & n) (begins-as types below)

-- ---- the laws

before-all : (first p : ℕ) (ts : List ℕ) → Before first p ts → All (λ t. (first ≤ t) × (t < p)) ts
before-all first p [] h = All-nil (λ t. (first ≤ t) × (t < p))
before-all first p (t ∷ ts) (a, b, more) = All-cons (λ s. (first ≤ s) × (s < p)) t ts (a, b) (before-all first p ts more)

pub traps-stand : TrapsStandBefore
traps-stand code first k ts e = before-all first (first + k) ts (traps-before code first k ts e)

pub rows-descend : RowsDescend
rows-descend code first count rows told k s at = descends first rows code count told k s at
