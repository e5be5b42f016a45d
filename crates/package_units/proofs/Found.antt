-- What was noted is what is found by numbers.
use Rattle.std.proofs.Common.{◌≡◌, ◌≢◌, ◌∙◌, ◌<◌, ◌≤◌, ◌++◌, ◌⊎◌, ℕ, zero, suc, List, [], ◌∷◌, map, sym, ap, refl, length, true, false, arith, inl, inr, subst}
use Rattle.std.specs.Prelude.{if◌then◌else◌, Bool, ◌==◌, ⊤, Option, Some, None, find, option_map, replicate, slice_get, slice_set}
use Rattle.std.specs.Option.{option_or}
use Rattle.std.proofs.lemmas.List.{length-map}
use Rattle.std.proofs.lemmas.Bool.{cases_Bool, eqb-true, eq-eqb, both_ways, false≢true, ne_eqb}
use Rattle.std.proofs.lemmas.List.Folds.{find-append}
use Rattle.std.proofs.lemmas.Option.{slice_get-map, slice_get_past, slice_get_within}
use Rattle.typed_tree.specs.Listed.{Listed, nothing, one, ◌&◌, joined, members, run}
use Rattle.typed_tree.specs.Units.{UnitTree, function_units, initialiser_units, unit_at, units_of}
use Rattle.typed_tree.specs.declared.package.TypedPackage.{TypedPackage}
use Rattle.lower_model.specs.Assembled.{HasUnits}
use Rattle.package_units.specs.Noted.{AreAll, Noted, noted, noted_at, unmet}

abbrev has_number : ℕ → UnitTree → Bool
has_number k u = u.unit.number == k

-- ---- members of lists

get-set-here : {X : Type 0} (xs : List X) (i : ℕ) (x y : X) → slice_get xs i ≡ Some y → slice_get (slice_set xs i x) i ≡ Some x
get-set-here [] i x y at = absurd (grind (arith, at))
get-set-here (z ∷ zs) zero x y at = refl
get-set-here (z ∷ zs) (suc i) x y at = get-set-here zs i x y at

get-set-there : {X : Type 0} (xs : List X) (i k : ℕ) (x : X) → i ≢ k → slice_get (slice_set xs i x) k ≡ slice_get xs k
get-set-there [] i k x other = refl
get-set-there (z ∷ zs) zero zero x other = absurd (other refl)
get-set-there (z ∷ zs) zero (suc k) x other = refl
get-set-there (z ∷ zs) (suc i) zero x other = refl
get-set-there (z ∷ zs) (suc i) (suc k) x other = get-set-there zs i k x (λ e. other (ap suc e))

length-set-same : {X : Type 0} (xs : List X) (i : ℕ) (x : X) → length (slice_set xs i x) ≡ length xs
length-set-same [] i x = refl
length-set-same (z ∷ zs) zero x = refl
length-set-same (z ∷ zs) (suc i) x = ap suc (length-set-same zs i x)

-- ---- what is noted

-- the first one or the second
then-first : {X : Type 0} (a b c : Option X) → option_or (option_or a b) c ≡ option_or a (option_or b c)
then-first (Some x) b c = refl
then-first None b c = refl

or-none : {X : Type 0} (a : Option X) → option_or a None ≡ a
or-none (Some x) = refl
or-none None = refl

found-here : (u : UnitTree) (k : ℕ) → u.unit.number ≡ k → find (has_number k) (u ∷ []) ≡ Some u
found-here u k e = ap (λ b. if b then Some u else None) (eq-eqb u.unit.number k e)

found-not : (u : UnitTree) (k : ℕ) → u.unit.number ≢ k → find (has_number k) (u ∷ []) ≡ None
found-not u k e = ap (λ b. if b then Some u else None) (ne_eqb u.unit.number k e)

module _ (k : ℕ) (o : Option UnitTree) where
  -- noting one
  noted-at : (u : UnitTree) (s : Noted) (here : Option (Option UnitTree)) → slice_get s.units u.unit.number ≡ here → slice_get s.units k ≡ Some o → (u.unit.number ≡ k) ⊎ (u.unit.number ≢ k)
      → slice_get (noted_at u here s).units k ≡ Some (option_or o (find (has_number k) (u ∷ [])))
  noted-at u s None is at (inl e) = absurd (grind (arith, is, at, e))
  noted-at u s (Some None) is at (inl e) =
      subst (λ n. slice_get (slice_set s.units n (Some u)) k ≡ Some (option_or o (find (has_number k) (u ∷ [])))) (sym e)
      (get-set-here s.units k (Some u) o at ∙ ap Some (found-first o (same-some (ap (slice_get s.units) (sym e) ∙ is) at)))
    where
      same-some : slice_get s.units k ≡ Some None → slice_get s.units k ≡ Some o → o ≡ None
      same-some a b = grind (arith, a, b)

      found-first : (o : Option UnitTree) → o ≡ None → Some u ≡ option_or o (find (has_number k) (u ∷ []))
      found-first o n = sym (ap (λ o. option_or o (find (has_number k) (u ∷ []))) n ∙ found-here u k e)
  noted-at u s (Some (Some v)) is at (inl e) = at ∙ ap Some (sym (ap (λ o. option_or o (find (has_number k) (u ∷ []))) (there o (ap (slice_get s.units) (sym e) ∙ is) at) ∙ sym (there o (ap (slice_get s.units) (sym e) ∙ is) at)))
    where
      there : (o : Option UnitTree) → slice_get s.units k ≡ Some (Some v) → slice_get s.units k ≡ Some o → o ≡ Some v
      there o a b = grind (arith, a, b)
  noted-at u s None is at (inr e) = at ∙ ap Some (sym (ap (option_or o) (found-not u k e) ∙ or-none o))
  noted-at u s (Some None) is at (inr e) = get-set-there s.units u.unit.number k (Some u) e ∙ at ∙ ap Some (sym (ap (option_or o) (found-not u k e) ∙ or-none o))
  noted-at u s (Some (Some v)) is at (inr e) = at ∙ ap Some (sym (ap (option_or o) (found-not u k e) ∙ or-none o))

decided : (n k : ℕ) → (n ≡ k) ⊎ (n ≢ k)
decided n k = elim (cases_Bool (n == k)) [ inl e ↦ inl (eqb-true n k e) | inr e ↦ inr (λ is. both_ways (n == k) e (eq-eqb n k is)) ]

-- behind a walk there stands what stood there, or else the first that was met
found : (l : Listed UnitTree) (k : ℕ) (o : Option UnitTree) (s : Noted) → slice_get s.units k ≡ Some o → slice_get (run noted l s).units k ≡ Some (option_or o (find (has_number k) (members l)))
found nothing k o s at = at ∙ ap Some (sym (or-none o))
found (one u) k o s at = noted-at k o u s (slice_get s.units u.unit.number) refl at (decided u.unit.number k)
found (p & q) k o s at =
    found q k (option_or o (find (has_number k) (members p))) (run noted p s) (found p k o s at)
    ∙ ap Some (then-first o (find (has_number k) (members p)) (find (has_number k) (members q)) ∙ ap (option_or o) (sym (find-append (has_number k) (members p) (members q))))

-- ---- what fits

fits-at : (u : UnitTree) (s : Noted) (here : Option (Option UnitTree)) → (noted_at u here s).fits ≡ true → s.fits ≡ true
fits-at u s None f = absurd (false≢true f)
fits-at u s (Some None) f = f
fits-at u s (Some (Some v)) f = absurd (false≢true f)

length-at : (u : UnitTree) (s : Noted) (here : Option (Option UnitTree)) → length (noted_at u here s).units ≡ length s.units
length-at u s None = refl
length-at u s (Some None) = length-set-same s.units u.unit.number (Some u)
length-at u s (Some (Some v)) = refl

within-at : (u : UnitTree) (s : Noted) (here : Option (Option UnitTree)) → slice_get s.units u.unit.number ≡ here → (noted_at u here s).fits ≡ true → u.unit.number < length s.units
within-at u s None is f = absurd (false≢true f)
within-at u s (Some o) is f = slice_get_within s.units u.unit.number o is

fits-before : (l : Listed UnitTree) (s : Noted) → (run noted l s).fits ≡ true → s.fits ≡ true
fits-before nothing s f = f
fits-before (one u) s f = fits-at u s (slice_get s.units u.unit.number) f
fits-before (p & q) s f = fits-before p s (fits-before q (run noted p s) f)

length-kept : (l : Listed UnitTree) (s : Noted) → length (run noted l s).units ≡ length s.units
length-kept nothing s = refl
length-kept (one u) s = length-at u s (slice_get s.units u.unit.number)
length-kept (p & q) s = length-kept q (run noted p s) ∙ length-kept p s

none-beyond : (l : Listed UnitTree) (k : ℕ) (s : Noted) → (run noted l s).fits ≡ true → length s.units ≤ k → find (has_number k) (members l) ≡ None
none-beyond nothing k s f le = refl
none-beyond (one u) k s f le =
    found-not u k (λ e. let lt : u.unit.number < length s.units = within-at u s (slice_get s.units u.unit.number) refl f in omega (arith, lt, le, e))
none-beyond (p & q) k s f le =
    find-append (has_number k) (members p) (members q)
    ∙ ap (λ o. option_or o (find (has_number k) (members q))) (none-beyond p k s (fits-before q (run noted p s) f) le)
    ∙ none-beyond q k (run noted p s) f (subst (λ n. n ≤ k) (sym (length-kept p s)) le)

-- each that was met stands at its number
stays : (l : Listed UnitTree) (k : ℕ) (v : UnitTree) (s : Noted) → slice_get s.units k ≡ Some (Some v) → slice_get (run noted l s).units k ≡ Some (Some v)
stays l k v s at = found l k (Some v) s at

stands-at : (u : UnitTree) (s : Noted) (here : Option (Option UnitTree)) → slice_get s.units u.unit.number ≡ here → (noted_at u here s).fits ≡ true → slice_get (noted_at u here s).units u.unit.number ≡ Some (Some u)
stands-at u s None is f = absurd (false≢true f)
stands-at u s (Some None) is f = get-set-here s.units u.unit.number (Some u) None is
stands-at u s (Some (Some v)) is f = absurd (false≢true f)

abbrev StandsIn : Noted → UnitTree → Type 0
StandsIn n u = slice_get n.units u.unit.number ≡ Some (Some u)

abbrev Each : (UnitTree → Type 0) → List UnitTree → Type 0
Each P [] = ⊤
Each P (u ∷ us) = P u × Each P us

all-behind : (q : Listed UnitTree) (s : Noted) (us : List UnitTree) → Each (StandsIn s) us → Each (StandsIn (run noted q s)) us
all-behind q s [] all = tt
all-behind q s (u ∷ us) all = (stays q u.unit.number u s all.0, all-behind q s us all.1)

all-more : (P : UnitTree → Type 0) (us vs : List UnitTree) → Each P us → Each P vs → Each P (us ++ vs)
all-more P [] vs all more = more
all-more P (u ∷ us) vs all more = (all.0, all-more P us vs all.1 more)

all-stand : (l : Listed UnitTree) (s : Noted) → (run noted l s).fits ≡ true → Each (StandsIn (run noted l s)) (members l)
all-stand nothing s f = tt
all-stand (one u) s f = (stands-at u s (slice_get s.units u.unit.number) refl f, tt)
all-stand (p & q) s f =
    all-more (StandsIn (run noted (p & q) s)) (members p) (members q) (all-behind q (run noted p s) (members p) (all-stand p s (fits-before q (run noted p s) f)))
    (all-stand q (run noted p s) f)

-- ---- the units of a package

in-room : (n k : ℕ) → (slice_get (unmet n).units k ≡ Some None) ⊎ (n ≤ k)
in-room zero k = inr (omega arith)
in-room (suc n) zero = inl refl
in-room (suc n) (suc k) = elim (in-room n k) [ inl e ↦ inl e | inr le ↦ inr (omega (arith, le)) ]

length-room : (n : ℕ) → length (unmet n).units ≡ n
length-room zero = refl
length-room (suc n) = ap suc (length-room n)

same-found : (a b : Option UnitTree) → option_map Some a ≡ Some b → b ≡ a
same-found (Some u) b e = grind (arith, e)
same-found None b e = absurd (grind (arith, e))

abbrev pub listed : TypedPackage → Listed UnitTree
listed p = joined (map function_units p.functions.items) & joined (map initialiser_units p.initialisers.items)

-- where all that was met fits, and something was met for each number
pub has-units : (p : TypedPackage) (us : List UnitTree) (final : Noted) → final ≡ run noted (listed p) (unmet p.units) → final.fits ≡ true → final.units ≡ map Some us → HasUnits p us
has-units p us final is fits all =
    record { units = λ k. elim (in-room p.units k) [ inl e ↦ within k e | inr le ↦ beyond k le ]; count = count }
  where
    count : length us ≡ p.units
    count = sym (length-map us Some) ∙ sym (ap length all) ∙ ap (λ n. length n.units) is ∙ length-kept (listed p) (unmet p.units) ∙ length-room p.units

    within : (k : ℕ) → slice_get (unmet p.units).units k ≡ Some None → unit_at p k ≡ slice_get us k
    within k e =
        same-found (slice_get us k) (unit_at p k)
        (sym (slice_get-map Some us k) ∙ ap (λ l. slice_get l k) (sym all ∙ ap (λ n. n.units) is) ∙ found (listed p) k None (unmet p.units) e)

    beyond : (k : ℕ) → p.units ≤ k → unit_at p k ≡ slice_get us k
    beyond k le =
        none-beyond (listed p) k (unmet p.units) (ap (λ n. n.fits) (sym is) ∙ fits) (subst (λ n. n ≤ k) (sym (length-room p.units)) le)
        ∙ sym (slice_get_past us k (subst (λ n. n ≤ k) (sym count) le))

each-at : (P : UnitTree → Type 0) (us : List UnitTree) (k : ℕ) (u : UnitTree) → Each P us → slice_get us k ≡ Some u → P u
each-at P [] k u all at = absurd (grind (arith, at))
each-at P (v ∷ us) zero u all at = subst P (same v u at) all.0
  where
    same : (v u : UnitTree) → Some v ≡ Some u → v ≡ u
    same v u e = grind (arith, e)
each-at P (v ∷ us) (suc k) u all at = each-at P us k u all.1 at

pub all-listed : (p : TypedPackage) (us : List UnitTree) (final : Noted) → final ≡ run noted (listed p) (unmet p.units) → final.fits ≡ true → final.units ≡ map Some us → AreAll p us
all-listed p us final is fits all = record { each = λ k u at. one-stands u (each-at (StandsIn (run noted (listed p) (unmet p.units))) (units_of p) k u (all-stand (listed p) (unmet p.units) (ap (λ n. n.fits) (sym is) ∙ fits)) at) }
  where
    one-stands : (u : UnitTree) → StandsIn (run noted (listed p) (unmet p.units)) u → slice_get us u.unit.number ≡ Some u
    one-stands u at =
        sym (same-found (slice_get us u.unit.number) (Some u) (sym (slice_get-map Some us u.unit.number) ∙ ap (λ l. slice_get l u.unit.number) (sym all ∙ ap (λ n. n.units) is) ∙ at))
