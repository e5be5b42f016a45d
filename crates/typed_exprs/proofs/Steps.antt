-- How what is kept goes forth from state to state, and what is known of the end goes back.
use Rattle.std.proofs.Common.{◌≡◌, ◌∙◌, ◌++◌, ℕ, List, [], ◌∷◌, length, All, append-nil, append_assoc, arith, length-append, sym, subst, ap}
use Rattle.checks.specs.Checks.{Gives, ◌▷◌}
use Rattle.descriptors.specs.declared.names.Names.{Names}
use Rattle.operations.specs.Rows.{Surroundings}
use Rattle.type_model.specs.declared.answers.TypeLimit.{TypeLimit}
use Rattle.type_model.specs.declared.atoms.AtomDef.{AtomDef}
use Rattle.type_model.specs.Calls.{Asked, KeepsTypes}
use Rattle.type_model.proofs.Kept.{KeepsTypes-append}
use Rattle.typed_tree.specs.declared.expr.TypedExpr.{TypedExpr}
use Rattle.typed_tree.specs.Listed.{Listed, ◌&◌}
use Rattle.expr_needs.specs.declared.expected.Expected.{Expected}
use Rattle.expr_needs.specs.declared.expected.Expected.TheVariants as expected
use Rattle.expr_needs.specs.Needs.{Need}
use Rattle.check_words.specs.State.{State, UnitAtWork}
use Rattle.check_words.proofs.LastOnes.{kept-is}
use Rattle.check_words.proofs.Standing.{front-have}
use Rattle.check_laws.specs.Laws.{IsOneMore, IsReady, IsWantedBy}
use Rattle.check_laws.specs.Positions.{OnUnits}
use Rattle.typed_needs.specs.Between.{IsKept, IsSoFar, IsStanding, IsTypedUnit, IsUnitAt, stood, units_in}
use Rattle.typed_needs.specs.Going.{GoesOn}
use Rattle.typed_needs.specs.Items.{AreFirst}
use Rattle.typed_needs.specs.Pieces.{IsBefore, MakesTyped}
use Rattle.typed_needs.specs.TypedRuns.{ComesToTyped}
use Rattle.typed_needs.proofs.Going.{each-long, goes-on}
use Rattle.typed_needs.proofs.OnTheWay.{places-are-kept}
use Rattle.calm_needs.proofs.PlacedParts.{units-append}
use Rattle.calm_needs.specs.Calm.{IsCalm, IsStoredAt, StaysOn}
use Rattle.typed_exprs.specs.Lines.{Path, Run}

-- ---- lists

cons-of : {A : Type 0} (x y : A) (xs ys : List A) → x ∷ xs ≡ y ∷ ys → xs ≡ ys
cons-of x y xs ys e = let q : xs ≡ ys = cc in q

pub same-front : {A : Type 0} (xs ys zs : List A) → xs ++ ys ≡ xs ++ zs → ys ≡ zs
same-front [] ys zs e = e
same-front (x ∷ xs) ys zs e = same-front xs ys zs (cons-of x x (xs ++ ys) (xs ++ zs) e)

-- ---- paths: units of states that stay, and parts that stay, as they are known from the end

pub path-on : (r s t : State) → Path r s → Path s t → Path r t
path-on r s t f g =
    record { goes = goes-on r s t f.goes g.goes; many = g.many ∙ f.many; units = λ place h. f.units place (g.units place h) }

pub stays-goes : (s t : State) → StaysOn s t → GoesOn s t
stays-goes s t on = record { more = on.more; atoms = on.atoms; going = t.units; above = []; units = sym (append-nil t.units); each = on.each }

-- a state that goes on by itself, whose parts have the same units
pub calm-path : (s t : State) → StaysOn s t → units_in t.found ≡ units_in s.found → Path s t
calm-path s t on units =
    record { goes = stays-goes s t on; many = each-long s.units t.units on.each; units = λ place h. subst (All (IsUnitAt place)) units h }

-- one part more
pub more-path : (s t : State) → GoesOn s t → IsOneMore s t → Path s t
more-path s t goes one =
    record {
      goes = goes;
      many = as-many s.units t.units one.same.units;
      units = λ place h. front-have (IsUnitAt place) (units_in s.found) (units_in (one.part ∷ [])) (subst (All (IsUnitAt place)) (ap (λ (xs : List TypedExpr). units_in xs) one.found ∙ units-append s.found (one.part ∷ [])) h);
    }
  where
    as-many : (us vs : List UnitAtWork) → OnUnits us 0 vs → length vs ≡ length us
    as-many us vs on =
        let a = ap length on.at_hand in let b = ap length on.on.is in let c = length-append on.kept (on.was ∷ []) in let d = length-append (on.kept ++ on.now ∷ []) on.on.more in
        let e = length-append on.kept (on.now ∷ []) in let f = on.on.many in omega (arith, a, b, c, d, e, f)

-- ---- what is known from the end

pub fewer-first : (env : List AtomDef) (old new : State) → GoesOn old new → AreFirst env new.atoms → AreFirst env old.atoms
fewer-first env old new goes (more, is) = (goes.more ++ more, is ∙ ap (λ xs. xs ++ more) goes.atoms ∙ append_assoc old.atoms goes.more more)

pub so-far : (env : List AtomDef) (place : Surroundings) (old new : State) → Path old new → IsSoFar env place new → IsSoFar env place old
so-far env place old new path h =
    record {
      first = fewer-first env old new path.goes h.first;
      placed = places-are-kept place old new path.goes path.many h.placed;
      units = path.units place h.units;
    }

pub before : (env : List AtomDef) (place : Surroundings) (s : State) → IsKept place s → IsSoFar env place s → IsBefore env s
before env place s kept far = by far.first
  where
    by : AreFirst env s.atoms → IsBefore env s
    by (more, is) = record { stands = kept.standing.stands; keeps = subst (λ xs. KeepsTypes s.atoms xs) (sym is) (KeepsTypes-append s.atoms more kept.standing.env) }

-- ---- what is kept

pub stored-here : (place : Surroundings) (s : State) → IsKept place s → IsStoredAt place s
stored-here place s h = record { stored = h.stored; ways = h.ways }

pub keeps : (place : Surroundings) (s : State) → IsStanding s → IsStoredAt place s → IsKept place s
keeps place s standing h = record { standing = standing; stored = h.stored; ways = h.ways }

pub calm-keeps : (place : Surroundings) (s t : State) → IsCalm s t → IsStanding t → IsKept place s → IsKept place t
calm-keeps place s t calm standing h = keeps place t standing (calm.stored place (stored-here place s h))

-- ---- states that are ready

pub still-ready : (e : Expected) (s t : State) → length t.units ≡ length s.units → t.wants ≡ s.wants → IsReady e s → IsReady e t
still-ready e s t many wants h =
    record {
      unit = (let u = h.unit in omega (arith, many, u));
      wants = subst (λ ws. IsWantedBy e (length ws)) (sym wants) h.wants;
    }

pub ready-for : (e : Expected) (s t : State) → length t.units ≡ length s.units → IsWantedBy e (length t.wants) → IsReady expected.Nothing s → IsReady e t
ready-for e s t many wants h = record { unit = (let u = h.unit in omega (arith, many, u)); wants = wants }

-- ---- one part in place of so many

module _ (passes : List AtomDef → Asked → TypeLimit → Type 0) (names : Names) (env : List AtomDef) where
  pub finish : (place : Surroundings) (count : ℕ) (parts : List TypedExpr) (old m new : State) → m.found ≡ old.found ++ parts → length parts ≡ count
      → MakesTyped passes names env place count m new → units_in new.found ≡ units_in m.found → All (IsTypedUnit env place) (units_in parts) → IsKept place new
      → ComesToTyped env place old new
  finish place count parts old m new found many made same units kept =
      let all : new.found ≡ old.found ++ made.part ∷ [] = made.found ∙ ap (λ xs. xs ++ made.part ∷ []) (kept-is count m.found old.found parts found many) in
      let both : units_in old.found ++ units_in (made.part ∷ []) ≡ units_in old.found ++ units_in parts =
      sym (units-append old.found (made.part ∷ [])) ∙ ap (λ (xs : List TypedExpr). units_in xs) (sym all) ∙ same ∙ ap (λ (xs : List TypedExpr). units_in xs) found
      ∙ units-append old.found parts in
      record {
        part = made.part;
        found = all;
        typed = made.typed;
        units = subst (All (IsTypedUnit env place)) (sym (same-front (units_in old.found) (units_in (made.part ∷ [])) (units_in parts) both)) units;
        kept = kept;
      }

  -- ---- runs

  abbrev pub Step : Need → State → State → Type 0
  Step need old new = stood passes names need old (Gives tt) new

  -- one behind the other
  pub parted : (p q : Listed Need) (old new : State) → Run passes names env (p & q) old new → (mid : State) × Run passes names env p old mid × Run passes names env q mid new
  unfolding ◌▷◌
  parted p q old new (u, mid, a, b) = (mid, a, b)
