-- Needs of statements behind which the same variables are seen.
use Rattle.std.proofs.Common.{List, [], ap, arith, length, refl, subst, suc, sym, take, ◌++◌, ◌∷◌, ◌≡◌, ◌≤◌}
use Rattle.std.specs.List.{AllZip}
use Rattle.calm_needs.proofs.Flows.{hand-on, variables-themselves}
use Rattle.calm_needs.specs.Calm.{HandSees, NeedsAreCalm, SameKnown}
use Rattle.check_laws.specs.StmtLaws.{HasUnit}
use Rattle.check_words.proofs.Handles.{same-variable-through}
use Rattle.check_words.specs.Meets.{meets}
use Rattle.check_words.specs.State.{IsLast, State, UnitAtWork}
use Rattle.checks.specs.Checks.{gives_some}
use Rattle.descriptors.specs.declared.names.Names.{Names}
use Rattle.expr_needs.specs.Needs.{Need}
use Rattle.flow_narrowing.specs.Flows.{IsSameVariable}
use Rattle.flow_narrowing.specs.declared.flow.Variable.{Variable}
use Rattle.kept_flows.proofs.Alone.{at-hand}
use Rattle.kept_flows.proofs.Hands.{hand-is}
use Rattle.kept_flows.proofs.Keeping.{Fresh, KeepsFresh, Quiet}
use Rattle.type_model.specs.Calls.{Asked}
use Rattle.type_model.specs.declared.answers.TypeLimit.{TypeLimit}
use Rattle.type_model.specs.declared.atoms.AtomDef.{AtomDef}
use Rattle.typed_bodies.proofs.Aside.{Aside, IsAside}
use Rattle.typed_bodies.proofs.Onward.{IsOnward, Onward}
use Rattle.typed_exprs.proofs.Steps.{parted}
use Rattle.typed_exprs.specs.Lines.{Run}
use Rattle.typed_needs.proofs.Going.{each-long}
use Rattle.typed_tree.specs.Listed.{Listed, nothing, one, ◌&◌}

-- ---- the first variables

-- these variables are the first ones that are seen in the unit at hand
abbrev pub HandFirst : List Variable → State → Type 0
HandFirst vs s = (u : UnitAtWork) → IsLast s.units u → AllZip IsSameVariable vs (take (length vs) u.flow.variables)

first-through : (vs xs ws : List Variable) → AllZip IsSameVariable vs (take (length vs) xs) → AllZip IsSameVariable xs (take (length xs) ws) → AllZip IsSameVariable vs (take (length vs) ws)
first-through [] xs ws h k = tt
first-through (v ∷ vs) (x ∷ xs) (w ∷ ws) h k = (same-variable-through v x w h.0 k.0, first-through vs xs ws h.1 k.1)
first-through (v ∷ vs) [] ws h k = absurd h
first-through (v ∷ vs) (x ∷ xs) [] h k = absurd k

all-first : (vs ws : List Variable) → AllZip IsSameVariable vs ws → AllZip IsSameVariable vs (take (length vs) ws)
all-first [] [] h = tt
all-first (v ∷ vs) (w ∷ ws) h = (h.0, all-first vs ws h.1)
all-first [] (w ∷ ws) h = absurd h
all-first (v ∷ vs) [] h = absurd h

-- with more behind them
pub more-first : (vs ws xs : List Variable) → AllZip IsSameVariable vs ws → AllZip IsSameVariable vs (take (length vs) (ws ++ xs))
more-first [] ws xs h = tt
more-first (v ∷ vs) (w ∷ ws) xs h = (h.0, more-first vs ws xs h.1)
more-first (v ∷ vs) [] xs h = absurd h

pub hand-first : (vs : List Variable) (s : State) → HandSees vs s → HandFirst vs s
hand-first vs s h u last = all-first vs u.flow.variables (h u last)

-- what is seen of all variables is seen of the first ones
pub first-on : (vs : List Variable) (s t : State) → HasUnit s → ((ws : List Variable) → HandSees ws s → HandFirst ws t) → HandFirst vs s → HandFirst vs t
first-on vs s t unit f h u last =
    let (kept, w, is) = at-hand s.units unit in
    let here : IsLast s.units w = record { kept = kept; is = is } in
    first-through vs w.flow.variables u.flow.variables (h w here)
    (f w.flow.variables (hand-is w.flow.variables s w here (variables-themselves w.flow.variables)) u last)

-- ---- runs

module _ (passes : List AtomDef → Asked → TypeLimit → Type 0) (names : Names) (env : List AtomDef) (calm : NeedsAreCalm passes names) where
  abbrev Runs : Listed Need → State → State → Type 0
  Runs = Run passes names env

  pub record SeesSame (old new : State) : Type 0 where
    pub sees : (vs : List Variable) → HandSees vs old → HandSees vs new
    pub unit : HasUnit old → HasUnit new

  pub sees-on : (r s t : State) → SeesSame r s → SeesSame s t → SeesSame r t
  sees-on r s t f g = record { sees = λ vs h. g.sees vs (f.sees vs h); unit = λ h. g.unit (f.unit h) }

  as-many : (us vs : List UnitAtWork) → length vs ≡ length us → 1 ≤ length us → 1 ≤ length vs
  as-many us vs long h = omega (arith, long, h)

  zip-units : (us vs : List UnitAtWork) → AllZip SameKnown us vs → length vs ≡ length us
  zip-units [] [] h = refl
  zip-units (u ∷ us) (v ∷ vs) h = ap (λ n. suc n) (zip-units us vs h.1)
  zip-units [] (v ∷ vs) h = absurd h
  zip-units (u ∷ us) [] h = absurd h

  pub fresh-sees : (s t : State) → KeepsFresh s t → SeesSame s t
  fresh-sees s t k = record { sees = λ vs h. hand-on vs s t k.flows h; unit = as-many s.units t.units (zip-units s.units t.units k.flows) }

  pub aside-sees : (s t : State) → IsAside s t → SeesSame s t
  aside-sees s t a = record { sees = a.sees; unit = as-many s.units t.units (each-long s.units t.units a.stays.on.each) }

  pub onward-sees : (s t : State) → IsOnward s t → SeesSame s t
  onward-sees s t a = record { sees = a.sees; unit = as-many s.units t.units (each-long s.units t.units a.moved.on.each) }

  -- ---- needs

  abbrev pub Sees : Listed Need → Type 0
  Sees needs = (old new : State) → Runs needs old new → SeesSame old new

  pub none-seen : Sees nothing
  unfolding gives_some
  none-seen old new (is, same) = subst (λ (s : State). SeesSame old s) (sym same) (record { sees = λ vs h. h; unit = λ h. h })

  pub both-see : (p q : Listed Need) → Sees p → Sees q → Sees (p & q)
  both-see p q f g old new run = let (mid, a, b) = parted passes names env p q old new run in sees-on old mid new (f old mid a) (g mid new b)

  pub fresh-see : (needs : Listed Need) → Fresh passes names env calm needs → Sees needs
  fresh-see needs f old new run = fresh-sees old new (f old new run)

  pub quiet-see : (needs : Listed Need) → Quiet passes names env calm needs → Sees needs
  quiet-see needs f old new run =
      let k = f old new run in
      record { sees = λ vs h. hand-on vs old new k.flows h; unit = as-many old.units new.units (zip-units old.units new.units k.flows) }

  pub need-aside : (need : Need) → Aside (meets passes names need) → Sees (one need)
  need-aside need f old new run = aside-sees old new (f old new tt run.0)

  pub need-onward : (need : Need) → Onward (meets passes names need) → Sees (one need)
  need-onward need f old new run = onward-sees old new (f old new tt run.0)
