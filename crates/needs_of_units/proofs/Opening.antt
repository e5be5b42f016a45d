-- Units that are opened and closed, as answers of calls, and that what stands still stands.
use Rattle.std.proofs.Common.{◌≡◌, ◌++◌, ◌∙◌, ℕ, List, [], ◌∷◌, length, All, Option, Some, None, IfSome, Ok, ap, refl, subst, sym}
use Rattle.checks.specs.Checks.{Comes}
use Rattle.flow_narrowing.specs.Flows.{IfShared}
use Rattle.type_model.specs.Defined.{TyBelow}
use Rattle.typed_tree.specs.declared.expr.TypedExpr.{TypedExpr}
use Rattle.typed_tree.specs.SharedTypes.{Shared}
use Rattle.check_words.specs.Calls.{closes_unit, new_number, opens_unit}
use Rattle.check_words.specs.Sharing.{SameUnit}
use Rattle.check_words.specs.Stands.{InitialiserBelow, PartBelow, SiteBelow, Stands, UnitBelow}
use Rattle.check_words.specs.State.{BlockAtWork, Done, InitialiserAtWork, Site, State, UnitAtWork}
use Rattle.check_words.proofs.Coming.{became-this, given, handed, next}
use Rattle.check_words.proofs.Flowing.{unit-now}
use Rattle.check_words.proofs.LastOnes.{kept-is}
use Rattle.check_words.proofs.Standing.{also-has, front-have, unit-has}

pub opened-comes : (s : State) (u v : UnitAtWork) → SameUnit u v → (new : State) → new ≡ record s { units = s.units ++ v ∷ []; ways = None }
    → Comes (opens_unit u) s (Ok tt) new
opened-comes s u v same new e = next _ _ _ _ _ v s (handed _ s u v same) (became-this _ s new e)

pub closed-comes : (s : State) (kept : List UnitAtWork) (u : UnitAtWork) → s.units ≡ kept ++ u ∷ [] → Comes closes_unit s (Ok u) (record s { units = kept; ways = None })
closed-comes s kept u is = let new : State = record s { units = kept; ways = None } in
    next _ _ _ _ _ u s (unit-now s kept u is)
    (next _ _ _ _ _ tt new (became-this _ s new (ap (λ us. record s { units = us; ways = None }) (sym (kept-is 1 s.units kept (u ∷ []) is refl)))) (given _ new u refl))

-- the next number is taken
pub number-comes : (s : State) (n : ℕ) → n ≡ ℕ.suc s.done.next_unit → Comes new_number s (Ok s.done.next_unit) (record s { done = record s.done { next_unit = n } })
number-comes s n e = let new : State = record s { done = record s.done { next_unit = n } } in
    next _ _ _ _ _ s.done.next_unit s (given _ s s.done.next_unit refl)
    (next _ _ _ _ _ tt new (became-this _ s new (ap (λ k. record s { done = record s.done { next_unit = k } }) e)) (given _ new s.done.next_unit refl))

module _ (s : State) (h : Stands s) where
  -- all that ends of functions and initial values change
  pub stands-changed : (site : Site) (found : List TypedExpr) (wants : List (Option Shared)) (blocks : List BlockAtWork) (units : List UnitAtWork)
      (initialiser : Option InitialiserAtWork) (done : Done)
      → SiteBelow (length s.atoms) site → All (PartBelow (length s.atoms)) found → All (IfShared (TyBelow (length s.atoms))) wants
      → All (UnitBelow (length s.atoms)) units → IfSome initialiser (InitialiserBelow (length s.atoms))
      → Stands (record s { site = site; found = found; ways = None; wants = wants; blocks = blocks; units = units; initialiser = initialiser; done = done })
  stands-changed site found wants blocks units initialiser done a b c d e =
      record {
        site = a;
        found = b;
        ways = tt;
        wants = c;
        constructors = h.constructors;
        calls = h.calls;
        choices = h.choices;
        matches = h.matches;
        units = d;
        initialiser = e;
      }

  pub stands-site : (site : Site) → SiteBelow (length s.atoms) site → Stands (record s { site = site })
  stands-site site below =
      record {
        site = below;
        found = h.found;
        ways = h.ways;
        wants = h.wants;
        constructors = h.constructors;
        calls = h.calls;
        choices = h.choices;
        matches = h.matches;
        units = h.units;
        initialiser = h.initialiser;
      }

  -- the initialiser of the module ends
  pub stands-without : (done : Done) → Stands (record s { initialiser = None; done = done })
  stands-without done =
      record {
        site = h.site;
        found = h.found;
        ways = h.ways;
        wants = h.wants;
        constructors = h.constructors;
        calls = h.calls;
        choices = h.choices;
        matches = h.matches;
        units = h.units;
        initialiser = tt;
      }

  pub units-opened : (us : List UnitAtWork) (u : UnitAtWork) → us ≡ s.units ++ u ∷ [] → UnitBelow (length s.atoms) u → All (UnitBelow (length s.atoms)) us
  units-opened us u more below = subst (All (UnitBelow (length s.atoms))) (sym more) (also-has (UnitBelow (length s.atoms)) s.units u h.units below)

  pub units-closed : (kept : List UnitAtWork) (u : UnitAtWork) → s.units ≡ kept ++ u ∷ [] → All (UnitBelow (length s.atoms)) kept
  units-closed kept u is = front-have (UnitBelow (length s.atoms)) kept (u ∷ []) (subst (All (UnitBelow (length s.atoms))) is h.units)

  pub opened-stands : (us : List UnitAtWork) (u : UnitAtWork) → us ≡ s.units ++ u ∷ [] → UnitBelow (length s.atoms) u → Stands (record s { units = us; ways = None })
  opened-stands us u more below = stands-changed s.site s.found s.wants s.blocks us s.initialiser s.done h.site h.found h.wants (units-opened us u more below) h.initialiser

  pub closed-stands : (kept : List UnitAtWork) (u : UnitAtWork) → s.units ≡ kept ++ u ∷ [] → Stands (record s { units = kept; ways = None })
  closed-stands kept u is = stands-changed s.site s.found s.wants s.blocks kept s.initialiser s.done h.site h.found h.wants (units-closed kept u is) h.initialiser
