-- Parts that come one behind another, and one that is made of them.
use Rattle.std.proofs.Common.{◌≡◌, ◌≤◌, ◌∙◌, ◌++◌, ℕ, Bool, List, [], ◌∷◌, length, All, IfSome, Option, None, Some, append-nil, append_assoc, arith, refl, sym, subst, ap}
use Rattle.std.proofs.lemmas.List.Elements.{All-append, All-nil}
use Rattle.bal_base.specs.declared.place.Place.{Place}
use Rattle.checks.specs.Checks.{Check, Gives, ◌▷◌}
use Rattle.needs.specs.Needs.{does}
use Rattle.type_model.specs.declared.atoms.AtomDef.{AtomDef}
use Rattle.typed_tree.specs.declared.expr.TypedExpr.{TypedExpr}
use Rattle.typed_tree.specs.declared.form.StrictForm.{StrictForm}
use Rattle.typed_tree.specs.SharedTypes.{Shared}
use Rattle.typed_tree.specs.Views.{IsStrict}
use Rattle.flow_narrowing.specs.declared.flow.Flow.{Flow as CheckedFlow}
use Rattle.check_words.specs.Sharing.{SameFlow}
use Rattle.check_words.specs.State.{IsLast, State, UnitAtWork, Ways, all_but, ways_or_same}
use Rattle.check_words.specs.Words.{Atoms, makes}
use Rattle.check_words.proofs.LastOnes.{kept-is}
use Rattle.tree_promises.specs.Flows.{Around}
use Rattle.tree_promises.specs.Known.{Flow, FlowBelow}
use Rattle.tree_promises.specs.Laws.{MadeExprsKeepFlows}
use Rattle.tree_promises.specs.MadeFlows.{AllKeep, KeepsFlow, LeavesFlow, MadeKeepsFlow}
use Rattle.tree_promises.proofs.Order.{flow-itself, flow-then}
use Rattle.typed_needs.proofs.Placed.{all-but-last, last-same}
use Rattle.typed_needs.specs.Between.{units_in}
use Rattle.calm_needs.proofs.PlacedParts.{one-units, strict-units, units-append, units_of}
use Rattle.typed_exprs.proofs.Steps.{same-front}
use Rattle.flow_needs.specs.Narrower.{AreNarrower, IsNarrower}
use Rattle.flow_needs.specs.Quiet.{IsQuiet, KnowsOn, KnowsSame}
use Rattle.flow_needs.specs.Runs.{ComesToFlow, IsBaseAt, IsFlowingUnit, LeavesWays, known_in}
use Rattle.flow_needs.proofs.Forms.{form-keeps, keeps-both}
use Rattle.flow_needs.proofs.Known.{all-variables-are-known}
use Rattle.flow_needs.proofs.Narrowing.{all-ways-are-narrower}
use Rattle.flow_needs.proofs.Quieting.{Quiet, knows-at-hand, on-beside, on-then}

-- ---- one part of the last ones

-- a part that evaluates all that it is made of
abbrev pub StrictOf : List TypedExpr → TypedExpr → Type 0
StrictOf parts e = (form : StrictForm) × (t : Shared) × (at : Place) × IsStrict form parts t at e

-- in place of the last parts there is one that is made of them, and says nothing of variables
pub record Weaves (old new : State) : Type 0 where
  pub kept : List TypedExpr
  pub parts : List TypedExpr
  pub was : old.found ≡ kept ++ parts
  pub part : TypedExpr
  pub found : new.found ≡ kept ++ part ∷ []
  pub strict : StrictOf parts part
  pub ways : new.ways ≡ None
  pub on : KnowsOn old new

abbrev pub Weaving : Check State (Unit {0}) → Type 0
Weaving m = (old new : State) (a : Unit {0}) → m old (Gives a) new → Weaves old new

pub weaves-behind : (r s t : State) → IsQuiet r s → Weaves s t → Weaves r t
weaves-behind r s t q w =
    record {
      kept = w.kept;
      parts = w.parts;
      was = sym q.found ∙ w.was;
      part = w.part;
      found = w.found;
      strict = w.strict;
      ways = w.ways;
      on = on-then r s t q.on w.on;
    }

pub weave-then : {A : Type 0} (m : Check State A) (next : A → Check State (Unit {0})) → Quiet m → ((a : A) → Weaving (next a)) → Weaving (m ▷ next)
unfolding ◌▷◌
weave-then m next f g old new b (a, mid, x, y) = weaves-behind old mid new (f old mid a x) (g a mid new b y)

pub weave-makes : (count : ℕ) (P : Atoms → List TypedExpr → TypedExpr → Type 0)
    → ((env : Atoms) (parts : List TypedExpr) (e : TypedExpr) → P env parts e → StrictOf parts e) → Weaving (makes count P)
unfolding does
weave-makes count P view old new a (parts, last, e, x, is) =
    record {
      kept = last.kept;
      parts = parts;
      was = last.is;
      part = e;
      found = ap (λ (s : State). s.found) is ∙ ap (λ xs. xs ++ e ∷ []) (kept-is count old.found last.kept parts last.is last.many);
      strict = view old.atoms parts e x;
      ways = ap (λ (s : State). s.ways) is;
      on = on-beside old new (ap (λ (s : State). s.units) is);
    }

module _ (env : List AtomDef) (around : Around) (live : Bool) where
  abbrev pub known : CheckedFlow → Flow
  known = known_in around live

  abbrev pub IsBase : UnitAtWork → Option Flow → Type 0
  IsBase = IsBaseAt env around live

  -- ---- parts one behind another

  pub record GrowsBy (old new : State) : Type 0 where
    pub parts : List TypedExpr
    pub found : new.found ≡ old.found ++ parts
    pub on : KnowsOn old new
    pub keep : (u : UnitAtWork) → IsLast old.units u → (base : Option Flow) → IsBase u base → AllKeep env around base parts (known u.flow)
    pub units : All (IsFlowingUnit env) (units_in parts)

  pub grows-quiet : (s t : State) → IsQuiet s t → GrowsBy s t
  grows-quiet s t q = record { parts = []; found = q.found ∙ sym (append-nil s.found); on = q.on; keep = λ u last base free. tt; units = All-nil (IsFlowingUnit env) }

  all-more : (base : Option Flow) (f : Flow) (xs ys : List TypedExpr) → AllKeep env around base xs f → AllKeep env around base ys f → AllKeep env around base (xs ++ ys) f
  all-more base f [] ys h k = k
  all-more base f (x ∷ xs) ys h k = (h.0, all-more base f xs ys h.1 k)

  -- the flow as one of a place that is reached, or isn't
  abbrev pub as_live : CheckedFlow → CheckedFlow
  as_live f = record { variables = f.variables; reached = live }

  pub known-alike : (f g : CheckedFlow) → SameFlow f g → known g ≡ known f
  known-alike f g same = (all-variables-are-known env around (length around.slots)).same (as_live f) (as_live g) (record { variables = same.variables; reached = refl })

  pub known-under : (f g : CheckedFlow) → IsNarrower env f g → FlowBelow env (known g) (known f)
  known-under f g narrower =
      (all-variables-are-known env around (length around.slots)).below (as_live f) (as_live g) (record { variables = narrower.variables; reached = refl })

  pub same-flow-known : (u v : UnitAtWork) → KnowsSame u v → known v.flow ≡ known u.flow
  same-flow-known u v same = known-alike u.flow v.flow same.flow

  -- where less may be known
  pub base-later : (u v : UnitAtWork) (base : Option Flow) → length u.slots ≤ length v.slots → FlowBelow env (known v.flow) (known u.flow) → IsBase u base → IsBase v base
  base-later u v base more below h =
      record { free = λ slot le lt. h.free slot (omega (arith, more, le)) lt; below = by base h.below }
    where
      by : (b : Option Flow) → IfSome b (FlowBelow env (known u.flow)) → IfSome b (FlowBelow env (known v.flow))
      by None under = tt
      by (Some f) under = flow-then env (known v.flow) (known u.flow) f below under

  pub same-base : (u v : UnitAtWork) (base : Option Flow) → KnowsSame u v → IsBase u base → IsBase v base
  same-base u v base same h =
      base-later u v base same.slots (subst (λ (x : Flow). FlowBelow env x (known u.flow)) (sym (same-flow-known u v same)) (flow-itself env (known u.flow))) h

  pub grows-then : (r s t : State) → GrowsBy r s → GrowsBy s t → GrowsBy r t
  grows-then r s t f g =
      record {
        parts = f.parts ++ g.parts;
        found = g.found ∙ ap (λ xs. xs ++ g.parts) f.found ∙ append_assoc r.found f.parts g.parts;
        on = on-then r s t f.on g.on;
        keep = λ u last base free.
            let (v, hand, same) = knows-at-hand r.units s.units u f.on.units last in
            let later : AllKeep env around base g.parts (known v.flow) = g.keep v hand base (same-base u v base same free) in
            all-more base (known u.flow) f.parts g.parts (f.keep u last base free)
            (subst (λ (x : Flow). AllKeep env around base g.parts x) (same-flow-known u v same) later);
        units = subst (All (IsFlowingUnit env)) (sym (units-append f.parts g.parts)) (All-append (IsFlowingUnit env) (units_in f.parts) (units_in g.parts) f.units g.units);
      }

  -- ---- whole parts

  -- the functions in a part are those in the parts that it is made of
  pub units-from : (e : TypedExpr) (parts : List TypedExpr) → units_of e ≡ units_in parts → All (IsFlowingUnit env) (units_in parts) → All (IsFlowingUnit env) (units_in (e ∷ []))
  units-from e parts is h = subst (All (IsFlowingUnit env)) (sym (one-units e ∙ is)) h

  pub strict-all : (parts : List TypedExpr) (e : TypedExpr) → StrictOf parts e → units_of e ≡ units_in parts
  strict-all parts e (form, t, at, view) = strict-units e view

  -- one that says nothing of variables
  pub comes-plain : (old new : State) (part : TypedExpr) (u : UnitAtWork) → IsLast old.units u → new.found ≡ old.found ++ part ∷ [] → KnowsOn old new → new.ways ≡ None
      → ((base : Option Flow) → IsBase u base → KeepsFlow env around base part (known u.flow)) → All (IsFlowingUnit env) (units_in (part ∷ [])) → ComesToFlow env around live old new
  comes-plain old new part u last found on none keeps units =
      let (v, hand, same) = knows-at-hand old.units new.units u on.units last in
      let equal : known v.flow ≡ known u.flow = same-flow-known u v same in
      let narrower : IsNarrower env u.flow v.flow = ((all-ways-are-narrower [] env).handles u.flow v.flow same.flow).0 in
      record {
        part = part;
        found = found;
        on = on;
        was = u;
        before = last;
        now = v;
        behind = hand;
        leaves = subst (λ (w : Option Ways). LeavesWays env around live u part (ways_or_same w v.flow)) (sym none)
            (λ base free. subst (λ (x : Flow). LeavesFlow env around base part (known u.flow) (known u.flow) x x) (sym equal) (keeps base free));
        narrower = subst (λ (w : Option Ways). AreNarrower env u.flow (ways_or_same w v.flow)) (sym none) (record { yes = narrower; no = narrower });
        units = units;
      }

  -- whatever it says of variables, nothing less is known behind it
  pub keeps-part : (old new : State) (c : ComesToFlow env around live old new) (base : Option Flow) → IsBase c.was base → KeepsFlow env around base c.part (known c.was.flow)
  keeps-part old new c base at-base =
      let w : Ways = ways_or_same new.ways c.now.flow in
      keeps-both env around base c.part (known c.was.flow) (known w.yes) (known w.no) (c.leaves base at-base) (known-under c.was.flow w.yes c.narrower.yes)
      (known-under c.was.flow w.no c.narrower.no)

  -- as an operand it is a part more that keeps the flow
  pub grows-part : (old new : State) → ComesToFlow env around live old new → GrowsBy old new
  grows-part old new c =
      record {
        parts = c.part ∷ [];
        found = c.found;
        on = c.on;
        keep = λ u last base free.
            let one : c.was ≡ u = last-same old.units c.was u c.before last in (
              subst (λ (x : UnitAtWork). KeepsFlow env around base c.part (known x.flow)) one
                  (keeps-part old new c base (subst (λ (x : UnitAtWork). IsBase x base) (sym one) free)),
              tt,
            );
        units = c.units;
      }

  module _ (flows : MadeExprsKeepFlows) where
    strict-keeps : (parts : List TypedExpr) (e : TypedExpr) (base : Option Flow) (f : Flow) → StrictOf parts e → AllKeep env around base parts f → KeepsFlow env around base e f
    strict-keeps parts e base f (form, t, at, view) keep =
        let made : MadeKeepsFlow env around base = flows env around base in made.strict form parts t at e f view keep (form-keeps env around base f form (length parts))

    -- where there is one part more then, it is made of all that came
    pub comes-strict : (old mid new : State) (x : TypedExpr) (u : UnitAtWork) → IsLast old.units u → GrowsBy old mid → Weaves mid new → new.found ≡ old.found ++ x ∷ []
        → ComesToFlow env around live old new
    comes-strict old mid new x u last g w more =
        let kept : w.kept ≡ old.found =
        sym (all-but-last w.kept w.part) ∙ ap (λ xs. all_but 1 xs) (sym w.found ∙ more) ∙ all-but-last old.found x in
        let same : w.parts ≡ g.parts =
        same-front old.found w.parts g.parts (ap (λ xs. xs ++ w.parts) (sym kept) ∙ sym w.was ∙ g.found) in
        comes-plain old new w.part u last (w.found ∙ ap (λ xs. xs ++ w.part ∷ []) kept) (on-then old mid new g.on w.on) w.ways
        (λ base free. strict-keeps w.parts w.part base (known u.flow) w.strict
        (subst (λ xs. AllKeep env around base xs (known u.flow)) (sym same) (g.keep u last base free)))
        (units-from w.part w.parts (strict-all w.parts w.part w.strict) (subst (λ xs. All (IsFlowingUnit env) (units_in xs)) (sym same) g.units))
