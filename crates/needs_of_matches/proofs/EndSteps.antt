-- Where matches end, as answers of calls.
use Rattle.std.proofs.Common.{◌≡◌, ◌++◌, Bool, true, false, List, [], ◌∷◌, length, All, None, Result, Ok, Err, refl, sym, subst, ap}
use Rattle.bal_base.specs.declared.fault.Fault.{Fault}
use Rattle.bal_base.specs.declared.place.Place.{Place}
use Rattle.bal_base.specs.declared.stop.Stop.{Stop}
use Rattle.checks.specs.Checks.{Comes, gives_some, ◌▷◌}
use Rattle.checks.proofs.Steps.{stops}
use Rattle.flow_joins.specs.Joined.{JoinsFrom}
use Rattle.flow_joins.proofs.Meeting.{join-by-handles}
use Rattle.flow_narrowing.specs.declared.flow.Flow.{Flow}
use Rattle.flow_narrowing.specs.Flows.{IsJoin}
use Rattle.type_model.specs.declared.answers.TypeLimit.{TypeLimit}
use Rattle.type_model.specs.declared.atoms.AtomDef.{AtomDef}
use Rattle.type_model.specs.Calls.{Asked}
use Rattle.check_words.specs.Branches.{closes_match, joins_all, makes_match, matched_as, some_is_left, with_no_clause}
use Rattle.check_words.specs.Joins.{joins_from}
use Rattle.check_words.specs.Sharing.{SameFlow}
use Rattle.check_words.specs.Stands.{FlowBelow, MatchBelow, Stands}
use Rattle.check_words.specs.State.{MatchAtWork, State, UnitAtWork, stopped}
use Rattle.check_words.specs.Words.{Atoms, sets_flow}
use Rattle.check_words.proofs.Coming.{became-this, given, next, regroup}
use Rattle.check_words.proofs.Entering.{known-stands}
use Rattle.check_words.proofs.Flowing.{flow-set}
use Rattle.check_words.proofs.Handles.{flow-through}
use Rattle.check_words.proofs.LastOnes.{kept-is}
use Rattle.check_words.proofs.Same.{same-flow}
use Rattle.check_words.proofs.Standing.{flow-below, front-have, stands-matches}
use Rattle.needs_of_matches.specs.Ends.{JoinsAll, adds_match, ends_match, knows_behind}

-- ---- the match is closed

module _ (s : State) (kept : List MatchAtWork) (m : MatchAtWork) (are : s.matches ≡ kept ++ m ∷ []) where
  pub match-closed : Comes closes_match s (Ok m) (record s { matches = kept })
  match-closed = let new : State = record s { matches = kept } in
      next _ _ _ _ _ m s (given _ s m (record { kept = kept; is = are }))
      (next _ _ _ _ _ tt new (became-this _ s new (ap (λ ms. record s { matches = ms }) (sym (kept-is 1 s.matches kept (m ∷ []) are refl)))) (given _ new m refl))

  pub closed-stands : Stands s → Stands (record s { matches = kept })
  closed-stands h = stands-matches s h kept (front-have (MatchBelow (length s.atoms)) kept (m ∷ []) (subst (All (MatchBelow (length s.atoms))) are h.matches))

-- ---- ways that meet

one-joins : (s : State) (f g k : Flow) → IsJoin s.atoms f g k → Comes (joins_from f (g ∷ [])) s (Ok k) s
one-joins s f g k j = next _ _ _ _ _ k s (given _ s k j) (given _ s k refl)

first-joins : (s : State) (f x a k : Flow) (gs : List Flow) → IsJoin s.atoms f x a → Comes (joins_from a gs) s (Ok k) s → Comes (joins_from f (x ∷ gs)) s (Ok k) s
first-joins s f x a k gs j h = next _ _ _ _ _ a s (given _ s a j) h

-- one way more
pub joins-more : (s : State) (g k : Flow) (gs : List Flow) (f h : Flow) → Comes (joins_from f gs) s (Ok h) s → IsJoin s.atoms h g k → Comes (joins_from f (gs ++ g ∷ [])) s (Ok k) s
unfolding ◌▷◌ Comes gives_some
joins-more s g k [] f h from j = one-joins s f g k (subst (λ e. IsJoin s.atoms e g k) from.0 j)
joins-more s g k (x ∷ gs) f h from j =
    first-joins s f x from.0 k (gs ++ g ∷ []) from.2.0 (joins-more s g k gs from.0 h (subst (λ m. Comes (joins_from from.0 gs) m (Ok h) s) from.2.1 from.3) j)

module _ (env : Atoms) (m : MatchAtWork) where
  pub none-met : (g : Flow) → m.ends ≡ [] → SameFlow (stopped m.before) g → JoinsAll env m false g
  none-met g e same = (stopped m.before, same, λ s over. subst (λ fs. Comes (joins_all m.before fs) s (Ok (stopped m.before)) s) (sym e) (given _ s (stopped m.before) refl))

  pub some-met : (first g : Flow) (others : List Flow) → m.ends ≡ first ∷ others → JoinsFrom env first others g → JoinsAll env m false g
  some-met first g others e j = (j.0, j.1, λ s over. subst (λ fs. Comes (joins_all m.before fs) s (Ok j.0) s) (sym e) (j.2 s over))

  pub left-met : (g : Flow) → m.ends ≡ [] → SameFlow (matched_as m.on m.left m.before) g → JoinsAll env m true g
  left-met g e same = let f : Flow = matched_as m.on m.left m.before in
      (f, same, λ s over. subst (λ fs. Comes (joins_all m.before (fs ++ f ∷ [])) s (Ok f) s) (sym e) (given _ s f refl))

  pub left-joined : (first met left g : Flow) (others : List Flow) → m.ends ≡ first ∷ others → JoinsFrom env first others met → SameFlow (matched_as m.on m.left m.before) left
      → IsJoin env met left g → JoinsAll env m true g
  left-joined first met left g others e j same is = let f : Flow = matched_as m.on m.left m.before in (
    g,
    same-flow g,
    λ s over. subst (λ fs. Comes (joins_all m.before (fs ++ f ∷ [])) s (Ok g) s) (sym e)
        (joins-more s f g others first j.0 (j.2 s over)
        (subst (λ atoms. IsJoin atoms j.0 f g) (sym over) (join-by-handles env j.0 f g met left g j.1 same (same-flow g) is))),
  )

-- ---- this is known

module _ (s : State) (kept : List UnitAtWork) (u : UnitAtWork) (is : s.units ≡ kept ++ u ∷ []) (g h : Flow) (same : SameFlow g h) where
  pub entered-comes : (f : Flow) → SameFlow f g → Comes (sets_flow f) s (Ok tt) (record s { units = kept ++ record u { flow = h } ∷ []; ways = None })
  entered-comes f by = flow-set s kept u is f h (flow-through f g h by same) (record s { units = kept ++ record u { flow = h } ∷ []; ways = None }) refl

  pub known-below : FlowBelow (length s.atoms) g → Stands s → Stands (record s { units = kept ++ record u { flow = h } ∷ []; ways = None })
  known-below below stands = known-stands s stands kept u is s.blocks h (flow-below (length s.atoms) g h same below)

-- ---- the whole

pub behind-comes : (s mid : State) (m : MatchAtWork) (left : Bool) (g : Flow) → JoinsAll s.atoms m left g → ((f : Flow) → SameFlow f g → Comes (sets_flow f) s (Ok tt) mid)
    → Comes (knows_behind m left) s (Ok tt) mid
behind-comes s mid m left g j entered = next _ _ _ _ _ j.0 s (j.2 s refl) (entered j.0 j.1)

pub ended-comes : (s mid new : State) (m : MatchAtWork) (left : Bool) (at : Place) → Comes (knows_behind m left) s (Ok tt) mid → Comes (adds_match m.clauses at) mid (Ok tt) new
    → Comes (ends_match m left at) s (Ok tt) new
ended-comes s mid new m left at h k = regroup (joins_all m.before (with_no_clause left m)) sets_flow (λ u. adds_match m.clauses at) s mid new tt (Ok tt) h k

module _ (passes : List AtomDef → Asked → TypeLimit → Type 0) (any : Bool) (at : Place) (s mid : State) (m : MatchAtWork) (closed : Comes closes_match s (Ok m) mid) where
  pub match-comes : (late new : State) (left : Bool) (r : Result (Unit {0}) (Stop Fault)) → Comes (some_is_left passes any m.left m.at) mid (Ok left) late
      → Comes (ends_match m left at) late r new → Comes (makes_match passes any at) s r new
  match-comes late new left r told ended = next _ _ _ _ _ m mid closed (next _ _ _ _ _ left late told ended)

  pub match-stops : (new : State) (stop : Stop Fault) → Comes (some_is_left passes any m.left m.at) mid (Err stop) new → Comes (makes_match passes any at) s (Err stop) new
  match-stops new stop told = next _ _ _ _ _ m mid closed (stops _ _ _ _ _ told)
