-- The words of needs: how many each leaves on what was there.
use Rattle.std.proofs.Common.{◌++◌, ◌+◌, ℕ, suc, Bool, true, false, List, [], ◌∷◌, Option, None, Some, arith, sym, subst}
use Rattle.bal_base.specs.declared.fault.Fault.{Fault}
use Rattle.bal_base.specs.declared.fault.FaultCode.{FaultCode}
use Rattle.bal_base.specs.declared.place.Place.{Place}
use Rattle.checks.specs.Checks.{Check, Gives, either, gives_some, refuses, ◌▷◌}
use Rattle.flow_narrowing.specs.declared.flow.Flow.{Flow}
use Rattle.needs.specs.Needs.{asks, does}
use Rattle.type_model.specs.declared.basic.Ty.{Ty}
use Rattle.typed_tree.specs.declared.expr.TypedExpr.{TypedExpr}
use Rattle.typed_tree.specs.SharedTypes.{Shared}
use Rattle.check_words.specs.State.{ChoiceAtWork, ConstructorAtWork, State, UnitAtWork, Ways, all_but}
use Rattle.check_words.specs.Words.{Atoms, asking, becomes, by_handles, changes_flow, closes_choice, closes_constructor, done, fails, flow_now, makes, new_slot, opens_choice, opens_constructor, sets_constructor, sets_flow, sets_unit, sets_ways, takes, unless, wants as wanting, wants_no_more, wants_some, ways_now}
use Rattle.check_laws.specs.Heights.{Heights, ◌⊕◌, parts, wants, constructors, choices}
use Rattle.check_laws.specs.Positions.{Above, parts_of_calls}
use Rattle.check_laws.proofs.Setting.{apart-from, with-choices, with-constructors, with-parts, with-units, with-wants}
use Rattle.check_laws.proofs.Stacks.{as-on, fewer-on, one-on, other-on, other-unit, plus-is}

-- `s`: the state on which all else stands
module _ (s : State) where
  -- ---- checks that lead from so many to so many

  -- where so many stand on it, so many do behind the check
  abbrev pub Goes : {A : Type 0} → Heights → Check State A → Heights → Type 0
  Goes {A} h m k = (old new : State) (a : A) → Above s h old → m old (Gives a) new → Above s k new

  pub goes-then : {A B : Type 0} {h k l : Heights} (m : Check State A) (next : A → Check State B) → Goes h m k
      → ((a : A) → Goes k (next a) l) → Goes h (m ▷ next) l
  unfolding ◌▷◌
  goes-then m next f g old new b p (a, mid, x, y) = g a mid new b (f old mid a p x) y

  pub goes-some : {A : Type 0} (h : Heights) (P : State → A → Type 0) → Goes h (gives_some P) h
  unfolding gives_some
  goes-some h P old new a p (x, e) = subst (Above s h) (sym e) p

  pub goes-done : (h : Heights) → Goes h done h
  goes-done h = goes-some h _

  pub goes-nothing : {A : Type 0} (h k : Heights) → Goes h (gives_some {S = State} {A = A} (λ s a. ⊥)) k
  unfolding gives_some
  goes-nothing h k old new a p (x, e) = absurd x

  pub goes-refuses : {A : Type 0} (h k : Heights) (P : State → Fault → Type 0) → Goes h (refuses {S = State} {A = A} P) k
  unfolding refuses
  goes-refuses h k P old new a p x = absurd x

  pub goes-fails : {A : Type 0} (h k : Heights) (code : FaultCode) (at : Place) → Goes h (fails {A = A} code at) k
  goes-fails h k code at = goes-refuses h k _

  pub goes-unless : (h : Heights) (b : Bool) (code : FaultCode) (at : Place) → Goes h (unless b code at) h
  goes-unless h true code at = goes-done h
  goes-unless h false code at = goes-fails h h code at

  pub goes-either : {A : Type 0} {h k : Heights} (b : Bool) (m n : Check State A) → Goes h m k → Goes h n k → Goes h (either b m n) k
  goes-either true m n f g = f
  goes-either false m n f g = g

  pub goes-becomes : (h k : Heights) (change : State → State) → ((old : State) → Above s h old → Above s k (change old)) → Goes h (becomes change) k
  unfolding does
  goes-becomes h k change f old new a p e = subst (Above s k) (sym e) (f old p)

  pub goes-handles : {A : Type 0} (h : Heights) (Same : A → A → Type 0) (a : A) → Goes h (by_handles Same a) h
  unfolding by_handles
  goes-handles h Same a old new b p (x, e) = subst (Above s h) (sym e) p

  pub goes-asking : {A : Type 0} (h : Heights) (question : Check Atoms A) → Goes h (asking question) h
  unfolding asks
  goes-asking h question old new a p (x, e) = subst (Above s h) (sym e) (apart-from s old new.atoms old.ways old.done p)

  pub goes-sets-ways : (h : Heights) (w : Option Ways) → Goes h (sets_ways w) h
  goes-sets-ways h w = goes-then _ _ (goes-handles h _ _) (λ x. goes-becomes h h _ (λ old p. apart-from s old old.atoms x old.done p))

  -- ---- parts

  parts-off : (r : Heights) (count : ℕ) (old : State) → Above s (r ⊕ parts count) old → Above s r (record old { found = all_but count old.found; ways = None })
  parts-off r count old p =
      with-parts s old r.parts (all_but count old.found) None p (fewer-on count (r.parts + parts_of_calls p.calls.more)
      (as-on (let many = plus-is r.parts count in let all = plus-is (r.parts + parts_of_calls p.calls.more) count in omega arith) p.found))

  part-on : (r : Heights) (e : TypedExpr) (old : State) → Above s r old → Above s (r ⊕ parts 1) (record old { found = old.found ++ e ∷ []; ways = None })
  part-on r e old p = with-parts s old (suc r.parts) (old.found ++ e ∷ []) None p (as-on (omega arith) (one-on e p.found))

  pub goes-makes : (r : Heights) (count : ℕ) (P : Atoms → List TypedExpr → TypedExpr → Type 0) → Goes (r ⊕ parts count) (makes count P) (r ⊕ parts 1)
  unfolding does
  goes-makes r count P old new a p (all, last, e, x, is) =
      subst (Above s (r ⊕ parts 1)) (sym is) (part-on r e _ (parts-off r count old p))

  pub goes-takes : (r : Heights) (count : ℕ) → Goes (r ⊕ parts count) (takes count) r
  goes-takes r count =
      goes-then _ _ (goes-some (r ⊕ parts count) _) (λ all. goes-then _ _
      (goes-becomes (r ⊕ parts count) r _ (λ old p. parts-off r count old p)) (λ u. goes-some r _))

  -- ---- what is wanted

  pub goes-wants : (r : Heights) (w : Option Shared) → Goes r (wanting w) (r ⊕ wants 1)
  goes-wants r w = goes-then _ _ (goes-handles r _ _) (λ x. goes-becomes r (r ⊕ wants 1) _ (λ old p. with-wants s old _ _ p (one-on x p.wants)))

  pub goes-wants-some : (r : Heights) (P : Atoms → Ty → Type 0) → Goes r (wants_some P) (r ⊕ wants 1)
  goes-wants-some r P = goes-then _ _ (goes-some r _) (λ t. goes-wants r (Some t))

  pub goes-no-more : (r : Heights) (count : ℕ) → Goes (r ⊕ wants count) (wants_no_more count) r
  goes-no-more r count =
      goes-becomes (r ⊕ wants count) r _ (λ old p. with-wants s old _ _ p (fewer-on count r.wants p.wants))

  -- ---- units

  pub goes-sets-unit : (h : Heights) (u : UnitAtWork) → Goes h (sets_unit u) h
  goes-sets-unit h u =
      goes-then _ _ (goes-handles h _ _) (λ v. goes-becomes h h _ (λ old p. with-units s old h.units _ p (other-unit h.units v p.units)))

  pub goes-sets-flow : (h : Heights) (f : Flow) → Goes h (sets_flow f) h
  goes-sets-flow h f = goes-then _ _ (goes-then _ _ (goes-some h _) (λ u. goes-sets-unit h _)) (λ u. goes-becomes h h _ (λ old p. apart-from s old old.atoms None old.done p))

  pub goes-flow-now : (h : Heights) → Goes h flow_now h
  goes-flow-now h = goes-then _ _ (goes-some h _) (λ u. goes-some h _)

  pub goes-changes-flow : (h : Heights) (change : Flow → Flow) → Goes h (changes_flow change) h
  goes-changes-flow h change = goes-then _ _ (goes-flow-now h) (λ f. goes-sets-flow h _)

  pub goes-ways-now : (h : Heights) → Goes h ways_now h
  goes-ways-now h = goes-then _ _ (goes-flow-now h) (λ f. goes-some h _)

  pub goes-new-slot : (h : Heights) (t : Shared) → Goes h (new_slot t) h
  goes-new-slot h t = goes-then _ _ (goes-some h _) (λ u. goes-then _ _ (goes-sets-unit h _) (λ v. goes-some h _))

  -- ---- what is open

  pub goes-opens-choice : (r : Heights) (c : ChoiceAtWork) → Goes r (opens_choice c) (r ⊕ choices 1)
  goes-opens-choice r c =
      goes-then _ _ (goes-handles r _ _) (λ d. goes-becomes r (r ⊕ choices 1) _ (λ old p. with-choices s old _ _ p (one-on d p.choices)))

  pub goes-closes-choice : (r : Heights) → Goes (r ⊕ choices 1) closes_choice r
  goes-closes-choice r =
      goes-then _ _ (goes-some (r ⊕ choices 1) _) (λ c. goes-then _ _
      (goes-becomes (r ⊕ choices 1) r _ (λ old p. with-choices s old _ _ p (fewer-on 1 r.choices p.choices)))
      (λ u. goes-some r _))

  pub goes-opens-constructor : (r : Heights) (c : ConstructorAtWork) → Goes r (opens_constructor c) (r ⊕ constructors 1)
  goes-opens-constructor r c =
      goes-becomes r (r ⊕ constructors 1) _ (λ old p. with-constructors s old _ _ p (one-on c p.constructors))

  pub goes-sets-constructor : (r : Heights) (c : ConstructorAtWork) → Goes (r ⊕ constructors 1) (sets_constructor c) (r ⊕ constructors 1)
  goes-sets-constructor r c =
      goes-becomes (r ⊕ constructors 1) (r ⊕ constructors 1) _ (λ old p. with-constructors s old (suc r.constructors) _ p (other-on c p.constructors))

  pub goes-closes-constructor : (r : Heights) → Goes (r ⊕ constructors 1) closes_constructor r
  goes-closes-constructor r =
      goes-then _ _ (goes-some (r ⊕ constructors 1) _) (λ c. goes-then _ _
      (goes-becomes (r ⊕ constructors 1) r _ (λ old p. with-constructors s old _ _ p (fewer-on 1 r.constructors p.constructors)))
      (λ u. goes-some r _))
