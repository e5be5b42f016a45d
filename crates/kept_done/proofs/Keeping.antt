-- The words of needs: what is done of the package stays.
use Rattle.std.proofs.Common.{Bool, List, Option, Some, ap, arith, false, refl, subst, suc, sym, true, ℕ, ◌∙◌, ◌≡◌}
use Rattle.bal_base.specs.declared.fault.Fault.{Fault}
use Rattle.bal_base.specs.declared.fault.FaultCode.{FaultCode}
use Rattle.bal_base.specs.declared.place.Place.{Place}
use Rattle.check_words.specs.Calls.{closes_unit, new_number}
use Rattle.check_words.specs.State.{ChoiceAtWork, ConstructorAtWork, State, UnitAtWork, Ways}
use Rattle.check_words.specs.Words.{Atoms, asking, becomes, by_handles, closes_choice, closes_constructor, done, fails, flow_now, makes, new_slot, opens_choice, opens_constructor, sets_constructor, sets_flow, sets_unit, sets_ways, unless, wants as wanting, wants_no_more, wants_some, ways_now}
use Rattle.checks.specs.Checks.{Check, Gives, either, gives_some, refuses, ◌▷◌}
use Rattle.flow_narrowing.specs.declared.flow.Flow.{Flow}
use Rattle.kept_done.specs.Done.{KeepsDone}
use Rattle.needs.specs.Needs.{asks, does}
use Rattle.type_model.specs.declared.basic.Ty.{Ty}
use Rattle.typed_tree.specs.SharedTypes.{Shared}
use Rattle.typed_tree.specs.declared.expr.TypedExpr.{TypedExpr}

-- ---- states

pub keeps-self : (s : State) → KeepsDone s s
keeps-self s = record { functions = refl; workers = refl; variables = refl; initialisers = refl; next = omega arith }

pub keeps-same : (s t : State) → t ≡ s → KeepsDone s t
keeps-same s t e = subst (λ (x : State). KeepsDone s x) (sym e) (keeps-self s)

pub keeps-on : (r s t : State) → KeepsDone r s → KeepsDone s t → KeepsDone r t
keeps-on r s t f g =
    let one = f.next in
    let two = g.next in
    record {
      functions = g.functions ∙ f.functions;
      workers = g.workers ∙ f.workers;
      variables = g.variables ∙ f.variables;
      initialisers = g.initialisers ∙ f.initialisers;
      next = omega (arith, one, two);
    }

-- where all that is done is as it was
pub keeps-beside : (s t : State) → t.done ≡ s.done → KeepsDone s t
keeps-beside s t e =
    let more = ap (λ d. d.next_unit) e in
    record {
      functions = ap (λ d. d.functions) e;
      workers = ap (λ d. d.workers) e;
      variables = ap (λ d. d.variables) e;
      initialisers = ap (λ d. d.initialisers) e;
      next = omega (arith, more);
    }

-- ---- checks that keep it

abbrev pub Keeps : {A : Type 0} → Check State A → Type 0
Keeps {A} m = (old new : State) (a : A) → m old (Gives a) new → KeepsDone old new

pub keeps-then : {A B : Type 0} (m : Check State A) (next : A → Check State B) → Keeps m → ((a : A) → Keeps (next a)) → Keeps (m ▷ next)
unfolding ◌▷◌
keeps-then m next f g old new b (a, mid, x, y) = keeps-on old mid new (f old mid a x) (g a mid new b y)

pub keeps-some : {A : Type 0} (P : State → A → Type 0) → Keeps (gives_some P)
unfolding gives_some
keeps-some P old new a (x, e) = keeps-same old new e

pub keeps-refuses : {A : Type 0} (P : State → Fault → Type 0) → Keeps (refuses {S = State} {A = A} P)
unfolding refuses
keeps-refuses P old new a x = absurd x

pub keeps-fails : {A : Type 0} (code : FaultCode) (at : Place) → Keeps (fails {A = A} code at)
keeps-fails code at = keeps-refuses _

pub keeps-unless : (b : Bool) (code : FaultCode) (at : Place) → Keeps (unless b code at)
keeps-unless true code at = keeps-some _
keeps-unless false code at = keeps-fails code at

pub keeps-done : Keeps done
keeps-done = keeps-some _

pub keeps-either : {A : Type 0} (b : Bool) (m n : Check State A) → Keeps m → Keeps n → Keeps (either b m n)
keeps-either true m n f g = f
keeps-either false m n f g = g

pub keeps-becomes : (change : State → State) → ((s : State) → KeepsDone s (change s)) → Keeps (becomes change)
unfolding does
keeps-becomes change f old new a e = subst (λ (x : State). KeepsDone old x) (sym e) (f old)

pub keeps-handles : {A : Type 0} (Same : A → A → Type 0) (a : A) → Keeps (by_handles Same a)
unfolding by_handles
keeps-handles Same a old new b (x, e) = keeps-same old new e

pub keeps-asking : {A : Type 0} (q : Check Atoms A) → Keeps (asking q)
unfolding asks
keeps-asking q old new a (asked, e) = keeps-beside old new (ap (λ (s : State). s.done) e)

-- ---- parts and what is wanted

pub keeps-makes : (count : ℕ) (P : Atoms → List TypedExpr → TypedExpr → Type 0) → Keeps (makes count P)
unfolding does
keeps-makes count P old new a (parts, last, e, x, is) = keeps-beside old new (ap (λ (s : State). s.done) is)

pub keeps-wants : (w : Option Shared) → Keeps (wanting w)
keeps-wants w = keeps-then _ _ (keeps-handles _ _) (λ x. keeps-becomes _ (λ s. keeps-beside s _ refl))

pub keeps-wants-some : (P : Atoms → Ty → Type 0) → Keeps (wants_some P)
keeps-wants-some P = keeps-then _ _ (keeps-some _) (λ t. keeps-wants (Some t))

pub keeps-no-more : (count : ℕ) → Keeps (wants_no_more count)
keeps-no-more count = keeps-becomes _ (λ s. keeps-beside s _ refl)

-- ---- the unit at hand

pub keeps-sets-unit : (u : UnitAtWork) → Keeps (sets_unit u)
keeps-sets-unit u = keeps-then _ _ (keeps-handles _ _) (λ v. keeps-becomes _ (λ s. keeps-beside s _ refl))

pub keeps-sets-flow : (f : Flow) → Keeps (sets_flow f)
keeps-sets-flow f = keeps-then _ _ (keeps-then _ _ (keeps-some _) (λ u. keeps-sets-unit _)) (λ u. keeps-becomes _ (λ s. keeps-beside s _ refl))

pub keeps-new-slot : (t : Shared) → Keeps (new_slot t)
keeps-new-slot t = keeps-then _ _ (keeps-some _) (λ u. keeps-then _ _ (keeps-sets-unit _) (λ v. keeps-some _))

pub keeps-flow-now : Keeps flow_now
keeps-flow-now = keeps-then _ _ (keeps-some _) (λ u. keeps-some _)

pub keeps-ways-now : Keeps ways_now
keeps-ways-now = keeps-then _ _ keeps-flow-now (λ f. keeps-some _)

pub keeps-sets-ways : (w : Option Ways) → Keeps (sets_ways w)
keeps-sets-ways w = keeps-then _ _ (keeps-handles _ _) (λ x. keeps-becomes _ (λ s. keeps-beside s _ refl))

pub keeps-closes-unit : Keeps closes_unit
keeps-closes-unit = keeps-then _ _ (keeps-some _) (λ u. keeps-then _ _ (keeps-becomes _ (λ s. keeps-beside s _ refl)) (λ v. keeps-some _))

-- a number more is taken
pub keeps-new-number : Keeps new_number
unfolding ◌▷◌ gives_some does
keeps-new-number old new n (m, a, (is, ea), (u, b, eb, (same, ec))) =
    let all : new ≡ record old { done = record old.done { next_unit = suc m } } =
    ec ∙ eb ∙ ap (λ (s : State). record s { done = record s.done { next_unit = suc m } }) ea in
    let next : new.done.next_unit ≡ suc m = ap (λ (s : State). s.done.next_unit) all in
    record {
      functions = ap (λ (s : State). s.done.functions) all;
      workers = ap (λ (s : State). s.done.workers) all;
      variables = ap (λ (s : State). s.done.variables) all;
      initialisers = ap (λ (s : State). s.done.initialisers) all;
      next = omega (arith, next, is);
    }

-- ---- what is open

pub keeps-opens-choice : (c : ChoiceAtWork) → Keeps (opens_choice c)
keeps-opens-choice c = keeps-then _ _ (keeps-handles _ _) (λ d. keeps-becomes _ (λ s. keeps-beside s _ refl))

pub keeps-closes-choice : Keeps closes_choice
keeps-closes-choice = keeps-then _ _ (keeps-some _) (λ c. keeps-then _ _ (keeps-becomes _ (λ s. keeps-beside s _ refl)) (λ u. keeps-some _))

pub keeps-opens-constructor : (c : ConstructorAtWork) → Keeps (opens_constructor c)
keeps-opens-constructor c = keeps-becomes _ (λ s. keeps-beside s _ refl)

pub keeps-sets-constructor : (c : ConstructorAtWork) → Keeps (sets_constructor c)
keeps-sets-constructor c = keeps-becomes _ (λ s. keeps-beside s _ refl)

pub keeps-closes-constructor : Keeps closes_constructor
keeps-closes-constructor = keeps-then _ _ (keeps-some _) (λ c. keeps-then _ _ (keeps-becomes _ (λ s. keeps-beside s _ refl)) (λ u. keeps-some _))
