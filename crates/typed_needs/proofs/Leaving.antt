-- What changes beside the parts, which stay as they are, and what is made between such steps.
use Rattle.std.proofs.Common.{◌≡◌, ◌∙◌, ◌++◌, ℕ, List, [], ◌∷◌, Option, refl, subst, ap}
use Rattle.checks.specs.Checks.{Check, Gives, ◌▷◌, gives_some}
use Rattle.needs.specs.Needs.{asks, does}
use Rattle.typed_tree.specs.declared.expr.TypedExpr.{TypedExpr}
use Rattle.flow_narrowing.specs.declared.flow.Flow.{Flow}
use Rattle.check_words.specs.Joins.{joins_two}
use Rattle.check_words.specs.State.{AreLast, State, UnitAtWork, Ways, all_but}
use Rattle.check_words.specs.Words.{Atoms, asking, becomes, by_handles, closes_choice, flow_now, makes, sets_flow, sets_unit, sets_ways, wants_no_more, ways_now}

-- the same parts, over the same atoms
pub record SameParts (old new : State) : Type 0 where
  pub found : new.found ≡ old.found
  pub atoms : new.atoms ≡ old.atoms

abbrev pub LeavesParts : {A : Type 0} → Check State A → Type 0
LeavesParts {A} m = (old new : State) (a : A) → m old (Gives a) new → SameParts old new

pub as-same : (old new : State) → new ≡ old → SameParts old new
as-same old new is = record { found = ap (λ (s : State). s.found) is; atoms = ap (λ (s : State). s.atoms) is }

pub then-same : (a b c : State) → SameParts a b → SameParts b c → SameParts a c
then-same a b c p q = record { found = q.found ∙ p.found; atoms = q.atoms ∙ p.atoms }

pub leaves-then : {A B : Type 0} (m : Check State A) (next : A → Check State B) → LeavesParts m → ((a : A) → LeavesParts (next a)) → LeavesParts (m ▷ next)
unfolding ◌▷◌
leaves-then m next f g old new b (a, mid, first, second) = then-same old mid new (f old mid a first) (g a mid new b second)

pub leaves-some : {A : Type 0} (P : State → A → Type 0) → LeavesParts (gives_some P)
unfolding gives_some
leaves-some P old new a (p, is) = as-same old new is

pub leaves-becomes : (change : State → State) → ((s : State) → SameParts s (change s)) → LeavesParts (becomes change)
unfolding does
leaves-becomes change same old new u is = then-same old (change old) new (same old) (as-same (change old) new is)

pub leaves-handles : {A : Type 0} (Same : A → A → Type 0) (a : A) → LeavesParts (by_handles Same a)
unfolding by_handles
leaves-handles Same a old new b (same, is) = as-same old new is

pub still : (s t : State) → t.found ≡ s.found → t.atoms ≡ s.atoms → SameParts s t
still s t f a = record { found = f; atoms = a }

pub ways-left : LeavesParts ways_now
ways-left = leaves-then _ _ (leaves-then _ _ (leaves-some _) (λ u. leaves-some _)) (λ f. leaves-some _)

pub choice-left : LeavesParts closes_choice
choice-left = leaves-then _ _ (leaves-some _) (λ c. leaves-then _ _ (leaves-becomes _ (λ s. still s _ refl refl)) (λ u. leaves-some _))

pub join-left : (f g : Flow) → LeavesParts (joins_two f g)
join-left f g = leaves-some _

pub unit-left : (u : UnitAtWork) → LeavesParts (sets_unit u)
unit-left u = leaves-then _ _ (leaves-handles _ u) (λ v. leaves-becomes _ (λ s. still s _ refl refl))

pub flow-left : (f : Flow) → LeavesParts (sets_flow f)
flow-left f = leaves-then _ _ (leaves-then _ _ (leaves-some _) (λ u. unit-left _)) (λ u. leaves-becomes _ (λ s. still s _ refl refl))

pub ways-set : (w : Option Ways) → LeavesParts (sets_ways w)
ways-set w = leaves-then _ _ (leaves-handles _ w) (λ x. leaves-becomes _ (λ s. still s _ refl refl))

pub flow-seen : LeavesParts flow_now
flow-seen = leaves-then _ _ (leaves-some _) (λ u. leaves-some _)

pub want-dropped : (count : ℕ) → LeavesParts (wants_no_more count)
want-dropped count = leaves-becomes _ (λ s. still s _ refl refl)

-- a question that adds no atoms
abbrev pub AddsNone : {A : Type 0} → Check Atoms A → Type 0
AddsNone {A} q = (old new : Atoms) (a : A) → q old (Gives a) new → new ≡ old

pub asking-leaves : {A : Type 0} (q : Check Atoms A) → AddsNone q → LeavesParts (asking q)
unfolding asks
asking-leaves q none old new a (asked, is) =
    still old new (ap (λ (s : State). s.found) is) (none old.atoms new.atoms a asked)

pub made : (count : ℕ) (P : Atoms → List TypedExpr → TypedExpr → Type 0) (u : Unit {0}) (old new : State) → makes count P old (Gives u) new
    → (parts : List TypedExpr) × (e : TypedExpr) × AreLast old.found count parts × P old.atoms parts e × (new.found ≡ all_but count old.found ++ e ∷ []) × (new.atoms ≡ old.atoms)
unfolding does
made count P u old new (parts, last, e, p, is) = (parts, e, last, p, ap (λ (s : State). s.found) is, ap (λ (s : State). s.atoms) is)

-- ---- what is made between steps that leave parts as they are

abbrev pub Makes : ℕ → (Atoms → List TypedExpr → TypedExpr → Type 0) → State → State → Type 0
Makes count P old new =
    (parts : List TypedExpr) × (e : TypedExpr) × AreLast old.found count parts × P old.atoms parts e × (new.found ≡ all_but count old.found ++ e ∷ []) × (new.atoms ≡ old.atoms)

pub between : (count : ℕ) (P : Atoms → List TypedExpr → TypedExpr → Type 0) (old a b new : State) → SameParts old a → Makes count P a b → SameParts b new → Makes count P old new
between count P old a b new before (parts, e, last, p, found, atoms) behind = (
  parts,
  e,
  subst (λ xs. AreLast xs count parts) before.found last,
  subst (λ xs. P xs parts e) before.atoms p,
  behind.found ∙ found ∙ ap (λ xs. all_but count xs ++ e ∷ []) before.found,
  behind.atoms ∙ atoms ∙ before.atoms,
)

-- ---- checks that change nothing

abbrev pub LeavesAll : {A : Type 0} → Check State A → Type 0
LeavesAll {A} m = (old new : State) (a : A) → m old (Gives a) new → new ≡ old

pub all-then : {A B : Type 0} (m : Check State A) (next : A → Check State B) → LeavesAll m → ((a : A) → LeavesAll (next a)) → LeavesAll (m ▷ next)
unfolding ◌▷◌
all-then m next f g old new b (a, mid, first, second) = g a mid new b second ∙ f old mid a first

pub all-some : {A : Type 0} (P : State → A → Type 0) → LeavesAll (gives_some P)
unfolding gives_some
all-some P old new a (p, is) = is

pub all-asking : {A : Type 0} (q : Check Atoms A) → AddsNone q → LeavesAll (asking q)
unfolding asks
all-asking q none old new a (asked, is) = is ∙ ap (λ (xs : Atoms). record old { atoms = xs }) (none old.atoms new.atoms a asked)
