-- What changes beside the units and the parts, which stay as they are.
use Rattle.std.proofs.Common.{◌≡◌, ◌∙◌, ◌++◌, ℕ, Bool, true, false, List, [], ◌∷◌, Option, Some, refl, ap}
use Rattle.bal_base.specs.declared.fault.FaultCode.TheVariants.{Duplicate}
use Rattle.bal_tree.specs.declared.name.Word.{Word}
use Rattle.bal_tree.specs.declared.types.TypeTree.{TypeTree}
use Rattle.checks.specs.Checks.{Check, Gives, either, gives_some, ◌▷◌}
use Rattle.descriptors.specs.declared.names.Names.{Names}
use Rattle.needs.specs.Needs.{asks, does}
use Rattle.typed_tree.specs.declared.expr.TypedExpr.{TypedExpr}
use Rattle.typed_tree.specs.SharedTypes.{Shared}
use Rattle.check_words.specs.Calls.{is_new, new_number}
use Rattle.check_words.specs.Sharing.{SameUnit}
use Rattle.check_words.specs.State.{State, UnitAtWork, Ways, replaced}
use Rattle.check_words.specs.Values.{describes}
use Rattle.check_words.specs.Words.{Atoms, asking, becomes, by_handles, done, fails, sets_unit, wants as wanting, wants_no_more}
use Rattle.typed_needs.proofs.Strict.{never}

-- the same units, parts and choices, and the same is known of ways
pub record IsBeside (old new : State) : Type 0 where
  pub units : new.units ≡ old.units
  pub found : new.found ≡ old.found
  pub ways : new.ways ≡ old.ways
  pub choices : new.choices ≡ old.choices

pub beside-same : (old new : State) → new ≡ old → IsBeside old new
beside-same old new is = record { units = ap (λ (s : State). s.units) is; found = ap (λ (s : State). s.found) is; ways = ap (λ (s : State). s.ways) is; choices = ap (λ (s : State). s.choices) is }

pub beside-on : (a b c : State) → IsBeside a b → IsBeside b c → IsBeside a c
beside-on a b c f g = record { units = g.units ∙ f.units; found = g.found ∙ f.found; ways = g.ways ∙ f.ways; choices = g.choices ∙ f.choices }

-- ---- checks

abbrev pub Beside : {A : Type 0} → Check State A → Type 0
Beside {A} m = (old new : State) (a : A) → m old (Gives a) new → IsBeside old new

pub beside-then : {A B : Type 0} (m : Check State A) (next : A → Check State B) → Beside m → ((a : A) → Beside (next a)) → Beside (m ▷ next)
unfolding ◌▷◌
beside-then m next f g old new b (a, mid, x, y) = beside-on old mid new (f old mid a x) (g a mid new b y)

pub beside-some : {A : Type 0} (P : State → A → Type 0) → Beside (gives_some P)
unfolding gives_some
beside-some P old new a (x, e) = beside-same old new e

beside-becomes : (change : State → State) → ((s : State) → IsBeside s (change s)) → Beside (becomes change)
unfolding does
beside-becomes change f old new a e = beside-on old (change old) new (f old) (beside-same (change old) new e)

beside-handles : {A : Type 0} (Same : A → A → Type 0) (a : A) → Beside (by_handles Same a)
unfolding by_handles
beside-handles Same a old new b (x, e) = beside-same old new e

pub beside-asking : {A : Type 0} (q : Check Atoms A) → Beside (asking q)
unfolding asks
beside-asking q old new a (asked, e) = record { units = ap (λ (s : State). s.units) e; found = ap (λ (s : State). s.found) e; ways = ap (λ (s : State). s.ways) e; choices = ap (λ (s : State). s.choices) e }

-- ---- words

beside-wants : (w : Option Shared) → Beside (wanting w)
beside-wants w = beside-then _ _ (beside-handles _ _) (λ x. beside-becomes _ (λ s. record { units = refl; found = refl; ways = refl; choices = refl }))

pub beside-no-more : (count : ℕ) → Beside (wants_no_more count)
beside-no-more count = beside-becomes _ (λ s. record { units = refl; found = refl; ways = refl; choices = refl })

pub beside-number : Beside new_number
beside-number = beside-then _ _ (beside-some _) (λ n. beside-then _ _ (beside-becomes _ (λ s. record { units = refl; found = refl; ways = refl; choices = refl })) (λ u. beside-some _))

pub beside-new : (w : Word) → Beside (is_new w)
beside-new w = beside-then _ _ (beside-some _) (λ b. by b)
  where
    by : (b : Bool) → Beside (either b (fails Duplicate w.at) done)
    by true = λ old new a x. absurd (never Duplicate w.at old new x)
    by false = beside-some _

pub beside-describes : (names : Names) (tree : TypeTree) → Beside (describes names tree)
beside-describes names tree =
    beside-then _ _ (beside-some _) (λ scope. beside-then _ _ (beside-asking _) (λ t. beside-then _ _ (beside-some _) (λ u. beside-wants (Some u))))

-- ---- the unit at hand

-- it is set to a form of itself, by other handles
pub unit-set-so : (u : UnitAtWork) (a : Unit {0}) (old new : State) → sets_unit u old (Gives a) new
    → (v : UnitAtWork) × SameUnit u v × (new ≡ record old { units = replaced old.units v })
unfolding ◌▷◌ by_handles does
unit-set-so u a old new (v, mid, (same, first), is) = (v, same, is ∙ ap (λ (s : State). record s { units = replaced s.units v }) first)
