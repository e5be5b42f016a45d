-- Ways that are entered and left, whatever is known of variables.
use Rattle.std.proofs.Common.{◌≡◌, ◌∙◌, ℕ, List, Option, refl, sym, subst, ap}
use Rattle.bal_base.specs.declared.place.Place.{Place}
use Rattle.checks.specs.Checks.{Check, Gives, ◌▷◌, gives_some}
use Rattle.descriptors.specs.declared.names.Names.{Names}
use Rattle.needs.specs.Needs.{does}
use Rattle.type_model.specs.declared.answers.TypeLimit.{TypeLimit}
use Rattle.type_model.specs.declared.atoms.AtomDef.{AtomDef}
use Rattle.type_model.specs.Calls.{Asked}
use Rattle.typed_tree.specs.declared.expr.TypedExpr.{TypedExpr}
use Rattle.flow_narrowing.specs.declared.flow.Flow.{Flow}
use Rattle.check_words.specs.State.{ChoiceAtWork, IsLast, State, Ways}
use Rattle.check_words.specs.Words.{Atoms, becomes, by_handles, closes_choice, flow_now, makes, opens_choice, sets_flow, sets_ways, ways_now}
use Rattle.typed_needs.specs.Between.{units_in}
use Rattle.typed_needs.proofs.Going.{with-flow}
use Rattle.calm_needs.specs.Calm.{IsCalm}
use Rattle.calm_needs.specs.Staying.{AllWaysStayOn, Stays, WaysStayOn}
use Rattle.calm_needs.proofs.Calming.{Calm, calm-flow-now, calm-handles, calm-makes, calm-some, calm-then, on-beside, on-on, unit-on, unit-parts}
use Rattle.calm_needs.proofs.PlacedParts.{and-units, conditional-units, of-these, or-units, units_of}
use Rattle.calm_needs.proofs.Ways.{ways-set-parts}

abbrev Staying : {A : Type 0} → Check State A → Type 0
Staying {A} m = (old new : State) (a : A) → m old (Gives a) new → Stays old new

stay-then : {A B : Type 0} (m : Check State A) (next : A → Check State B) → Staying m → ((a : A) → Staying (next a)) → Staying (m ▷ next)
unfolding ◌▷◌
stay-then m next f g old new b (a, mid, x, y) =
    let one = f old mid a x in let two = g a mid new b y in record { on = on-on old mid new one.on two.on; units = two.units ∙ one.units }

stay-calm : {A : Type 0} (m : Check State A) → Calm m → Staying m
stay-calm m f old new a x = let calm : IsCalm old new = f old new a x in record { on = calm.on; units = calm.units }

stay-ways-now : Staying ways_now
stay-ways-now = stay-calm ways_now (calm-then _ _ calm-flow-now (λ f. calm-some _))

stay-becomes : (change : State → State) → ((s : State) → Stays s (change s)) → Staying (becomes change)
unfolding does
stay-becomes change f old new a e = subst (λ (x : State). Stays old x) (sym e) (f old)

stay-some : {A : Type 0} (P : State → A → Type 0) → Staying (gives_some P)
stay-some P = stay-calm (gives_some P) (calm-some P)

stay-handles : {A : Type 0} (Same : A → A → Type 0) (a : A) → Staying (by_handles Same a)
stay-handles Same a = stay-calm (by_handles Same a) (calm-handles Same a)

stay-opens-choice : (c : ChoiceAtWork) → Staying (opens_choice c)
stay-opens-choice c = stay-then _ _ (stay-handles _ c) (λ d. stay-becomes _ (λ s. record { on = on-beside s _ refl refl; units = refl }))

stay-closes-choice : Staying closes_choice
stay-closes-choice =
    stay-then _ _ (stay-some _) (λ c. stay-then _ _ (stay-becomes _ (λ s. record { on = on-beside s _ refl refl; units = refl })) (λ u. stay-some _))

stay-flow-now : Staying flow_now
stay-flow-now = stay-calm flow_now calm-flow-now

stay-makes : (count : ℕ) (P : Atoms → List TypedExpr → TypedExpr → Type 0) → ((env : Atoms) (parts : List TypedExpr) (e : TypedExpr) → P env parts e → units_of e ≡ units_in parts)
    → Staying (makes count P)
stay-makes count P view = stay-calm (makes count P) (calm-makes count P view)

stay-sets-flow : (f : Flow) → Staying (sets_flow f)
unfolding ◌▷◌ gives_some does
stay-sets-flow f old new u (v, mid, (w, a, (last, first), set), is) =
    let (found, ways) = unit-parts (record w { flow = f }) v a mid set in
    record {
      on = on-on old a new (on-beside old a (ap (λ (s : State). s.atoms) first) (ap (λ (s : State). s.units) first))
          (on-on a mid new (unit-on w (record w { flow = f }) v a mid (subst (λ (s : State). IsLast s.units w) (sym first) last) (with-flow w f) set)
          (on-beside mid new (ap (λ (s : State). s.atoms) is) (ap (λ (s : State). s.units) is)));
      units = ap (λ (xs : List TypedExpr). units_in xs) (ap (λ (s : State). s.found) is ∙ found ∙ ap (λ (s : State). s.found) first);
    }

stay-sets-ways : (w : Option Ways) → Staying (sets_ways w)
stay-sets-ways w old new u x = let (found, on) = ways-set-parts w u old new x in record { on = on; units = ap (λ (xs : List TypedExpr). units_in xs) found }

module _ (passes : List AtomDef → Asked → TypeLimit → Type 0) (names : Names) where
  ways-stay-on : WaysStayOn passes names
  ways-stay-on =
      record {
        splits = λ way old new x. stay-then _ _ stay-flow-now (λ f. stay-then _ _ stay-ways-now (λ w. stay-then _ _ (stay-opens-choice _) (λ u. stay-sets-flow _))) old new tt x;
        switches = λ old new x. stay-then _ _ stay-flow-now (λ f. stay-then _ _ stay-closes-choice (λ c. stay-then _ _ (stay-opens-choice _) (λ u. stay-sets-flow _))) old new tt x;
        conjoins = λ at old new x.
            stay-then _ _ stay-ways-now (λ w. stay-then _ _ stay-closes-choice (λ c. stay-then _ _ (stay-some _) (λ no. stay-then _ _ (stay-sets-flow _) (λ u.
            stay-then _ _ (stay-makes 2 _ (λ env parts e (a, b, is, (t, k, view)). of-these e is (and-units e view))) (λ v. stay-sets-ways _))))) old new tt x;
        disjoins = λ at old new x.
            stay-then _ _ stay-ways-now (λ w. stay-then _ _ stay-closes-choice (λ c. stay-then _ _ (stay-some _) (λ no. stay-then _ _ (stay-sets-flow _) (λ u.
            stay-then _ _ (stay-makes 2 _ (λ env parts e (a, b, is, (t, k, view)). of-these e is (or-units e view))) (λ v. stay-sets-ways _))))) old new tt x;
        chooses = λ at old new x.
            stay-then _ _ stay-closes-choice (λ c. stay-then _ _ (stay-sets-flow _) (λ u.
            stay-makes 3 _ (λ env parts e (a, b, z, is, (t, k, view)). of-these e is (conditional-units e view)))) old new tt x;
      }

pub all-ways-stay-on : (passes : List AtomDef → Asked → TypeLimit → Type 0) → AllWaysStayOn passes
all-ways-stay-on passes names = ways-stay-on passes names
