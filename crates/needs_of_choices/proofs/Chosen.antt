-- What was chosen is what a constructor is opened with.
use Rattle.std.proofs.Common.{◌≡◌, ◌==◌, ◌∙◌, Bool, ◌<◌, ◌++◌, ℕ, true, false, List, [], ◌∷◌, Option, Some, None, IfOk, IfSome, Result, Ok, Err, inl, inr, refl, sym, subst, length}
use Rattle.std.proofs.lemmas.Bool.{false≢true}
use Rattle.bal_base.specs.declared.fault.Fault.{Fault}
use Rattle.bal_base.specs.declared.place.Place.{Place}
use Rattle.bal_base.specs.declared.stop.Stop.{Stop}
use Rattle.bal_base.specs.declared.stop.Stop.TheVariants.{Memory, Fault as OwnFault}
use Rattle.checks.specs.Checks.{Check, Comes, Gives, Outcome, Refuses, gives, gives_some, ◌▷◌}
use Rattle.type_model.specs.declared.answers.TypeLimit.{TypeLimit}
use Rattle.type_model.specs.declared.atoms.AtomDef.{AtomDef}
use Rattle.type_model.specs.declared.basic.Choice.{Choice}
use Rattle.type_model.specs.declared.basic.Ty.{Ty}
use Rattle.type_model.specs.Calls.{Asked}
use Rattle.typed_tree.specs.SharedTypes.{Shared}
use Rattle.expr_needs.specs.declared.expected.Expected.{Expected}
use Rattle.check_kinds.specs.Over.{ComesOver}
use Rattle.check_kinds.proofs.Over.{over-on, over-some, over-stops}
use Rattle.check_words.specs.Constructors.{IsReadonlyType, at_work, chooses_by, chooses_constructor, chooses_for, first_fit}
use Rattle.check_words.specs.State.{State}
use Rattle.check_words.specs.Words.{Atoms, Step, last_want, opens_constructor, whether_within}
use Rattle.needs_of_choices.specs.Choosing.{Chosen, HasSome, IsFromFirst, chosen, chosen_by, chosen_for, unchosen}
use Rattle.check_words.proofs.Coming.{given}
use Rattle.expr_needs.specs.declared.expected.Expected.TheVariants as expected

abbrev pub opens : Chosen → Step
opens p = opens_constructor (at_work p.0 p.1)

-- what leads to the same, one behind another
abbrev LeadsTo : Step → Step → Type 0
LeadsTo m n = (s : State) (o : Outcome (Unit {0})) (new : State) → m s o new → n s o new

just-opens : (p : Chosen) → LeadsTo (gives p ▷ opens) (opens p)
unfolding ◌▷◌ gives_some
just-opens p s (Gives u) new (q, mid, (is, e), k) = subst (λ x. opens x s (Gives u) new) is (subst (λ n. opens q n (Gives u) new) e k)
just-opens p s (Refuses f) new (inl never) = absurd never
just-opens p s (Refuses f) new (inr (q, mid, (is, e), k)) = subst (λ x. opens x s (Refuses f) new) is (subst (λ n. opens q n (Refuses f) new) e k)

then-opens : {B : Type 0} (m : Check State B) (n : B → Check State Chosen) (k : B → Step) → ((b : B) → LeadsTo (n b ▷ opens) (k b)) → LeadsTo ((m ▷ n) ▷ opens) (m ▷ k)
unfolding ◌▷◌
then-opens m n k f s (Gives u) new (p, mid, (b, m1, h, given), o) = (b, m1, h, f b m1 (Gives u) new (p, mid, given, o))
then-opens m n k f s (Refuses g) new (inl (inl h)) = inl h
then-opens m n k f s (Refuses g) new (inl (inr (b, m1, h, refused))) = inr (b, m1, h, f b m1 (Refuses g) new (inl refused))
then-opens m n k f s (Refuses g) new (inr (p, mid, (b, m1, h, given), o)) = inr (b, m1, h, f b m1 (Refuses g) new (inr (p, mid, given, o)))

module _ (passes : List AtomDef → Asked → TypeLimit → Type 0) (own : Ty → List Choice) (Fits : Atoms → Choice → Type 0) (at : Place) where
  by-opens : (choices : List Choice) (t : Ty) → LeadsTo (chosen_by passes own Fits choices t at ▷ opens) (chooses_by passes own Fits choices t at)
  by-opens [] t = then-opens (whether_within passes IsReadonlyType t.sem at) (λ b. gives (None, b)) (λ b. opens (None, b)) (λ b. just-opens (None, b))
  by-opens (c ∷ cs) t =
      then-opens (first_fit Fits (own t) at) (λ d. gives (Some d.atom, d.immutable)) (λ d. opens (Some d.atom, d.immutable)) (λ d. just-opens (Some d.atom, d.immutable))

  for-opens : (w : Option Shared) → LeadsTo (chosen_for passes own Fits w at ▷ opens) (chooses_for passes own Fits w at)
  for-opens None = just-opens (None, false)
  for-opens (Some t) = by-opens (t.value.lists ++ t.value.maps) t.value

  all-opens : (e : Expected) → LeadsTo (chosen passes own Fits e at ▷ opens) (chooses_constructor passes own Fits e at)
  all-opens expected.Nothing = just-opens (None, false)
  all-opens expected.Immutable = just-opens (None, true)
  all-opens expected.Wanted = then-opens last_want (λ w. chosen_for passes own Fits w at) (λ w. chooses_for passes own Fits w at) for-opens

  pub chosen-opens : (e : Expected) (s : State) (r : Result (Unit {0}) (Stop Fault)) (new : State) → Comes (chosen passes own Fits e at ▷ opens) s r new
      → Comes (chooses_constructor passes own Fits e at) s r new
  unfolding Comes
  chosen-opens e s (Ok u) new h = all-opens e s (Gives u) new h
  chosen-opens e s (Err (OwnFault f)) new h = all-opens e s (Refuses f) new h
  chosen-opens e s (Err Memory) new h = tt

-- ---- of a type

module _ (passes : List AtomDef → Asked → TypeLimit → Type 0) (own : Ty → List Choice) (Fits : Atoms → Choice → Type 0) (t : Ty) (at : Place) (old : Atoms) where
  pub by-first : (choices : List Choice) (first : Result Choice (Stop Fault)) (r : Result Chosen (Stop Fault)) → HasSome choices → ComesOver (first_fit Fits (own t) at) old first old
      → IsFromFirst first r → ComesOver (chosen_by passes own Fits choices t at) old r old
  by-first [] first r some h is = absurd some
  by-first (c ∷ cs) (Ok d) r some h is =
      subst (λ x. ComesOver (chosen_by passes own Fits (c ∷ cs) t at) old x old) (sym is)
      (over-on (first_fit Fits (own t) at) (λ b. gives (Some b.atom, b.immutable)) old old old d (Ok (Some d.atom, d.immutable)) h
      (over-some (λ o p. p ≡ (Some d.atom, d.immutable)) old (Some d.atom, d.immutable) refl))
  by-first (c ∷ cs) (Err stop) r some h is =
      subst (λ x. ComesOver (chosen_by passes own Fits (c ∷ cs) t at) old x old) (sym is)
      (over-stops (first_fit Fits (own t) at) (λ b. gives (Some b.atom, b.immutable)) old old stop h)

  pub by-none : (choices : List Choice) (r : Result Chosen (Stop Fault)) (new : Atoms) → choices ≡ [] → ComesOver (unchosen passes t at) old r new
      → ComesOver (chosen_by passes own Fits choices t at) old r new
  by-none choices r new e h = subst (λ cs. ComesOver (chosen_by passes own Fits cs t at) old r new) (sym e) h

module _ (n : ℕ) where
  -- the atom that was chosen is there
  abbrev pub ChosenBelow : Result Chosen (Stop Fault) → Type 0
  ChosenBelow r = IfOk r (λ p. IfSome p.0 (λ atom. atom < n))

  pub first-below : (first : Result Choice (Stop Fault)) (r : Result Chosen (Stop Fault)) → IsFromFirst first r → IfOk first (λ c. c.atom < n) → ChosenBelow r
  first-below (Ok d) r is h = subst ChosenBelow (sym is) h
  first-below (Err stop) r is h = subst ChosenBelow (sym is) tt

  pub none-below : (r : Result Chosen (Stop Fault)) → IfOk r (λ p. p.0 ≡ None) → ChosenBelow r
  none-below (Ok p) h = subst (λ o. IfSome o (λ atom. atom < n)) (sym h) tt
  none-below (Err stop) h = tt

-- over atoms that stayed as they were
pub chosen-below : (atom : Option ℕ) (old new : List AtomDef) → new ≡ old → IfSome atom (λ a. a < length old) → IfSome atom (λ a. a < length new)
chosen-below atom old new e h = subst (λ (n : List AtomDef). IfSome atom (λ a. a < length n)) (sym e) h

-- a list that isn't empty has one
pub some-first : (xs ys : List Choice) (b : Bool) → b ≡ (length xs == 0) → b ≡ false → HasSome (xs ++ ys)
some-first [] ys b e is = absurd (false≢true (sym is ∙ e))
some-first (x ∷ xs) ys b e is = tt
