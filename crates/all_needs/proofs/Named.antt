-- Needs that are met over names, and with names as a part of the state.
use Rattle.std.specs.Prelude.{◌≡◌, List, Option, Some, None, Result, Ok, Err}
use Rattle.std.proofs.Common.{refl, ap, inl, inr, subst, sym, ◌∙◌}
use Rattle.bal_base.specs.declared.fault.Fault.{Fault}
use Rattle.bal_base.specs.declared.stop.Stop.{Stop}
use Rattle.bal_base.specs.declared.stop.Stop.TheVariants.{Memory, Fault as OwnFault}
use Rattle.checks.specs.Checks.{Check, Outcome, Gives, Refuses, Comes, gives_some, ◌▷◌}
use Rattle.descriptors.specs.Steps.{AreNames}
use Rattle.descriptors.specs.declared.names.Names.{Names}
use Rattle.needs.specs.Needs.{Going, Runs, all_met, answer}
use Rattle.type_model.specs.declared.answers.TypeLimit.{TypeLimit}
use Rattle.type_model.specs.declared.atoms.AtomDef.{AtomDef}
use Rattle.type_model.specs.Calls.{Asked}
use Rattle.type_model.specs.Defined.{IsEnv}
use Rattle.typed_tree.specs.Listed.{Listed, nothing, one, ◌&◌}
use Rattle.expr_needs.specs.Needs.{Need}
use Rattle.check_words.specs.Meets.{meets}
use Rattle.check_words.specs.Stands.{Stands}
use Rattle.check_words.specs.State.{State}
use Rattle.package_checks.specs.Checked.{standing}
use Rattle.check_work.specs.Views.{Holds, going}
use Rattle.check_work.specs.declared.work.Work.{Work}
use Rattle.all_needs.specs.Named.{going_of, meaning_of, named, stands_over, with_names}

comes-named :
    {A : Type 0} (check : Names → Check State A) (names : Names) (old new : State) (r : Result A (Stop Fault))
    → Comes (check names) old r new
    → Comes (named check) (names, old) r (names, new)
unfolding Comes named
comes-named check names old new (Ok a) c = (refl, c)
comes-named check names old new (Err (OwnFault f)) c = (refl, c)
comes-named check names old new (Err Memory) c = tt

pub it-holds : (env : List AtomDef) (names : Names) (w : Work) → stands_over env names w → Holds env names w
unfolding stands_over
it-holds env names w h = h

pub it-stands : (env : List AtomDef) (names : Names) (w : Work) → Holds env names w → stands_over env names w
unfolding stands_over
it-stands env names w h = h

-- what holds of the state behind a need
abbrev AreStanding : Names → State → Option (Stop Fault) → Type 0
AreStanding names new after = IsEnv new.atoms × (after ≡ None → AreNames new.atoms names × Stands new)

module _ (passes : List AtomDef → Asked → TypeLimit → Type 0) where
  met-standing :
      (need : Need) (names : Names) (old new : State) (after : Option (Stop Fault))
      → Comes (meets passes names need) old (answer after) new
      → AreStanding names new after
      → Comes (standing names (meets passes names) need) old (answer after) new
  unfolding Comes
  met-standing need names old new None c h = (c, λ before. record { env = h.0; stands = (h.1 refl).1; named = (h.1 refl).0 })
  met-standing need names old new (Some (OwnFault f)) c h = (c, tt)
  met-standing need names old new (Some Memory) c h = tt

  runs-from :
      (need : Need) (names : Names) (old new : State) (stop after : Option (Stop Fault))
      → AreStanding names new after
      → Runs (meets passes names) (one need) (old, stop) (new, after)
      → Runs (meaning_of passes) (one need) ((names, old), stop) ((names, new), after)
  unfolding Runs meaning_of
  runs-from need names old new None after h r =
      comes-named (λ ns. standing ns (meets passes ns) need) names old new (answer after) (met-standing need names old new after r h)
  runs-from need names old new (Some stop) after h r = ap (with_names names) r

  -- a need that is met over names, which stay
  pub runs-named :
      (need : Need) (names after : Names) (env behind : List AtomDef) (old new : Work)
      → after ≡ names
      → IsEnv behind
      → Holds behind after new
      → Runs (meets passes names) (one need) (going env old) (going behind new)
      → Runs (meaning_of passes) (one need) (going_of env names old) (going_of behind after new)
  unfolding going_of
  runs-named need names after env behind old new same whole h r =
      subst (λ ns. Runs (meaning_of passes) (one need) (with_names names (going env old)) (with_names ns (going behind new))) (sym same)
      (runs-from need names (going env old).0 (going behind new).0 (going env old).1 (going behind new).1
      (whole, λ none. subst (λ ns. AreNames behind ns × Stands (going behind new).0) same (h none)) r)

  abbrev Met : Listed Need → Names × State → Outcome (Unit {0}) → Names × State → Type 0
  Met needs a o b = (b.0 ≡ a.0) × all_met (standing a.0 (meets passes a.0)) needs a.1 o b.1

  over : (needs : Listed Need) (mid : Names × State) (names : Names) (o : Outcome (Unit {0})) (b : Names × State)
      → mid.0 ≡ names → Met needs mid o b → (b.0 ≡ names) × all_met (standing names (meets passes names)) needs mid.1 o b.1
  over needs mid names o b same (stays, met) = (stays ∙ same, subst (λ ns. all_met (standing ns (meets passes ns)) needs mid.1 o b.1) same met)

  -- all needs that are met with names as a part of the state are met over these names
  pub met-over-names : (needs : Listed Need) (a : Names × State) (o : Outcome (Unit {0})) (b : Names × State)
      → all_met (meaning_of passes) needs a o b → Met needs a o b
  unfolding ◌▷◌ gives_some named meaning_of
  met-over-names nothing a (Gives u) b h = (ap (λ s. s.0) h.1, (h.0, ap (λ s. s.1) h.1))
  met-over-names nothing a (Refuses f) b h = absurd h
  met-over-names (one need) a o b h = h
  met-over-names (p & q) a (Gives u) b (v, mid, first, rest) =
      let left = met-over-names p a (Gives v) mid first in
      let right = over q mid a.0 (Gives u) b left.0 (met-over-names q mid (Gives u) b rest) in
      (right.0, (v, mid.1, left.1, right.1))
  met-over-names (p & q) a (Refuses f) b (inl first) = let left = met-over-names p a (Refuses f) b first in (left.0, inl left.1)
  met-over-names (p & q) a (Refuses f) b (inr (v, mid, first, rest)) =
      let left = met-over-names p a (Gives v) mid first in
      let right = over q mid a.0 (Refuses f) b left.0 (met-over-names q mid (Refuses f) b rest) in
      (right.0, inr (v, mid.1, left.1, right.1))
