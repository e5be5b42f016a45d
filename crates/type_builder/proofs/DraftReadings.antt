-- What readings of the table are asked, of drafts; and the places of parameters, as the table has them.
use Rattle.std.proofs.Common.{◌≡◌, ◌≤◌, ℕ, ◌+◌, List, [], ◌∷◌, length, map, fold, Option, None, Some, refl, ap, ◌∙◌, arith, length-append}
use Rattle.bal_base.specs.declared.fault.Fault.{Fault}
use Rattle.bal_base.specs.declared.limits.TheConstants.{MOST_ATOMS}
use Rattle.bal_base.specs.declared.place.Place.{Place}
use Rattle.bal_tree.specs.declared.params.Param.{Param}
use Rattle.type_model.specs.declared.atoms.AtomDef.{AtomDef}
use Rattle.checks.specs.Checks.{Gives, Refuses, gives_some}
use Rattle.descriptors.specs.declared.draft.Draft.{Draft}
use Rattle.descriptors.specs.declared.names.Names.{Names}
use Rattle.descriptors.specs.Described.{Atoms}
use Rattle.descriptors.specs.Descriptors.{in_a_row}
use Rattle.descriptors.specs.Drafts.{next_of, numbered_on, wherever}
use Rattle.type_builder.specs.AtomPlaces.{all_places, param_places, places_if, rest_places}
use Rattle.type_builder.specs.Meanings.{param_descriptor, rest_descriptor}

-- ---- what is asked of a reading, of drafts

pub drafts-add : (def : AtomDef) (at : Place) (s : Draft) (n : ℕ) (t : Draft) → numbered_on def at s (Gives n) t → next_of t ≡ next_of s + 1
unfolding numbered_on
drafts-add def at s n t (room, is, first, items) =
    let long : length t.atoms.items ≡ length s.atoms.items + 1 = ap length items ∙ length-append s.atoms.items (def ∷ []) in omega (arith, first, long)

pub drafts-number : (def : AtomDef) (at : Place) (s : Draft) (n : ℕ) (t : Draft) → numbered_on def at s (Gives n) t → n ≡ next_of s
unfolding numbered_on
drafts-number def at s n t (room, is, first, items) = is

pub drafts-refuse : (def : AtomDef) (at : Place) (s : Draft) (f : Fault) (t : Draft) → numbered_on def at s (Refuses f) t → MOST_ATOMS ≤ next_of s
unfolding numbered_on
drafts-refuse def at s f t (full, is, same) = full

module _ (names : Names) where
  pub drafts-keep : (A : Type 0) (P : Atoms → A → Type 0) (s : Draft) (a : A) (t : Draft) → wherever names A P s (Gives a) t → next_of t ≡ next_of s
  unfolding gives_some
  drafts-keep A P s a t (h, same) = ap next_of same

  pub drafts-give : (A : Type 0) (P : Atoms → A → Type 0) (s : Draft) (f : Fault) (t : Draft) → wherever names A P s (Refuses f) t → ⊥
  unfolding gives_some
  drafts-give A P s f t h = absurd h

-- ---- parameters, as the table and as the places have them

pub param-places : (before : List Place) (ps : List Param) → all_places (in_a_row (map param_descriptor ps)) before ≡ fold param_places before ps
param-places before [] = refl
param-places before (p ∷ ps) = param-places (param_places before p) ps

pub others-places : (before : List Place) (rest : Option Param) → places_if (rest_descriptor rest) before ≡ rest_places rest before
others-places before None = refl
others-places before (Some p) = refl
