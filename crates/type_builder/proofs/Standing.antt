-- A draft whose definitions stand among the finished atoms: what was drafted is what is meant there.
use Rattle.std.proofs.Common.{◌≡◌, ℕ, zero, suc, ◌+◌, ◌++◌, Bool, false, List, [], ◌∷◌, length, length-append, slice_get, Option, Some, refl, sym, subst, ap, ◌∙◌, arith}
use Rattle.std.proofs.lemmas.Bool.{false≢true}
use Rattle.std.proofs.lemmas.Option.{none-some}
use Rattle.bal_base.specs.declared.place.Place.{Place}
use Rattle.type_model.specs.declared.atoms.AtomDef.{AtomDef}
use Rattle.type_model.specs.declared.basic.Ty.{Ty}
use Rattle.type_model.specs.declared.basic.SemType.{SemType}
use Rattle.checks.specs.Checks.{Outcome, Gives, Refuses, gives_some}
use Rattle.descriptors.specs.declared.draft.Draft.{Draft}
use Rattle.descriptors.specs.declared.names.Names.{Names}
use Rattle.descriptors.specs.declared.names.Scope.{Scope}
use Rattle.descriptors.specs.Descriptors.{Descriptor, Descriptors, MaybeDescriptor}
use Rattle.descriptors.specs.Described.{Atoms, all_by, arrow_by, result_by}
use Rattle.descriptors.specs.Drafts.{all_drafted, drafted, drafted_arrow, drafted_if, next_of, numbered_on, result_drafted, wherever}
use Rattle.descriptors.specs.Steps.{AreOwnTypes}
use Rattle.descriptors.proofs.Readings.{Follows, IsSeen, all-follow, arrow-follows, described-follows, if-follows, result-follows}
use Rattle.type_builder.specs.Meanings.{at_the_end, meant, meant_if, numbered}

still-there : {X : Type 0} (xs : List X) (x y : X) (k : ℕ) → slice_get xs k ≡ Some y → slice_get (xs ++ x ∷ []) k ≡ Some y
still-there [] x y zero e = absurd (none-some y e)
still-there [] x y (suc k) e = absurd (none-some y e)
still-there (z ∷ zs) x y zero e = e
still-there (z ∷ zs) x y (suc k) e = still-there zs x y k e

last-there : {X : Type 0} (xs : List X) (x : X) → slice_get (xs ++ x ∷ []) (length xs) ≡ Some x
last-there [] x = refl
last-there (z ∷ zs) x = last-there zs x

module _ (final : Atoms) (names : Names) (own : AreOwnTypes final names.own) where
  -- each definition of the draft stands among the finished atoms, at its number
  pub record Stands (d : Draft) : Type 0 where
    pub at : (k : ℕ) (def : AtomDef) → slice_get d.atoms.items k ≡ Some def → slice_get final (d.first + k) ≡ Some def

  -- the next atom is that of the draft
  abbrev pub IsNext : Draft → ℕ → Type 0
  IsNext d next = next ≡ next_of d

  module _ (def : AtomDef) (at : Place) where
    back-atom : (s : Draft) (o : Outcome ℕ) (t : Draft) → numbered_on def at s o t → Stands t → Stands s
    unfolding numbered_on
    back-atom s (Gives n) t (room, is, first, items) w = record {
      at = λ k d e. subst (λ f. slice_get final (f + k) ≡ Some d) first (w.at k d (ap (λ ds. slice_get ds k) items ∙ still-there s.atoms.items def d k e));
    }
    back-atom s (Refuses f) t (full, is, same) w = subst Stands same w

    forth-atom : (s : Draft) (next : ℕ) (o : Outcome ℕ) (t : Draft) → IsSeen false o → IsNext s next → Stands t → numbered_on def at s o t
        → (after : ℕ) × IsNext t after × numbered final names def at next o after
    unfolding numbered_on numbered
    forth-atom s next (Gives n) t seen r w (room, is, first, items) =
        let long : length t.atoms.items ≡ length s.atoms.items + 1 = ap length items ∙ length-append s.atoms.items (def ∷ []) in
        let stands : slice_get final next ≡ Some def = subst (λ k. slice_get final k ≡ Some def) (ap (λ f. f + length s.atoms.items) first ∙ sym r)
        (w.at (length s.atoms.items) def (ap (λ ds. slice_get ds (length s.atoms.items)) items ∙ last-there s.atoms.items def)) in
        (suc next, omega (arith, r, first, long), (is ∙ sym r, refl, stands))
    forth-atom s next (Refuses f) t seen r w h = absurd (false≢true seen)

    pub atom-follows : Follows false Stands IsNext (numbered_on def at) (numbered final names def at)
    atom-follows = record { back = back-atom; forth = forth-atom }

  module _ (A : Type 0) (P : Atoms → A → Type 0) where
    back-some : (s : Draft) (o : Outcome A) (t : Draft) → wherever names A P s o t → Stands t → Stands s
    unfolding gives_some
    back-some s (Gives a) t (h, same) w = subst Stands same w
    back-some s (Refuses f) t h w = absurd h

    forth-some : (s : Draft) (next : ℕ) (o : Outcome A) (t : Draft) → IsSeen false o → IsNext s next → Stands t → wherever names A P s o t
        → (after : ℕ) × IsNext t after × at_the_end final names A P next o after
    unfolding gives_some
    forth-some s next (Gives a) t seen r w (h, same) = (next, subst (λ d. IsNext d next) (sym same) r, (h final own, refl))
    forth-some s next (Refuses f) t seen r w h = absurd h

    pub some-follows : Follows false Stands IsNext (wherever names A P) (at_the_end final names A P)
    some-follows = record { back = back-some; forth = forth-some }

  module _ (scope : Scope) where
    pub described-stands : (d : Descriptor) → Follows false Stands IsNext (drafted names scope d) (meant final names scope d)
    described-stands = described-follows false Stands IsNext numbered_on (numbered final names) (wherever names) (at_the_end final names) atom-follows some-follows names scope

    pub all-stand : (done : List Ty) (ds : Descriptors) → Follows false Stands IsNext (all_drafted names scope done ds) (all_by (numbered final names) (at_the_end final names) names scope done ds)
    all-stand = all-follow false Stands IsNext numbered_on (numbered final names) (wherever names) (at_the_end final names) atom-follows some-follows names scope

    pub if-stands : (m : MaybeDescriptor) → Follows false Stands IsNext (drafted_if names scope m) (meant_if final names scope m)
    if-stands = if-follows false Stands IsNext numbered_on (numbered final names) (wherever names) (at_the_end final names) atom-follows some-follows names scope

    pub result-stands : (m : MaybeDescriptor) → Follows false Stands IsNext (result_drafted names scope m) (result_by (numbered final names) (at_the_end final names) names scope m)
    result-stands = result-follows false Stands IsNext numbered_on (numbered final names) (wherever names) (at_the_end final names) atom-follows some-follows names scope

    pub arrow-stands : (isolated : Bool) (fixed : List Ty) (rest : Option Ty) (result : SemType) (at : Place)
        → Follows false Stands IsNext (drafted_arrow isolated fixed rest result at) (arrow_by (numbered final names) isolated fixed rest result at)
    arrow-stands = arrow-follows false Stands IsNext numbered_on (numbered final names) (wherever names) (at_the_end final names) atom-follows some-follows names scope
