-- An atom more on a draft.
use Rattle.std.proofs.Common.{◌≡◌, ℕ, ◌<◌, ◌≤◌, ◌+◌, ◌++◌, [], ◌∷◌, length, length-append, Some, Ok, Err, refl, sym, subst, ap, ◌∙◌, arith}
use Rattle.std.proofs.lemmas.List.Elements.{All-push}
use Rattle.bal_base.specs.declared.fault.Fault.{Fault}
use Rattle.bal_base.specs.declared.fault.FaultCode.TheVariants.{AtomLimit}
use Rattle.bal_base.specs.declared.fault.Kept.TheVariants.{Nothing}
use Rattle.bal_base.specs.declared.limits.TheConstants.{MOST_ATOMS}
use Rattle.bal_base.specs.declared.place.Place.{Place}
use Rattle.bal_base.specs.declared.stop.Stop.TheVariants.{Memory, Fault as OwnFault}
use Rattle.type_model.specs.declared.atoms.AtomDef.{AtomDef}
use Rattle.type_model.specs.Defined.{DefBelow}
use Rattle.type_model.specs.Places.{HasDistinctFields}
use Rattle.checks.specs.Checks.{Comes}
use Rattle.checks.specs.Questions.{IsFault}
use Rattle.checks.proofs.Steps.{ran_out}
use Rattle.descriptors.specs.declared.draft.Draft.{Draft}
use Rattle.descriptors.specs.Drafts.{AreSound, Drafts, next_of, numbered_on}
use Rattle.descriptors.specs.Steps.{IsAtom}

module _ (def : AtomDef) (at : Place) where
  comes-refused : (d : Draft) (f : Fault) → MOST_ATOMS ≤ next_of d → IsFault AtomLimit (Some at) Nothing f → Comes (numbered_on def at) d (Err (OwnFault f)) d
  unfolding Comes numbered_on
  comes-refused d f full is = (full, is, refl)

  comes-numbered : (old new : Draft) (k : ℕ) → next_of old < MOST_ATOMS → k ≡ next_of old → new.first ≡ old.first → new.atoms.items ≡ old.atoms.items ++ def ∷ []
      → Comes (numbered_on def at) old (Ok k) new
  unfolding Comes numbered_on
  comes-numbered old new k room is first items = (room, is, first, items)

  pub atom-refused : (d : Draft) (f : Fault) → MOST_ATOMS ≤ next_of d → IsFault AtomLimit (Some at) Nothing f
      → Drafts (λ n. DefBelow n def) IsAtom (numbered_on def at) d (Err (OwnFault f)) d
  atom-refused d f full is = record { comes = comes-refused d f full is; first = refl; grows = omega arith; bound = λ b. b; sound = λ n le g h. h; over = λ n le g. tt }

  pub atom-no_memory : (old new : Draft) → new.first ≡ old.first → new.atoms.items ≡ old.atoms.items
      → Drafts (λ n. DefBelow n def) IsAtom (numbered_on def at) old (Err Memory) new
  atom-no_memory old new first items =
      let next : next_of new ≡ next_of old = ap (λ k. k + length new.atoms.items) first ∙ ap (λ ds. old.first + length ds) items in record {
        comes = ran_out (numbered_on def at) old new;
        first = first;
        grows = omega (arith, next);
        bound = λ b. omega (arith, next, b);
        sound = λ n le g h. subst (AreSound n) (sym items) h;
        over = λ n le g. tt;
      }

  pub atom-numbered : (old new : Draft) (k : ℕ) → next_of old < MOST_ATOMS → k ≡ next_of old → new.first ≡ old.first → new.atoms.items ≡ old.atoms.items ++ def ∷ []
      → HasDistinctFields def → Drafts (λ n. DefBelow n def) IsAtom (numbered_on def at) old (Ok k) new
  atom-numbered old new k room is first items distinct =
      let next : next_of new ≡ next_of old + 1 = ap (λ k. k + length new.atoms.items) first ∙ ap (λ ds. old.first + length ds) items
      ∙ ap (λ k. old.first + k) (length-append old.atoms.items (def ∷ [])) ∙ (omega arith) in record {
        comes = comes-numbered old new k room is first items;
        first = first;
        grows = omega (arith, next);
        bound = λ b. omega (arith, next, room);
        sound = λ n le below h. subst (AreSound n) (sym items) (All-push (λ (d : AtomDef). DefBelow n d × HasDistinctFields d) old.atoms.items def h (below, distinct));
        over = λ n le below. omega (arith, next, is, le);
      }
