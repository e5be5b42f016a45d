-- A draft whose atoms are added, behind those that were there when it began: what was drafted is what the descriptor means there.
use Rattle.std.proofs.Common.{◌≡◌, ℕ, true, ◌≤◌, ◌+◌, ◌++◌, List, [], ◌∷◌, length, length-append, All, None, Result, Ok, Err, refl, sym, subst, ap, ◌∙◌, arith}
use Rattle.std.specs.Prelude.{⊤}
use Rattle.std.proofs.lemmas.List.{append-nil, append_assoc}
use Rattle.std.proofs.lemmas.List.Elements.{All-nil, All-weaker}
use Rattle.bal_base.specs.declared.fault.Fault.{Fault}
use Rattle.bal_base.specs.declared.limits.TheConstants.{MOST_ATOMS}
use Rattle.bal_base.specs.declared.place.Place.{Place}
use Rattle.bal_base.specs.declared.stop.Stop.{Stop}
use Rattle.bal_base.specs.declared.stop.Stop.TheVariants.{Memory, Fault as OwnFault}
use Rattle.type_model.specs.declared.atoms.AtomDef.{AtomDef}
use Rattle.type_model.specs.declared.basic.Ty.{Ty}
use Rattle.type_model.specs.Calls.{KeepsTypes}
use Rattle.type_model.specs.Defined.{DefBelow, IsDefinedGroup, IsEnv, TyBelow}
use Rattle.type_model.specs.Places.{HasDistinctFields}
use Rattle.type_model.proofs.DefinedLaws.{TyBelow-more}
use Rattle.type_model.proofs.Kept.{KeepsTypes-append}
use Rattle.checks.specs.Checks.{Comes, Outcome, Gives, Refuses, gives_some}
use Rattle.checks.specs.Questions.{adds}
use Rattle.descriptors.specs.declared.draft.Draft.{Draft}
use Rattle.descriptors.specs.declared.names.Names.{Names}
use Rattle.descriptors.specs.declared.names.Scope.{Scope}
use Rattle.descriptors.specs.Descriptors.{Descriptor}
use Rattle.descriptors.specs.Described.{Atoms, by_now, described, new_atom}
use Rattle.descriptors.specs.Drafts.{AreNamesBelow, AreSound, Drafts, drafted, next_of, numbered_on, wherever}
use Rattle.descriptors.specs.Steps.{AreNames, Yields}
use Rattle.descriptors.proofs.Readings.{Follows, IsSeen, described-follows}
use Rattle.descriptors.proofs.Yielding.{own-kept, yields-ran_out}

-- the names over atoms name those alone, and so do they over more
pub names-below : (env : List AtomDef) (names : Names) (n : ℕ) → length env ≤ n → AreNames env names → AreNamesBelow names n
names-below env names n le are = record {
  types = λ scope name t is. TyBelow-more (length env) n le t (are.types scope name t is);
  anydata = TyBelow-more (length env) n le names.own.anydata are.own.anydata_defined;
  isolated = omega (arith, le, are.own.isolated_defined);
}

module _ (old : Atoms) (env : IsEnv old) (names : Names) (are : AreNames old names) where
  -- these atoms are those of the draft behind the old ones
  record IsOn (d : Draft) (atoms : Atoms) : Type 0 where
    pub first : d.first ≡ length old
    pub is : atoms ≡ old ++ d.atoms.items

  abbrev anyhow : Draft → Type 0
  anyhow d = ⊤

  counted : (d : Draft) (atoms : Atoms) → IsOn d atoms → length atoms ≡ next_of d
  counted d atoms r = ap length r.is ∙ length-append old d.atoms.items ∙ ap (λ k. k + length d.atoms.items) (sym r.first)

  forth-atom : (def : AtomDef) (at : Place) (d : Draft) (atoms : Atoms) (o : Outcome ℕ) (t : Draft) → IsSeen true o → IsOn d atoms → anyhow t → numbered_on def at d o t
      → (more : Atoms) × IsOn t more × new_atom def at atoms o more
  unfolding numbered_on adds
  forth-atom def at d atoms (Gives k) t seen r w (room, is, first, items) = (
    atoms ++ def ∷ [],
    record {
      first = first ∙ r.first;
      is = ap (λ ds. ds ++ def ∷ []) r.is ∙ append_assoc old d.atoms.items (def ∷ []) ∙ ap (λ ds. old ++ ds) (sym items);
    },
    (def ∷ [], refl, is ∙ sym (counted d atoms r), refl),
  )
  forth-atom def at d atoms (Refuses f) t seen r w (full, is, same) =
      let long = counted d atoms r in (atoms, subst (λ x. IsOn x atoms) (sym same) r, (def ∷ [], refl, omega (arith, full, long), is, refl))

  atoms-follow : (def : AtomDef) (at : Place) → Follows true anyhow IsOn (numbered_on def at) (new_atom def at)
  atoms-follow def at = record { back = λ s o t h w. tt; forth = forth-atom def at }

  -- the language's own types are what they are over these atoms, and where more stand behind them
  kept-more : (d : Draft) (atoms : Atoms) → IsOn d atoms → (more : Atoms) → KeepsTypes old (atoms ++ more)
  kept-more d atoms r more =
      subst (KeepsTypes old) (sym (ap (λ ds. ds ++ more) r.is ∙ append_assoc old d.atoms.items more)) (KeepsTypes-append old (d.atoms.items ++ more) env)

  forth-some : (A : Type 0) (P : Atoms → A → Type 0) (d : Draft) (atoms : Atoms) (o : Outcome A) (t : Draft) → IsSeen true o → IsOn d atoms → anyhow t → wherever names A P d o t
      → (more : Atoms) × IsOn t more × by_now A P atoms o more
  unfolding gives_some
  forth-some A P d atoms (Gives a) t seen r w (h, same) =
      (atoms, subst (λ x. IsOn x atoms) (sym same) r, (λ more. h (atoms ++ more) (own-kept old (atoms ++ more) names.own (kept-more d atoms r more) are.own), refl))
  forth-some A P d atoms (Refuses f) t seen r w h = absurd h

  some-follow : (A : Type 0) (P : Atoms → A → Type 0) → Follows true anyhow IsOn (wherever names A P) (by_now A P)
  some-follow A P = record { back = λ s o t h w. tt; forth = forth-some A P }

  module _ (scope : Scope) (what : Descriptor) (begun done : Draft) (first : begun.first ≡ length old) (none : begun.atoms.items ≡ []) where
    follows : Follows true anyhow IsOn (drafted names scope what) (described names scope what)
    follows = described-follows true anyhow IsOn numbered_on new_atom (wherever names) by_now atoms-follow some-follow names scope what

    begins : IsOn begun old
    begins = record { first = first; is = sym (append-nil old) ∙ ap (λ ds. old ++ ds) (sym none) }

    comes-added : (r : Result Ty (Stop Fault)) (new : Atoms) → new ≡ old ++ done.atoms.items → Comes (drafted names scope what) begun r done → Comes (described names scope what) old r new
    unfolding Comes
    comes-added (Ok t) new added h =
        let p = follows.forth begun old (Gives t) done tt begins tt h in subst (λ e. described names scope what old (Gives t) e) (p.1.is ∙ sym added) p.2
    comes-added (Err (OwnFault f)) new added h =
        let p = follows.forth begun old (Refuses f) done refl begins tt h in subst (λ e. described names scope what old (Refuses f) e) (p.1.is ∙ sym added) p.2
    comes-added (Err Memory) new added h = tt

    module _ (r : Result Ty (Stop Fault)) (y : Drafts (AreNamesBelow names) TyBelow (drafted names scope what) begun r done) where
      next-is : next_of done ≡ length old + length done.atoms.items
      next-is = ap (λ k. k + length done.atoms.items) (y.first ∙ first)

      sound : AreSound (length old + length done.atoms.items) done.atoms.items
      sound =
          let n = length old + length done.atoms.items in
          let le : next_of done ≤ n = omega (arith, next-is) in
          y.sound n le (names-below old names n (omega arith) are) (subst (AreSound n) (sym none) (All-nil (λ (def : AtomDef). DefBelow n def × HasDistinctFields def)))

      pub added-defined : IsDefinedGroup old done.atoms.items
      added-defined = All-weaker (λ (def : AtomDef). DefBelow (length old + length done.atoms.items) def × HasDistinctFields def) (DefBelow (length old + length done.atoms.items))
          (λ def h. h.0) done.atoms.items sound

      pub added-distinct : All HasDistinctFields done.atoms.items
      added-distinct = All-weaker (λ (def : AtomDef). DefBelow (length old + length done.atoms.items) def × HasDistinctFields def) HasDistinctFields
          (λ def h. h.1) done.atoms.items sound

      pub added-yields : (new : Atoms) → new ≡ old ++ done.atoms.items → KeepsTypes old new → Yields TyBelow (described names scope what) old r new
      added-yields new added kept =
          let long : length new ≡ length old + length done.atoms.items = ap length added ∙ length-append old done.atoms.items in
          let next = next-is in record {
            comes = comes-added r new added y.comes;
            kept = kept;
            over = y.over (length new) (omega (arith, long, next)) (names-below old names (length new) (omega (arith, long)) are);
          }

      within : next_of done ≤ MOST_ATOMS
      within = y.bound (let begins_at : next_of begun ≡ length old = ap (λ k. k + length begun.atoms.items) first ∙ ap (λ ds. length old + length ds) none ∙ (omega arith) in omega (arith, begins_at, env.bound))

      -- there was room for them
      none_refused : (stop : Stop Fault) → Comes (adds (λ before defs. defs ≡ done.atoms.items) None) old (Err stop) old → Yields TyBelow (described names scope what) old (Err stop) old
      unfolding Comes adds
      none_refused (OwnFault f) (defs, are_those, over, fault, same) =
          let few = within in let next = next-is in let long : length defs ≡ length done.atoms.items = ap length are_those in absurd (omega (arith, over, few, next, long))
      none_refused Memory h = yields-ran_out TyBelow (described names scope what) old

      pub no_limit : (new : Atoms) → new ≡ old → (stop : Stop Fault) → Comes (adds (λ before defs. defs ≡ done.atoms.items) None) old (Err stop) new
          → Yields TyBelow (described names scope what) old (Err stop) new
      no_limit new same stop h = subst (λ e. Yields TyBelow (described names scope what) old (Err stop) e) (sym same)
          (none_refused stop (subst (λ e. Comes (adds (λ before defs. defs ≡ done.atoms.items) None) old (Err stop) e) same h))

-- a group that was added stands behind what was there
pub group-added : (old new group : Atoms) (k : ℕ) → Comes (adds (λ before defs. defs ≡ group) None) old (Ok k) new → new ≡ old ++ group
unfolding Comes adds
group-added old new group k (defs, are_those, first, added) = added ∙ ap (λ ds. old ++ ds) are_those
