-- What is told where there is a fault in names, from step to step.
use Rattle.std.proofs.Common.{◌≡◌, inl, inr, ℕ, Bool, List, refl, sym, ap, subst, ◌∙◌, None, Result, Ok, Err}
use Rattle.bal_base.specs.declared.fault.Fault.{Fault}
use Rattle.bal_base.specs.declared.place.Place.{Place}
use Rattle.bal_base.specs.declared.stop.Stop.{Stop}
use Rattle.bal_base.specs.declared.stop.Stop.TheVariants.{Memory, Fault as OwnFault}
use Rattle.bal_tree.specs.declared.package.Package.{Package}
use Rattle.checks.specs.Checks.{Gives, Refuses, Comes, gives_some, ◌▷◌}
use Rattle.descriptors.specs.Described.{Atoms}
use Rattle.descriptors.specs.Language.{own_types}
use Rattle.descriptors.specs.declared.names.OwnTypes.{OwnTypes}
use Rattle.name_resolution.specs.Definitions.{definitions_of}
use Rattle.name_resolution.specs.Excerpts.{picked}
use Rattle.name_resolution.specs.Faults.{AreNamed as HaveNames, all_named}
use Rattle.name_resolution.specs.MainExcerpt.{FindsFault, IsExcerptFrom, IsMainExcerpt, FindsNothing, chosen_named}
use Rattle.graphs.specs.Ordering.{IsOrder}
use Rattle.name_resolution.specs.Outlines.{outlines_of}
use Rattle.name_resolution.specs.Reached.{is_reached}
use Rattle.name_resolution.specs.Resolved.{parts}
use Rattle.name_resolution.specs.declared.excerpts.Excerpt.{Excerpt}
use Rattle.name_resolution.proofs.Excerpting.{excerpt_by, is-excerpt, outlines-picked}
use Rattle.name_resolution.proofs.Faultless.{are-named}
use Rattle.type_builder.specs.AtomPlaces.{package_places, room_for}
use Rattle.type_builder.specs.Listing.{IsListing}
use Rattle.type_builder.specs.MainInPlace.{IsToldFirst, named_in_order, package_named, result_fits}
use Rattle.type_builder.specs.Passes.{AreNamed}
use Rattle.type_builder.specs.inner.Telling.{IsFirstStop, IsRest, IsStop, IsStopOf, IsUnasked}
use Rattle.type_builder.specs.declared.placed.Listing.{Listing}
use Rattle.type_builder.proofs.Listed.{of-package}
use Rattle.type_model.specs.declared.answers.TypeLimit.{TypeLimit}
use Rattle.type_model.specs.declared.atoms.AtomDef.{AtomDef}
use Rattle.type_model.specs.Calls.{Asked}

-- room for the atoms of the definitions that are listed
pub room-listed : (q : Package) (l : Listing) (asked : List Place) (env : Atoms) (r : Result (Unit {0}) (Stop Fault)) → IsListing (definitions_of q) l → asked ≡ l.places.items → Comes (room_for asked) env r env
    → Comes (room_for (package_places q)) env r env
room-listed q l asked env r listed same h = subst (λ ps. Comes (room_for ps) env r env) (same ∙ listed.places_are ∙ of-package q) h

module _ (passes : List AtomDef → Asked → TypeLimit → Type 0) where
  -- ---- behind the language's own types

  module _ (q : Package) (own : OwnTypes) (behind : Fault) where
    -- there was no room
    pub full : (old : Atoms) (stop r : Stop Fault) → Comes (room_for (package_places q)) old (Err stop) old → IsUnasked stop behind r → IsStop (IsRest passes q own behind old old) r
    unfolding Comes ◌▷◌
    full old Memory r h e = subst (IsStop (IsRest passes q own behind old old)) (sym e) tt
    full old (OwnFault f) r h e = subst (IsStop (IsRest passes q own behind old old)) (sym e) (inl (record { fault = f; full = inl h; stays = refl }))

    -- there was, and the question came to something
    pub asked : (old new : Atoms) (u : Unit {0}) (r : Result (Unit {0}) (Stop Fault)) (s : Stop Fault) → Comes (room_for (package_places q)) old (Ok u) old → Comes (result_fits passes q own) old r new
        → IsFirstStop r behind s → IsStop (IsRest passes q own behind old new) s
    unfolding Comes ◌▷◌ gives_some
    asked old new u (Ok v) s room h e =
        subst (IsStop (IsRest passes q own behind old new)) (sym e) (inr (record { mid = old; room = (u, old, room, (refl, refl)); outcome = Gives v; asked = h; first = refl }))
    asked old new u (Err (OwnFault f)) s room h e =
        subst (IsStop (IsRest passes q own behind old new)) (sym e) (inr (record { mid = old; room = (u, old, room, (refl, refl)); outcome = Refuses f; asked = h; first = refl }))
    asked old new u (Err Memory) s room h e = subst (IsStop (IsRest passes q own behind old new)) (sym e) tt

  -- ---- of a package whose names are without fault

  module _ (q : Package) (behind : Fault) where
    pub own-stopped : (old new : Atoms) (stop r : Stop Fault) → Comes own_types old (Err stop) new → IsUnasked stop behind r → IsStop (IsStopOf passes q behind old new) r
    unfolding Comes ◌▷◌
    own-stopped old new Memory r h e = subst (IsStop (IsStopOf passes q behind old new)) (sym e) tt
    own-stopped old new (OwnFault f) r h e = subst (IsStop (IsStopOf passes q behind old new)) (sym e) (inl (record { fault = f; full = inl h; stays = refl }))

    pub own-first : (old mid new : Atoms) (own : OwnTypes) (s : Stop Fault) → Comes own_types old (Ok own) mid → IsStop (IsRest passes q own behind mid new) s → IsStop (IsStopOf passes q behind old new) s
    unfolding Comes ◌▷◌
    own-first old mid new own Memory h k = tt
    own-first old mid new own (OwnFault f) h (inl w) = inl (record { fault = w.fault; full = inr (own, mid, h, w.full); stays = w.stays })
    own-first old mid new own (OwnFault f) h (inr w) =
        inr (record { own = own; mid = w.mid; room = (own, mid, h, w.room); outcome = w.outcome; asked = w.asked; first = w.first })

  -- ---- of any package

  module _ (p : Package) (behind : Fault) where
    -- what the names of an excerpt come to
    excerpt-named : (chosen : ℕ → Bool) → chosen_named (outlines_of p) p.main chosen ≡ package_named (excerpt_by chosen p)
    excerpt-named chosen =
        let q = excerpt_by chosen p in
        let is = is-excerpt chosen p in ap (λ os. all_named os p.main) (sym (outlines-picked chosen p q is)) ∙ ap (all_named (outlines_of q)) (sym is.main)

    -- nothing is asked
    pub not-asked : (old : Atoms) → IsMainExcerpt (outlines_of p) p.main None → IsToldFirst passes p behind old behind old
    not-asked old (inl none) = inl (none, (refl, refl))
    not-asked old (inr (m, (before, (chosen, reached, fails)))) =
        inr (m, before, excerpt_by chosen p, (chosen, reached, is-excerpt chosen p), inl (subst FindsFault (excerpt-named chosen) fails, (refl, refl)))

    -- something is asked of what is reached
    pub of-excerpt : (e : Excerpt) (m : ℕ) → IsExcerptFrom (outlines_of p) p.main m e → (old new : Atoms) (s : Stop Fault)
        → IsStop (IsStopOf passes (excerpt_by (is_reached e.away.items) p) behind old new) s → IsStop (λ told. IsToldFirst passes p behind old told new) s
    of-excerpt e m ex old new Memory h = tt
    of-excerpt e m ex old new (OwnFault f) h =
        let chosen = is_reached e.away.items in
        inr (m, ex.before, excerpt_by chosen p, (chosen, ex.reached, is-excerpt chosen p), inr (subst FindsNothing (excerpt-named chosen) ex.named, h))

  -- all names
  module _ (p : Package) where
    pub in-order : (env : Atoms) (u : Unit {0}) → Comes (package_named p) env (Ok u) env → Comes (named_in_order passes p) env (Ok u) env
    unfolding Comes named_in_order
    in-order env u h = h

    pub told-in-order : (old new : Atoms) (behind : Fault) (stop : Stop Fault) → Comes (package_named p) old (Err (OwnFault behind)) old → IsStop (λ told. IsToldFirst passes p behind old told new) stop
        → Comes (named_in_order passes p) old (Err stop) new
    unfolding Comes named_in_order
    told-in-order old new behind Memory h t = tt
    told-in-order old new behind (OwnFault f) h t = (behind, h, t)

-- ---- what is so of an excerpt

module _ (p : Package) (e : Excerpt) (m : ℕ) (ex : IsExcerptFrom (outlines_of p) p.main m e) where
  abbrev part : Package
  part = excerpt_by (is_reached e.away.items) p

  same : picked (is_reached e.away.items) 0 (outlines_of p) ≡ outlines_of part
  same = sym (outlines-picked (is_reached e.away.items) p part (is-excerpt (is_reached e.away.items) p))

  pub excerpt-faultless : (env : Atoms) → AreNamed (excerpt_by (is_reached e.away.items) p)
  excerpt-faultless env = subst HaveNames same (are-named p.main (picked (is_reached e.away.items) 0 (outlines_of p)) env env tt (ex.named env))

  pub excerpt-order : IsOrder (parts (outlines_of (excerpt_by (is_reached e.away.items) p))) e.order.items
  excerpt-order = subst (λ os. IsOrder (parts os) e.order.items) same ex.order
