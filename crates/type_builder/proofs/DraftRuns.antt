-- Drafts of descriptors and of definitions: so many atoms are added, and where there is room for them nothing is refused.
use Rattle.std.proofs.Common.{◌≡◌, ◌<◌, ◌≤◌, ℕ, ◌+◌, Bool, false, List, [], length, replicate, sym, arith}
use Rattle.std.proofs.lemmas.List.{length-replicate}
use Rattle.bal_base.specs.declared.fault.Fault.{Fault}
use Rattle.bal_base.specs.declared.limits.TheConstants.{MOST_ATOMS}
use Rattle.bal_base.specs.declared.place.Place.{Place}
use Rattle.bal_tree.specs.declared.def.Def.{Def}
use Rattle.bal_tree.specs.declared.name.QualifiedName.{QualifiedName}
use Rattle.bal_tree.specs.declared.package.Package.{Package}
use Rattle.type_model.specs.declared.basic.Ty.{Ty}
use Rattle.checks.specs.Checks.{Check, Gives, Refuses}
use Rattle.descriptors.specs.declared.draft.Draft.{Draft}
use Rattle.descriptors.specs.declared.names.Meaning.{Meaning}
use Rattle.descriptors.specs.declared.names.Names.{Names}
use Rattle.descriptors.specs.declared.names.Scope.{Scope}
use Rattle.descriptors.specs.Descriptors.{Descriptor}
use Rattle.descriptors.specs.Drafts.{drafted, next_of, numbered_on, wherever}
use Rattle.name_resolution.specs.Clear.{IsClear}
use Rattle.name_resolution.specs.Definitions.{Placed, scope_at}
use Rattle.name_resolution.specs.Named.{IsClearDef, IsKnown}
use Rattle.type_builder.specs.AtomPlaces.{def_places, places}
use Rattle.type_builder.specs.Meanings.{meaning_drafted}
use Rattle.type_builder.specs.declared.earlier.Earlier.{Earlier}
use Rattle.type_builder.proofs.Adding.{Adds, def-adds, places-add}
use Rattle.type_builder.proofs.Counting.{Counted, Grows, described-counted}
use Rattle.type_builder.proofs.DefReadings.{meaning-counted, meaning-refusing}
use Rattle.type_builder.proofs.DraftReadings.{drafts-add, drafts-give, drafts-keep, drafts-refuse}
use Rattle.type_builder.proofs.Refusing.{Refusing, Stands, described-refusing}

-- places before those of a draft: as many as there are atoms before its next one
pub earlier : ℕ → List Place
earlier n = replicate n (record { file = 0; at = 0 })

pub so-long : (n : ℕ) → n ≡ length (earlier n)
unfolding earlier
so-long n = sym (length-replicate n (record { file = 0; at = 0 }))

module _ {A : Type 0} (m : Check Draft A) (grow : Grows) (adds : Adds grow) (s t : Draft) where
  pub so-many : Counted next_of m grow → (a : A) → m s (Gives a) t → next_of t ≡ next_of s + length (grow [])
  so-many counted a h =
      let more : length (grow (earlier (next_of s))) ≡ length (earlier (next_of s)) + length (grow []) = adds (earlier (next_of s)) in
      let there : next_of s ≡ length (earlier (next_of s)) = so-long (next_of s) in
      let after : next_of t ≡ length (grow (earlier (next_of s))) = counted s a t (earlier (next_of s)) there h in omega (arith, more, there, after)

  pub none-refused : Refusing next_of m grow → (f : Fault) → next_of s + length (grow []) ≤ MOST_ATOMS → m s (Refuses f) t → ⊥
  none-refused refusing f room h =
      let more : length (grow (earlier (next_of s))) ≡ length (earlier (next_of s)) + length (grow []) = adds (earlier (next_of s)) in
      let there : next_of s ≡ length (earlier (next_of s)) = so-long (next_of s) in
      let full : MOST_ATOMS < length (grow (earlier (next_of s))) = refusing s f t (earlier (next_of s)) there h in omega (arith, more, there, full, room)

module _ (names : Names) where
  -- each name stands for a type
  abbrev pub Typed : Scope → Bool → QualifiedName → Type 0
  Typed = Stands next_of numbered_on (wherever names) drafts-add (drafts-keep names) drafts-refuse (drafts-give names) names

  module _ (scope : Scope) (d : Descriptor) (s t : Draft) where
    pub drafted-long : (u : Ty) → drafted names scope d s (Gives u) t → next_of t ≡ next_of s + length (places d [])
    drafted-long u h = so-many (drafted names scope d) (places d) (places-add d) s t (described-counted next_of numbered_on (wherever names) drafts-add (drafts-keep names) names scope d) u h

    pub drafted-whole : (f : Fault) → IsClear (Typed scope) false d → next_of s + length (places d []) ≤ MOST_ATOMS → drafted names scope d s (Refuses f) t → ⊥
    drafted-whole f clear room h =
        none-refused (drafted names scope d) (places d) (places-add d) s t
        (described-refusing next_of numbered_on (wherever names) drafts-add (drafts-keep names) drafts-refuse (drafts-give names) names scope false d clear) f room h

  module _ (unit : Earlier) (def : Def) (s t : Draft) where
    pub meaning-long : (scope : Scope) (m : Meaning) → meaning_drafted names scope unit def s (Gives m) t → next_of t ≡ next_of s + length (def_places [] def)
    meaning-long scope m h =
        so-many (meaning_drafted names scope unit def) (λ before. def_places before def) (def-adds def) s t
        (meaning-counted next_of numbered_on (wherever names) drafts-add (drafts-keep names) names scope unit def) m h

    pub meaning-whole : (p : Package) (q : Placed) (n : ℕ) (f : Fault) → ((inside : Bool) (name : QualifiedName) → IsKnown p q inside name → Typed (scope_at q) inside name) → IsClearDef p n q def
        → next_of s + length (def_places [] def) ≤ MOST_ATOMS → meaning_drafted names (scope_at q) unit def s (Refuses f) t → ⊥
    meaning-whole p q n f known clear room h =
        none-refused (meaning_drafted names (scope_at q) unit def) (λ before. def_places before def) (def-adds def) s t
        (meaning-refusing next_of numbered_on (wherever names) drafts-add (drafts-keep names) names drafts-refuse (drafts-give names) p q known n unit def clear) f room h
