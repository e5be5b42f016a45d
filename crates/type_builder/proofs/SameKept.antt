-- The type of a definition in the second pass is the one that was kept by the first.
use Rattle.std.proofs.Common.{◌≡◌, ℕ, Bool, false, List, length, Ok, sym, ap, subst, ◌∙◌, arith}
use Rattle.bal_tree.specs.declared.def.TypeDef.{TypeDef}
use Rattle.bal_tree.specs.declared.name.QualifiedName.{QualifiedName}
use Rattle.bal_tree.specs.declared.package.Package.{Package}
use Rattle.type_model.specs.declared.basic.Ty.{Ty}
use Rattle.checks.specs.Checks.{Check, Gives, gives_some}
use Rattle.descriptors.specs.declared.draft.Draft.{Draft}
use Rattle.descriptors.specs.declared.names.Entry.{Entry}
use Rattle.descriptors.specs.declared.names.Names.{Names}
use Rattle.descriptors.specs.declared.names.OwnTypes.{OwnTypes}
use Rattle.descriptors.specs.declared.names.Scope.{Scope}
use Rattle.descriptors.specs.Descriptors.{Descriptor, descriptor_of}
use Rattle.descriptors.specs.Described.{Atoms, IsRewritten, described_by}
use Rattle.descriptors.specs.Drafts.{drafted, next_of, numbered_on}
use Rattle.descriptors.specs.Naming.{type_named}
use Rattle.descriptors.specs.Steps.{AreOwnTypes}
use Rattle.name_resolution.specs.Clear.{IsClear}
use Rattle.name_resolution.specs.Definitions.{Placed, definitions_of, scope_at}
use Rattle.name_resolution.specs.Named.{IsKnownPart}
use Rattle.type_builder.specs.Keeping.{WasKept}
use Rattle.type_builder.specs.Passes.{AreEntries, IsEmptyFrom}
use Rattle.type_builder.proofs.Agreeing.{agree-on, described-agree, same-itself}
use Rattle.type_builder.proofs.ClearMore.{clear-more}
use Rattle.type_builder.proofs.DraftReadings.{drafts-add, drafts-number}
use Rattle.type_builder.proofs.DraftRuns.{earlier, so-long}
use Rattle.type_builder.proofs.FlatShapes.{flat-rewritten, rewritten-on}
use Rattle.type_builder.proofs.KeptStages.{same-ok}
use Rattle.type_builder.proofs.KnownTypes.{AreEntriesOf, stands-at, stands-there}

-- ---- drafts over the language's own types, whichever the names are

module _ (own : OwnTypes) where
  abbrev owned : (A : Type 0) → (Atoms → A → Type 0) → Check Draft A
  owned A P = gives_some (λ draft a. (env : Atoms) → AreOwnTypes env own → P env a)

  owned-keeps : (A : Type 0) (P : Atoms → A → Type 0) (s : Draft) (a : A) (t : Draft) → owned A P s (Gives a) t → next_of t ≡ next_of s
  unfolding gives_some
  owned-keeps A P s a t (h, same) = ap next_of same

  owned-holds : (final : Atoms) → AreOwnTypes final own → (A : Type 0) (P : Atoms → A → Type 0) (s : Draft) (a : A) (t : Draft) → owned A P s (Gives a) t → P final a
  unfolding gives_some
  owned-holds final are A P s a t (h, same) = h final are

  as-owned : (names : Names) → names.own ≡ own → (scope : Scope) (d : Descriptor) (s t : Draft) (a : Ty) → drafted names scope d s (Gives a) t → described_by numbered_on owned names scope d s (Gives a) t
  as-owned names same scope d s t a h = subst (λ o. described_by numbered_on (λ A P. gives_some (λ draft a. (env : Atoms) → AreOwnTypes env o → P env a)) names scope d s (Gives a) t) same h

  -- a name outside lists, mappings, errors, functions and futures stands for the same
  abbrev pub IsSameOutside : Atoms → Names → Names → Scope → Bool → QualifiedName → Type 0
  IsSameOutside final names others scope inside name = inside ≡ false → (t u : Ty) → type_named names scope name ≡ Ok t → type_named others scope name ≡ Ok u → IsRewritten t final u

  -- two drafts from one number, over names that outside atoms stand for the same
  pub drafts-agree : (final : Atoms) → AreOwnTypes final own → (names others : Names) → names.own ≡ own → others.own ≡ own → (scope : Scope) (d : Descriptor) (s n t l : Draft) (a b : Ty)
      → IsClear (IsSameOutside final names others scope) false d → next_of n ≡ next_of s → drafted names scope d s (Gives a) t → drafted others scope d n (Gives b) l → IsRewritten a final b
  drafts-agree final are names others mine theirs scope d s n t l a b clear same h k =
      described-agree next_of numbered_on owned drafts-add drafts-number owned-keeps final (owned-holds final are) names others scope d
      (agree-on next_of numbered_on owned drafts-add drafts-number owned-keeps final (owned-holds final are) names others scope d clear) s n a b t l (earlier (next_of s)) (so-long (next_of s)) (same ∙ so-long (next_of s))
      (as-owned names mine scope d s t a h) (as-owned others theirs scope d n l b k)

-- es: the entries of definitions, where those that are parts of the type of the definition n are what they were when it was kept
module _ (p : Package) (own : OwnTypes) (es : List Entry) (known : Names) (entries : AreEntries p own es known) (long : length es ≡ length (definitions_of p)) (of : AreEntriesOf (definitions_of p) es)
    (n start : ℕ) (q : Placed) (d : TypeDef) (t : Ty) (was : WasKept p own es n start q d t) where
  -- names that stand for the same types as those
  module _ (names : Names) (mine : names.own ≡ own) (alike : (name : QualifiedName) → type_named names (scope_at q) name ≡ type_named known (scope_at q) name) where
    same-outside : (final : Atoms) (inside : Bool) (name : QualifiedName) → IsKnownPart p n q inside name → IsSameOutside own final names was.names (scope_at q) inside name
    same-outside final inside name h outside u v now before =
        let there = stands-there p own es known entries q long name h.0 of h.1 in
        let then = stands-at p own was.earlier was.names was.were q was.long name h.0 there.0 (λ r at. of h.0 r there.0 at there.2) (was.same h.0 (h.2 outside) ∙ there.2) h.1 in
        same-itself final u v (same-ok (sym now ∙ alike name ∙ there.3 ∙ sym then.1 ∙ before))

    -- what is drafted now from the definition's first atom on is what was kept
    pub kept-same : (final : Atoms) → AreOwnTypes final own → (s u : Draft) (a : Ty) → next_of s ≡ start → IsClear (IsKnownPart p n q) false (descriptor_of d.ty.value)
        → drafted names (scope_at q) (descriptor_of d.ty.value) s (Gives a) u → IsRewritten a final t
    kept-same final are s u a at clear now =
        rewritten-on final a was.drafted.written t
        (drafts-agree own final are names was.names mine was.were.own_are (scope_at q) (descriptor_of d.ty.value) s was.drafted.start u was.drafted.end a was.drafted.written
        (clear-more (IsKnownPart p n q) (IsSameOutside own final names was.names (scope_at q)) (same-outside final) false (descriptor_of d.ty.value) clear)
        (from-start was.drafted.start was.drafted.empty ∙ sym at) now was.drafted.comes)
        (flat-rewritten final was.drafted.written t was.drafted.flat)
      where
        from-start : (e : Draft) → IsEmptyFrom start e → next_of e ≡ start
        from-start e (first, none) = let empty : length e.atoms.items ≡ 0 = ap length none in omega (arith, first, empty)
