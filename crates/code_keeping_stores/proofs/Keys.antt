-- A member of a mapping is stored.
use Rattle.std.proofs.Common.{◌≡◌, ◌∙◌, ℕ, List, [], ◌∷◌, Option, Some, inl, inr, refl, sym, ap, subst}
use Rattle.std.proofs.lemmas.List.Elements.{All-cons, All-head, All-nil, All-tail}
use Rattle.std.specs.Prelude.{◌⊎◌, All, IsSomeAnd, IsTrue, map, option_and_then, slice_get}
use Rattle.bal_base.specs.Valid.{IsText}
use Rattle.bal_base.specs.declared.text.Text.{Text}
use Rattle.type_model.specs.declared.atoms.AtomDef.{AtomDef}
use Rattle.type_model.specs.declared.atoms.AtomDef.TheVariants.{Mapping as MappingAtom}
use Rattle.type_model.specs.declared.atoms.FieldDef.{FieldDef}
use Rattle.type_model.specs.declared.basic.SemType.{SemType}
use Rattle.type_model.specs.declared.basic.Ty.{Ty}
use Rattle.type_model.specs.Places.{key_type}
use Rattle.operations.specs.declared.operation.Operation.TheVariants as op
use Rattle.operations.specs.Rows.{NoResult, Surroundings}
use Rattle.value_model.specs.declared.filler.Filler.{Filler}
use Rattle.value_model.specs.declared.panics.PanicName.TheVariants.{InherentTypeViolation}
use Rattle.value_model.specs.declared.value.Value.{Value}
use Rattle.value_model.specs.declared.value.Value.TheVariants.{Struct}
use Rattle.value_model.specs.Heap.{AreAlike, Entries, Members, Structure, entry_at, values_of}
use Rattle.value_model.specs.Meaning.{Answers}
use Rattle.value_model.specs.Stands.{Belongs, BelongsIf, MembersBelong}
use Rattle.value_model.specs.Valid.{AreValidMembers, IsValidValue}
use Rattle.op_model.specs.Common.{Common}
use Rattle.op_model.specs.Effects.{lifted}
use Rattle.op_model.specs.ProgramFacts.{own_types}
use Rattle.op_model.specs.Performs.{Performs}
use Rattle.op_model.specs.Rows.{gives_nothing, panics, within}
use Rattle.op_model.specs.Stores.{StoresKey, atom_of, set_entry, stored, type_at_key}
use Rattle.op_model.specs.StructureRows.{SetsKey}
use Rattle.machine_model.specs.Runs.{Running}
use Rattle.stack_code.specs.declared.code.Code.{Code}
use Rattle.stack_code.specs.CodeMachine.{code_facts}
use Rattle.stack_code.specs.Good.{GoodCommon}
use Rattle.stack_code.specs.Values.{AreKeysApart, ComeOnce, Fits, IsMade, code_types}
use Rattle.stack_code.specs.WellTyped.{WellTyped}
use Rattle.code_keeping.specs.Kinds.{Mappings, Strings}
use Rattle.code_keeping.specs.Rows.{EffectTyped}
use Rattle.code_keeping.proofs.Coming.{AllCome, Does, RowHolds, does-else, does-unless, on-world, panics-typed}
use Rattle.code_keeping.proofs.Growing.{belongs-there, made-there}
use Rattle.code_keeping.proofs.Lists.{all-at, some-to}
use Rattle.code_keeping.proofs.OfKind.{of-kind}
use Rattle.code_keeping.proofs.Operands.{a-string, mappings, strings, three-fit}
use Rattle.code_keeping.proofs.Serving.{all-to}
use Rattle.code_keeping.proofs.Valuing.{own-same}
use Rattle.code_keeping_heap.proofs.Entries.{set-all, set-apart, set-there}
use Rattle.code_keeping_heap.proofs.Keyed.{at-mapping}
use Rattle.code_keeping_heap.proofs.Mapped.{EntriesBelong, a-mapping, mapping-members}
use Rattle.code_keeping_stores.proofs.Storing.{IsFine, d, grows, store-typed, world-then}

-- ---- values of entries

pub values-all : (P : Value → Type 0) (es : List (Text × Value)) → All (λ e. P e.1) es → All P (map (λ e. e.1) es)
values-all P [] h = All-nil P
values-all P (e ∷ es) h = All-cons P e.1 (map (λ e. e.1) es) (All-head (λ (e : Text × Value). P e.1) e es h) (values-all P es (All-tail (λ (e : Text × Value). P e.1) e es h))

pub entries-so : (P : Value → Type 0) (es : List (Text × Value)) → All P (map (λ e. e.1) es) → All (λ e. P e.1) es
entries-so P [] h = All-nil _
entries-so P (e ∷ es) h = All-cons (λ (e : Text × Value). P e.1) e es (All-head P e.1 (map (λ e. e.1) es) h) (entries-so P es (All-tail P e.1 (map (λ e. e.1) es) h))

module _ (code : Code) (c : Common) (good : GoodCommon code c Running) (n : ℕ) (s : Structure) (es : List (Text × Value)) (e : slice_get c.world.heap.structures n ≡ Some s) (is : s.members ≡ Entries es) (mutable : IsTrue s.mutable)
    (key : Text) (text : IsText key) (v : Value) (made : IsMade code c v) (belongs : BelongsIf (code_types code) c.world.heap v (option_and_then (type_at_key key) (atom_of (code_types code) s))) where
  abbrev m : Members
  m = Entries (set_entry es key v)

  kind : AreAlike s.members m
  kind = subst (λ x. AreAlike x m) (sym is) tt

  abbrev z : Common
  z = d code c good n s e mutable m kind []

  made-so : (x : Value) → IsMade code c x → IsMade code z x
  made-so x h = made-there code c (world-then code c good n s e mutable m kind []) good.nearly.heap (grows code c good n s e mutable m kind []) x h

  old-made : All (λ e. IsMade code c e.1) es
  old-made = entries-so (IsMade code c) es (subst (λ x. All (IsMade code c) (values_of x)) is (all-at (λ s. All (IsMade code c) (values_of s.members)) c.world.heap.structures n s good.nearly.heap.members e))

  old-apart : ComeOnce es
  old-apart = subst AreKeysApart is (all-at (λ s. AreKeysApart s.members) c.world.heap.structures n s good.nearly.heap.apart e)

  old-valid : AreValidMembers (Entries es)
  old-valid = subst AreValidMembers is (all-at (λ s. AreValidMembers s.members) c.world.heap.structures n s good.nearly.heap.valid.members e)

  -- the value belongs to the place of the key
  at-key : (a : ℕ) (fields : List FieldDef) (rest : Option Ty) → s.atom ≡ Some a → slice_get code.atoms a ≡ Some (MappingAtom fields rest) → BelongsIf (code_types code) z.world.heap v (key_type fields rest key)
  at-key a fields rest ea ed =
      let its : atom_of (code_types code) s ≡ Some (MappingAtom fields rest) = ap (λ o. option_and_then (λ b. slice_get code.atoms b) o) ea ∙ ed in
      some-to (λ u. Belongs (code_types code) c.world.heap v u.sem) (λ u. Belongs (code_types code) z.world.heap v u.sem) (key_type fields rest key)
      (λ u b. belongs-there code c (world-then code c good n s e mutable m kind []) good.nearly.heap (grows code c good n s e mutable m kind []) v u.sem made.0 b)
      (subst (λ o. BelongsIf (code_types code) c.world.heap v (option_and_then (type_at_key key) o)) its belongs)

  fine : IsFine code c good n s e mutable m kind []
  fine =
      record {
        belong = λ a definition ea ed h. by a definition ea ed (mapping-members code z.world.heap es definition (subst (λ x. MembersBelong (code_types code) z.world.heap x definition) is h));
        made = values-all (IsMade code z) (set_entry es key v) (all-to (λ e. IsMade code c e.1) (λ e. IsMade code z e.1) (λ e h. made-so e.1 h) (set_entry es key v) (set-all (λ e. IsMade code c e.1) es key v old-made made));
        valid = set-all (λ e. IsText e.0 × IsValidValue e.1) es key v old-valid (text, made.1);
        apart = set-apart es key v old-apart;
      }
    where
      by : (a : ℕ) (definition : AtomDef) → s.atom ≡ Some a → slice_get code.atoms a ≡ Some definition →
          ((fields : List FieldDef) × (rest : Option Ty) × (definition ≡ MappingAtom fields rest) × EntriesBelong code z.world.heap es fields rest) → MembersBelong (code_types code) z.world.heap m definition
      by a definition ea ed (fields, rest, same, (named, each)) =
          subst (λ x. MembersBelong (code_types code) z.world.heap m x) (sym same) (
            all-to (λ f. IsTrue f.optional ⊎ IsSomeAnd (entry_at es f.name) (λ w. Unit {0})) (λ f. IsTrue f.optional ⊎ IsSomeAnd (entry_at (set_entry es key v) f.name) (λ w. Unit {0})) (λ f h. still f h) fields named,
            set-all (λ e. BelongsIf (code_types code) z.world.heap e.1 (key_type fields rest e.0)) es key v each (at-key a fields rest ea (ed ∙ ap (λ x. Some x) same)),
          )
        where
          still : (f : FieldDef) → IsTrue f.optional ⊎ IsSomeAnd (entry_at es f.name) (λ w. Unit {0}) → IsTrue f.optional ⊎ IsSomeAnd (entry_at (set_entry es key v) f.name) (λ w. Unit {0})
          still f (inl optional) = inl optional
          still f (inr there) = inr (set-there es key f.name v (inr there))

  does-store : (result : Option SemType) → NoResult result → EffectTyped code c result (lifted c (within (gives_nothing (stored c.world n s m []))))
  does-store result none = store-typed code c good n s e mutable m kind [] fine (λ small j x ex. absurd (let q : ⊥ = cc in q)) result none

module _ (fillers : ℕ → List Filler) (natives : Answers) (code : Code) (t : WellTyped code) (c : Common) (place : Surroundings) where
  pub set-key : RowHolds code fillers natives c place op.SetKey
  set-key operands result vs caller good (typed, none) fit =
      three-fit code c (λ us. AllCome code c result (Performs (code_facts fillers code) natives op.SetKey us caller c)) operands vs _ typed fit
      (λ a b g v w x (first, second, third) fv fw fx.
      a-mapping c.world.heap (λ z. AllCome code c result (Performs (code_facts fillers code) natives op.SetKey (z ∷ w ∷ x ∷ []) caller c)) v (of-kind code t c good.nearly.heap (λ k. k ≡ Mappings) v a fv (λ y h. mappings y (first y h)))
      (λ n s es e is.
      a-string c.world.heap (λ z. Fits code c z b → AllCome code c result (Performs (code_facts fillers code) natives op.SetKey (Struct n ∷ z ∷ x ∷ []) caller c)) w (of-kind code t c good.nearly.heap (λ k. k ≡ Strings) w b fw (λ y h. strings y (second y h)))
      (λ key fk. on-world code c good result (λ w. SetsKey (own_types (code_facts fillers code)) fillers w n key x)
      (subst (λ own. Does code c good result (λ came. SetsKey own fillers c.world n key x came)) (sym (own-same fillers code))
      (at-mapping code t c good result n s es e is (λ s es came. StoresKey (code_types code) fillers c.world n s es key x came)
      (does-unless code c good result (IsTrue s.mutable) (panics c.world InherentTypeViolation) _ (panics-typed code c good result InherentTypeViolation refl) (λ mutable.
      does-unless code c good result _ (panics c.world InherentTypeViolation) _ (panics-typed code c good result InherentTypeViolation refl) (λ belongs.
      does-else code c good result (within (gives_nothing (stored c.world n s (Entries (set_entry es key x)) []))) (does-store code c good n s es e is mutable key fk.1.1 x fx.1 belongs result none))))))) fw))
