-- A store into a list whose gaps the code's tables know how to fill.
use Rattle.std.proofs.Common.{◌≡◌, ◌<◌, ◌≤◌, ◌+◌, ◌-◌, ◌++◌, ◌∙◌, ℕ, zero, suc, List, [], ◌∷◌, Option, Some, None, inl, flat_map, length, refl, sym, ap, subst, arith}
use Rattle.std.proofs.lemmas.List.Elements.{All-nil}
use Rattle.std.proofs.lemmas.Option.{slice_get_past, slice_get_within}
use Rattle.std.specs.List.{AllZip}
use Rattle.std.specs.Prelude.{◌⊎◌, All, IsSomeAnd, IsTrue, option_and_then, slice_get, slice_set, sum_by, ⊤}
use Rattle.bal_base.specs.declared.shape.Shape.{Shape}
use Rattle.bal_base.specs.Valid.{IsValid}
use Rattle.type_model.specs.declared.atoms.AtomDef.TheVariants.{List as ListAtom, Mapping as MappingAtom}
use Rattle.type_model.specs.declared.atoms.FieldDef.{FieldDef}
use Rattle.type_model.specs.declared.basic.SemType.{Atom}
use Rattle.type_model.specs.declared.basic.Ty.{Ty}
use Rattle.type_model.specs.Membership.{In}
use Rattle.type_model.specs.Places.{item_type, or_rest}
use Rattle.operations.specs.declared.operation.Operation.TheVariants as op
use Rattle.operations.specs.Rows.{Surroundings}
use Rattle.value_model.specs.declared.filler.Filler.{Filler}
use Rattle.value_model.specs.declared.filler.Filler.TheVariants.{Nothing, Nil as NilFiller, Bool as BoolFiller, Int as IntFiller, Str as StrFiller, List as NewList, Mapping as NewMapping}
use Rattle.value_model.specs.declared.value.Value.{Value}
use Rattle.value_model.specs.declared.value.Value.TheVariants.{Struct}
use Rattle.value_model.specs.Exact.{Fills}
use Rattle.value_model.specs.Heap.{Entries, Items, Structure, entry_at}
use Rattle.value_model.specs.Meaning.{Answers}
use Rattle.value_model.specs.Stands.{Belongs, BelongsIf, IsUnmarked, MembersBelong}
use Rattle.value_model.specs.Valid.{IsValidValue}
use Rattle.op_model.specs.Common.{Common}
use Rattle.op_model.specs.ProgramFacts.{KnowsFillers, own_types}
use Rattle.op_model.specs.Fillers.{IsThereFiller, filler_at, filler_values, made_for, new_ones}
use Rattle.op_model.specs.Performs.{Performs}
use Rattle.op_model.specs.Rows.{next_structure, place_of}
use Rattle.op_model.specs.Stores.{StoresAt, atom_of, type_at_place}
use Rattle.op_model.specs.StructureRows.{SetsItem}
use Rattle.machine_model.specs.Runs.{Running}
use Rattle.machine_model.proofs.Once.{some-same}
use Rattle.stack_code.specs.declared.code.Code.{Code}
use Rattle.stack_code.specs.CodeMachine.{code_facts}
use Rattle.stack_code.specs.Good.{GoodCommon}
use Rattle.stack_code.specs.Tables.{IsInherent}
use Rattle.stack_code.specs.Values.{IsMade, IsWithinAtom, code_types}
use Rattle.stack_code.specs.WellTyped.{WellTyped}
use Rattle.code_keeping.specs.Kinds.{Ints, Lists}
use Rattle.code_keeping.proofs.Changing.{length-set}
use Rattle.code_keeping.proofs.Coming.{AllCome, Does, RowHolds, on-world}
use Rattle.code_keeping.proofs.Growing.{IsNewStructure, all-from, get-behind, get-front}
use Rattle.code_keeping.proofs.Lists.{all-at, at-some, of-some, some-there, there}
use Rattle.code_keeping.proofs.OfKind.{of-kind}
use Rattle.code_keeping.proofs.Operands.{an-int, integers, lists, three-fit}
use Rattle.code_keeping.proofs.Serving.{all-to}
use Rattle.code_keeping.proofs.Shapes.{has-shape}
use Rattle.code_keeping.proofs.Valuing.{own-same}
use Rattle.code_keeping_heap.proofs.Adding.{greatest-at}
use Rattle.code_keeping_heap.proofs.Reading.{a-list, at-list, list-members}
use Rattle.code_keeping_heap.proofs.Shaping.{zip-at, zip-long}
use Rattle.code_keeping_fillers.proofs.Fillers.{HasOne, IsNew, filler-from, fillers-long, is-filler, last-all, new-all, node, rest-filler}
use Rattle.code_keeping_fillers.proofs.Filling.{IsIn, IsPut, IsValueOf, as-many, built, built-at, inner, inside-at, offset, value-in, values-of}
use Rattle.code_keeping_stores.proofs.Items.{IsGap, does-store, filling, gap_at, kind, m, made_at, z}
use Rattle.code_keeping_fillers.proofs.Nesting.{IsSound, IsSoundNew, NamesInherent, all-made, fixed, made-sound, members-inherent, places-fill, sound}
use Rattle.code_keeping_stores.proofs.Storing.{IsSmall, changed, grows}

-- what is behind the fixed places has the type of the rest
item-rest : (fx : List Ty) (rest : Option Ty) (k : ℕ) → length fx ≤ k → item_type fx rest k ≡ rest
item-rest fx rest k le = ap (λ o. or_rest o rest) (slice_get_past fx k le)

sound-there : (fillers : ℕ → List Filler) (code : Code) (t : WellTyped code) (knows : KnowsFillers (code_facts fillers code) code.inherent) (n : ℕ) (f : Filler) → IsSound fillers code t knows n f → IsThereFiller f
sound-there fillers code t knows n f h e = subst (IsSound fillers code t knows n) e h

module _ (fillers : ℕ → List Filler) (code : Code) (t : WellTyped code) (knows : KnowsFillers (code_facts fillers code) code.inherent) (c : Common) (good : GoodCommon code c Running) (n : ℕ) (s : Structure) (vs : List Value) (e : slice_get c.world.heap.structures n ≡ Some s) (is : s.members ≡ Items vs)
    (k : ℕ) (v : Value) (mutable : IsTrue s.mutable) (its : IsMade code c v) (belongs : BelongsIf (code_types code) c.world.heap v (option_and_then (type_at_place k) (atom_of (code_types code) s))) (some : All IsThereFiller (filling fillers code c good n s vs e is k)) where
  abbrev fs : List Filler
  fs = filling fillers code c good n s vs e is k

  abbrev first : ℕ
  first = next_structure c.world

  abbrev gap : List Value
  gap = gap_at fillers code c good n s vs e is k

  abbrev more : List Structure
  more = made_at fillers code c good n s vs e is k

  abbrev then : Common
  then = z code c good n s vs e is mutable k v its belongs gap more

  abbrev ss : List Structure
  ss = then.world.heap.structures

  -- ---- which fillers they are

  abbrev fillers_in : Option ℕ → List Filler
  fillers_in (Some a) = fillers a
  fillers_in None = []

  abbrev Sound : ℕ → Filler → Type 0
  Sound = IsSound fillers code t knows

  abbrev IsOwn : ℕ → Type 0
  IsOwn a = IsInherent code a × ((x : Shape) × IsValid x × IsUnmarked x × In code.atoms x (Atom a)) × IsSomeAnd (slice_get code.atoms a) (MembersBelong (code_types code) c.world.heap s.members)

  own : IsSomeAnd s.atom IsOwn
  own = all-at (IsWithinAtom code c) c.world.heap.structures n s good.nearly.heap.mutable e mutable

  record HasFiller (fx : List Ty) (rest : Option Ty) (i : ℕ) (f : Filler) : Type 0 where
    type : Ty
    place : item_type fx rest (length vs + i) ≡ Some type
    fills : Fills code.atoms type f
    one : HasOne code.atoms type
    names : NamesInherent fillers code t knows type

  gap-filler : (a : ℕ) (fx : List Ty) (rest : Option Ty) → s.atom ≡ Some a → slice_get code.atoms a ≡ Some (ListAtom fx rest) → length fx ≤ length vs → (i : ℕ) (f : Filler) → slice_get fs i ≡ Some f → HasFiller fx rest i f
  gap-filler a fx rest ea ed le i f ef = by rest refl
    where
      known : IsInherent code a
      known = (of-some IsOwn s.atom a ea own).0

      far : i < k - length vs
      far = let l = slice_get_within fs i f ef in let m = fillers-long (fillers_in s.atom) (length vs) (k - length vs) in omega (arith, l, m)

      here : BelongsIf (code_types code) c.world.heap v (item_type fx rest k)
      here = subst (λ o. BelongsIf (code_types code) c.world.heap v (option_and_then (type_at_place k) o)) (ap (λ o. option_and_then (λ b. slice_get code.atoms b) o) ea ∙ ed) belongs

      of-rest : BelongsIf (code_types code) c.world.heap v rest
      of-rest = subst (λ o. BelongsIf (code_types code) c.world.heap v o) (item-rest fx rest k (omega (arith, far, le))) here

      at-filler : filler_at (fillers a) (length vs + i) ≡ f
      at-filler = subst (λ gs. filler_at gs (length vs + i) ≡ f) (ap fillers_in ea) (filler-from (fillers_in s.atom) (length vs) (k - length vs) i f ef)

      by : (o : Option Ty) → rest ≡ o → HasFiller fx rest i f
      by None er = absurd (subst (λ o. BelongsIf (code_types code) c.world.heap v o) er of-rest)
      by (Some u) er =
          let defined : slice_get code.atoms a ≡ Some (ListAtom fx (Some u)) = ed ∙ ap (λ o. Some (ListAtom fx o)) er in
          let (x, valid, stands) = has-shape code t c good.nearly.heap v its in
          let b : Belongs (code_types code) c.world.heap v u.sem = subst (λ o. BelongsIf (code_types code) c.world.heap v o) er of-rest in
          record {
            type = u;
            place = item-rest fx rest (length vs + i) (omega (arith, le)) ∙ er;
            fills = subst (Fills code.atoms u) at-filler (rest-filler (Fills code.atoms) fx u (fillers a) (places-fill fillers code t knows a fx (Some u) known defined) (length vs + i) (omega (arith, le)));
            one = (x, (valid, b x valid stands));
            names = last-all (NamesInherent fillers code t knows) fx u (members-inherent fillers code t knows a fx (Some u) known defined);
          }

  -- the list's own definition
  its-list : (a : ℕ) × (fx : List Ty) × (rest : Option Ty) × (s.atom ≡ Some a) × (slice_get code.atoms a ≡ Some (ListAtom fx rest)) × (length fx ≤ length vs)
  its-list =
      let (a, ea, (known, shape, belong)) = some-there IsOwn s.atom own in
      let (definition, ed, members) = some-there (MembersBelong (code_types code) c.world.heap s.members) (slice_get code.atoms a) belong in
      let (fx, rest, same, items) = list-members code c.world.heap vs definition (subst (λ m. MembersBelong (code_types code) c.world.heap m definition) is members) in
      (a, fx, rest, ea, ed ∙ ap (λ x. Some x) same, items.0)

  -- ---- all that is made

  abbrev roots : List Filler
  roots = new_ones fs

  abbrev New : Filler → Type 0
  New = IsSoundNew fillers code t knows

  roots-sound : All New roots
  roots-sound =
      let (a, fx, rest, ea, ed, le) = its-list in
      new-all (λ f. (n : ℕ) × Sound n f) fs
      (all-from (λ f. (n : ℕ) × Sound n f) fs (λ i f ef.
      let h = gap-filler a fx rest ea ed le i f ef in
      let (l, w) = is-filler code.atoms h.type f h.fills (all-at IsThereFiller fs i f some ef) in
      (l, sound fillers code t knows l h.type f f h.names h.one h.fills w)))

  abbrev inside : ℕ → List Filler
  inside = fixed fillers code t knows

  abbrev all : List Filler
  all = made_for inside (length code.atoms) fs

  whole : all ≡ roots ++ flat_map (inner inside) all
  whole = all-made fillers code t knows roots roots-sound

  all-sound : All New all
  all-sound = made-sound fillers code t knows (length code.atoms) roots roots-sound

  all-new : All IsNew all
  all-new = all-to New IsNew (λ f h. h.0) all all-sound

  abbrev next : ℕ
  next = first + length roots

  built-so : (f : Filler) (p : ℕ) → IsNew f → ((built inside f p).atom ≡ Some (node f)) × IsTrue (built inside f p).mutable
  built-so (NewList a) p h = (refl, refl)
  built-so (NewMapping a) p h = (refl, refl)
  built-so Nothing p h = absurd (let q : ⊥ = cc in q)
  built-so NilFiller p h = absurd (let q : ⊥ = cc in q)
  built-so (BoolFiller b) p h = absurd (let q : ⊥ = cc in q)
  built-so (IntFiller i) p h = absurd (let q : ⊥ = cc in q)
  built-so (StrFiller u) p h = absurd (let q : ⊥ = cc in q)

  abbrev set : List Structure
  set = slice_set c.world.heap.structures n (changed code c good n s e mutable (m code c good n s vs e is mutable k v its belongs gap more) (kind code c good n s vs e is mutable k v its belongs gap more) more)

  set-long : length set ≡ first
  set-long = length-set c.world.heap.structures n _

  put-at : (j : ℕ) (f : Filler) → slice_get all j ≡ Some f → IsPut ss (first + j) f
  put-at j f ef =
      let at = get-behind set more j (built inside f (next + offset inside j all)) (built-at inside next all all-new j f ef) in
      at-some (λ x. (x.atom ≡ Some (node f)) × IsTrue x.mutable) (slice_get ss (first + j)) (built inside f (next + offset inside j all))
      (subst (λ l. slice_get ss (l + j) ≡ Some (built inside f (next + offset inside j all))) set-long at)
      (built-so f (next + offset inside j all) (all-at IsNew all j f all-new ef))

  -- ---- the values of the gap

  gap-values : AllZip (IsValueOf ss) fs gap
  gap-values = values-of ss first fs some (λ i f ef. put-at i f (subst (λ l. slice_get l i ≡ Some f) (sym whole) (get-front roots (flat_map (inner inside) all) i f ef)))

  abbrev Belong : Value → Ty → Type 0
  Belong = IsIn code then

  gap-in : (a : ℕ) (fx : List Ty) (rest : Option Ty) → s.atom ≡ Some a → slice_get code.atoms a ≡ Some (ListAtom fx rest) → length fx ≤ length vs → (i : ℕ) (x : Value) → slice_get gap i ≡ Some x →
      (u : Ty) × (item_type fx rest (length vs + i) ≡ Some u) × Belong x u
  gap-in a fx rest ea ed le i x ex =
      let (f, ef, of) = zip-at (IsValueOf ss) fs gap i x gap-values ex in
      let h = gap-filler a fx rest ea ed le i f ef in
      (h.type, h.place, value-in code then h.type f x h.one h.fills of)

  -- ---- the structures that are made

  module _ (small : IsSmall code c good n s e mutable (m code c good n s vs e is mutable k v its belongs gap more) (kind code c good n s vs e is mutable k v its belongs gap more) more) where
    abbrev NewAt : ℕ → Structure → Type 0
    NewAt j x = IsNewStructure code c then.world good.nearly.heap (grows code c good n s e mutable (m code c good n s vs e is mutable k v its belongs gap more) (kind code c good n s vs e is mutable k v its belongs gap more) more) (first + j) x

    in-all : (j i : ℕ) (f g : Filler) → slice_get all j ≡ Some f → slice_get (inner inside f) i ≡ Some g → IsPut ss (next + offset inside j all + i) g
    in-all j i f g ef eg =
        subst (λ p. IsPut ss p g) (let q : first + (length roots + (offset inside j all + i)) ≡ next + offset inside j all + i = omega arith in q)
        (put-at (length roots + (offset inside j all + i)) g
        (subst (λ l. slice_get l (length roots + (offset inside j all + i)) ≡ Some g) (sym whole) (get-behind roots (flat_map (inner inside) all) (offset inside j all + i) g (inside-at inside all j f ef i g eg))))

    new-list : (j : ℕ) (a n : ℕ) → slice_get all j ≡ Some (NewList a) → Sound (suc n) (NewList a) → slice_get ss (first + j) ≡ Some (built inside (NewList a) (next + offset inside j all)) → NewAt j (built inside (NewList a) (next + offset inside j all))
    new-list j a l ef (known, shape, (fx, rest, ed, each)) at =
        record {
          mutable = λ is. (known, shape, at-some (MembersBelong (code_types code) then.world.heap (Items values)) (slice_get code.atoms a) (ListAtom fx rest) ed ((omega (arith, long-fx, long-values)), belong));
          frozen = λ f. absurd (let q : ⊥ = cc in q);
          made = all-from (IsMade code then) values (λ i x ex. (in-place i x ex).2.0);
          valid = all-from IsValidValue values (λ i x ex. (in-place i x ex).2.0.1);
          short = let g : length values ≤ sum_by (λ (x : Structure). x.greatest + 1) ss = greatest-at ss (first + j) (built inside (NewList a) p) 0 at in omega (arith, g, small);
          apart = tt;
        }
      where
        p : ℕ
        p = next + offset inside j all

        values : List Value
        values = filler_values p (inside a)

        vals : AllZip (IsValueOf ss) (inside a) values
        vals =
            values-of ss p (inside a)
            (all-from IsThereFiller (inside a) (λ i g eg. let (u, eu, h) = zip-at (λ u g. Fills code.atoms u g × HasOne code.atoms u × Sound l g) fx (inside a) i g each eg in sound-there fillers code t knows l g h.2))
            (λ i g eg. in-all j i (NewList a) g ef eg)

        long-fx : length fx ≡ length (inside a)
        long-fx = zip-long (λ u g. Fills code.atoms u g × HasOne code.atoms u × Sound l g) fx (inside a) each

        long-values : length (inside a) ≡ length values
        long-values = zip-long (IsValueOf ss) (inside a) values vals

        in-place : (i : ℕ) (x : Value) → slice_get values i ≡ Some x → (u : Ty) × (slice_get fx i ≡ Some u) × Belong x u
        in-place i x ex =
            let (g, eg, of) = zip-at (IsValueOf ss) (inside a) values i x vals ex in
            let (u, eu, h) = zip-at (λ u g. Fills code.atoms u g × HasOne code.atoms u × Sound l g) fx (inside a) i g each eg in
            (u, eu, value-in code then u g x h.1 h.0 of)

        belong : (i : ℕ) (x : Value) → slice_get values i ≡ Some x → BelongsIf (code_types code) then.world.heap x (item_type fx rest i)
        belong i x ex = let (u, eu, h) = in-place i x ex in at-some (λ u. Belongs (code_types code) then.world.heap x u.sem) (item_type fx rest i) u (ap (λ o. or_rest o rest) eu) h.1

    new-mapping : (j : ℕ) (a n : ℕ) → Sound (suc n) (NewMapping a) → NewAt j (built inside (NewMapping a) (next + offset inside j all))
    new-mapping j a l (known, shape, (fields, rest, ed, optional)) =
        record {
          mutable = λ is. (known, shape, at-some (MembersBelong (code_types code) then.world.heap (Entries [])) (slice_get code.atoms a) (MappingAtom fields rest) ed (all-to (λ (f : FieldDef). IsTrue f.optional) (λ (f : FieldDef). IsTrue f.optional ⊎ IsSomeAnd (entry_at [] f.name) (λ v. ⊤)) (λ f h. inl h) fields optional, All-nil _));
          frozen = λ f. absurd (let q : ⊥ = cc in q);
          made = All-nil (IsMade code then);
          valid = All-nil _;
          short = omega arith;
          apart = tt;
        }

    new-built : (j : ℕ) (f : Filler) → slice_get all j ≡ Some f → New f → slice_get ss (first + j) ≡ Some (built inside f (next + offset inside j all)) → NewAt j (built inside f (next + offset inside j all))
    new-built j (NewList a) ef (is, (suc l, h)) at = new-list j a l ef h at
    new-built j (NewMapping a) ef (is, (suc l, h)) at = new-mapping j a l h
    new-built j (NewList a) ef (is, (zero, h)) at = absurd h
    new-built j (NewMapping a) ef (is, (zero, h)) at = absurd h
    new-built j Nothing ef (is, h) at = absurd (let q : ⊥ = cc in q)
    new-built j NilFiller ef (is, h) at = absurd (let q : ⊥ = cc in q)
    new-built j (BoolFiller b) ef (is, h) at = absurd (let q : ⊥ = cc in q)
    new-built j (IntFiller i) ef (is, h) at = absurd (let q : ⊥ = cc in q)
    new-built j (StrFiller u) ef (is, h) at = absurd (let q : ⊥ = cc in q)

    all-fresh : (j : ℕ) (x : Structure) → slice_get more j ≡ Some x → NewAt j x
    all-fresh j x ex =
        let l = slice_get_within more j x ex in
        let long = as-many inside next all all-new in
        let (f, ef) = there all j (omega (arith, l, long)) in
        let at = built-at inside next all all-new j f ef in
        let same : built inside f (next + offset inside j all) ≡ x = some-same (built inside f (next + offset inside j all)) x (sym at ∙ ex) in
        let there-at = get-behind set more j (built inside f (next + offset inside j all)) at in
        subst (NewAt j) same (new-built j f ef (all-at New all j f all-sound ef) (subst (λ l. slice_get ss (l + j) ≡ Some (built inside f (next + offset inside j all))) set-long there-at))

  -- ---- the whole

  pub fills-gap : IsGap code c good n s vs e is mutable k v its belongs gap more
  fills-gap =
      let (a, fx, rest, ea, ed, le) = its-list in
      record {
        long = (let l = zip-long (IsValueOf ss) fs gap gap-values in let q = fillers-long (fillers_in s.atom) (length vs) (k - length vs) in omega (arith, l, q));
        each = λ a fx rest ea ed le i x ex. (let (u, eu, h) = gap-in a fx rest ea ed le i x ex in at-some (λ u. Belongs (code_types code) then.world.heap x u.sem) (item_type fx rest (length vs + i)) u eu h.1);
        made = all-from (IsMade code then) gap (λ i x ex. (gap-in a fx rest ea ed le i x ex).2.0);
        new = all-fresh;
      }

-- ---- the row

module _ (fillers : ℕ → List Filler) (natives : Answers) (code : Code) (t : WellTyped code) (knows : KnowsFillers (code_facts fillers code) code.inherent) (c : Common) (place : Surroundings) where
  pub set-item : RowHolds code fillers natives c place op.SetItem
  set-item operands result vs caller good (typed, none) fit =
      three-fit code c (λ us. AllCome code c result (Performs (code_facts fillers code) natives op.SetItem us caller c)) operands vs _ typed fit
      (λ a b g v w x (first, second, third) fv fw fx.
      a-list c.world.heap (λ z. AllCome code c result (Performs (code_facts fillers code) natives op.SetItem (z ∷ w ∷ x ∷ []) caller c)) v (of-kind code t c good.nearly.heap (λ k. k ≡ Lists) v a fv (λ y h. lists y (first y h)))
      (λ n s items e is.
      an-int c.world.heap (λ z. AllCome code c result (Performs (code_facts fillers code) natives op.SetItem (Struct n ∷ z ∷ x ∷ []) caller c)) w (of-kind code t c good.nearly.heap (λ k. k ≡ Ints) w b fw (λ y h. integers y (second y h)))
      (λ i. on-world code c good result (λ w. SetsItem (own_types (code_facts fillers code)) fillers w n i x)
      (subst (λ own. Does code c good result (λ came. SetsItem own fillers c.world n i x came)) (sym (own-same fillers code))
      (at-list code t c good result n s items e is (λ s vs came. StoresAt (code_types code) fillers c.world n s vs (place_of i) x came)
      (does-store fillers code c good n s items e is result none (place_of i) x fx.1
      (λ k at mutable its belongs some. fills-gap fillers code t knows c good n s items e is k x mutable its belongs some)))))))
