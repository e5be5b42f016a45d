-- The first pass goes over definitions in an order in which parts come first.
use Rattle.std.proofs.Common.{◌≡◌, ◌<◌, ◌≤◌, ℕ, ◌+◌, List, [], ◌∷◌, ◌++◌, length, fold, Bool, false, min, take, get_or, None, Some, Result, Ok, Err, IsErr, IsErrAnd, refl, sym, ap, subst, ◌∙◌, arith}
use Rattle.std.specs.Prelude.{slice_get}
use Rattle.std.specs.List.{Contains}
use Rattle.std.proofs.lemmas.List.{get_or-take, get_or_default, length-map, length-take, take_more}
use Rattle.std.proofs.lemmas.Bool.{false≢true}
use Rattle.std.proofs.lemmas.Option.{slice_get_past, slice_get_read, slice_get_within}
use Rattle.bal_base.specs.declared.fault.Fault.{Fault}
use Rattle.bal_base.specs.declared.stop.Stop.{Stop}
use Rattle.bal_base.specs.declared.stop.Stop.TheVariants.{Memory, Fault as OwnFault}
use Rattle.bal_tree.specs.declared.def.Def.{Def}
use Rattle.bal_tree.specs.declared.def.Def.TheVariants.{«Type» as TypeOf, Const, Variable as VariableOf, Function as FunctionOf}
use Rattle.bal_tree.specs.declared.def.TypeDef.{TypeDef}
use Rattle.bal_tree.specs.declared.name.QualifiedName.{QualifiedName}
use Rattle.bal_tree.specs.declared.package.Package.{Package}
use Rattle.descriptors.specs.declared.draft.Draft.{Draft}
use Rattle.descriptors.specs.declared.names.Entry.{Entry}
use Rattle.descriptors.specs.declared.names.Names.{Names}
use Rattle.descriptors.specs.declared.names.OwnTypes.{OwnTypes}
use Rattle.descriptors.specs.Descriptors.{descriptor_of}
use Rattle.descriptors.specs.Drafts.{next_of}
use Rattle.name_resolution.specs.Clear.{IsClear}
use Rattle.graphs.specs.Cycles.{Follows}
use Rattle.name_resolution.specs.Definitions.{Placed, definitions_of, scope_at}
use Rattle.name_resolution.specs.Named.{IsClearDef, IsKnownPart}
use Rattle.graphs.specs.Ordering.{IsOrder}
use Rattle.name_resolution.specs.Outlines.{outlines_of}
use Rattle.name_resolution.specs.Resolved.{parts}
use Rattle.name_resolution.proofs.Known.{apart-placed, known}
use Rattle.name_resolution.proofs.Placed.{outline_at, outlines-placed}
use Rattle.bal_base.specs.Stops.{IfFault}
use Rattle.std.specs.Prelude.{IfOk}
use Rattle.type_builder.specs.AtomPlaces.{def_places, package_places, places}
use Rattle.type_builder.specs.Keeping.{AreKept, IsKeptAs}
use Rattle.type_builder.specs.Passes.{AreNamed, HaveRoom, IsEmptyFrom, IsKept, IsKeptBy, IsOwnBelow, end_of, first_of, placed_places}
use Rattle.type_builder.proofs.Adding.{started-within}
use Rattle.type_builder.proofs.ClearMore.{clear-more}
use Rattle.type_builder.proofs.DraftRuns.{Typed, drafted-long, drafted-whole}
use Rattle.type_builder.proofs.KeptStages.{IsNext, IsStage, Starts, stage-below, stage-kept, stage-left, stage-past}
use Rattle.type_builder.proofs.KnownTypes.{stands-there}

-- what no call gives isn't handed on either
pub handed : {B : Type 0} (stop : Stop Fault) (r : Result B (Stop Fault)) → IsErr r × IsErrAnd r (λ e. e ≡ stop) → IfFault {T = Unit {0}} (Err stop) (λ f. ⊥) → IfFault r (λ f. ⊥)
handed stop (Ok b) e h = absurd (false≢true e.0)
handed stop (Err other) e h = subst (λ s. IfFault {T = Unit {0}} (Err s) (λ f. ⊥)) (sym e.1) h

-- ---- lists as they are lent

pub lent : {X : Type 0} (ys xs : List X) (i : ℕ) (x : X) → ys ≡ xs → i < length ys → x ≡ get_or ys i x → slice_get xs i ≡ Some x
lent ys xs i x same lt is = ap (λ zs. slice_get zs i) (sym same) ∙ slice_get_read ys (length ys) i x refl lt is

pub not-lent : {X : Type 0} (ys xs : List X) (i : ℕ) → ys ≡ xs → length ys ≤ i → slice_get xs i ≡ None
not-lent ys xs i same le = ap (λ zs. slice_get zs i) (sym same) ∙ slice_get_past ys i le

-- ---- the front of a list

module _ (xs : List ℕ) where
  in-front : (i k x : ℕ) → k < i → k < length xs → get_or xs k x ≡ x → Contains (take i xs) x
  in-front i k x lt within is =
      let long : length (take i xs) ≡ min i (length xs) = length-take i xs in (k, omega (arith, lt, within, long), get_or-take i xs k x lt ∙ is)

  of-front : (i x : ℕ) → Contains (take i xs) x → (k : ℕ) × (k < i) × (k < length xs) × (get_or xs k x ≡ x)
  of-front i x (k, lt, is) =
      let long : length (take i xs) ≡ min i (length xs) = length-take i xs in
      let before : k < i = omega (arith, lt, long) in (k, before, omega (arith, lt, long), sym (get_or-take i xs k x before) ∙ is)

  longer-front : (k i x : ℕ) → k ≤ i → Contains (take k xs) x → Contains (take i xs) x
  longer-front k i x le c = let there = of-front k x c in let before = there.1 in in-front i there.0 x (omega (arith, before, le)) there.2 there.3

parts-long : (p : Package) → length (parts (outlines_of p)) ≡ length (definitions_of p)
parts-long p = length-map (outlines_of p) _ ∙ ap length (outlines-placed p) ∙ length-map (definitions_of p) (outline_at p)

module _ (p : Package) (own : OwnTypes) (first : ℕ) (order : List ℕ) (is : IsOrder (parts (outlines_of p)) order) where
  abbrev end : ℕ
  end = end_of first p

  abbrev ps : List Placed
  ps = definitions_of p

  -- ---- the order

  -- the next number of the order
  next-of : (i n : ℕ) → i < length order → n ≡ get_or order i n → IsNext p own first end (take i order) n
  next-of i n lt at = record {
    new = λ c. is.once i lt (subst (Contains (take i order)) is-there c);
    closed = λ a j c f. earlier a j (of-front order i a c) f;
    behind = λ j f. is.behind i j lt (subst (λ m. Follows (parts (outlines_of p)) m j) is-there f);
  }
    where
      is-there : n ≡ get_or order i 0
      is-there = at ∙ get_or_default order i n 0 lt

      earlier : (a j : ℕ) → (k : ℕ) × (k < i) × (k < length order) × (get_or order k a ≡ a) → Follows (parts (outlines_of p)) a j → Contains (take i order) j
      earlier a j (k, before, within, there) f =
          longer-front order k i j (omega (arith, before)) (is.behind k j within (subst (λ m. Follows (parts (outlines_of p)) m j) (sym there ∙ get_or_default order k a 0 within) f))

  -- ---- one more of it

  one-more : (i n : ℕ) → i < length order → n ≡ get_or order i n → take (i + 1) order ≡ take i order ++ n ∷ []
  one-more i n lt at = take_more order i n lt ∙ ap (λ m. take i order ++ m ∷ []) (sym at)

  module _ (named : AreNamed p) (own-below : IsOwnBelow first own) (room : HaveRoom first p) (places-are : fold placed_places [] ps ≡ package_places p) where
    first-within : first ≤ end
    first-within = omega arith

    -- a draft that begins where a definition starts has room for its atoms
    fits : (n start : ℕ) (q : Placed) (s : Draft) → Starts p own first end n q start → IsEmptyFrom start s → next_of s + length (def_places [] q.def) ≤ end
    fits n start q s starts (at, none) =
        let within : start + length (def_places [] q.def) ≤ first + length (fold placed_places [] ps) = (started-within first [] ps n start q starts).1 in
        let all : length (fold placed_places [] ps) ≡ length (package_places p) = ap length places-are in
        let empty : length s.atoms.items ≡ 0 = ap length none in omega (arith, within, all, at, empty)

    type-fits : (n start : ℕ) (q : Placed) (d : TypeDef) (s : Draft) → Starts p own first end n q start → q.def ≡ TypeOf d → IsEmptyFrom start s
        → next_of s + length (places (descriptor_of d.ty.value) []) ≤ end
    type-fits n start q d s starts def_is empty = subst (λ x. next_of s + length (def_places [] x) ≤ end) def_is (fits n start q s starts empty)

    -- what a name of a definition stands for
    typed : (done : List ℕ) (n : ℕ) (q : Placed) (names : Names) → IsStage p own first end done names → (inside : Bool) (name : QualifiedName) → IsKnownPart p n q inside name
        → Typed names (scope_at q) inside name
    typed done n q names stage inside name h =
        let there = stands-there p own stage.es names stage.entries q stage.long name h.0 stage.of h.1 in (there.1, there.3 ∙ there.4)

    module _ (i n start : ℕ) (q : Placed) (lt : i < length order) (at : n ≡ get_or order i n) (starts : Starts p own first end n q start) where
      at-n : slice_get ps n ≡ Some q
      at-n = (started-within first [] ps n start q starts).0

      -- an entry that stays as it was
      left : (old new : Names) → new ≡ old → IsStage p own first end (take i order) old → ((e : Entry) (es : List Entry) → e ≡ first_of q → IsKeptAs p own es n start q e q.def)
          → IsStage p own first end (take i order ++ n ∷ []) new
      left old new same stage still = subst (IsStage p own first end (take i order ++ n ∷ [])) (sym same) (stage-left p own first end (take i order) n start q starts old still (next-of i n lt at) stage)

      kept-on : (old new : Names) (u : Unit {0}) (def : Def) → q.def ≡ def → IsStage p own first end (take i order) old → IsKeptBy start q old new def (Ok u)
          → IsStage p own first end (take i order ++ n ∷ []) new
      kept-on old new u (TypeOf d) def_is stage (t, drafted, noted) =
          let long : next_of drafted.end ≡ next_of drafted.start + length (places (descriptor_of d.ty.value) []) =
          drafted-long old (scope_at q) (descriptor_of d.ty.value) drafted.start drafted.end drafted.written drafted.comes in
          let within : next_of drafted.start + length (places (descriptor_of d.ty.value) []) ≤ end = type-fits n start q d drafted.start starts def_is drafted.empty in
          stage-kept p own first end (take i order) n start q starts d def_is t old new drafted noted (next-of i n lt at)
          (drafted.below end (omega (arith, long, within)) (stage-below p own first end (take i order) old own-below first-within stage)) (apart-placed p named) stage
      kept-on old new u (Const d) def_is stage same = left old new same stage (λ e es h. subst (IsKeptAs p own es n start q e) (sym def_is) h)
      kept-on old new u (VariableOf d) def_is stage same = left old new same stage (λ e es h. subst (IsKeptAs p own es n start q e) (sym def_is) h)
      kept-on old new u (FunctionOf d) def_is stage same = left old new same stage (λ e es h. subst (IsKeptAs p own es n start q e) (sym def_is) h)

      none-refused : (old new : Names) (f : Fault) (def : Def) → q.def ≡ def → IsStage p own first end (take i order) old → IsKeptBy start q old new def (Err (OwnFault f)) → ⊥
      none-refused old new f (TypeOf d) def_is stage refused =
          let clear : IsClear (IsKnownPart p n q) false (descriptor_of d.ty.value) = subst (IsClearDef p n q) def_is (known p named n q at-n).clear in
          let within : next_of refused.start + length (places (descriptor_of d.ty.value) []) ≤ end = type-fits n start q d refused.start starts def_is refused.empty in
          drafted-whole old (scope_at q) (descriptor_of d.ty.value) refused.start refused.end f
          (clear-more (IsKnownPart p n q) (Typed old (scope_at q)) (typed (take i order) n q old stage) false (descriptor_of d.ty.value) clear) (omega (arith, within, room)) refused.comes
      none-refused old new f (Const d) def_is stage h = h
      none-refused old new f (VariableOf d) def_is stage h = h
      none-refused old new f (FunctionOf d) def_is stage h = h

      -- the first pass goes on, and is never refused
      pub goes-on : (old new : Names) (r : Result (Unit {0}) (Stop Fault)) → IsStage p own first end (take i order) old → IsKept start q old r new → IfOk r (λ u. IsStage p own first end (take (i + 1) order) new)
      goes-on old new (Ok u) stage kept = subst (λ xs. IsStage p own first end xs new) (sym (one-more i n lt at)) (kept-on old new u q.def refl stage kept)
      goes-on old new (Err stop) stage kept = tt

      pub no-fault : (old new : Names) (r : Result (Unit {0}) (Stop Fault)) → IsStage p own first end (take i order) old → IsKept start q old r new → IfFault r (λ f. ⊥)
      no-fault old new (Ok u) stage kept = tt
      no-fault old new (Err (OwnFault f)) stage kept = none-refused old new f q.def refl stage kept
      no-fault old new (Err Memory) stage kept = tt

  -- a number that is none of a definition's
  pub goes-past : (i n : ℕ) (names : Names) → i < length order → n ≡ get_or order i n → slice_get ps n ≡ None → IsStage p own first end (take i order) names → IsStage p own first end (take (i + 1) order) names
  goes-past i n names lt at past stage = subst (λ xs. IsStage p own first end xs names) (sym (one-more i n lt at)) (stage-past p own first end (take i order) n names past stage)

  -- ---- the end of it

  all-done : (n : ℕ) (q : Placed) → slice_get ps n ≡ Some q → Contains order n
  all-done n q at =
      let long : length (parts (outlines_of p)) ≡ length (definitions_of p) = parts-long p in
      let within = slice_get_within ps n q at in is.all n (omega (arith, long, within))

  pub finished : (names : Names) → IsStage p own first end order names → AreKept p own first names
  finished names stage = record {
    es = stage.es;
    entries = stage.entries;
    long = stage.long;
    kept = λ n start q e starts there. stage.are_done.kept n start q e starts there (all-done n q (started-within first [] ps n start q starts).0);
  }
