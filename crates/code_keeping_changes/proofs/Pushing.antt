-- Values are stored behind the last item of a list, one after another: each store leads to a good state in which the list still is one.
use Rattle.std.proofs.Common.{◌≡◌, ℕ, List, [], ◌∷◌, Option, Some, None, length, refl, sym, subst, arith}
use Rattle.std.proofs.lemmas.List.Elements.{All-head, All-tail}
use Rattle.std.specs.Prelude.{All, slice_get}
use Rattle.type_model.specs.declared.basic.SemType.{SemType}
use Rattle.operations.specs.declared.library.LibraryCall.TheVariants.{Push}
use Rattle.operations.specs.declared.operation.Constant.TheVariants.{Nil as NilConstant}
use Rattle.operations.specs.Kinds.{IsNil}
use Rattle.operations.specs.Rows.{ResultHas, Surroundings}
use Rattle.value_model.specs.declared.filler.Filler.{Filler}
use Rattle.value_model.specs.declared.value.Value.{Value}
use Rattle.value_model.specs.declared.value.Value.TheVariants.{Nil, Struct}
use Rattle.value_model.specs.Heap.{AreAlike, Entries, Items, Members, Stays, Structure}
use Rattle.value_model.specs.World.{Came, Gave, PassesCells, Threw, World}
use Rattle.op_model.specs.Common.{Common, Role}
use Rattle.op_model.specs.Effects.{lifted, with_world}
use Rattle.op_model.specs.Library.{Pushes, Then}
use Rattle.op_model.specs.Rows.{ListAt, gives}
use Rattle.op_model.specs.Stores.{StoresAt}
use Rattle.machine_model.specs.Runs.{Running}
use Rattle.stack_code.specs.declared.code.Code.{Code}
use Rattle.stack_code.specs.Good.{GoodCommon, IsLater}
use Rattle.stack_code.specs.Values.{Fits, IsMade, code_types}
use Rattle.stack_code.specs.WellTyped.{WellTyped}
use Rattle.code_keeping.specs.Kinds.{Lists}
use Rattle.code_keeping.specs.Rows.{EffectTyped}
use Rattle.code_keeping.proofs.Coming.{Does, IsTyped, does-else, gives-typed}
use Rattle.code_keeping.proofs.Itself.{its-shape}
use Rattle.code_keeping.proofs.Lists.{some-there}
use Rattle.code_keeping.proofs.OfKind.{of-kind}
use Rattle.code_keeping.proofs.Operands.{lists, more-fit}
use Rattle.code_keeping.proofs.Serving.{all-to, all-zipped}
use Rattle.code_keeping.proofs.Staying.{made-later}
use Rattle.code_keeping.proofs.Valuing.{own-same}
use Rattle.code_keeping_heap.proofs.Reading.{a-list, at-list}
use Rattle.code_keeping_library.proofs.Calls.{Answered, does-call-at}
use Rattle.code_keeping_library.proofs.Lists.{Row, of-row}
use Rattle.code_keeping_stores.proofs.Items.{does-store, no-gap}
use Rattle.code_keeping_talk.proofs.Following.{later-follows}
use Rattle.code_keeping_changes.specs.Laws.{PushesAreDone}

-- ---- a list stays a list

abbrev IsListAt : Common → ℕ → Type 0
IsListAt c n = (s : Structure) × (vs : List Value) × (slice_get c.world.heap.structures n ≡ Some s) × (s.members ≡ Items vs)

still-list : (m k : Members) (vs : List Value) → m ≡ Items vs → AreAlike m k → (ws : List Value) × (k ≡ Items ws)
still-list m (Items ws) vs e h = (ws, refl)
still-list (Items us) (Entries ds) vs e h = absurd h
still-list (Entries es) (Entries ds) vs e h = absurd (let q : ⊥ = cc in q)

list-later : (c d : Common) (n : ℕ) → IsLater None c d → IsListAt c n → IsListAt d n
list-later c d n later (s, vs, e, is) =
    let (t, et, stays) = some-there (Stays s) (slice_get d.world.heap.structures n) (later.heap.structures n s e) in
    let (ws, et-is) = still-list s.members t.members vs is stays.kind in
    (t, ws, et, et-is)

module _ (code : Code) (t : WellTyped code) (result : Option SemType) (has : ResultHas code.atoms result IsNil) (n : ℕ) where
  -- what is typed in the state behind a step is typed before it
  back : (c : Common) (w : World) → ((q : Option Role) → IsLater q c (with_world c w)) → (came : Came) → EffectTyped code (with_world c w) result (lifted (with_world c w) came) → EffectTyped code c result (lifted c came)
  back c w later (Gave vs v) (good, keeps, then, fit) = (good, (keeps.0, keeps.1), (λ q. later-follows q c (with_world c w) (with_world c v) (later q) (then q)), fit)
  back c w later (Threw e v) (nearly, keeps, then, error) = (nearly, (keeps.0, keeps.1), (λ q. later-follows q c (with_world c w) (with_world c v) (later q) (then q)), error)
  back c w later PassesCells h = tt

  abbrev PushesOn : List Value → Type 0
  PushesOn ws = (c : Common) (good : GoodCommon code c Running) → IsListAt c n → All (IsMade code c) ws → Does code c good result (Pushes (code_types code) n ws c.world)

  abbrev StoresIn : Common → Value → Came → Type 0
  StoresIn c v first = ListAt c.world n (λ s items. StoresAt (code_types code) (λ a. []) c.world n s items (Some (length items)) v first)

  -- one value is stored, and then the others
  one-first : (v : Value) (ws : List Value) → PushesOn ws → PushesOn (v ∷ ws)
  one-first v ws others c good (s, vs, e, is) made = (
    (λ came (first, at, then). typed first (store.0 first at) came then),
    (λ none. store.1 (λ first at. comes first (store.0 first at) (λ came then. none came (first, at, then)))),
  )
    where
      store : Does code c good None (StoresIn c v)
      store =
          at-list code t c good None n s vs e is (λ s items first. StoresAt (code_types code) (λ a. []) c.world n s items (Some (length items)) v first)
          (does-store (λ a. []) code c good n s vs e is None refl (Some (length vs)) v (All-head (IsMade code c) v ws made)
          (λ k at. no-gap (λ a. []) code c good n s vs e is k v (let same : Some (length vs) ≡ Some k = at in let q : length vs ≡ k = cc in omega (arith, q))))

      rest : (w : World) (better : GoodCommon code (with_world c w) Running) → IsLater None c (with_world c w) → Does code (with_world c w) better result (Pushes (code_types code) n ws w)
      rest w better later =
          others (with_world c w) better (list-later c (with_world c w) n later (s, vs, e, is))
          (all-to (IsMade code c) (IsMade code (with_world c w)) (made-later code None c (with_world c w) later) ws (All-tail (IsMade code c) v ws made))

      typed : (first : Came) → EffectTyped code c None (lifted c first) → (came : Came) → Then (Pushes (code_types code) n ws) first came → IsTyped code c good result came
      typed (Gave vs w) (better, keeps, later, fit) came then = back c w later came ((rest w better (later None)).0 came then)
      typed (Threw e w) h came then = subst (λ x. IsTyped code c good result x) (sym then) h
      typed PassesCells h came then = subst (λ x. IsTyped code c good result x) (sym then) tt

      comes : (first : Came) → EffectTyped code c None (lifted c first) → ((came : Came) → ¬ (Then (Pushes (code_types code) n ws) first came)) → ⊥
      comes (Gave vs w) (better, keeps, later, fit) none = (rest w better (later None)).1 none
      comes (Threw e w) h none = none (Threw e w) refl
      comes PassesCells h none = none PassesCells refl

  pushes : (ws : List Value) → PushesOn ws
  pushes [] c good list made = does-else code c good result (gives c.world Nil) (gives-typed code c good result Nil IsNil has (tt, tt, tt) (λ x valid s. its-shape code c NilConstant x s))
  pushes (v ∷ ws) c good list made = one-first v ws (pushes ws) c good list made

-- ---- the row

pub push : (fillers : ℕ → List Filler) (code : Code) (t : WellTyped code) (place : Surroundings) (c : Common) → Row fillers code t place c Push
push fillers code t place c atom count names operands result vs caller good (long, typed) fit =
    more-fit code c (Answered fillers code t place c Push atom count caller result) operands vs _ typed fit
    (λ a more v ws (within, each, (none, has)) f fits.
    a-list c.world.heap (λ z. Answered fillers code t place c Push atom count caller result (z ∷ ws)) v (of-kind code t c good.nearly.heap (λ k. k ≡ Lists) v a f (λ x h. lists x (within x h)))
    (λ n s items e is. does-call-at fillers code t place c good result Push atom count caller (Struct n ∷ ws)
    (subst (λ own. Does code c good result (λ came. Pushes own n ws c.world came)) (sym (own-same fillers code))
    (pushes code t result has n ws c good (s, items, e, is) (all-zipped (Fits code c) (IsMade code c) (λ v t h. h.1) ws more fits)))))

pub pushes-are-done : PushesAreDone
pushes-are-done = of-row Push push
