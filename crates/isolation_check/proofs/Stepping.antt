-- Steps of the walk, over the parts of a body from one place on.
use Rattle.std.proofs.Common.{◌≡◌, ◌∙◌, ◌<◌, ◌≤◌, ◌+◌, ◌*◌, ◌++◌, ℕ, zero, suc, List, [], ◌∷◌, Option, Some, None, true, false, length, map, drop, get_or, refl, sym, subst, ap, arith}
use Rattle.std.specs.Prelude.{All, Bool, OnOk, Result, Ok, Err, option_map, set, slice_get}
use Rattle.std.specs.Global.{Vec}
use Rattle.std.proofs.lemmas.List.{length-map, length_push, map-append}
use Rattle.std.proofs.lemmas.List.Elements.{All-head, All-push, All-tail}
use Rattle.std.proofs.lemmas.Option.{slice_get-map}
use Rattle.bal_base.specs.declared.fault.Fault.{Fault}
use Rattle.bal_base.specs.declared.fault.FaultCode.TheVariants.{NotIsolated}
use Rattle.bal_base.specs.declared.fault.Kept.TheVariants.{Names as ShowsNames}
use Rattle.bal_base.specs.declared.stop.Stop.{Stop}
use Rattle.bal_base.specs.declared.stop.Stop.TheVariants.{Memory, Fault as OwnFault}
use Rattle.bal_base.specs.declared.text.Name.{Name}
use Rattle.bal_base.specs.Stops.{IfFault}
use Rattle.type_model.specs.declared.answers.TypeLimit.{TypeLimit}
use Rattle.type_model.specs.declared.atoms.AtomDef.{AtomDef}
use Rattle.type_model.specs.Calls.{Asked}
use Rattle.typed_tree.specs.declared.unit.TypedFunction.{TypedFunction}
use Rattle.checks.specs.Checks.{Gives, Outcome, Refuses}
use Rattle.checks.specs.Questions.{IsFault}
use Rattle.isolation_check.specs.declared.parts.HeldPart.{HeldPart}
use Rattle.isolation_check.specs.declared.walk.Bodies.{Bodies}
use Rattle.isolation_check.specs.declared.walk.OpenBody.{OpenBody}
use Rattle.isolation_check.specs.declared.walk.Walk.{Walk}
use Rattle.isolation_check.specs.inner.Judging.{Judged}
use Rattle.isolation_check.specs.inner.Opened.{AreBelow, Ends, GoesOn, OpensBody, Resumes, WalksOn, left, open_of, unentered}
use Rattle.isolation_check.specs.inner.Views.{does_of, part_of, parts_of}
use Rattle.isolation_check.specs.Isolated.{own_parts}
use Rattle.isolation_check.specs.Typed.{PartBelow}
use Rattle.isolation_check.specs.Parts.{Part, function_parts}
use Rattle.isolation_check.specs.Walk.{Open, body, ends, enters, goes_on, keeps, leads, leaves, path, refuses_here}
use Rattle.isolation_check.proofs.Walking.{fewer-entered, next-part, no-part, path-same}

module _ (passes : List AtomDef → Asked → TypeLimit → Type 0) (b : Bodies) (env : List AtomDef) (around : List Open) (name : Option Name) (entered : List Bool) (parts : List HeldPart) (i : ℕ) where
  abbrev pub from : ℕ → List Open
  from k = around ++ body name (parts_of (drop k parts)) ∷ []

  pub step-leave : length parts ≤ i → (o : Outcome (Unit {0})) → WalksOn passes b env around entered o → WalksOn passes b env (from i) entered o
  step-leave le o w = subst (λ ps. WalksOn passes b env (around ++ body name ps ∷ []) entered o) (sym (no-part parts i le)) (leaves around name entered o w)

  module _ (part : HeldPart) (lt : i < length parts) (is : part ≡ get_or parts i part) where
    rest : parts_of (drop i parts) ≡ part_of part ∷ parts_of (drop (i + 1) parts)
    rest = next-part parts i part lt is

    pub step-refused : (f : Fault) → keeps passes b.own.now b.«package».now (does_of part.deed) (path (from i)) part.at env (Refuses f) env → WalksOn passes b env (from i) entered (Refuses f)
    step-refused f k =
        subst (λ ps. WalksOn passes b env (around ++ body name ps ∷ []) entered (Refuses f)) (sym rest)
        (refuses_here around name (part_of part) (parts_of (drop (i + 1) parts)) entered f
        (subst (λ ps. keeps passes b.own.now b.«package».now (does_of part.deed) (path (around ++ body name ps ∷ [])) part.at env (Refuses f) env) rest k))

    pub step-on : keeps passes b.own.now b.«package».now (does_of part.deed) (path (from i)) part.at env (Gives tt) env → leads entered (does_of part.deed) ≡ None
        → (o : Outcome (Unit {0})) → WalksOn passes b env (from (i + 1)) entered o → WalksOn passes b env (from i) entered o
    step-on k none o w =
        subst (λ ps. WalksOn passes b env (around ++ body name ps ∷ []) entered o) (sym rest)
        (goes_on around name (part_of part) (parts_of (drop (i + 1) parts)) entered o
        (subst (λ ps. keeps passes b.own.now b.«package».now (does_of part.deed) (path (around ++ body name ps ∷ [])) part.at env (Gives tt) env) rest k) none w)

    pub step-enter : (u : ℕ) (f : TypedFunction) → leads entered (does_of part.deed) ≡ Some u → slice_get b.«package».now.functions.items u ≡ Some f
        → (o : Outcome (Unit {0})) → WalksOn passes b env (from (i + 1) ++ body (Some f.name) (own_parts (function_parts f)) ∷ []) (set entered u true) o
        → WalksOn passes b env (from i) entered o
    step-enter u f new at o w =
        subst (λ ps. WalksOn passes b env (around ++ body name ps ∷ []) entered o) (sym rest)
        (enters around name (part_of part) (parts_of (drop (i + 1) parts)) entered o u f new at w)

    abbrev pub Here : Result Bool (Stop Fault) → Type 0
    Here r = Judged (keeps passes b.own.now b.«package».now (does_of part.deed) (path (from i)) part.at) (path (from i)) part.at env r

    pub here-as : (x : HeldPart) (r : Result Bool (Stop Fault)) → part ≡ x
        → Judged (keeps passes b.own.now b.«package».now (does_of x.deed) (path (from i)) x.at) (path (from i)) x.at env r → Here r
    here-as x r same h = subst (λ p. Judged (keeps passes b.own.now b.«package».now (does_of p.deed) (path (from i)) p.at) (path (from i)) p.at env r) (sym same) h

    -- a question was too large
    pub on-error : (new : Walk) (old : List Open) (stop : Stop Fault) → Here (Err stop) → Resumes passes b env old entered (from i) entered → GoesOn passes b env old entered new (Err stop)
    on-error new old (OwnFault f) h r = r (Refuses f) (step-refused f h)
    on-error new old Memory h r = tt

    -- the promise is broken
    pub on-broken : (new : Walk) (old : List Open) (r : Result (Unit {0}) (Stop Fault)) (names : List Name) → OnOk r ⊥ → IfFault r (IsFault NotIsolated (Some part.at) (ShowsNames names)) → names ≡ path (from i)
        → Here (Ok false) → Resumes passes b env old entered (from i) entered → GoesOn passes b env old entered new r
    on-broken new old (Ok u) names refused told same h r = absurd refused
    on-broken new old (Err (OwnFault f)) names refused told same h r =
        r (Refuses f) (step-refused f (h f (subst (λ ns. IsFault NotIsolated (Some part.at) (ShowsNames ns) f) same told)))
    on-broken new old (Err Memory) names refused told same h r = tt

-- the names of bodies of which the last one is put back
pub names-back : (stack new : List OpenBody) (top : OpenBody) (xs : List Part) → new ≡ stack ++ top ∷ [] → path (map open_of new) ≡ path (map open_of stack ++ body (option_map (λ n. n.now) top.name) xs ∷ [])
names-back stack new top xs is =
    ap (λ s. path (map open_of s)) is ∙ ap path (map-append open_of stack (top ∷ []))
    ∙ path-same (map open_of stack) (option_map (λ n. n.now) top.name) (parts_of (drop top.done top.parts.now)) xs

-- ---- parts whose types are there

pub part-below : (n : ℕ) (parts : List HeldPart) (i : ℕ) (part : HeldPart) → i < length parts → part ≡ get_or parts i part → All (PartBelow n) (parts_of parts) → PartBelow n (part_of part)
part-below n [] i part lt is all = absurd (grind (arith, lt))
part-below n (x ∷ xs) zero part lt is all = subst (λ h. PartBelow n (part_of h)) (sym is) (All-head (PartBelow n) (part_of x) (parts_of xs) all)
part-below n (x ∷ xs) (suc i) part lt is all = part-below n xs i part (grind (arith, lt)) is (All-tail (PartBelow n) (part_of x) (parts_of xs) all)

pub opened-below : (n : ℕ) (old mid new : List OpenBody) (from top : OpenBody) → mid ≡ old ++ from ∷ [] → new ≡ mid ++ top ∷ [] → AreBelow n old
    → All (PartBelow n) (parts_of from.parts.now) → All (PartBelow n) (parts_of top.parts.now) → AreBelow n new
opened-below n old mid new from top pushed then all one two =
    subst (AreBelow n) (sym then) (All-push (λ (b : OpenBody). All (PartBelow n) (parts_of b.parts.now)) mid top
    (subst (AreBelow n) (sym pushed) (All-push (λ (b : OpenBody). All (PartBelow n) (parts_of b.parts.now)) old from all one)) two)

-- ---- how many bodies are open

pub closed-left : (entered : List Bool) (stack : List OpenBody) (top : OpenBody) → left entered (length stack) + 1 ≡ left entered (length (map open_of (stack ++ top ∷ [])))
closed-left entered stack top =
    let long : length (map open_of (stack ++ top ∷ [])) ≡ length stack + 1 = length-map (stack ++ top ∷ []) open_of ∙ length_push stack top in
    more (unentered entered) (length stack) (length (map open_of (stack ++ top ∷ []))) long
  where
    more : (u n m : ℕ) → m ≡ n + 1 → 2 * u + n + 1 ≡ 2 * u + m
    more u n m e = omega (arith, e)

pub opened-left : (before after : List Bool) (u : ℕ) (stack : List OpenBody) (from top : OpenBody) (new : List OpenBody) (o : Open) → slice_get before u ≡ Some false → after ≡ set before u true
    → map open_of new ≡ map open_of (stack ++ from ∷ []) ++ o ∷ [] → left after (length new) + 1 ≡ left before (length (map open_of (stack ++ top ∷ [])))
opened-left before after u stack from top new o at is grown =
    let long : length (map open_of (stack ++ top ∷ [])) ≡ length stack + 1 = length-map (stack ++ top ∷ []) open_of ∙ length_push stack top in
    let two : length (map open_of new) ≡ length (map open_of (stack ++ from ∷ [])) + 1 = ap length grown ∙ length_push (map open_of (stack ++ from ∷ [])) o in
    let one : length (map open_of (stack ++ from ∷ [])) ≡ length stack + 1 = length-map (stack ++ from ∷ []) open_of ∙ length_push stack from in
    let new_long : length (map open_of new) ≡ length new = length-map new open_of in
    let fewer : left (set before u true) (length stack + 2) + 1 ≡ left before (length stack + 1) = fewer-entered before u (length stack) at in
    subst (λ bs. left bs (length new) + 1 ≡ left before (length (map open_of (stack ++ top ∷ [])))) (sym is)
    (by (unentered (set before u true)) (unentered before) (length stack) (length new) (length (map open_of (stack ++ top ∷ []))) (length (map open_of (stack ++ from ∷ []))) (length (map open_of new)) fewer new_long two one long)
  where
    by : (a b n m k j l : ℕ) → 2 * a + (n + 2) + 1 ≡ 2 * b + (n + 1) → l ≡ m → l ≡ j + 1 → j ≡ n + 1 → k ≡ n + 1 → 2 * a + m + 1 ≡ 2 * b + k
    by a b n m k j l fewer e f h i = omega (arith, fewer, e, f, h, i)

-- ---- rounds of the walk

pub popped : (stack rest : List OpenBody) (top : OpenBody) (entered after : List Bool) (new k bound : ℕ) → stack ≡ rest ++ top ∷ [] → left after new + 1 ≡ left entered (length (map open_of (rest ++ top ∷ [])))
    → left entered (length stack) + k ≤ bound → left after new + (k + 1) ≤ bound
popped stack rest top entered after new k bound is fewer le =
    let long : length (map open_of (rest ++ top ∷ [])) ≡ length stack = length-map (rest ++ top ∷ []) open_of ∙ ap length (sym is) in
    by (left after new) (unentered entered) (length stack) (length (map open_of (rest ++ top ∷ []))) fewer long le
  where
    by : (a u n m : ℕ) → a + 1 ≡ 2 * u + m → m ≡ n → 2 * u + n + k ≤ bound → a + (k + 1) ≤ bound
    by a u n m e f g = omega (arith, e, f, g)

no-room : (u n k bound : ℕ) → 2 * u + suc n + k ≤ bound → bound ≤ k → ⊥
no-room u n k bound le end = omega (arith, le, end)

pub none-open : (entered : List Bool) (stack : List OpenBody) (k bound : ℕ) → left entered (length stack) + k ≤ bound → bound ≤ k → stack ≡ []
none-open entered [] k bound le end = refl
none-open entered (b ∷ bs) k bound le end = absurd (no-room (unentered entered) (length bs) k bound le end)

module _ (passes : List AtomDef → Asked → TypeLimit → Type 0) (b : Bodies) (env : List AtomDef) where
  pub all-walked : (first now : List Open) (before entered : List Bool) → now ≡ [] → Resumes passes b env first before now entered → WalksOn passes b env first before (Gives tt)
  all-walked first now before entered none r = r (Gives tt) (subst (λ os. WalksOn passes b env os entered (Gives tt)) (sym none) (ends entered))

  pub refused-then : (first now : List Open) (before entered : List Bool) (new : Walk) (stop : Stop Fault) → GoesOn passes b env now entered new (Err stop) → Resumes passes b env first before now entered
      → Ends passes b env first before (Err stop)
  refused-then first now before entered new (OwnFault f) w r = r (Refuses f) w
  refused-then first now before entered new Memory w r = tt

-- ---- the body of a function that is entered

some-same : {X : Type 0} (x y : X) → Some x ≡ Some y → x ≡ y
some-same x y e = cc

pub parts-at : (b : Bodies) (u : ℕ) (f : TypedFunction) (parts : Vec HeldPart) → map (λ v. parts_of v.items) b.parts.now ≡ map (λ g. own_parts (function_parts g)) b.«package».now.functions.items
    → slice_get b.«package».now.functions.items u ≡ Some f → slice_get b.parts.now u ≡ Some parts → parts_of parts.items ≡ own_parts (function_parts f)
parts-at b u f parts same at there =
    some-same (parts_of parts.items) (own_parts (function_parts f))
    (sym (slice_get-map (λ v. parts_of v.items) b.parts.now u ∙ ap (option_map (λ v. parts_of v.items)) there) ∙ ap (λ l. slice_get l u) same
    ∙ slice_get-map (λ g. own_parts (function_parts g)) b.«package».now.functions.items u ∙ ap (option_map (λ g. own_parts (function_parts g))) at)

pub opens-body : (b : Bodies) (u : ℕ) (f : TypedFunction) (old mid new : List OpenBody) (from top : OpenBody) → slice_get b.«package».now.functions.items u ≡ Some f
    → mid ≡ old ++ from ∷ [] → new ≡ mid ++ top ∷ [] → open_of top ≡ body (Some f.name) (own_parts (function_parts f)) → OpensBody b u (map open_of (old ++ from ∷ [])) new
opens-body b u f old mid new from top at pushed then is =
    (f, at, ap (map open_of) then ∙ map-append open_of mid (top ∷ []) ∙ ap (λ l. map open_of l ++ open_of top ∷ []) pushed ∙ ap (λ t. map open_of (old ++ from ∷ []) ++ t ∷ []) is)
