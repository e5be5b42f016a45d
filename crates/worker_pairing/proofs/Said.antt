-- The events of a worker by what is marked in its body; and where there is a plan, what each of them is.
use Rattle.std.proofs.Common.{◌≡◌, ◌+◌, ◌++◌, ◌∙◌, ℕ, zero, suc, Bool, true, false, List, [], ◌∷◌, Option, Some, None, refl, sym, subst, ap, arith}
use Rattle.std.proofs.lemmas.List.{append_assoc}
use Rattle.std.specs.Prelude.{Contains, filter, not, slice_get, ⊤}
use Rattle.bal_base.specs.declared.place.Place.{Place}
use Rattle.type_model.specs.declared.answers.TypeLimit.{TypeLimit}
use Rattle.type_model.specs.declared.atoms.AtomDef.{AtomDef}
use Rattle.type_model.specs.declared.basic.SemType.{SemType}
use Rattle.type_model.specs.Calls.{Asked}
use Rattle.typed_tree.specs.declared.event.EventKind.TheVariants.{End}
use Rattle.typed_tree.specs.declared.event.Plan.{Plan}
use Rattle.typed_tree.specs.Listed.{Listed, nothing, one, ◌&◌, run}
use Rattle.checks.specs.Checks.{Gives}
use Rattle.worker_pairing.specs.Faults.{Atoms, has_no_peer, is_conditional, plans}
use Rattle.worker_pairing.specs.Marks.{Mark, Says, Early, Returns, Member, Members, Numbered, Saying, SoFar, in_text, in_turn, is_initial, member_of, nil_type, nothing_yet, numbered_from, with_mark}
use Rattle.worker_pairing.proofs.Paired.{before-others, behind, filtered, in-front, numbered}
use Rattle.worker_pairing.proofs.Plans.{all-good, parts}

-- ---- where they stand in the text

said-there : (w n j : ℕ) (ss : List Saying) (s : Saying) → slice_get ss j ≡ Some s → Contains (numbered_from w n ss) (record { worker = w; number = n + j; saying = s })
said-there w n zero [] s h = absurd (let q : ⊥ = cc in q)
said-there w n (suc j) [] s h = absurd (let q : ⊥ = cc in q)
said-there w n zero (x ∷ ss) s h = (0, omega arith, (λ i. record { worker = w; number = number i; saying = same h i }))
  where
    number : n ≡ n + 0
    number = omega arith

    the : Option Saying → Saying
    the (Some y) = y
    the None = s

    same : Some x ≡ Some s → x ≡ s
    same h = ap the h
said-there w n (suc j) (x ∷ ss) s h =
    in-front _ _ _ (subst (λ m. Contains (numbered_from w (n + 1) ss) (record { worker = w; number = m; saying = s })) (omega arith) (said-there w (n + 1) j ss s h))

turn-said : (w v j : ℕ) (ms : Members) (m : Member) (s : Saying) → slice_get ms v ≡ Some m → slice_get m.sayings j ≡ Some s → Contains (in_turn w ms) (record { worker = w + v; number = j; saying = s })
turn-said w zero j [] m s is h = absurd (let q : ⊥ = cc in q)
turn-said w (suc v) j [] m s is h = absurd (let q : ⊥ = cc in q)
turn-said w zero j (x ∷ ms) m s is h =
    let same : x ≡ m = ap the is in
    let here = said-there w 0 j x.sayings s (subst (λ y. slice_get y.sayings j ≡ Some s) (sym same) h) in
    before-others (numbered_from w 0 x.sayings) (in_turn (w + 1) ms) _ (subst (λ y. Contains (numbered_from w 0 x.sayings) (record { worker = y; number = j; saying = s })) (omega arith) (subst (λ y. Contains (numbered_from w 0 x.sayings) (record { worker = w; number = y; saying = s })) (omega arith) here))
  where
    the : Option Member → Member
    the (Some y) = y
    the None = x
turn-said w (suc v) j (x ∷ ms) m s is h =
    behind (numbered_from w 0 x.sayings) (in_turn (w + 1) ms) _ (subst (λ y. Contains (in_turn (w + 1) ms) (record { worker = y; number = j; saying = s })) (omega arith) (turn-said (w + 1) v j ms m s is h))

pub text-said : (v j : ℕ) (ms : Members) (m : Member) (s : Saying) → slice_get ms v ≡ Some m → slice_get m.sayings j ≡ Some s → Contains (in_text ms) (record { worker = v; number = j; saying = s })
text-said zero j [] m s is h = absurd (let q : ⊥ = cc in q)
text-said (suc v) j [] m s is h = absurd (let q : ⊥ = cc in q)
text-said zero j (x ∷ ms) m s is h = by (numbered 0 j s) own (is_initial (numbered 0 j s)) refl
  where
    the : Option Member → Member
    the (Some y) = y
    the None = x

    own : Contains (numbered_from 0 0 x.sayings) (numbered 0 j s)
    own = subst (λ y. Contains (numbered_from 0 0 x.sayings) (record { worker = 0; number = y; saying = s })) (omega arith) (said-there 0 0 j x.sayings s (subst (λ y. slice_get y.sayings j ≡ Some s) (sym (ap the is)) h))

    by : (a : Numbered) → Contains (numbered_from 0 0 x.sayings) a → (b : Bool) → is_initial a ≡ b → Contains (in_text (x ∷ ms)) a
    by a h true e = before-others (filter is_initial (numbered_from 0 0 x.sayings) ++ in_turn 1 ms) _ a (before-others (filter is_initial (numbered_from 0 0 x.sayings)) (in_turn 1 ms) a (filtered is_initial (numbered_from 0 0 x.sayings) a h e))
    by a h false e = behind (filter is_initial (numbered_from 0 0 x.sayings) ++ in_turn 1 ms) _ a (filtered (λ y. not (is_initial y)) (numbered_from 0 0 x.sayings) a h (ap not e))
text-said (suc v) j (x ∷ ms) m s is h =
    let named : Contains (in_turn 1 ms) (numbered (suc v) j s) = subst (λ y. Contains (in_turn 1 ms) (record { worker = y; number = j; saying = s })) (omega arith) (turn-said 1 v j ms m s is h) in
    before-others (filter is_initial (numbered_from 0 0 x.sayings) ++ in_turn 1 ms) _ _ (behind (filter is_initial (numbered_from 0 0 x.sayings)) (in_turn 1 ms) _ named)

-- ---- where there is a plan

pub record AllGood (ms : Members) : Type 0 where
  pub peers : (e : Numbered) → Contains (in_text ms) e → has_no_peer ms e ≡ false
  pub unconditional : (e : Numbered) → Contains (in_text ms) e → is_conditional e ≡ false

pub plans-are-good : (passes : List AtomDef → Asked → TypeLimit → Type 0) (at : Place) (ms : Members) (old : Atoms) (p : Plan) (new : Atoms) → plans passes at ms old (Gives p) new → AllGood ms
plans-are-good passes at ms old p new h =
    let a = parts _ _ old p new h in
    let b = parts _ _ a.1 p new a.3 in
    let peers = parts _ _ b.1 p new b.3 in
    let inner = parts _ _ peers.1 p new peers.3 in
    record { peers = all-good (has_no_peer ms) _ (in_text ms) b.1 peers.0 peers.1 peers.2; unconditional = all-good is_conditional _ (in_text ms) peers.1 inner.0 inner.1 inner.2 }

-- ---- what is said by marks

abbrev pub Each : {A : Type 0} → (A → Type 0) → List A → Type 0
Each P [] = ⊤
Each P (x ∷ xs) = P x × Each P xs

pub each-both : {A : Type 0} (P : A → Type 0) (xs ys : List A) → Each P (xs ++ ys) → Each P xs × Each P ys
each-both P [] ys h = (tt, h)
each-both P (x ∷ xs) ys (here, h) = let b = each-both P xs ys h in ((here, b.0), b.1)

pub each-by : {A : Type 0} (P : A → Type 0) (xs : List A) → ((j : ℕ) (x : A) → slice_get xs j ≡ Some x → P x) → Each P xs
each-by P [] h = tt
each-by P (x ∷ xs) h = (h 0 x refl, each-by P xs (λ j y e. h (suc j) y e))

abbrev pub said_in : Bool → Listed Mark → SoFar → List Saying
said_in initial nothing r = []
said_in initial (one (Says kind at inner type)) r = record { kind = kind; at = at; initial = initial; inner = inner; early = r.early; type = type } ∷ []
said_in initial (one Early) r = []
said_in initial (one (Returns type at)) r = []
said_in initial (p & q) r = said_in initial p r ++ said_in initial q (run (with_mark initial) p r)

at-end : (xs : List Saying) → xs ++ [] ≡ xs
at-end [] = refl
at-end (x ∷ xs) = ap (λ l. x ∷ l) (at-end xs)

pub run-said : (initial : Bool) (l : Listed Mark) (r : SoFar) → (run (with_mark initial) l r).sayings ≡ r.sayings ++ said_in initial l r
run-said initial nothing r = sym (at-end r.sayings)
run-said initial (one (Says kind at inner type)) r = refl
run-said initial (one Early) r = sym (at-end r.sayings)
run-said initial (one (Returns type at)) r = sym (at-end r.sayings)
run-said initial (p & q) r =
    run-said initial q (run (with_mark initial) p r) ∙ ap (λ l. l ++ said_in initial q (run (with_mark initial) p r)) (run-said initial p r) ∙ append_assoc r.sayings (said_in initial p r) (said_in initial q (run (with_mark initial) p r))

-- of a worker: what is said in its initial part, behind it, and its end
abbrev pub behind_initial : Listed Mark → SoFar
behind_initial initial = run (with_mark true) initial nothing_yet

abbrev pub end_saying : Listed Mark → Listed Mark → Place → Saying
end_saying initial rest end = record { kind = End; at = end; initial = false; inner = false; early = (run (with_mark false) rest (behind_initial initial)).early; type = nil_type }

pub member-said : (result : SemType) (initial rest : Listed Mark) (end : Place) →
    (member_of result initial rest end).sayings ≡ said_in true initial nothing_yet ++ (said_in false rest (behind_initial initial) ++ (end_saying initial rest end ∷ []))
member-said result initial rest end =
    run-said false (rest & one (Says End end false nil_type)) (behind_initial initial) ∙ ap (λ l. l ++ (said_in false rest (behind_initial initial) ++ (end_saying initial rest end ∷ []))) (run-said true initial nothing_yet)
