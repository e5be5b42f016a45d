-- The making of a future's strand, and of an activation with its strands, keeps what holds of strands.
use Rattle.std.proofs.Common.{◌≡◌, ◌≢◌, ◌<◌, ◌≤◌, ◌+◌, ◌++◌, ◌∙◌, ℕ, zero, suc, List, [], ◌∷◌, Option, Some, None, length, refl, sym, subst, ap, inl, inr, ◌⊎◌, arith}
use Rattle.std.specs.Prelude.{drop, map, option_map, replicate, slice_get}
use Rattle.std.proofs.lemmas.List.{length-map}
use Rattle.std.proofs.lemmas.Option.{slice_get_within}
use Rattle.operations.specs.declared.operation.Operation.{Operation}
use Rattle.operations.specs.declared.operation.Operation.TheVariants.{Workers}
use Rattle.value_model.specs.declared.value.Value.{Value}
use Rattle.value_model.specs.Meaning.{Answers}
use Rattle.op_model.specs.CallRows.{new_activation, strands_made, workers_from}
use Rattle.op_model.specs.Common.{Common, Role, IsActive}
use Rattle.op_model.specs.Effects.{Spawns, Spawned}
use Rattle.op_model.specs.ProgramFacts.{WorkerFacts}
use Rattle.op_model.specs.Levels.{numbers_from}
use Rattle.op_model.specs.Strands.{activation_at, no_activation, strand_made}
use Rattle.machine_model.specs.Machine.{Machine, Frame, State, Moved, all_begun, caller, carried}
use Rattle.machine_model.specs.Runs.{Running}
use Rattle.machine_model.specs.Strands.{HasRole, frames_of, role_of, roles_of}
use Rattle.machine_model.proofs.Alike.{QueueHolds, board, crew_of, seen}
use Rattle.machine_model.proofs.BoardMakes.{crewed, crewed-held, none-there, numbers-at, numbers-below}
use Rattle.machine_model.proofs.Boards.{AreThere, Held, IsOnIt, Moves, crew_at, same-roles}
use Rattle.machine_model.proofs.Commons.{board-crew, channel-more, strand-of, unmet-calm, unmet-crew}
use Rattle.machine_model.proofs.Holding.{Inner, roles_in}
use Rattle.machine_model.proofs.HoldingMakes.{Claimed, Claims, made-inner}
use Rattle.machine_model.proofs.HoldingSteps.{ComesInner}
use Rattle.machine_model.proofs.Once.{some-same}
use Rattle.machine_model.proofs.Onward.{Onward, at, at-still, moves-at, onward-alike, same-old}
use Rattle.machine_model.proofs.Places.{get-more, get-past, if-same, same-or}
use Rattle.machine_model.proofs.Shapes.{SpawnsCrew, SpawnsOne}

-- ---- an activation begins

numbers-there : (first k j : ℕ) → j < k → slice_get (numbers_from first k) j ≡ Some (first + j)
numbers-there first zero j lt = absurd (omega (arith, lt))
numbers-there first (suc k) zero lt = ap Some (let e : first ≡ first + 0 = omega arith in e)
numbers-there first (suc k) (suc j) lt = numbers-there (first + 1) k j (omega (arith, lt)) ∙ ap Some (let e : first + 1 + j ≡ first + suc j = omega arith in e)

workers-count : (a w : ℕ) (xs : List WorkerFacts) (vs : List Value) → length (workers_from a w xs vs) ≡ length xs
workers-count a w [] vs = refl
workers-count a w (x ∷ xs) vs = ap suc (workers-count a (w + 1) xs (drop (length x.captured) vs))

map-more : {A B : Type 0} (f : A → B) (l : List A) (y : A) → map f (l ++ y ∷ []) ≡ map f l ++ f y ∷ []
map-more f [] y = refl
map-more f (x ∷ l) y = ap (λ z. f x ∷ z) (map-more f l y)

module _ (c : Common) (unit k : ℕ) where
  abbrev began : Common
  began = record c { activations = c.activations ++ new_activation c unit k ∷ [] }

  abbrev A : ℕ
  A = length c.activations

  new-crew : (a : ℕ) → a ≡ A → crew_at (board began) a ≡ crew_of (new_activation c unit k)
  new-crew a e = board-crew began a ∙ get-more (λ z. crew_of z ≡ crew_of (new_activation c unit k)) c.activations (new_activation c unit k) no_activation a (λ last. refl) (λ ne. absurd (ne e))

  old-crew : (a : ℕ) → a ≢ A → crew_at (board began) a ≡ crew_at (board c) a
  old-crew a ne = board-crew began a ∙ (get-more (λ z. crew_of z ≡ crew_of (activation_at c a)) c.activations (new_activation c unit k) no_activation a (λ last. absurd (ne last)) (λ other. refl) ∙ sym (board-crew c a))

  began-goes : (Own : Role → Type 0) → Onward Own c began
  began-goes Own =
      record {
        running = refl;
        count = refl;
        calls = λ a w n i. get-more (λ z. slice_get z.strands w ≡ Some n) c.activations (new_activation c unit k) no_activation a
            (λ last. absurd (let none : slice_get (activation_at c a).strands w ≡ None = ap (λ z. slice_get z.strands w) (get-past c.activations a no_activation (omega (arith, last))) in let bad : ⊥ = cc in bad)) (λ ne. i);
        sent = λ r ne w. ap (λ x. x.sent) (channel-more c unit k r.activation r.worker w);
        queues = λ q a v w. subst QueueHolds (sym (channel-more c unit k a v w)) (q a v w);
        old = λ n status ne at. same-old c began (λ n. refl) n status at;
      }

  began-there : AreThere (board c) → c.running < length c.strands → (a w n : ℕ) → slice_get (crew_at (board began) a).strands w ≡ Some n → n < length c.strands + k
  began-there there lt a w n i = by (same-or a A)
    where
      new : (w : ℕ) → slice_get (c.running ∷ numbers_from (length c.strands) k) w ≡ Some n → n < length c.strands + k
      new zero i = let same : c.running ≡ n = some-same c.running n i in omega (arith, same, lt)
      new (suc w) i = numbers-below (length c.strands) k w n i

      by : (a ≡ A) ⊎ (a ≢ A) → n < length c.strands + k
      by (inl e) = new w (sym (ap (λ z. slice_get z.strands w) (new-crew a e)) ∙ i)
      by (inr ne) = let old = there a w n (sym (ap (λ z. slice_get z.strands w) (old-crew a ne)) ∙ i) in let l = length-map c.strands seen in omega (arith, old, l)

  -- each named worker is on the strand that is made for it
  began-claims : AreThere (board c) → c.running < length c.strands → (j w n : ℕ) → w ≡ suc j → n ≡ length c.strands + j → j < k → IsOnIt (board began) n (Some (role_of A w)) × Claims (board began) n (Some (role_of A w))
  began-claims there lt j w n ew en below = (
    (
      ap (λ z. slice_get z.strands w) (new-crew A refl) ∙ (ap (λ v. slice_get (c.running ∷ numbers_from (length c.strands) k) v) ew ∙ (numbers-there (length c.strands) k j below ∙ ap Some (sym en))),
      ap (λ z. slice_get z.ends w) (new-crew A refl) ∙ none-there (k + 1) w (omega (arith, ew, below)),
    ),
    (λ a v i o. by a v i (same-or a A)),
  )
    where
      new : (v : ℕ) → slice_get (c.running ∷ numbers_from (length c.strands) k) v ≡ Some n → v ≡ w
      new zero i = absurd (let same : c.running ≡ n = some-same c.running n i in omega (arith, same, lt, en))
      new (suc v) i = let e = numbers-at (length c.strands) k v n i in omega (arith, e, en, ew)

      by : (a v : ℕ) → slice_get (crew_at (board began) a).strands v ≡ Some n → (a ≡ A) ⊎ (a ≢ A) → Some (role_of A w) ≡ Some (role_of a v)
      by a v i (inl e) = let same = new v (sym (ap (λ z. slice_get z.strands v) (new-crew a e)) ∙ i) in λ t. Some (role_of (sym e t) (sym same t))
      by a v i (inr ne) = absurd (let old = there a v n (sym (ap (λ z. slice_get z.strands v) (old-crew a ne)) ∙ i) in let l = length-map c.strands seen in omega (arith, old, l, en))

  began-claimed : AreThere (board c) → c.running < length c.strands → (xs : List WorkerFacts) (vs : List Value) (j w n : ℕ) → w ≡ suc j → n ≡ length c.strands + j → j + length xs ≤ k → Claimed (board began) n (workers_from A w xs vs)
  began-claimed there lt [] vs j w n ew en le = tt
  began-claimed there lt (x ∷ xs) vs j w n ew en le =
      (began-claims there lt j w n ew en (omega (arith, le)), began-claimed there lt xs (drop (length x.captured) vs) (suc j) (w + 1) (suc n) (omega (arith, ew)) (omega (arith, en)) (omega (arith, le)))

  began-held : (R : ℕ → List (Option Role)) (roles : List (Option Role)) → Held Running (board c) R → AreThere (board c) → R c.running ≡ None ∷ roles → Held Running (board began) (at c.running (Some (role_of A 0) ∷ roles) R)
  began-held R roles h there is =
      let crews : length (map crew_of c.activations) ≡ A = length-map c.activations crew_of in
      let moves : Moves c.running (Some (role_of (length (board c).crews) 0) ∷ roles) R (at c.running (Some (role_of A 0) ∷ roles) R) =
      subst (λ a. Moves c.running (Some (role_of a 0) ∷ roles) R (at c.running (Some (role_of A 0) ∷ roles) R)) (sym crews) (moves-at c.running (Some (role_of A 0) ∷ roles) R) in
      let same : crewed (board c) R (at c.running (Some (role_of A 0) ∷ roles) R) roles k h there is moves ≡ board began =
      (λ i. record { running = c.running; ready = c.ready; strands = map seen c.strands; crews = map crew_of c.activations ++ record { strands = c.running ∷ numbers_from (length-map c.strands seen i) k; ends = replicate (k + 1) None } ∷ [] })
      ∙ (λ i. record { running = c.running; ready = c.ready; strands = map seen c.strands; crews = sym (map-more crew_of c.activations (new_activation c unit k)) i }) in
      subst (λ b. Held Running b (at c.running (Some (role_of A 0) ∷ roles) R)) same
      (crewed-held (board c) R (at c.running (Some (role_of A 0) ∷ roles) R) roles k h there is moves)

module _ {C : Type 0} (natives : Answers) (M : Machine C) where
  -- ---- strands are made

  module _ (s : State C) (inner : Inner natives M Running s) (f : Frame C) (fs : List (Frame C)) (is : s.frames ≡ f ∷ fs) where
    abbrev c : Common
    c = s.common

    abbrev R0 : ℕ → List (Option Role)
    R0 = roles_in natives M Running s

    top : R0 c.running ≡ f.role ∷ roles_of fs
    top = ap roles_of (if-same c.running c.running s.frames (frames_of s c.running) refl ∙ is)

    runs-there : c.running < length c.strands
    runs-there = let x = strand-of c c.running IsActive inner.held.runs in slice_get_within c.strands c.running x.0 x.1

    pub spawns-inner : (op : Operation) (k : C) (ss : List Spawned) (role : Option Role) (vs : List Value) (d : Common) → (op ≡ Workers → f.role ≡ None) → SpawnsOne M.facts (caller f fs) c ss role d ⊎ SpawnsCrew M.facts op c ss role d → ComesInner natives M (carried M s f k fs (Spawns ss role vs d))
    spawns-inner op k ss role vs d once shape = by (all_begun M ss) refl
      where
        one-so : (x : SpawnsOne M.facts (caller f fs) c ss role d) (more : List (List (Frame C))) → all_begun M ss ≡ Some more → Inner natives M Running (record { common = d; frames = record { unit = f.unit; role = role; control = M.resume k vs } ∷ fs; others = s.others ++ more })
        one-so x more all =
            let same : strands_made ss x.before ≡ d = ap (λ l. strands_made l x.before) x.is ∙ (ap (λ r. strand_made x.one.unit r x.before) x.no_role ∙ sym x.made) in
            let alike = x.calm.alike in
            let there : AreThere (board x.before) = subst AreThere (sym alike.board) inner.there in
            let goes : Onward (λ r. HasRole r (R0 c.running)) c x.before = onward-alike c x.before (λ r e. subst (λ l. HasRole r l) (sym top) (inl e)) alike in
            let held : Held Running (board x.before) (at c.running (role ∷ roles_of fs) R0) =
            same-roles (at-still c.running (role ∷ roles_of fs) R0 (top ∙ ap (λ r. r ∷ roles_of fs) (sym x.same_role))) (subst (λ b. Held Running b R0) (sym alike.board) inner.held) in
            let none : (a w n : ℕ) → slice_get (crew_at (board x.before) a).strands w ≡ Some n → n < length s.others = λ a w n i. let lt = there a w n i in let l = length-map x.before.strands seen in let j = inner.count in let e = goes.count in omega (arith, lt, l, j, e) in
            let claimed : Claimed (board x.before) (length s.others) ss = subst (λ l. Claimed (board x.before) (length s.others) l) (sym x.is)
            ((subst (λ r. IsOnIt (board x.before) (length s.others) r) (sym x.no_role) tt, (λ a w i o. absurd (let lt = none a w (length s.others) i in omega (arith, lt)))), tt) in
            subst (λ e. Inner natives M Running (record { common = e; frames = record { unit = f.unit; role = role; control = M.resume k vs } ∷ fs; others = s.others ++ more })) same
            (made-inner natives M s inner (record { unit = f.unit; role = role; control = M.resume k vs }) fs ss x.before more all goes held claimed (unmet-calm c x.before x.calm inner.unmet) (λ a w n i. let lt = none a w n i in omega (arith, lt)))

        crew-so : (x : SpawnsCrew M.facts op c ss role d) (more : List (List (Frame C))) → all_begun M ss ≡ Some more → Inner natives M Running (record { common = d; frames = record { unit = f.unit; role = role; control = M.resume k vs } ∷ fs; others = s.others ++ more })
        crew-so x more all =
            let n = length x.workers in
            let before = began c x.unit n in
            let count : length ss ≡ n = ap length x.are ∙ workers-count (length c.activations) 1 x.workers x.captured in
            let none : R0 c.running ≡ None ∷ roles_of fs = top ∙ ap (λ r. r ∷ roles_of fs) (once x.starts) in
            let held : Held Running (board before) (at c.running (role ∷ roles_of fs) R0) =
            subst (λ r. Held Running (board before) (at c.running (r ∷ roles_of fs) R0)) (sym x.new_role) (began-held c x.unit n R0 (roles_of fs) inner.held inner.there none) in
            let claimed : Claimed (board before) (length s.others) ss = subst (λ l. Claimed (board before) (length s.others) l) (sym x.are)
            (began-claimed c x.unit n inner.there runs-there x.workers x.captured 0 1 (length s.others) refl (let j = inner.count in omega (arith, j)) (omega arith)) in
            subst (λ e. Inner natives M Running (record { common = e; frames = record { unit = f.unit; role = role; control = M.resume k vs } ∷ fs; others = s.others ++ more })) (sym x.made)
            (made-inner natives M s inner (record { unit = f.unit; role = role; control = M.resume k vs }) fs ss before more all (began-goes c x.unit n (λ r. HasRole r (R0 c.running))) held claimed (unmet-crew c x.unit n inner.unmet)
            (λ a w i at. let lt = began-there c x.unit n inner.there runs-there a w i at in let j = inner.count in omega (arith, lt, j, count)))

        by : (o : Option (List (List (Frame C)))) → all_begun M ss ≡ o → ComesInner natives M (option_map (λ more. Moved (record { common = d; frames = record { unit = f.unit; role = role; control = M.resume k vs } ∷ fs; others = s.others ++ more })) o)
        by None e = tt
        by (Some more) e = pick shape
          where
            pick : SpawnsOne M.facts (caller f fs) c ss role d ⊎ SpawnsCrew M.facts op c ss role d → Inner natives M Running (record { common = d; frames = record { unit = f.unit; role = role; control = M.resume k vs } ∷ fs; others = s.others ++ more })
            pick (inl x) = one-so x more e
            pick (inr x) = crew-so x more e
