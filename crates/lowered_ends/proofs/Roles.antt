-- Which worker each strand was made for, and that nothing changes it.
use Rattle.std.proofs.Common.{◌≡◌, ◌+◌, ◌++◌, ◌∙◌, ℕ, zero, suc, false, List, [], ◌∷◌, Option, Some, None, refl, sym, subst, ap}
use Rattle.std.specs.Prelude.{⊤, drop, length, map, slice_get}
use Rattle.std.proofs.lemmas.Option.{none-some}
use Rattle.std.proofs.Math.Seq.{map-set_same}
use Rattle.value_model.specs.declared.value.Value.{Value}
use Rattle.op_model.specs.CallRows.{strands_made, workers_from}
use Rattle.op_model.specs.Common.{Common, End, Role, Strand, IsActive}
use Rattle.op_model.specs.ProgramFacts.{WorkerFacts}
use Rattle.op_model.specs.Strands.{no_strand, settled, strand_at, strand_made, wakes, with_status, with_strand, worker_ended, workers_ended, woken}
use Rattle.machine_model.proofs.Once.{some-same}
use Rattle.machine_model.proofs.Shapes.{in-if}

abbrev pub role_of_strand : Strand → Option Role
role_of_strand x = x.role

abbrev pub roles : Common → List (Option Role)
roles c = map role_of_strand c.strands

-- each strand but the first was made for a named worker
abbrev pub AllNamed : List (Option Role) → Type 0
AllNamed [] = ⊤
AllNamed (Some r ∷ rs) = AllNamed rs
AllNamed (None ∷ rs) = ⊥

abbrev pub AreWorkers : List (Option Role) → Type 0
AreWorkers [] = ⊤
AreWorkers (r ∷ rs) = AllNamed rs

-- ---- what leaves it as it is

wakes-same : (c : Common) (xs : List Strand) → map role_of_strand (map (woken c) xs) ≡ map role_of_strand xs
wakes-same c [] = refl
wakes-same c (x ∷ xs) = (λ i. in-if (wakes c x.status) (λ y. y.role ≡ x.role) (with_status x IsActive) x (λ b. refl) (λ b. refl) i ∷ wakes-same c xs i)

pub settled-same : (c : Common) → roles (settled c) ≡ roles c
settled-same c = wakes-same c c.strands

pub strand-same : (c : Common) (n : ℕ) (y : Strand) → y.role ≡ (strand_at c n).role → roles (with_strand c n y) ≡ roles c
strand-same c n y e = map-set_same role_of_strand c.strands n y no_strand e

pub ended-same : (end : End) (role : Option Role) (c : Common) → roles (worker_ended end role c) ≡ roles c
ended-same end None c = refl
ended-same end (Some r) c = refl

pub all-ended-same : (end : End) (rs : List (Option Role)) (c : Common) → roles (workers_ended end rs c) ≡ roles c
all-ended-same end [] c = refl
all-ended-same end (r ∷ rs) c = all-ended-same end rs (worker_ended end r c) ∙ ended-same end r c

-- ---- named workers more

named-more : (rs : List (Option Role)) (r : Role) → AllNamed rs → AllNamed (rs ++ Some r ∷ [])
named-more [] r h = tt
named-more (Some q ∷ rs) r h = named-more rs r h
named-more (None ∷ rs) r h = absurd h

workers-more : (rs : List (Option Role)) (r : Role) → AreWorkers rs → AreWorkers (rs ++ Some r ∷ [])
workers-more [] r h = tt
workers-more (q ∷ rs) r h = named-more rs r h

map-more : (xs : List Strand) (y : Strand) → map role_of_strand (xs ++ y ∷ []) ≡ map role_of_strand xs ++ y.role ∷ []
map-more [] y = refl
map-more (x ∷ xs) y = ap (λ l. x.role ∷ l) (map-more xs y)

pub crew-named : (xs : List WorkerFacts) (a w : ℕ) (vs : List Value) (c : Common) → AreWorkers (roles c) → AreWorkers (roles (strands_made (workers_from a w xs vs) c))
crew-named [] a w vs c h = h
crew-named (x ∷ xs) a w vs c h =
    let r : Role = record { activation = a; worker = w } in
    crew-named xs a (w + 1) (drop (length x.captured) vs) (strand_made x.unit (Some r) c) (subst AreWorkers (sym (map-more c.strands (record { unit = x.unit; role = Some r; status = IsActive; taken = false }))) (workers-more (roles c) r h))

-- ---- so a strand that was made for no worker is the first

named-at : (xs : List Strand) (n : ℕ) (x : Strand) → AllNamed (map role_of_strand xs) → slice_get xs n ≡ Some x → x.role ≡ None → ⊥
named-at [] n x h e none = absurd (none-some x e)
named-at (y ∷ xs) n x h e none = by y.role refl h (λ k m there. named-at xs m x k there none)
  where
    at : (n : ℕ) → slice_get (y ∷ xs) n ≡ Some x → (o : Option Role) → y.role ≡ o → ((m : ℕ) → slice_get xs m ≡ Some x → ⊥) → o ≡ None
    at zero e o is more = sym is ∙ ap role_of_strand (some-same y x e) ∙ none
    at (suc m) e o is more = absurd (more m e)

    by : (o : Option Role) → y.role ≡ o → AllNamed (o ∷ map role_of_strand xs) → (AllNamed (map role_of_strand xs) → (m : ℕ) → slice_get xs m ≡ Some x → ⊥) → ⊥
    by None is h more = h
    by (Some r) is h more = let bad : Some r ≡ None = at n e (Some r) is (more h) in let q : ⊥ = cc in q

pub first-alone : (xs : List Strand) (n : ℕ) (x : Strand) → AreWorkers (map role_of_strand xs) → slice_get xs n ≡ Some x → x.role ≡ None → n ≡ 0
first-alone [] n x h e none = absurd (none-some x e)
first-alone (y ∷ xs) zero x h e none = refl
first-alone (y ∷ xs) (suc n) x h e none = absurd (named-at xs n x h e none)
