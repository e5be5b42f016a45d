-- Pieces of code that are laid one behind another, with labels that get their places later.
use Rattle.std.proofs.Common.{◌≡◌, ◌≢◌, ℕ, zero, suc, ◌+◌, ◌<◌, ◌≤◌, List, [], ◌∷◌, ◌++◌, length, Some, None, refl, sym, subst, ap, ◌∙◌, arith, length-append, true, false}
use Rattle.std.proofs.Math.ListN.{length-set}
use Rattle.std.specs.Prelude.{slice_get, slice_set}
use Rattle.operations.specs.declared.operation.Operation.{Operation}
use Rattle.operations.specs.declared.operation.Operation.TheVariants.{Tick}
use Rattle.eval_model.specs.Walk.{ForkOver, OpsOver}
use Rattle.eval_model.specs.Ways.{Turns}
use Rattle.stack_code.specs.declared.code.Code.{Code}
use Rattle.stack_code.specs.Commands.{Command, Do, GoTo, GoToIfNot, OpenTrap, CloseTrap}
use Rattle.lower_model.specs.Lowered.{Comes, Does, Has, Spot, after, by, code_ways, here, spot}
use Rattle.lower_model.specs.Laying.{Agrees, Keeps, Laid, Piece, StandsFor, turns_of}
use Rattle.lower_model.specs.Making.{Making, add, all_do, bind, does, fresh, guards, loops, next_label, parts}

-- ---- lists

pub get-front : {X : Type 0} (xs ys : List X) (i : ℕ) (x : X) → slice_get xs i ≡ Some x → slice_get (xs ++ ys) i ≡ Some x
get-front [] ys i x e = absurd (let bad : ⊥ = cc in bad)
get-front (y ∷ xs) ys zero x e = e
get-front (y ∷ xs) ys (suc i) x e = get-front xs ys i x e

get-below : {X : Type 0} (xs ys : List X) (i : ℕ) → i < length xs → slice_get (xs ++ ys) i ≡ slice_get xs i
get-below [] ys i lt = absurd (omega (arith, lt))
get-below (x ∷ xs) ys zero lt = refl
get-below (x ∷ xs) ys (suc i) lt = get-below xs ys i (omega (arith, lt))

get-last : {X : Type 0} (xs : List X) (x : X) → slice_get (xs ++ x ∷ []) (length xs) ≡ Some x
get-last [] x = refl
get-last (y ∷ xs) x = get-last xs x

get-set-other : {X : Type 0} (xs : List X) (i j : ℕ) (x : X) → i ≢ j → slice_get (slice_set xs j x) i ≡ slice_get xs i
get-set-other [] i j x ne = refl
get-set-other (y ∷ xs) zero zero x ne = absurd (ne refl)
get-set-other (y ∷ xs) (suc i) zero x ne = refl
get-set-other (y ∷ xs) zero (suc j) x ne = refl
get-set-other (y ∷ xs) (suc i) (suc j) x ne = get-set-other xs i j x (λ e. ne (ap suc e))

get-set-same : {X : Type 0} (xs : List X) (i : ℕ) (x y : X) → slice_get xs i ≡ Some y → slice_get (slice_set xs i x) i ≡ Some x
get-set-same [] i x y e = absurd (let bad : ⊥ = cc in bad)
get-set-same (z ∷ xs) zero x y e = refl
get-set-same (z ∷ xs) (suc i) x y e = get-set-same xs i x y e

pub length-one : {X : Type 0} (xs : List X) (x : X) → length (xs ++ x ∷ []) ≡ length xs + 1
length-one xs x = omega (arith, length-append xs (x ∷ []))

pub keeps-itself : (m : Making) → Keeps m m
keeps-itself m = record { more = omega arith; labels = λ l lt. refl }

pub keeps-then : {m n k : Making} → Keeps m n → Keeps n k → Keeps m k
keeps-then a b = record { more = omega (arith, a.more, b.more); labels = λ l lt. b.labels l (omega (arith, lt, a.more)) ∙ a.labels l lt }

-- ---- one step

pub add-lays : (c : Command) → Laid (add c) (λ code places landings p q. StandsFor code places p.place c × (q ≡ after p))
add-lays c m =
    record {
      keeps = record { more = omega arith; labels = λ l lt. refl };
      says = λ code places a. (
        record { sound = a.sound; steps = λ p x e. a.steps p x (get-front m.steps (c ∷ []) p x e); labels = a.labels },
        λ landings. (a.steps (length m.steps) c (get-last m.steps c), ap (λ n. spot n landings) (length-one m.steps c)),
      );
    }

pub fresh-keeps : (m : Making) → Keeps m (fresh m)
fresh-keeps m = record { more = omega (arith, length-one m.labels None); labels = λ l lt. get-below m.labels (None ∷ []) l lt }

pub fresh-says : (code : Code) (places : ℕ → ℕ) (m : Making) → Agrees code places (fresh m) → Agrees code places m
fresh-says code places m a =
    record { sound = a.sound; steps = a.steps; labels = λ l q e. a.labels l q (get-front m.labels (None ∷ []) l (Some q) e) }

abbrev pub IsOpen : ℕ → Making → Type 0
IsOpen l m = slice_get m.labels l ≡ Some None

pub fresh-open : (m : Making) → IsOpen (next_label m) (fresh m)
fresh-open m = get-last m.labels None

pub fresh-below : (m : Making) → next_label m < length (fresh m).labels
fresh-below m = omega (arith, length-one m.labels None)

pub open-kept : {m n : Making} (l : ℕ) → Keeps m n → l < length m.labels → IsOpen l m → IsOpen l n
open-kept l k lt o = k.labels l lt ∙ o

-- a label that has no place yet gets one
pub bind-says : (code : Code) (places : ℕ → ℕ) (l : ℕ) (m : Making) → IsOpen l m → Agrees code places (bind l m) → Agrees code places m × (places l ≡ length m.steps)
bind-says code places l m o a = (
  record {
    sound = a.sound;
    steps = a.steps;
    labels = λ k q e. a.labels k q (get-set-other m.labels k l (Some (length m.steps)) (λ is. let f : slice_get m.labels l ≡ Some (Some q) = subst (λ x. slice_get m.labels x ≡ Some (Some q)) is e in absurd (let bad : ⊥ = cc in bad)) ∙ e);
  },
  a.labels l (length m.steps) (get-set-same m.labels l (Some (length m.steps)) None o),
)

pub bind-keeps : (l : ℕ) (m n : Making) → length m.labels ≤ l → Keeps m n → Keeps m (bind l n)
bind-keeps l m n le k =
    record {
      more = subst (λ x. length m.labels ≤ x) (sym (length-set n.labels l (Some (length n.steps)))) k.more;
      labels = λ i lt. get-set-other n.labels i l (Some (length n.steps)) (λ e. omega (arith, lt, le, e)) ∙ k.labels i lt;
    }

pub bind-other : (k l : ℕ) (m : Making) → k ≢ l → IsOpen k m → IsOpen k (bind l m)
bind-other k l m ne o = get-set-other m.labels k l (Some (length m.steps)) ne ∙ o

-- ---- pieces

pub nothing-laid : Laid (λ m. m) (λ code places landings. (code_ways code).comes)
nothing-laid m = record { keeps = keeps-itself m; says = λ code places a. (a, λ landings. (here, refl)) }

abbrev pub Then : Piece → Piece → Piece
Then P Q code places landings p q = (m : Spot) × P code places landings p m × Q code places landings m q

pub then-laid : {P Q : Piece} (F G : Making → Making) → Laid F P → Laid G Q → Laid (λ m. G (F m)) (Then P Q)
then-laid F G f g m =
    record {
      keeps = keeps-then (f m).keeps (g (F m)).keeps;
      says = λ code places a.
          let y = (g (F m)).says code places a in
          let x = (f m).says code places y.0 in
          (x.0, λ landings. (spot (length (F m).steps) landings, x.1 landings, y.1 landings));
    }

abbrev pub Implies : Piece → Piece → Type 0
Implies P Q =
    (code : Code) (places : ℕ → ℕ) (landings : List ℕ) (p q : ℕ) → P code places landings (spot p landings) (spot q landings) → Q code places landings (spot p landings) (spot q landings)

pub as-laid : {P Q : Piece} (F : Making → Making) → Implies P Q → Laid F P → Laid F Q
as-laid F go f m =
    record { keeps = (f m).keeps; says = λ code places a. let x = (f m).says code places a in (x.0, λ landings. go code places landings _ _ (x.1 landings)) }

pub does-laid : (op : Operation) → Laid (does op) (λ code places landings. Does code op)
does-laid op = add-lays (Do op)

pub ops-laid : (ops : List Operation) → Laid (all_do ops) (λ code places landings. OpsOver (code_ways code) ops)
ops-laid [] = nothing-laid
ops-laid (op ∷ ops) = then-laid (does op) (all_do ops) (does-laid op) (ops-laid ops)

-- ---- ways that part

abbrev pub Fork : Piece → Piece → Piece
Fork P Q code places landings = ForkOver (code_ways code) (P code places landings) (Q code places landings)

pub parts-laid : {P Q : Piece} (First Second : Making → Making) → Laid First P → Laid Second Q → Laid (parts First Second) (Fork P Q)
parts-laid {P} {Q} First Second first second m =
    let m1 = fresh m in
    let m2 = fresh m1 in
    let other = next_label m in
    let end = next_label m1 in
    let m3 = add (GoToIfNot other) m2 in
    let m4 = First m3 in
    let m5 = add (GoTo end) m4 in
    let m6 = bind other m5 in
    let m7 = Second m6 in
    let one = add-lays (GoToIfNot other) m2 in
    let two = first m3 in
    let three = add-lays (GoTo end) m4 in
    let four = second m6 in
    let apart : end ≡ other + 1 = length-one m.labels None in
    let k25 : Keeps m2 m5 = keeps-then one.keeps (keeps-then two.keeps three.keeps) in
    let k12 : Keeps m1 m2 = fresh-keeps m1 in
    let k15 : Keeps m1 m5 = keeps-then k12 k25 in
    let k05 : Keeps m m5 = keeps-then (fresh-keeps m) k15 in
    let k06 : Keeps m m6 = bind-keeps other m m5 (omega arith) k05 in
    let k07 : Keeps m m7 = keeps-then k06 four.keeps in
    let open5 : IsOpen other m5 = open-kept other k15 (fresh-below m) (fresh-open m) in
    let end5 : IsOpen end m5 = open-kept end k25 (fresh-below m1) (fresh-open m1) in
    let end6 : IsOpen end m6 = bind-other end other m5 (λ e. omega (arith, apart, e)) end5 in
    let below6 : end < length m6.labels = subst (λ x. end < x) (sym (length-set m5.labels other (Some (length m5.steps)))) (omega (arith, fresh-below m1, k25.more)) in
    let end7 : IsOpen end m7 = open-kept end four.keeps below6 end6 in
    record {
      keeps = bind-keeps end m m7 (omega (arith, apart)) k07;
      says = λ code places a8.
          let a7 = bind-says code places end m7 end7 a8 in
          let a6 = four.says code places a7.0 in
          let a5 = bind-says code places other m5 open5 a6.0 in
          let a4 = three.says code places a5.0 in
          let a3 = two.says code places a4.0 in
          let a2 = one.says code places a3.0 in (
            fresh-says code places m (fresh-says code places m1 a2.0),
            λ landings. (
              spot (length m3.steps) landings,
              spot (length m4.steps) landings,
              spot (length m6.steps) landings,
              spot (length m7.steps) landings,
              ((places other, (a2.1 landings).0), (a2.1 landings).1),
              a3.1 landings,
              (by (subst (λ x. Has code (length m4.steps) (GoTo x)) a7.1 (a4.1 landings).0) here, refl),
              (subst (λ x. Has code (length m2.steps) (GoToIfNot x)) a5.1 (a2.1 landings).0, refl),
              a6.1 landings,
              (here, refl),
            ),
          );
    }

-- ---- traps

abbrev pub Guarded : Piece → Piece
Guarded P code places landings p q = (a b : Spot) × (code_ways code).guards p a b q × ((inner : List ℕ) × P code places inner a b)

pub guards-laid : {P : Piece} (F : Making → Making) → Laid F P → Laid (guards F) (Guarded P)
guards-laid {P} F f m =
    let m1 = fresh m in
    let m2 = fresh m1 in
    let landing = next_label m in
    let end = next_label m1 in
    let m3 = add (OpenTrap landing) m2 in
    let m4 = F m3 in
    let m5 = add CloseTrap m4 in
    let m6 = add (GoTo end) m5 in
    let m7 = bind landing m6 in
    let m8 = add (GoTo end) m7 in
    let one = add-lays (OpenTrap landing) m2 in
    let two = f m3 in
    let three = add-lays CloseTrap m4 in
    let four = add-lays (GoTo end) m5 in
    let five = add-lays (GoTo end) m7 in
    let apart : end ≡ landing + 1 = length-one m.labels None in
    let k26 : Keeps m2 m6 = keeps-then one.keeps (keeps-then two.keeps (keeps-then three.keeps four.keeps)) in
    let k16 : Keeps m1 m6 = keeps-then (fresh-keeps m1) k26 in
    let k07 : Keeps m m7 = bind-keeps landing m m6 (omega arith) (keeps-then (fresh-keeps m) k16) in
    let open6 : IsOpen landing m6 = open-kept landing k16 (fresh-below m) (fresh-open m) in
    let end6 : IsOpen end m6 = open-kept end k26 (fresh-below m1) (fresh-open m1) in
    let end7 : IsOpen end m7 = bind-other end landing m6 (λ e. omega (arith, apart, e)) end6 in
    record {
      keeps = bind-keeps end m m8 (omega (arith, apart)) (keeps-then k07 five.keeps);
      says = λ code places a9.
          let a8 = bind-says code places end m8 end7 a9 in
          let a7 = five.says code places a8.0 in
          let a6 = bind-says code places landing m6 open6 a7.0 in
          let a5 = four.says code places a6.0 in
          let a4 = three.says code places a5.0 in
          let a3 = two.says code places a4.0 in
          let a2 = one.says code places a3.0 in
          let there = places landing in (
            fresh-says code places m (fresh-says code places m1 a2.0),
            λ landings. (
              spot (length m3.steps) (there ∷ landings),
              spot (length m4.steps) (there ∷ landings),
              (
                there,
                ((a2.1 landings).0, ap (λ n. spot n (there ∷ landings)) (length-one m2.steps (OpenTrap landing))),
                (
                  (a4.1 landings).0,
                  refl,
                  subst (λ x. Comes code x (length m8.steps)) (length-one m4.steps CloseTrap) (by (subst (λ x. Has code (length m5.steps) (GoTo x)) a8.1 (a5.1 landings).0) here),
                  subst (λ x. Comes code x (length m8.steps)) (sym a6.1) (by (subst (λ x. Has code (length m7.steps) (GoTo x)) a8.1 (a7.1 landings).0) here),
                ),
                refl,
              ),
              (there ∷ landings, a3.1 (there ∷ landings)),
            ),
          );
    }

-- ---- loops

-- the turns of a loop
abbrev pub Turning : Piece → Piece → (Turns ℕ → Piece) → Turns ℕ → Code → (ℕ → ℕ) → List ℕ → Type 0
Turning Tries Prepares Body l code places landings =
    let s = turns_of places landings l in
    (t m a b n k : Spot) × Does code Tick s.head t × Tries code places landings t m × (code_ways code).takes true m a × (code_ways code).takes false m b
    × (code_ways code).comes b s.exit × Prepares code places landings a n × Body l code places landings n k × (code_ways code).comes k s.head

abbrev pub Looping : Piece → Piece → (Turns ℕ → Piece) → Piece
Looping Tries Prepares Body code places landings p q =
    (l : Turns ℕ) × (code_ways code).comes p (turns_of places landings l).head × Turning Tries Prepares Body l code places landings
    × (code_ways code).comes (turns_of places landings l).exit q

pub loops-laid : {P Q : Piece} {R : Turns ℕ → Piece} (Tries Prepares : Making → Making) (Body : Turns ℕ → Making → Making) → Laid Tries P → Laid Prepares Q → ((l : Turns ℕ) → Laid (Body l) (R l)) → Laid (loops Tries Prepares Body) (Looping P Q R)
loops-laid {P} {Q} {R} Tries Prepares Body tries prepares body m =
    let head = next_label m in
    let m1 = fresh m in
    let exit = next_label m1 in
    let l : Turns ℕ = record { head = head; exit = exit } in
    let m2 = fresh m1 in
    let m3 = bind head m2 in
    let m4 = does Tick m3 in
    let m5 = Tries m4 in
    let m6 = add (GoToIfNot exit) m5 in
    let m7 = Prepares m6 in
    let m8 = Body l m7 in
    let m9 = add (GoTo head) m8 in
    let one = add-lays (Do Tick) m3 in
    let two = tries m4 in
    let three = add-lays (GoToIfNot exit) m5 in
    let four = prepares m6 in
    let five = body l m7 in
    let six = add-lays (GoTo head) m8 in
    let apart : exit ≡ head + 1 = length-one m.labels None in
    let open2 : IsOpen head m2 = open-kept head (fresh-keeps m1) (fresh-below m) (fresh-open m) in
    let exit3 : IsOpen exit m3 = bind-other exit head m2 (λ e. omega (arith, apart, e)) (fresh-open m1) in
    let below3 : exit < length m3.labels = subst (λ x. exit < x) (sym (length-set m2.labels head (Some (length m2.steps)))) (fresh-below m1) in
    let k39 : Keeps m3 m9 = keeps-then one.keeps (keeps-then two.keeps (keeps-then three.keeps (keeps-then four.keeps (keeps-then five.keeps six.keeps)))) in
    let exit9 : IsOpen exit m9 = open-kept exit k39 below3 exit3 in
    let k03 : Keeps m m3 = bind-keeps head m m2 (omega arith) (keeps-then (fresh-keeps m) (fresh-keeps m1)) in
    record {
      keeps = bind-keeps exit m m9 (omega (arith, apart)) (keeps-then k03 k39);
      says = λ code places a10.
          let a9 = bind-says code places exit m9 exit9 a10 in
          let a8 = six.says code places a9.0 in
          let a7 = five.says code places a8.0 in
          let a6 = four.says code places a7.0 in
          let a5 = three.says code places a6.0 in
          let a4 = two.says code places a5.0 in
          let a3 = one.says code places a4.0 in
          let a2 = bind-says code places head m2 open2 a3.0 in
          let begins : places head ≡ length m.steps = a2.1 in (
            fresh-says code places m (fresh-says code places m1 a2.0),
            λ landings. (
              l,
              (subst (λ x. Comes code (length m.steps) x) (sym begins) here, refl),
              (
                spot (length m4.steps) landings,
                spot (length m5.steps) landings,
                spot (length m6.steps) landings,
                spot (places exit) landings,
                spot (length m7.steps) landings,
                spot (length m8.steps) landings,
                subst (λ x. Does code Tick (spot x landings) (spot (length m4.steps) landings)) (sym begins) (a3.1 landings),
                a4.1 landings,
                ((places exit, (a5.1 landings).0), (a5.1 landings).1),
                ((a5.1 landings).0, refl),
                (here, refl),
                a6.1 landings,
                a7.1 landings,
                (by (a8.1 landings).0 here, refl),
              ),
              (subst (λ x. Comes code x (length m9.steps)) (sym a9.1) here, refl),
            ),
          );
    }
