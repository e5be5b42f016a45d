-- How checks on a draft stand one behind another.
use Rattle.std.proofs.Common.{◌≡◌, ℕ, zero, suc, ◌<◌, ◌≤◌, ◌+◌, ◌++◌, List, [], ◌∷◌, length, Result, Ok, Err, IfOk, IsErr, IsErrAnd, refl, sym, subst, drop, get_or, ap, ◌∙◌, arith}
use Rattle.bal_base.specs.declared.fault.Fault.{Fault}
use Rattle.bal_base.specs.declared.stop.Memory.{Memory as NoMemory}
use Rattle.bal_base.specs.declared.stop.Stop.{Stop}
use Rattle.bal_base.specs.declared.stop.Stop.TheVariants.{Memory, Fault as OwnFault}
use Rattle.std.proofs.lemmas.Bool.{false≢true}
use Rattle.std.proofs.Math.Seq.{drop-cons}
use Rattle.checks.specs.Checks.{Check, Comes, gives, gives_some, refuses, ◌▷◌}
use Rattle.checks.proofs.Steps.{goes_on, stops, some_is, ran_out}
use Rattle.descriptors.specs.declared.draft.Draft.{Draft}
use Rattle.descriptors.specs.Drafts.{Drafts, next_of}
use Rattle.descriptors.specs.Steps.{lifted}
use Rattle.descriptors.proofs.Yielding.{weaker}

reaches : (a b c : ℕ) → a ≤ b → b ≤ c → a ≤ c
reaches a b c h k = omega (arith, h, k)

-- ---- what is given at once

module _ {A : Type 0} (G : ℕ → Type 0) (P : ℕ → A → Type 0) (d : Draft) where
  -- something that is so
  pub drafts-given : (S : Draft → A → Type 0) (a : A) → S d a → ((n : ℕ) → next_of d ≤ n → G n → P n a) → Drafts G P (gives_some S) d (Ok a) d
  drafts-given S a s p = record { comes = some_is S d d a refl s; first = refl; grows = omega arith; bound = λ b. b; sound = λ n le g h. h; over = p }

  -- the very thing
  pub drafts-just : (a b : A) → b ≡ a → ((n : ℕ) → next_of d ≤ n → G n → P n a) → Drafts G P (gives a) d (Ok b) d
  drafts-just a b e p = drafts-given (λ s c. c ≡ a) b e (λ n le g. subst (P n) (sym e) (p n le g))

  pub drafts-ran_out : (m : Check Draft A) → Drafts G P m d (Err Memory) d
  drafts-ran_out m = record { comes = ran_out m d d; first = refl; grows = omega arith; bound = λ b. b; sound = λ n le g h. h; over = λ n le g. tt }

  refused : (S : Draft → Fault → Type 0) (f : Fault) → S d f → Comes (refuses {S = Draft} {A = A} S) d (Err (OwnFault f)) d
  unfolding Comes refuses
  refused S f s = (s, refl)

  pub drafts-refused : (S : Draft → Fault → Type 0) (f : Fault) → S d f → Drafts G P (refuses S) d (Err (OwnFault f)) d
  drafts-refused S f s = record { comes = refused S f s; first = refl; grows = omega arith; bound = λ b. b; sound = λ n le g h. h; over = λ n le g. tt }

module _ {A : Type 0} (G : ℕ → Type 0) (P : ℕ → A → Type 0) (d : Draft) where
  -- what was made for a check
  pub drafts-lifted : (S : Draft → A → Type 0) (m : Result A NoMemory) (r : Result A (Stop Fault)) → r ≡ lifted m
      → IfOk m (S d) → ((n : ℕ) → next_of d ≤ n → G n → IfOk m (P n)) → Drafts G P (gives_some S) d r d
  drafts-lifted S (Ok a) r e s p = subst (λ q. Drafts G P (gives_some S) d q d) (sym e) (drafts-given G P d S a s p)
  drafts-lifted S (Err m) r e s p = subst (λ q. Drafts G P (gives_some S) d q d) (sym e) (drafts-ran_out G P d (gives_some S))

  pub drafts-lifted_just : (a : A) (m : Result A NoMemory) (r : Result A (Stop Fault)) → r ≡ lifted m
      → IfOk m (λ b. b ≡ a) → ((n : ℕ) → next_of d ≤ n → G n → P n a) → Drafts G P (gives a) d r d
  drafts-lifted_just a m r e s p =
      drafts-lifted (λ old b. b ≡ a) m r e s (λ n le g. weaker m (λ b. b ≡ a) (P n) s (λ b same. subst (P n) (sym same) (p n le g)))

-- ---- one behind another

module _ {A B : Type 0} (G : ℕ → Type 0) (P : ℕ → A → Type 0) (Q : ℕ → B → Type 0) (m : Check Draft A) (next : A → Check Draft B) where
  -- the first gave something, and then this came
  pub drafts-on : (old mid new : Draft) (a : A) (r : Result B (Stop Fault)) → Drafts G P m old (Ok a) mid → Drafts (λ n. G n × P n a) Q (next a) mid r new → Drafts G Q (m ▷ next) old r new
  drafts-on old mid new a r g h = record {
    comes = goes_on m next old mid new a r g.comes h.comes;
    first = h.first ∙ g.first;
    grows = reaches (next_of old) (next_of mid) (next_of new) g.grows h.grows;
    bound = λ b. h.bound (g.bound b);
    sound = λ n le k s.
        let far = reaches (next_of mid) (next_of new) n h.grows le in h.sound n le (k, g.over n far k) (g.sound n far k s);
    over = λ n le k. h.over n le (k, g.over n (reaches (next_of mid) (next_of new) n h.grows le) k);
  }

  -- the first stopped
  pub drafts-stops : (old new : Draft) (stop : Stop Fault) → Drafts G P m old (Err stop) new → Drafts G Q (m ▷ next) old (Err stop) new
  drafts-stops old new stop h = record { comes = stops m next old new stop h.comes; first = h.first; grows = h.grows; bound = h.bound; sound = h.sound; over = λ n le k. tt }

-- less has to be given
pub given : {A : Type 0} (G H : ℕ → Type 0) (P : ℕ → A → Type 0) (m : Check Draft A) (old : Draft) (r : Result A (Stop Fault)) (new : Draft)
    → Drafts H P m old r new → ((n : ℕ) → G n → H n) → Drafts G P m old r new
given G H P m old r new y f = record { comes = y.comes; first = y.first; grows = y.grows; bound = y.bound; sound = λ n le g. y.sound n le (f n g); over = λ n le g. y.over n le (f n g) }

-- what stopped a call is handed on by `?`
pub handed-on : {A : Type 0} (G : ℕ → Type 0) (P : ℕ → A → Type 0) (m : Check Draft A) (old new : Draft) (stop : Stop Fault) (r : Result A (Stop Fault))
    → IsErr r × IsErrAnd r (λ e. e ≡ stop) → Drafts G P m old (Err stop) new → Drafts G P m old r new
handed-on G P m old new stop (Ok b) h y = absurd (false≢true h.0)
handed-on G P m old new stop (Err s) h y = subst (λ e. Drafts G P m old (Err e) new) (sym h.1) y

-- ---- lists

-- So far a list of checks has given these, and what is left of it leads to the whole.
pub record Walked {X B : Type 0} (G : ℕ → Type 0) (Q : ℕ → List B → Type 0) (walk : List B → List X → Check Draft (List B)) (xs : List X) (i : ℕ) (done : List B) (old now : Draft) : Type 0 where
  pub leads : (r : Result (List B) (Stop Fault)) (new : Draft) → Drafts G Q (walk done (drop i xs)) now r new → Drafts G Q (walk [] xs) old r new
  pub below : (n : ℕ) → next_of now ≤ n → G n → Q n done

drop-end : {X : Type 0} (xs : List X) (i : ℕ) → length xs ≤ i → drop i xs ≡ []
drop-end [] zero h = refl
drop-end [] (suc i) h = refl
drop-end (x ∷ xs) zero h = absurd (omega (arith, h))
drop-end (x ∷ xs) (suc i) h = drop-end xs i (omega (arith, h))

next-is : {X : Type 0} (xs : List X) (i : ℕ) (x : X) → i < length xs → x ≡ get_or xs i x → drop i xs ≡ x ∷ drop (i + 1) xs
next-is xs i x lt e =
    let more : suc i ≡ i + 1 = omega arith in drop-cons xs i x lt ∙ ap (λ k. get_or xs i x ∷ drop k xs) more ∙ ap (λ y. y ∷ drop (i + 1) xs) (sym e)

-- A list of checks: each gives one thing, and all of them the list.
pub record IsRow {X B : Type 0} (G : ℕ → Type 0) (P : ℕ → B → Type 0) (Q : ℕ → List B → Type 0) (item : List B → X → Check Draft B) (walk : List B → List X → Check Draft (List B)) : Type 0 where
  pub none : (n : ℕ) → Q n []
  pub more : (n : ℕ) (done : List B) (b : B) → Q n done → P n b → Q n (done ++ b ∷ [])
  pub at_end : (done : List B) (now : Draft) (r : Result (List B) (Stop Fault)) (new : Draft) → Drafts G Q (gives done) now r new → Drafts G Q (walk done []) now r new
  pub at_one : (done : List B) (x : X) (xs : List X) (now : Draft) (r : Result (List B) (Stop Fault)) (new : Draft)
      → Drafts G Q (item done x ▷ λ b. walk (done ++ b ∷ []) xs) now r new → Drafts G Q (walk done (x ∷ xs)) now r new

module _ {X B : Type 0} (G : ℕ → Type 0) (P : ℕ → B → Type 0) (Q : ℕ → List B → Type 0) (item : List B → X → Check Draft B) (walk : List B → List X → Check Draft (List B))
    (row : IsRow G P Q item walk) (xs : List X) where
  abbrev SoFar : ℕ → List B → Draft → Draft → Type 0
  SoFar = Walked G Q walk xs

  pub none-walked : (done : List B) (d : Draft) → done ≡ [] → SoFar 0 done d d
  none-walked done d e = subst (λ (bs : List B). SoFar 0 bs d d) (sym e) (record { leads = λ r new y. y; below = λ n le g. row.none n })

  one_leads : (i : ℕ) (x : X) (done : List B) (old now new : Draft) (b : B) → i < length xs → x ≡ get_or xs i x → SoFar i done old now
      → Drafts G P (item done x) now (Ok b) new → (r : Result (List B) (Stop Fault)) (last : Draft) → Drafts G Q (walk (done ++ b ∷ []) (drop (i + 1) xs)) new r last
      → Drafts G Q (walk [] xs) old r last
  one_leads i x done old now new b lt e w y r last z = w.leads r last (subst (λ ys. Drafts G Q (walk done ys) now r last) (sym (next-is xs i x lt e))
      (row.at_one done x (drop (i + 1) xs) now r last
      (drafts-on G P Q (item done x) (λ c. walk (done ++ c ∷ []) (drop (i + 1) xs)) now new last b r y (given (λ n. G n × P n b) G Q _ new r last z (λ n h. h.0)))))

  pub one-walked : (i : ℕ) (x : X) (done now_done : List B) (old now new : Draft) (b : B) → i < length xs → x ≡ get_or xs i x → now_done ≡ done ++ b ∷ [] → SoFar i done old now
      → Drafts G P (item done x) now (Ok b) new → SoFar (i + 1) now_done old new
  one-walked i x done now_done old now new b lt e is w y = subst (λ (bs : List B). SoFar (i + 1) bs old new) (sym is) (record {
    leads = one_leads i x done old now new b lt e w y;
    below = λ n le g. row.more n done b (w.below n (reaches (next_of now) (next_of new) n y.grows le) g) (y.over n le g);
  })

  -- there was no memory for what was given
  pub walk-ran_out : (i : ℕ) (x : X) (done : List B) (old now new : Draft) (b : B) → i < length xs → x ≡ get_or xs i x → SoFar i done old now
      → Drafts G P (item done x) now (Ok b) new → Drafts G Q (walk [] xs) old (Err Memory) new
  walk-ran_out i x done old now new b lt e w y = one_leads i x done old now new b lt e w y (Err Memory) new (drafts-ran_out G Q new _)

  pub walk-stops : (i : ℕ) (x : X) (done : List B) (old now new : Draft) (stop : Stop Fault) → i < length xs → x ≡ get_or xs i x → SoFar i done old now
      → Drafts G P (item done x) now (Err stop) new → Drafts G Q (walk [] xs) old (Err stop) new
  walk-stops i x done old now new stop lt e w y = w.leads (Err stop) new (subst (λ ys. Drafts G Q (walk done ys) now (Err stop) new) (sym (next-is xs i x lt e))
      (row.at_one done x (drop (i + 1) xs) now (Err stop) new (drafts-stops G P Q (item done x) (λ c. walk (done ++ c ∷ []) (drop (i + 1) xs)) now new stop y)))

  pub all-walked : (i : ℕ) (done result : List B) (old now : Draft) → length xs ≤ i → result ≡ done → SoFar i done old now → Drafts G Q (walk [] xs) old (Ok result) now
  all-walked i done result old now end e w = w.leads (Ok result) now (subst (λ ys. Drafts G Q (walk done ys) now (Ok result) now) (sym (drop-end xs i end))
      (row.at_end done now (Ok result) now (drafts-just G Q now done result e w.below)))
