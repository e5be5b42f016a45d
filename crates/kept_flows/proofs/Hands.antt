-- Units at hand: lists whose last member is another one.
use Rattle.std.proofs.Common.{List, [], ap, length, refl, subst, sym, take, ℕ, ◌++◌, ◌-◌, ◌∙◌, ◌∷◌, ◌≡◌, suc, zero}
use Rattle.std.proofs.lemmas.List.Elements.{AllZip-push}
use Rattle.std.specs.List.{AllZip}
use Rattle.calm_needs.proofs.Flows.{flows-itself, flows-then}
use Rattle.calm_needs.specs.Calm.{HandSees, IsFlowOf, SameKnown}
use Rattle.check_words.specs.Sharing.{SameFlow}
use Rattle.check_words.specs.State.{IsLast, State, UnitAtWork, all_but, replaced}
use Rattle.flow_narrowing.specs.declared.flow.Variable.{Variable}
use Rattle.typed_needs.proofs.Placed.{all-but-last, last-same}

-- ---- lists, member by member

-- the second list ends beside the end of the first
pub record EndsSo {A : Type 0} (R : A → A → Type 0) (xs : List A) (x : A) (ys : List A) : Type 0 where
  pub kept : List A
  pub last : A
  pub is : ys ≡ kept ++ last ∷ []
  pub front : AllZip R xs kept
  pub beside : R x last

pub ends-so : {A : Type 0} (R : A → A → Type 0) (xs : List A) (x : A) (ys : List A) → AllZip R (xs ++ x ∷ []) ys → EndsSo R xs x ys
ends-so R [] x (y ∷ []) h = record { kept = []; last = y; is = refl; front = tt; beside = h.0 }
ends-so R [] x [] h = absurd h
ends-so R [] x (y ∷ z ∷ ys) h = absurd h.1
ends-so R (w ∷ xs) x [] h = absurd h
ends-so R (w ∷ xs) x (y ∷ ys) h =
    let e = ends-so R xs x ys h.1 in
    record { kept = y ∷ e.kept; last = e.last; is = ap (λ l. y ∷ l) e.is; front = (h.0, e.front); beside = e.beside }

-- ---- all but the last unit

-- what is known in all units but the one at hand is the same
abbrev pub Others : List UnitAtWork → List UnitAtWork → Type 0
Others us vs = AllZip SameKnown (all_but 1 us) (all_but 1 vs)

pub others-then : (us vs ws : List UnitAtWork) → Others us vs → Others vs ws → Others us ws
others-then us vs ws f g = flows-then (all_but 1 us) (all_but 1 vs) (all_but 1 ws) f g

pub others-itself : (us : List UnitAtWork) → Others us us
others-itself us = flows-itself (all_but 1 us)

take-zip : {A : Type 0} (R : A → A → Type 0) (n : ℕ) (xs ys : List A) → AllZip R xs ys → AllZip R (take n xs) (take n ys)
take-zip R zero xs ys h = tt
take-zip R (suc n) [] [] h = tt
take-zip R (suc n) (x ∷ xs) (y ∷ ys) h = (h.0, take-zip R n xs ys h.1)
take-zip R (suc n) [] (y ∷ ys) h = absurd h
take-zip R (suc n) (x ∷ xs) [] h = absurd h

zip-long : {A : Type 0} (R : A → A → Type 0) (xs ys : List A) → AllZip R xs ys → length ys ≡ length xs
zip-long R [] [] h = refl
zip-long R (x ∷ xs) (y ∷ ys) h = ap (λ n. suc n) (zip-long R xs ys h.1)
zip-long R [] (y ∷ ys) h = absurd h
zip-long R (x ∷ xs) [] h = absurd h

pub all-others : (us vs : List UnitAtWork) → AllZip SameKnown us vs → Others us vs
all-others us vs h =
    subst (λ n. AllZip SameKnown (all_but 1 us) (take (n - 1) vs)) (sym (zip-long SameKnown us vs h)) (take-zip SameKnown (length us - 1) us vs h)

-- the last one is another one
pub replaced-others : (us : List UnitAtWork) (v : UnitAtWork) → Others us (replaced us v)
replaced-others us v = subst (λ l. AllZip SameKnown (all_but 1 us) l) (sym (all-but-last (all_but 1 us) v)) (flows-itself (all_but 1 us))

-- and where the same is known in the last ones it is so in all
pub others-and-last : (us vs : List UnitAtWork) (u v : UnitAtWork) → IsLast us u → IsLast vs v → Others us vs → SameFlow u.flow v.flow → AllZip SameKnown us vs
others-and-last us vs u v before behind others same =
    let front : AllZip SameKnown before.kept behind.kept =
    subst (λ l. AllZip SameKnown before.kept l) (ap (λ l. all_but 1 l) behind.is ∙ all-but-last behind.kept v)
    (subst (λ l. AllZip SameKnown l (all_but 1 vs)) (ap (λ l. all_but 1 l) before.is ∙ all-but-last before.kept u) others) in
    subst (λ l. AllZip SameKnown l vs) (sym before.is)
    (subst (λ l. AllZip SameKnown (before.kept ++ u ∷ []) l) (sym behind.is) (AllZip-push SameKnown before.kept behind.kept u v front same))

-- ---- units at hand

-- of one unit at hand
pub hand-is : (vs : List Variable) (s : State) (u : UnitAtWork) → IsLast s.units u → IsFlowOf vs u.flow → HandSees vs s
hand-is vs s u last of v other = subst (λ (w : UnitAtWork). IsFlowOf vs w.flow) (last-same s.units u v last other) of

pub hand-by : (vs : List Variable) (s t : State) → t.units ≡ s.units → HandSees vs s → HandSees vs t
hand-by vs s t units h u last = h u (subst (λ us. IsLast us u) units last)
