-- Stacks taken apart at their ends.
use Rattle.std.proofs.Common.{◌≡◌, ◌-◌, ◌+◌, ◌∙◌, ℕ, Bool, true, false, List, [], ◌∷◌, ◌++◌, Option, Some, None, drop, length, refl, sym, ap, subst, take, arith}
use Rattle.std.specs.Prelude.{option_to_list}
use Rattle.std.proofs.Math.Seq.{drop-append_seam, take-append_seam}
use Rattle.std.proofs.lemmas.List.{append-nil, length-append}
use Rattle.type_model.specs.declared.atoms.AtomDef.{AtomDef}
use Rattle.type_model.specs.declared.basic.SemType.{SemType}
use Rattle.type_model.specs.Inclusion.{Sub}
use Rattle.operations.specs.Rows.{AreBelow}
use Rattle.code_needs.specs.Stacks.{front_of, last_of}
use Rattle.code_needs.proofs.Counted.{GivesAs}
use Rattle.code_needs.proofs.Combined.{untrue}

-- ---- so many at the end

so-long : {A : Type 0} (xs ys : List A) (n : ℕ) → length ys ≡ n → length (xs ++ ys) - n ≡ length xs
so-long xs ys n e = let l : length (xs ++ ys) ≡ length xs + length ys = length-append xs ys in omega (arith, l, e)

pub take-front : {A : Type 0} (zs xs ys : List A) (n : ℕ) → zs ≡ xs ++ ys → length ys ≡ n → take (length zs - n) zs ≡ xs
take-front zs xs ys n is e =
    ap (λ ws. take (length ws - n) ws) is ∙ ap (λ k. take k (xs ++ ys)) (so-long xs ys n e) ∙ take-append_seam xs ys

pub drop-front : {A : Type 0} (zs xs ys : List A) (n : ℕ) → zs ≡ xs ++ ys → length ys ≡ n → drop (length zs - n) zs ≡ ys
drop-front zs xs ys n is e =
    ap (λ ws. drop (length ws - n) ws) is ∙ ap (λ k. drop k (xs ++ ys)) (so-long xs ys n e) ∙ drop-append_seam xs ys

-- ---- the last one

pub last-is : (xs : List SemType) (t : SemType) → last_of (xs ++ t ∷ []) ≡ Some t
last-is [] t = refl
last-is (x ∷ []) t = refl
last-is (x ∷ y ∷ more) t = last-is (y ∷ more) t

pub front-is : (xs : List SemType) (t : SemType) → front_of (xs ++ t ∷ []) ≡ xs
front-is [] t = refl
front-is (x ∷ []) t = refl
front-is (x ∷ y ∷ more) t = ap (λ ts. x ∷ ts) (front-is (y ∷ more) t)

pub with-last : (xs : List SemType) (t : SemType) → last_of xs ≡ Some t → xs ≡ front_of xs ++ t ∷ []
with-last [] t e = absurd (let q : ⊥ = cc in q)
with-last (x ∷ []) t e = let q : x ≡ t = cc in ap (λ y. y ∷ []) q
with-last (x ∷ y ∷ more) t e = ap (λ ts. x ∷ ts) (with-last (y ∷ more) t e)

-- ---- what stands behind

abbrev pub read_off : Bool → List SemType → Option SemType
read_off true to = last_of to
read_off false to = None

abbrev pub stays : Bool → List SemType → List SemType
stays true to = front_of to
stays false to = to

module _ (env : List AtomDef) where
  -- types below others, the last of which may be a result
  record Parted (rest : List SemType) (r : SemType) (to : List SemType) : Type 0 where
    stay : List SemType
    top : SemType
    is : to ≡ stay ++ top ∷ []
    below : AreBelow env rest stay
    sub : Sub env r top

  part : (rest : List SemType) (r : SemType) (to : List SemType) → AreBelow env (rest ++ r ∷ []) to → Parted rest r to
  part [] r [] h = absurd h
  part [] r (t ∷ []) (h, more) = record { stay = []; top = t; is = refl; below = tt; sub = (λ x valid k. h x (valid, k)) }
  part [] r (t ∷ u ∷ to) (h, more) = absurd more
  part (x ∷ rest) r [] h = absurd h
  part (x ∷ rest) r (t ∷ to) (h, more) =
      let q = part rest r to more in
      record { stay = t ∷ q.stay; top = q.top; is = ap (λ ys. t ∷ ys) q.is; below = (h, q.below); sub = q.sub }

  joined : (rest stay : List SemType) (result : Option SemType) → AreBelow env rest stay → AreBelow env (rest ++ option_to_list result) (stay ++ option_to_list result)
  joined [] [] None h = tt
  joined [] [] (Some r) h = ((λ x k. k.1), tt)
  joined [] (t ∷ stay) result h = absurd h
  joined (x ∷ rest) [] result h = absurd h
  joined (x ∷ rest) (t ∷ stay) result (h, more) = (h, joined rest stay result more)

  -- what holds of a result, and of each wider one, holds of the one that is read off; and the others are below those that stay
  pub read-so : (T : Option SemType → Type 0) → ((r t : SemType) → Sub env r t → T (Some r) → T (Some t)) → (gives : Bool) (rest to : List SemType) (result : Option SemType) → GivesAs gives result → AreBelow env (rest ++ option_to_list result) to → T result
      → T (read_off gives to) × AreBelow env rest (stays gives to)
  read-so T widens true rest to (Some r) given below typed =
      let q = part rest r to below in
      (subst T (sym (ap last_of q.is ∙ last-is q.stay q.top)) (widens r q.top q.sub typed), subst (λ ts. AreBelow env rest ts) (sym (ap front_of q.is ∙ front-is q.stay q.top)) q.below)
  read-so T widens true rest to None given below typed = untrue given
  read-so T widens false rest to (Some r) given below typed = absurd (let q : ⊥ = cc in q)
  read-so T widens false rest to None given below typed = (typed, subst (λ ts. AreBelow env ts to) (append-nil rest) below)

  -- and so the other way round
  pub read-back : (gives : Bool) (rest to : List SemType) → GivesAs gives (read_off gives to) → AreBelow env rest (stays gives to) → AreBelow env (rest ++ option_to_list (read_off gives to)) to
  read-back true rest to given below = by (last_of to) refl given
    where
      by : (o : Option SemType) → last_of to ≡ o → GivesAs true o → AreBelow env (rest ++ option_to_list (last_of to)) to
      by (Some t) e g = subst (λ ts. AreBelow env (rest ++ option_to_list (last_of to)) ts) (ap (λ o. front_of to ++ option_to_list o) e ∙ sym (with-last to t e)) (joined rest (front_of to) (last_of to) below)
      by None e g = untrue g
  read-back false rest to given below = subst (λ ts. AreBelow env ts to) (sym (append-nil rest)) below
