-- Operands taken off a stack that fits a map.
use Rattle.std.proofs.Common.{◌≡◌, ◌∙◌, suc, List, [], ◌∷◌, ◌++◌, length, reverse, refl, sym, ap, subst}
use Rattle.std.proofs.lemmas.List.{reverse-reverse, reverse-append, length-reverse, append-nil}
use Rattle.std.specs.List.{AllZip}
use Rattle.operations.specs.declared.operation.Operation.{Operation}
use Rattle.value_model.specs.declared.value.Value.{Value}
use Rattle.op_model.specs.Local.{Local, Later, taken, takes, with_stack}

-- so many are taken off the front of a stack, the first one last
abbrev pub reversed : List Value → List Value → List Value
reversed [] args = args
reversed (v ∷ vs) args = reversed vs (v ∷ args)

taken-all : (o : Operation) (l : Local) (ys args below : List Value) → taken o l (length ys) args (ys ++ below) ≡ Later o (reversed ys args) (with_stack l below)
taken-all o l [] args below = refl
taken-all o l (y ∷ ys) args below = taken-all o l ys (y ∷ args) below

reversed-is : (ys args : List Value) → reversed ys args ≡ reverse ys ++ args
reversed-is [] args = refl
reversed-is (y ∷ ys) args = reversed-is ys (y ∷ args) ∙ onto ys
  where
    onto : (zs : List Value) → reverse zs ++ y ∷ args ≡ reverse (y ∷ zs) ++ args
    onto zs = by (reverse zs) (reverse-append (y ∷ []) zs)
      where
        by : (rs : List Value) → reverse (y ∷ zs) ≡ rs ++ y ∷ [] → rs ++ y ∷ args ≡ reverse (y ∷ zs) ++ args
        by rs e = sym (ap (λ xs. xs ++ args) e ∙ assoc rs)
          where
            assoc : (xs : List Value) → (xs ++ y ∷ []) ++ args ≡ xs ++ y ∷ args
            assoc [] = refl
            assoc (x ∷ xs) = ap (λ t. x ∷ t) (assoc xs)

-- values in two parts of a map
pub record IsSplit {T : Type 0} (P : Value → T → Type 0) (xs : List Value) (rest operands : List T) : Type 0 where
  pub front : List Value
  pub back : List Value
  pub is : xs ≡ front ++ back
  pub below : AllZip P front rest
  pub above : AllZip P back operands

pub split : {T : Type 0} (P : Value → T → Type 0) (xs : List Value) (rest operands : List T) → AllZip P xs (rest ++ operands) → IsSplit P xs rest operands
split P xs [] operands h = record { front = []; back = xs; is = refl; below = tt; above = h }
split P [] (t ∷ rest) operands h = absurd h
split P (x ∷ xs) (t ∷ rest) operands h =
    let s = split P xs rest operands h.1 in
    record { front = x ∷ s.front; back = s.back; is = ap (λ ys. x ∷ ys) s.is; below = (h.0, s.below); above = s.above }

pub zip-length : {T : Type 0} (P : Value → T → Type 0) (xs : List Value) (ts : List T) → AllZip P xs ts → length xs ≡ length ts
zip-length P [] [] h = refl
zip-length P [] (t ∷ ts) h = absurd h
zip-length P (x ∷ xs) [] h = absurd h
zip-length P (x ∷ xs) (t ∷ ts) h = ap suc (zip-length P xs ts h.1)

-- operands of a map's last types are taken off, and the others stay
pub record IsTaken {T : Type 0} (P : Value → T → Type 0) (o : Operation) (l : Local) (rest operands : List T) : Type 0 where
  pub args : List Value
  pub below : List Value
  pub is : takes o l (length operands) ≡ Later o args (with_stack l below)
  pub fit : AllZip P args operands
  pub others : AllZip P (reverse below) rest
  pub stack : l.stack ≡ reverse args ++ below

pub take-operands : {T : Type 0} (P : Value → T → Type 0) (o : Operation) (l : Local) (rest operands : List T) → AllZip P (reverse l.stack) (rest ++ operands) → IsTaken P o l rest operands
take-operands P o l rest operands h =
    let s = split P (reverse l.stack) rest operands h in
    record {
      args = s.back;
      below = reverse s.front;
      is = took s.front s.back (stands s.front s.back s.is) (zip-length P s.back operands s.above);
      fit = s.above;
      others = subst (λ xs. AllZip P xs rest) (sym (reverse-reverse s.front)) s.below;
      stack = stands s.front s.back s.is;
    }
  where
    stands : (front back : List Value) → reverse l.stack ≡ front ++ back → l.stack ≡ reverse back ++ reverse front
    stands front back e = sym (reverse-reverse l.stack) ∙ (ap (λ xs. reverse xs) e ∙ reverse-append front back)

    took : (front back : List Value) → l.stack ≡ reverse back ++ reverse front → length back ≡ length operands → takes o l (length operands) ≡ Later o back (with_stack l (reverse front))
    took front back e n =
        ap (λ k. taken o l k [] l.stack) (sym n ∙ sym (length-reverse back))
        ∙ (ap (λ xs. taken o l (length (reverse back)) [] xs) e
        ∙ (taken-all o l (reverse back) [] (reverse front)
        ∙ ap (λ xs. Later o xs (with_stack l (reverse front))) (reversed-is (reverse back) [] ∙ (append-nil (reverse (reverse back)) ∙ reverse-reverse back))))
