-- What is twins one way round is the other way round.
use Rattle.std.proofs.Common.{List, [], ◌∷◌, Option, None, Some, sym}
use Rattle.std.specs.List.{AllZip}
use Rattle.checks.proofs.Twins.{twins-sym}
use Rattle.type_model.specs.declared.atoms.AtomDef.{AtomDef}
use Rattle.type_model.specs.declared.atoms.AtomDef.TheVariants.{List as ListAtom, Mapping as MappingAtom, Arrow, Error as ErrorAtom, Future as FutureAtom}
use Rattle.type_model.specs.declared.atoms.FieldDef.{FieldDef}
use Rattle.type_model.specs.declared.basic.Ty.{Ty}
use Rattle.check_words.specs.Sharing.{SameOption}
use Rattle.check_answers.specs.TwinTypes.{TwinAtoms, TwinDefs, TwinFields, TwinTypes}

zip-back : {A : Type 0} (R Q : A → A → Type 0) → ((x y : A) → R x y → Q y x) → (xs ys : List A) → AllZip R xs ys → AllZip Q ys xs
zip-back R Q f [] [] h = tt
zip-back R Q f (x ∷ xs) (y ∷ ys) h = (f x y h.0, zip-back R Q f xs ys h.1)
zip-back R Q f [] (y ∷ ys) h = absurd h
zip-back R Q f (x ∷ xs) [] h = absurd h

option-back : {A : Type 0} (R Q : A → A → Type 0) → ((x y : A) → R x y → Q y x) → (o p : Option A) → SameOption R o p → SameOption Q p o
option-back R Q f None None h = tt
option-back R Q f (Some x) (Some y) h = f x y h
option-back R Q f None (Some y) h = absurd h
option-back R Q f (Some x) None h = absurd h

module _ (m n : List AtomDef) where
  pub type-back : (s t : Ty) → TwinTypes m n s t → TwinTypes n m t s
  type-back s t h = record { shapes = twins-sym m n s.sem t.sem h.shapes; lists = sym h.lists; maps = sym h.maps }

  field-back : (f g : FieldDef) → TwinFields m n f g → TwinFields n m g f
  field-back f g h = record { name = sym h.name; ty = type-back f.ty g.ty h.ty; optional = sym h.optional }

  def-back : (d e : AtomDef) → TwinDefs m n d e → TwinDefs n m e d
  def-back (ListAtom fixed rest) (ListAtom gs s) h =
      (zip-back (TwinTypes m n) (TwinTypes n m) type-back fixed gs h.0, option-back (TwinTypes m n) (TwinTypes n m) type-back rest s h.1)
  def-back (MappingAtom fields rest) (MappingAtom gs s) h =
      (zip-back (TwinFields m n) (TwinFields n m) field-back fields gs h.0, option-back (TwinTypes m n) (TwinTypes n m) type-back rest s h.1)
  def-back (Arrow args result isolated) (Arrow gs s alone) h = (twins-sym m n args gs h.0, twins-sym m n result s h.1, sym h.2)
  def-back (ErrorAtom detail) (ErrorAtom e) h = twins-sym m n detail e h
  def-back (FutureAtom result) (FutureAtom e) h = twins-sym m n result e h
  def-back _ _ h = absurd h

  pub atoms-back : TwinAtoms m n → TwinAtoms n m
  atoms-back h = zip-back (TwinDefs m n) (TwinDefs n m) def-back m n h
