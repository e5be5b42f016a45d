-- Diagrams of questions in tables that grow.
use Rattle.std.proofs.Common.{◌≡◌, ℕ, List, ◌∷◌, [], ◌++◌, take, length, get_or, map, ◌+◌, ◌<◌, refl, sym, ap, subst, ◌∙◌, arith}
use Rattle.std.proofs.lemmas.List.{take_more}
use Rattle.type_diagrams.specs.Conditions.{Condition, AreOne, and_of, without, asks}
use Rattle.type_diagrams.specs.declared.operation.Operation.TheVariants.{And, Without}
use Rattle.type_diagrams.specs.Tables.{Table, IsDiagram, condition}
use Rattle.type_diagrams.specs.Whole.{Keeps, Extends, Gives}
use Rattle.type_diagrams.proofs.Keeping.{extends-further, extends-itself, extends-more}
use Rattle.type_diagrams.proofs.Shapes.{one-further, gives-keeps, combined-Gives}
use Rattle.type_diagrams.proofs.Asking.{asks_one_more, asks_one_less}

-- first the diagram of a type, then an operation
pub then_on : (n : ℕ) (a b c : Table) → Extends n a b → Extends 0 b c → Extends n a c
then_on n a b c e f = extends-further n 0 n a b c (omega arith) (omega arith) e f

pub then_all : (n : ℕ) (a b c : Table) → Extends n a b → Extends n b c → Extends n a c
then_all n a b c e f = extends-further n n n a b c (omega arith) (omega arith) e f

pub not_yet : (n : ℕ) (a : Table) → Extends n a a
not_yet n a = extends-more n a a (extends-itself a)

-- a diagram with the condition of a diagram
pub gives_itself : (t : Table) (a : ℕ) → IsDiagram t a → Gives t (condition t a) a
gives_itself t a is = record { diagram = is; condition = record { simple = λ x s v. refl; by_kind = λ k v. refl } }

pub gives_as : (t : Table) (c d : Condition) (n : ℕ) → AreOne c d → Gives t c n → Gives t d n
gives_as t c d n e g = record { diagram = g.diagram; condition = one-further (condition t n) c d g.condition e }

-- a diagram of the old table and one of the middle one, put together
pub and_Gives : (old mid new : Table) (d : Condition) (a b n : ℕ) → IsDiagram old a → Keeps old mid → Gives mid d b → Gives new (and_of (condition mid a) (condition mid b)) n → Gives new (and_of (condition old a) d) n
and_Gives old mid new d a b n is k g made =
    combined-Gives mid new And (condition old a) d a b n (gives-keeps old mid (condition old a) a k (gives_itself old a is)) g made

pub without_Gives : (old mid new : Table) (d : Condition) (a b n : ℕ) → IsDiagram old a → Keeps old mid → Gives mid d b → Gives new (without (condition mid a) (condition mid b)) n → Gives new (without (condition old a) d) n
without_Gives old mid new d a b n is k g made =
    combined-Gives mid new Without (condition old a) d a b n (gives-keeps old mid (condition old a) a k (gives_itself old a is)) g made

-- what is asked by the first so many atoms of a list, and by one more
module _ (part : ℕ → Condition) (atoms : List ℕ) (i : ℕ) (within : i < length atoms) (d : Condition) (is : part (get_or atoms i 0) ≡ d) where
  one_more_part : map part (take (i + 1) atoms) ≡ map part (take i atoms) ++ d ∷ []
  one_more_part = ap (map part) (take_more atoms i 0 within) ∙ map-push (take i atoms)
    where
      map-push : (xs : List ℕ) → map part (xs ++ get_or atoms i 0 ∷ []) ≡ map part xs ++ d ∷ []
      map-push [] = ap (λ e. e ∷ []) is
      map-push (x ∷ xs) = ap (λ ys. part x ∷ ys) (map-push xs)

  module _ (old new : Table) (q n : ℕ) (cs : List Condition) where
    pub one_more_wanted : Gives old (asks (map part (take i atoms)) []) q → Gives new (and_of (condition old q) d) n → Gives new (asks (map part (take (i + 1) atoms)) []) n
    one_more_wanted g made =
        subst (λ ps. Gives new (asks ps []) n) (sym one_more_part) (gives_as new _ _ n (asks_one_more (condition old q) (map part (take i atoms)) d g.condition) made)

    pub one_more_unwanted : Gives old (asks cs (map part (take i atoms))) q → Gives new (without (condition old q) d) n → Gives new (asks cs (map part (take (i + 1) atoms))) n
    one_more_unwanted g made =
        subst (λ ps. Gives new (asks cs ps) n) (sym one_more_part) (gives_as new _ _ n (asks_one_less (condition old q) cs (map part (take i atoms)) d g.condition) made)
