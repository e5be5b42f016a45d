-- Questions of which nothing is left.
use Rattle.std.proofs.Common.{◌≡◌, ◌↔◌, ℕ, List, [], ◌∷◌, ◌&&◌, Bool, true, false, IsTrue, refl, sym, ap, ◌∙◌}
use Rattle.std.proofs.lemmas.Bool.{false≢true}
use Rattle.std.specs.List.{list_all}
use Rattle.type_diagrams.specs.Conditions.{Condition, AreOne, IsNothing, and_of, nothing, asks}
use Rattle.type_diagrams.specs.declared.operation.Operation.TheVariants.{And}
use Rattle.type_diagrams.specs.Tables.{Table, IsDiagram, condition}
use Rattle.type_diagrams.specs.Whole.{Keeps, Gives}
use Rattle.type_diagrams.proofs.Asking.{one_back}
use Rattle.type_diagrams.proofs.AskedDiagrams.{gives_itself}
use Rattle.type_diagrams.proofs.Shapes.{one-further, gives-keeps, combined-Gives}

-- what two diagrams of an older table have in common
pub common-Gives : (old mid new : Table) (c : Condition) (a b n : ℕ) → IsDiagram old b → Keeps old mid → Gives mid c a → Gives new (and_of (condition mid a) (condition mid b)) n → Gives new (and_of c (condition old b)) n
common-Gives old mid new c a b n is keeps g made =
    combined-Gives mid new And c (condition old b) a b n g (gives-keeps old mid (condition old b) b keeps (gives_itself old b is)) made

-- one more is wanted, before the others
pub asks_one_before : (c d : Condition) (cs : List Condition) → AreOne d (asks cs []) → AreOne (and_of c d) (asks (c ∷ cs) [])
asks_one_before c d cs e = record {
  simple = λ x s v. by (c.simple x) (d.simple x) (list_all (λ f. f.simple x) cs) (e.simple x s v);
  by_kind = λ k v. by (c.by_kind k v) (d.by_kind k v) (list_all (λ f. f.by_kind k v) cs) (e.by_kind k v);
}
  where
    same : (a y : Bool) → (a && (y && true)) ≡ ((a && y) && true)
    same true y = refl
    same false y = refl

    by : (a z y : Bool) → z ≡ (y && true) → (a && z) ≡ ((a && y) && true)
    by a z y h = ap (λ w. a && w) h ∙ same a y

pub nothing-along : (c d : Condition) → AreOne c d → IsNothing c ↔ IsNothing d
nothing-along c d e = (λ h. one-further d c nothing (one_back c d e) h, λ h. one-further c d nothing e h)

-- what is told of a diagram, of the condition that it was made with
pub is-nothing : (t : Table) (c : Condition) (n : ℕ) (b : Bool) → Gives t c n → IsTrue b ↔ IsNothing (condition t n) → IsTrue b ↔ IsNothing c
is-nothing t c n b g told = (λ h. (nothing-along (condition t n) c g.condition).0 (told.0 h), λ h. told.1 ((nothing-along (condition t n) c g.condition).1 h))

pub not-nothing : (c : Condition) (b : Bool) → IsTrue b ↔ IsNothing c → b ≡ false → ¬ IsNothing c
not-nothing c b told is h = false≢true (sym is ∙ told.1 h)
