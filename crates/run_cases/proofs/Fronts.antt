-- What `starts_with` says of two texts.
use Rattle.std.proofs.Common.{◌≡◌, ◌↔◌, ℕ, Bool, List, length, drop, sym, nat_eq}
use Rattle.std.specs.Prelude.{IsTrue}
use Rattle.std.specs.List.{starts_with}
use Rattle.std.proofs.lemmas.Bool.Decides.{Decides-eqb}
use Rattle.std.proofs.lemmas.Slice.Eq.{starts_is}
use Rattle.bal_io.specs.Content.{IsPrefixOf}

pub begins : (r : Bool) (text front : List ℕ) → r ≡ starts_with nat_eq text front → IsTrue r ↔ IsPrefixOf front text
begins r text front e =
    let s = starts_is Decides-eqb text front r e in
    ((λ t. (drop (length front) text, sym (s.0 t))), λ p. s.1 p.0 (sym p.1))
