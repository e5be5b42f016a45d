-- Two lists of parameters of the same tokens are alike.
use Rattle.std.proofs.Common.{◌≡◌, true, false, List, [], ◌∷◌, map, Option, None, Some, refl, sym, ap, ◌∙◌, subst}
use Rattle.std.specs.List.{list_all}
use Rattle.bal_base.specs.declared.token.TokenKind.TheVariants.{Word as WordKind, Sign as SignKind}
use Rattle.bal_base.specs.declared.token.Sign.TheVariants.{CloseParen, Comma, Ellipsis}
use Rattle.bal_tree.specs.declared.params.Param.{Param}
use Rattle.bal_tree.specs.declared.params.Params.{Params}
use Rattle.bal_tree.specs.declared.types.TypeTree.{TypeTree}
use Rattle.bal_tree.specs.Pieces.{Pieces, separated}
use Rattle.bal_tree.specs.Spells.{onto}
use Rattle.bal_tree.specs.TypePieces.{param_pieces, params_pieces, rest_param_pieces, type_pieces, with_last}
use Rattle.bal_tree.specs.TypeRules.{last_is_formed, param_is_formed, params_are_formed, type_is_formed}
use Rattle.token_steps.specs.Tokens.{Kinds}
use Rattle.parse_types.proofs.Law.{both_pass}
use Rattle.parse_types.proofs.ListLaw.{ellipsis-closes}
use Rattle.parse_types.proofs.PrimaryLaw.{word-closes}
use Rattle.parse_stmt.proofs.Alike.{Alike, Same, behind_first}
use Rattle.parse_stmt.proofs.PartTree.{lists-same}
use Rattle.parse_types.proofs.Follows.{Closes}
use Rattle.parse_stmt.proofs.TypeForms.{type-spine}
use Rattle.parse_stmt.proofs.TypeTrees.{no-first, type-then}

-- a parameter, or the one that takes the rest, and that it is well formed
data Item : Type 0 where
  plain : (p : Param) → param_is_formed p ≡ true → Item
  rest : (p : Param) → param_is_formed p ≡ true → Item

abbrev item_pieces : Item → Pieces
item_pieces (plain p f) = param_pieces p
item_pieces (rest p f) = rest_param_pieces p

last_item : (m : Option Param) → last_is_formed m ≡ true → List Item
last_item None f = []
last_item (Some p) f = rest p f ∷ []

items : (ps : List Param) (m : Option Param) → list_all param_is_formed ps ≡ true → last_is_formed m ≡ true → List Item
items [] m f g = last_item m g
items (p ∷ ps) m f g = let b = both_pass (param_is_formed p) (list_all param_is_formed ps) f in plain p b.0 ∷ items ps m b.1 g

items-are : (ps : List Param) (m : Option Param) (f : list_all param_is_formed ps ≡ true) (g : last_is_formed m ≡ true) → map item_pieces (items ps m f g) ≡ with_last rest_param_pieces (map param_pieces ps) m
unfolding items last_item
items-are [] None f g = refl
items-are [] (Some p) f g = refl
items-are (p ∷ ps) None f g = ap (λ xs. param_pieces p ∷ xs) (items-are ps None (both_pass (param_is_formed p) (list_all param_is_formed ps) f).1 g)
items-are (p ∷ ps) (Some q) f g = ap (λ xs. param_pieces p ∷ xs) (items-are ps (Some q) (both_pass (param_is_formed p) (list_all param_is_formed ps) f).1 g)

same-then : (t u : TypeTree) (ks ls : Kinds) → type_is_formed t false ≡ true → type_is_formed u false ≡ true → Closes ks → Closes ls → onto (type_pieces t) ks ≡ onto (type_pieces u) ls → Same (type_pieces t) (type_pieces u) ks ls
same-then t u ks ls f g c d e = type-then t u false ks ls (type-spine t) f g c d e

item-same : (x y : Item) (ks ls : Kinds) → Unit {0} → Unit {0} → onto (item_pieces x) ks ≡ onto (item_pieces y) ls → Same (item_pieces x) (item_pieces y) ks ls
item-same (plain p f) (plain q g) ks ls h k e =
    let s = same-then p.ty.value q.ty.value (WordKind p.name.name ∷ ks) (WordKind q.name.name ∷ ls) f g (word-closes p.name.name ks) (word-closes q.name.name ls) e in
    let behind : WordKind p.name.name ∷ ks ≡ WordKind q.name.name ∷ ls = s.1 in
    ((tt, (s.0, (tt, cc behind))), cc behind)
item-same (plain p f) (rest q g) ks ls h k e =
    let s = same-then p.ty.value q.ty.value (WordKind p.name.name ∷ ks) (SignKind Ellipsis ∷ WordKind q.name.name ∷ ls) f g (word-closes p.name.name ks) (ellipsis-closes (WordKind q.name.name ∷ ls)) e in
    let behind : WordKind p.name.name ∷ ks ≡ SignKind Ellipsis ∷ WordKind q.name.name ∷ ls = s.1 in
    cc behind
item-same (rest p f) (plain q g) ks ls h k e =
    let s = same-then p.ty.value q.ty.value (SignKind Ellipsis ∷ WordKind p.name.name ∷ ks) (WordKind q.name.name ∷ ls) f g (ellipsis-closes (WordKind p.name.name ∷ ks)) (word-closes q.name.name ls) e in
    let behind : SignKind Ellipsis ∷ WordKind p.name.name ∷ ks ≡ WordKind q.name.name ∷ ls = s.1 in
    cc behind
item-same (rest p f) (rest q g) ks ls h k e =
    let s = same-then p.ty.value q.ty.value (SignKind Ellipsis ∷ WordKind p.name.name ∷ ks) (SignKind Ellipsis ∷ WordKind q.name.name ∷ ls) f g (ellipsis-closes (WordKind p.name.name ∷ ks)) (ellipsis-closes (WordKind q.name.name ∷ ls)) e in
    let behind : SignKind Ellipsis ∷ WordKind p.name.name ∷ ks ≡ SignKind Ellipsis ∷ WordKind q.name.name ∷ ls = s.1 in
    ((tt, ((s.0, refl), (tt, cc behind))), cc behind)

item-no-paren : (x : Item) (ks zs : Kinds) → SignKind CloseParen ∷ zs ≡ onto (item_pieces x) ks → ⊥
item-no-paren (plain p f) ks zs e = no-first CloseParen p.ty.value false (WordKind p.name.name ∷ ks) zs (λ i m. refl) f (word-closes p.name.name ks) e
item-no-paren (rest p f) ks zs e = no-first CloseParen p.ty.value false (SignKind Ellipsis ∷ WordKind p.name.name ∷ ks) zs (λ i m. refl) f (ellipsis-closes (WordKind p.name.name ∷ ks)) e

list-same : (xs ys : List Item) (ks ls : Kinds) → onto (separated Comma (map item_pieces xs)) (SignKind CloseParen ∷ ks) ≡ onto (separated Comma (map item_pieces ys)) (SignKind CloseParen ∷ ls) → Same (separated Comma (map item_pieces xs)) (separated Comma (map item_pieces ys)) (SignKind CloseParen ∷ ks) (SignKind CloseParen ∷ ls)
list-same = lists-same item_pieces item_pieces Comma CloseParen (λ ks. Unit {0}) (λ ks ls q. cc q) (λ ks. tt) (λ ks. tt) item-same (λ x ks zs h. item-no-paren x ks zs) (λ x ks zs h. item-no-paren x ks zs)

pub params-same : (p q : Params) (ks ls : Kinds) → params_are_formed p ≡ true → params_are_formed q ≡ true → onto (params_pieces p) ks ≡ onto (params_pieces q) ls → Same (params_pieces p) (params_pieces q) ks ls
params-same p q ks ls f g e =
    let a = both_pass (list_all param_is_formed p.params.items) (last_is_formed p.rest) f in
    let b = both_pass (list_all param_is_formed q.params.items) (last_is_formed q.rest) g in
    let xs = items p.params.items p.rest a.0 a.1 in
    let ys = items q.params.items q.rest b.0 b.1 in
    let i = items-are p.params.items p.rest a.0 a.1 in
    let j = items-are q.params.items q.rest b.0 b.1 in
    let s = list-same xs ys ks ls (ap (λ l. onto (separated Comma l) (SignKind CloseParen ∷ ks)) i ∙ ap behind_first e ∙ sym (ap (λ l. onto (separated Comma l) (SignKind CloseParen ∷ ls)) j)) in
    let behind : SignKind CloseParen ∷ ks ≡ SignKind CloseParen ∷ ls = s.1 in
    ((refl, (subst (λ l. Alike (separated Comma l) (separated Comma (with_last rest_param_pieces (map param_pieces q.params.items) q.rest))) i (subst (λ l. Alike (separated Comma (map item_pieces xs)) (separated Comma l)) j s.0), refl)), cc behind)
