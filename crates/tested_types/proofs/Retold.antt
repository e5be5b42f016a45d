-- Types that are noted, said otherwise.
use Rattle.std.proofs.Common.{◌≡◌, ◌∙◌, ◌++◌, ℕ, List, Option, None, Some, ap, map, sym, subst}
use Rattle.std.specs.Prelude.{Any, IsSomeAnd, OnOk, Result, Err, Ok, option_to_list, slice_get, ⊤}
use Rattle.type_model.specs.declared.atoms.AtomDef.{AtomDef}
use Rattle.type_model.specs.declared.basic.SemType.{SemType}
use Rattle.type_model.specs.SameType.{IsSameType}
use Rattle.op_model.specs.Inherent.{member_types}
use Rattle.stack_code.specs.Commands.{Command}
use Rattle.tested_types.specs.Asked.{Asks, HasMember, IsDefinedAt, Notes, type_in}
use Rattle.tested_types.proofs.Noting.{notes-append, notes-empty, notes-mapped, notes-one}

-- of an equal type
pub noted-as : {T E : Type 0} (types news : List SemType) (r : Result T E) (s t : SemType) → s ≡ t → OnOk r (Notes (λ u. IsSameType u s) types news) → OnOk r (Notes (λ u. IsSameType u t) types news)
noted-as types news r s t e h = subst (λ x. OnOk r (Notes (λ u. IsSameType u x) types news)) e h

-- of the type for which a command asks
pub asked-as : {T E : Type 0} (c : Command) (types news : List SemType) (r : Result T E) (s : SemType) → type_in c ≡ Some s → OnOk r (Notes (λ u. IsSameType u s) types news) → OnOk r (Notes (Asks c) types news)
asked-as c types news r s e h = subst (λ o. OnOk r (Notes (λ t. IsSomeAnd o (IsSameType t)) types news)) (sym e) h

-- of an equal command
pub asks-as : {T E : Type 0} (c d : Command) (types news : List SemType) (r : Result T E) → c ≡ d → OnOk r (Notes (Asks c) types news) → OnOk r (Notes (Asks d) types news)
asks-as c d types news r e h = subst (λ x. OnOk r (Notes (Asks x) types news)) e h

-- of the members of an equal list
pub listed-as : {X T E : Type 0} (Asks : X → SemType → Type 0) (xs ys : List X) (types news : List SemType) (r : Result T E) → OnOk r (Notes (λ t. Any (λ y. Asks y t) xs) types news) → xs ≡ ys → OnOk r (Notes (λ t. Any (λ y. Asks y t) ys) types news)
listed-as Asks xs ys types news r h e = subst (λ l. OnOk r (Notes (λ t. Any (λ y. Asks y t) l) types news)) e h

pub front-same : {X : Type 0} (xs ys zs ws : List X) → xs ≡ ys → ys ++ zs ≡ ws → xs ++ zs ≡ ws
front-same xs ys zs ws e f = ap (λ l. l ++ zs) e ∙ f

pub mapped-same : {X Y : Type 0} (v : X → Y) (xs ys : List X) (zs ws : List Y) → xs ≡ ys → map v ys ++ zs ≡ ws → map v xs ++ zs ≡ ws
mapped-same v xs ys zs ws e f = ap (λ l. map v l ++ zs) e ∙ f

-- of one that there may be
pub none-noted : {X : Type 0} (Asks : X → SemType → Type 0) (o : Option X) (types : List SemType) → o ≡ None → Notes (λ t. Any (λ y. Asks y t) (option_to_list o)) types types
none-noted Asks o types e = subst (λ p. Notes (λ t. Any (λ y. Asks y t) (option_to_list p)) types types) (sym e) (notes-empty Asks types)

pub some-noted : {X T E : Type 0} (Asks : X → SemType → Type 0) (o : Option X) (x : X) (types news : List SemType) (r : Result T E) → o ≡ Some x → OnOk r (Notes (Asks x) types news) → OnOk r (Notes (λ t. Any (λ y. Asks y t) (option_to_list o)) types news)
some-noted Asks o x types news (Err e) is h = tt
some-noted Asks o x types news (Ok v) is h = subst (λ p. Notes (λ t. Any (λ y. Asks y t) (option_to_list p)) types news) (sym is) (notes-one Asks x types news h)

-- of two lists, one behind another
pub both-noted : {X T E : Type 0} (Asks : X → SemType → Type 0) (xs ys : List X) (f g h : List SemType) (r : Result T E) → Notes (λ t. Any (λ y. Asks y t) xs) f g → OnOk r (Notes (λ t. Any (λ y. Asks y t) ys) g h) → OnOk r (Notes (λ t. Any (λ y. Asks y t) (xs ++ ys)) f h)
both-noted Asks xs ys f g h (Err e) n o = tt
both-noted Asks xs ys f g h (Ok v) n o = notes-append Asks xs ys f g h n o

pub fields-noted : {X Y T E : Type 0} (v : X → Y) (Asks : Y → SemType → Type 0) (xs : List X) (ys : List Y) (f g h : List SemType) (r : Result T E) → Notes (λ t. Any (λ x. Asks (v x) t) xs) f g → OnOk r (Notes (λ t. Any (λ y. Asks y t) ys) g h) → OnOk r (Notes (λ t. Any (λ y. Asks y t) (map v xs ++ ys)) f h)
fields-noted v Asks xs ys f g h r n o = both-noted Asks (map v xs) ys f g h r (notes-mapped v Asks xs f g n) o

-- of members of an atom's definition
pub member-noted : {T E : Type 0} (atoms : List AtomDef) (a : ℕ) (d : AtomDef) (types news : List SemType) (r : Result T E) → slice_get atoms a ≡ Some d → OnOk r (Notes (λ t. Any (λ m. IsSameType t m.sem) (member_types d)) types news) → OnOk r (Notes (HasMember atoms a) types news)
member-noted atoms a d types news r e h = subst (λ o. OnOk r (Notes (λ t. IsSomeAnd o (λ x. Any (λ m. IsSameType t m.sem) (member_types x))) types news)) (sym e) h

pub defined-on : {T E : Type 0} (atoms : List AtomDef) (a : ℕ) (d : AtomDef) (r : Result T E) → slice_get atoms a ≡ Some d → OnOk r (IsDefinedAt atoms a)
defined-on atoms a d (Err e) is = tt
defined-on atoms a d (Ok v) is = subst (λ o. IsSomeAnd o (λ x. ⊤)) (sym is) tt
