-- Mappings that have none of a pair's keys, one pair more.
use Rattle.std.proofs.Common.{◌≡◌, ◌<◌, ◌+◌, ◌++◌, ℕ, Bool, true, false, List, [], ◌∷◌, filter, get_or, length, refl, subst, sym, take}
use Rattle.std.specs.List.{AllZip}
use Rattle.std.specs.Prelude.{cond}
use Rattle.std.proofs.lemmas.List.{append-nil}
use Rattle.std.proofs.lemmas.List.Elements.{filter_more}
use Rattle.std.proofs.lemmas.Slice.Zip.{all_zipped_more}
use Rattle.bal_base.specs.declared.text.Text.{Text}
use Rattle.type_model.specs.declared.atoms.AtomDef.{AtomDef}
use Rattle.pair_questions.specs.declared.pair.Pair.{Pair}
use Rattle.detail_questions.specs.Details.{is_open}
use Rattle.detail_questions.specs.inner.Group.{HasLack, IsLack}

abbrev Opens : List Pair → List Pair
Opens ps = filter (λ (p : Pair). is_open p.key.now) ps

one-more : (names : List Text) (front : List Pair) (p : Pair) (defs new : List AtomDef) → AllZip (IsLack names) front defs → HasLack names p.key.now defs new → (b : Bool) → is_open p.key.now ≡ b → AllZip (IsLack names) (front ++ cond b (p ∷ []) []) new
one-more names front p defs new z h true e = let (d, is, put) = h.1 e in subst (AllZip (IsLack names) (front ++ p ∷ [])) (sym put) (all_zipped_more (IsLack names) front defs p d z is)
one-more names front p defs new z h false e = subst (λ (ps : List Pair). AllZip (IsLack names) ps new) (sym (append-nil front)) (subst (AllZip (IsLack names) front) (sym (h.0 e)) z)

pub lack-more : (names : List Text) (ps : List Pair) (i : ℕ) (p : Pair) → i < length ps → p ≡ get_or ps i p → (defs new : List AtomDef) → AllZip (IsLack names) (Opens (take i ps)) defs → HasLack names p.key.now defs new
    → AllZip (IsLack names) (Opens (take (i + 1) ps)) new
lack-more names ps i p lt is defs new z h =
    let more = filter_more (λ (q : Pair). is_open q.key.now) ps i p lt in
    let own = one-more names (Opens (take i ps)) p defs new z h (is_open p.key.now) refl in
    let same = subst (λ (q : Pair). AllZip (IsLack names) (Opens (take i ps) ++ cond (is_open q.key.now) (q ∷ []) []) new) is own in subst (λ (qs : List Pair). AllZip (IsLack names) qs new) (sym more) same
