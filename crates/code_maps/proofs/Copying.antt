-- One copy more.
use Rattle.std.proofs.Common.{◌≡◌, ◌∙◌, ◌<◌, ◌+◌, ◌++◌, ℕ, List, [], ◌∷◌, get_or, length, map, subst, sym, take, ap}
use Rattle.std.proofs.lemmas.List.{map-append, take_more}
use Rattle.std.specs.List.{AllZip}
use Rattle.type_model.specs.declared.basic.SemType.{SemType}
use Rattle.type_model.specs.SameType.{IsSameType}
use Rattle.map_traces.specs.declared.entry.Entry.{Entry}
use Rattle.map_traces.specs.Events.{type_of}
use Rattle.code_maps.proofs.Playing.{zip-more}

pub copied-more : (es : List Entry) (i : ℕ) (e : Entry) (ts news : List SemType) (t : SemType) → i < length es → e ≡ get_or es i e → news ≡ ts ++ t ∷ []
    → AllZip IsSameType (map type_of (take i es)) ts → IsSameType (type_of e) t → AllZip IsSameType (map type_of (take (i + 1) es)) news
copied-more es i e ts news t lt at pushed all same =
    subst (AllZip IsSameType (map type_of (take (i + 1) es))) (sym pushed)
    (subst (λ ss. AllZip IsSameType ss (ts ++ t ∷ [])) (sym (ap (map type_of) (take_more es i e lt ∙ ap (λ y. take i es ++ y ∷ []) (sym at)) ∙ map-append type_of (take i es) (e ∷ [])))
    (zip-more IsSameType (map type_of (take i es)) ts (type_of e) t all same))
