-- Texts, each once.
use Rattle.std.specs.Prelude.{Bool, List, [], ◌∷◌, ◌++◌, Option, Some, None, if◌then◌else◌}
use Rattle.std.specs.List.{fold, list_any}
use Rattle.bal_base.specs.declared.text.Text.{Text}
use Rattle.type_model.specs.Places.{is_same_text}
use Rattle.pair_questions.specs.declared.pair.Pair.{Pair}
use Rattle.pair_questions.specs.inner.Strings.{texts_of}

abbrev pub among : List Text → Text → Bool
among texts text = list_any (λ t. is_same_text t text) texts

-- behind the others, where it isn't among them
abbrev pub with_text : List Text → Text → List Text
with_text texts text = if among texts text then texts else texts ++ text ∷ []

abbrev pub with_found : List Text → Option Text → List Text
with_found texts (Some text) = with_text texts text
with_found texts None = texts

abbrev pub with_texts : List Text → List Text → List Text
with_texts texts more = fold with_text texts more

-- those that keys of pairs name
abbrev pub with_key : List Text → Pair → List Text
with_key texts pair = with_texts texts (texts_of pair.key.now)

abbrev pub with_keys : List Pair → List Text
with_keys pairs = fold with_key [] pairs
