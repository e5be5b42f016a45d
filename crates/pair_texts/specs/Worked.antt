-- Worked texts.
use Rattle.std.specs.Prelude.{◌≡◌, ℕ, List, [], ◌∷◌, codes}
use Rattle.bal_base.specs.declared.fault.Event.{Event}
use Rattle.bal_tree.specs.declared.def.FileTree.{FileTree}
use Rattle.bal_tree.specs.declared.package.Module.{Module}
use Rattle.bal_tree.specs.declared.package.SourceFile.{SourceFile}
use Rattle.typed_tree.specs.declared.unit.TypedFunction.{TypedFunction}
use Rattle.typed_tree.specs.declared.unit.TypedWorker.{TypedWorker}
use Rattle.pair_texts.specs.PairText.{function_name, pair_text}

-- a program of two workers that send to each other
abbrev pub talk : List ℕ
talk =
    codes "import ballerina/io;\npublic function main() {\n    worker A { 5 -> B; int x = <- B; io:println(x); }\n    worker B { int y = <- A; y * 2 -> A; }\n    wait A;\n}"

-- its file, whatever its tree
abbrev pub talk_in : FileTree → SourceFile
talk_in tree = record { name = codes "main.bal"; text = talk; tree = tree }

-- the default module, of this file
abbrev pub module_with : SourceFile → Module
module_with file = record { name = codes "main"; imports = []; files = file ∷ [] }

-- a file with this number
abbrev pub IsNumbered : ℕ → FileTree → Type 0
IsNumbered number tree = tree.at.file ≡ number

-- an event of the worker at this byte of the file
abbrev pub event_at : ℕ → ℕ → ℕ → Event
event_at worker number at = record { worker = worker; number = number; at = record { file = 0; at = at } }

-- the pair of the first send, and that of the answer
abbrev pub TalkIsWritten : Type 0
TalkIsWritten =
    (tree : FileTree) (a b : TypedWorker) → IsNumbered 0 tree → a.name ≡ codes "A" → b.name ≡ codes "B"
    → (pair_text (module_with (talk_in tree) ∷ []) (codes "main") (a ∷ b ∷ []) (record { send = event_at 1 0 61; receive = event_at 2 0 123 }) ≡ codes "main A 3:16 -> B 4:24\n")
    × (pair_text (module_with (talk_in tree) ∷ []) (codes "main") (a ∷ b ∷ []) (record { send = event_at 2 1 129; receive = event_at 1 1 77 }) ≡ codes "main B 4:30 -> A 3:32\n")

-- another module, which is imported and so stands in front
abbrev pub module_of_text : FileTree → Module
module_of_text tree = record { name = codes "text"; imports = []; files = record { name = codes "modules/text/more.bal"; text = []; tree = tree } ∷ [] }

-- a function of another module than the default one
abbrev pub ModuleIsWritten : Type 0
ModuleIsWritten =
    (tree other : FileTree) (f : TypedFunction) → IsNumbered 1 other → f.at.file ≡ 1 → f.name ≡ codes "line"
    → function_name (module_of_text other ∷ module_with (talk_in tree) ∷ []) f ≡ codes "text:line"

-- the default worker
abbrev pub DefaultIsWritten : Type 0
DefaultIsWritten =
    (tree : FileTree) (a : TypedWorker) → IsNumbered 0 tree → a.name ≡ codes "A"
    → pair_text (module_with (talk_in tree) ∷ []) (codes "main") (a ∷ []) (record { send = event_at 0 0 0; receive = event_at 1 0 77 }) ≡ codes "main function 1:1 -> A 3:32\n"
