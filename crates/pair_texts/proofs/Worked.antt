-- Worked texts.
use Rattle.std.proofs.Common.{◌≡◌, ◌++◌, ℕ, List, [], ◌∷◌, Option, None, Some, cond, nat_eq, ap, codes, ◌∙◌}
use Rattle.std.specs.Option.{option_or}
use Rattle.std.specs.Fmt.{digits}
use Rattle.std.specs.Str.{chars}
use lib.Utf8.{encode}
use Rattle.bal_tree.specs.Files.{file_in}
use Rattle.bal_tree.specs.declared.def.FileTree.{FileTree}
use Rattle.bal_tree.specs.declared.package.SourceFile.{SourceFile}
use Rattle.pair_texts.specs.PairText.{module_at, place_in}
use Rattle.pair_texts.specs.Worked.{DefaultIsWritten, IsNumbered, ModuleIsWritten, TalkIsWritten, module_of_text, module_with, talk_in}

-- the line with these names of workers
abbrev line : List ℕ → List ℕ → List ℕ → List ℕ → List ℕ
line sender at receiver from = codes "main" ++ codes " " ++ (sender ++ codes " " ++ at) ++ codes " -> " ++ (receiver ++ codes " " ++ from) ++ codes "\n"

-- an event of the worker, where the file of its place is found or not
abbrev by-place : Option SourceFile → List ℕ → ℕ → List ℕ
by-place file worker at = worker ++ codes " " ++ place_in file at

-- the files of these modules, of which the first one has the number 0
found : (tree : FileTree) → IsNumbered 0 tree → file_in 0 (module_with (talk_in tree) ∷ []) ≡ Some (talk_in tree)
found tree e = ap (λ n. option_or (cond (nat_eq n 0) (Some (talk_in tree)) None) None) e

abbrev pair-in : Option SourceFile → List ℕ → ℕ → List ℕ → ℕ → List ℕ
pair-in file sender at receiver from = codes "main" ++ codes " " ++ by-place file sender at ++ codes " -> " ++ by-place file receiver from ++ codes "\n"

pub talk-is-written : TalkIsWritten
unfolding digits chars encode
talk-is-written tree a b e x y = (
  ap (λ file. pair-in file a.name 61 b.name 123) (found tree e) ∙ (ap (λ s. line s (codes "3:16") b.name (codes "4:24")) x ∙ ap (λ r. line (codes "A") (codes "3:16") r (codes "4:24")) y),
  ap (λ file. pair-in file b.name 129 a.name 77) (found tree e) ∙ (ap (λ s. line s (codes "4:30") a.name (codes "3:32")) y ∙ ap (λ r. line (codes "B") (codes "4:30") r (codes "3:32")) x),
)

pub default-is-written : DefaultIsWritten
unfolding digits chars encode
default-is-written tree a e x =
    ap (λ file. pair-in file (codes "function") 0 a.name 77) (found tree e) ∙ ap (λ r. line (codes "function") (codes "1:1") r (codes "3:32")) x

there : (tree other : FileTree) → IsNumbered 1 other → file_in 1 (module_of_text other ∷ module_with (talk_in tree) ∷ []) ≡ Some (record { name = codes "modules/text/more.bal"; text = []; tree = other })
there tree other e =
    ap (λ n. option_or (cond (nat_eq n 1) (Some (record { name = codes "modules/text/more.bal"; text = []; tree = other })) None) (file_in 1 (module_with (talk_in tree) ∷ []))) e

pub module-is-written : ModuleIsWritten
module-is-written tree other f second file name =
    let modules = module_of_text other ∷ module_with (talk_in tree) ∷ [] in
    ap (λ n. module_at (file_in n modules) ++ f.name) file ∙ (ap (λ o. module_at o ++ f.name) (there tree other second) ∙ ap (λ t. codes "text:" ++ t) name)
