-- Some words, and whether they are a command.
use Rattle.std.specs.Prelude.{ℕ, List, [], ◌∷◌, codes}
use Rattle.command_words.specs.declared.command.TheConstants.{DEFAULT_SEED, DEFAULT_TICKS}
use Rattle.command_words.specs.Commands.{AreCommand, Check, Code, Pairs, Purpose, Request, Run, Subtype}

abbrev pub AreNone : List (List ℕ) → Type 0
AreNone words = (request : Request) → ¬ (AreCommand words request)

-- with no options but this purpose
abbrev pub plain : List ℕ → Purpose → Request
plain dir purpose = record { dir = dir; purpose = purpose; ticks = DEFAULT_TICKS; seed = DEFAULT_SEED }

pub record Cases : Type 0 where
  -- `.` runs the program
  pub runs : AreCommand (codes "." ∷ []) (plain (codes ".") (Run []))
  -- `-- -x` runs that of the folder `-x`
  pub behind_dashes : AreCommand (codes "--" ∷ codes "-x" ∷ []) (plain (codes "-x") (Run []))
  -- `. - a` has two words for `main`
  pub words : AreCommand (codes "." ∷ codes "-" ∷ codes "a" ∷ []) (plain (codes ".") (Run (codes "-" ∷ codes "a" ∷ [])))
  -- `--seed 2 -- .`
  pub seed : AreCommand (codes "--seed" ∷ codes "2" ∷ codes "--" ∷ codes "." ∷ []) (record (plain (codes ".") (Run [])) { seed = 2 })
  -- `. --ticks=18446744073709551615`
  pub most_ticks : AreCommand (codes "." ∷ codes "--ticks=18446744073709551615" ∷ [])
      (record (plain (codes ".") (Run [])) { ticks = 18446744073709551615 })
  -- `--mode check .`
  pub checks : AreCommand (codes "--mode" ∷ codes "check" ∷ codes "." ∷ []) (plain (codes ".") Check)
  -- `. --mode pairs`
  pub pairs : AreCommand (codes "." ∷ codes "--mode" ∷ codes "pairs" ∷ []) (plain (codes ".") Pairs)
  -- `--mode=code .`
  pub code : AreCommand (codes "--mode=code" ∷ codes "." ∷ []) (plain (codes ".") Code)
  -- `. int 0|1 --mode=subtype`
  pub asks : AreCommand (codes "." ∷ codes "int" ∷ codes "0|1" ∷ codes "--mode=subtype" ∷ [])
      (plain (codes ".") (Subtype (codes "int") (codes "0|1")))
  -- no words
  pub empty : AreNone []
  -- `. --mode=check --mode check`
  pub twice : AreNone (codes "." ∷ codes "--mode=check" ∷ codes "--mode" ∷ codes "check" ∷ [])
  -- `. --mode walk`
  pub other_mode : AreNone (codes "." ∷ codes "--mode" ∷ codes "walk" ∷ [])
  -- `. a --mode check`
  pub word_in_check : AreNone (codes "." ∷ codes "a" ∷ codes "--mode" ∷ codes "check" ∷ [])
  -- `. a --mode=code`
  pub word_in_code : AreNone (codes "." ∷ codes "a" ∷ codes "--mode=code" ∷ [])
  -- `. --ticks=`
  pub no_digits : AreNone (codes "." ∷ codes "--ticks=" ∷ [])
  -- `. --ticks 99999999999999999999`
  pub too_large : AreNone (codes "." ∷ codes "--ticks" ∷ codes "99999999999999999999" ∷ [])
  -- `. --ticks +1`
  pub signed : AreNone (codes "." ∷ codes "--ticks" ∷ codes "+1" ∷ [])
  -- `. --mode -x`
  pub dash_for_value : AreNone (codes "." ∷ codes "--mode" ∷ codes "-x" ∷ [])
  -- `. --seed`
  pub no_value : AreNone (codes "." ∷ codes "--seed" ∷ [])
  -- `. -x`
  pub short_option : AreNone (codes "." ∷ codes "-x" ∷ [])
  -- `. --modes=run`
  pub other_option : AreNone (codes "." ∷ codes "--modes=run" ∷ [])
