-- What the rows of the library have in common.
use Rattle.std.specs.Prelude.{[], ◌∷◌, ◌++◌, List}
use Rattle.operations.specs.declared.library.LibraryCall.{LibraryCall}
use Rattle.check_words.specs.Library.{Takes, any, row_of}

-- what the first argument has to be
abbrev pub first_of : List Takes → Takes
first_of [] = any
first_of (t ∷ ts) = t

-- and so does each other one
abbrev pub kind_of : LibraryCall → Takes
kind_of call = first_of ((row_of call).needed ++ (row_of call).possible)
