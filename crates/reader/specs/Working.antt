-- What the steps of reading and printing an input do. No public contract speaks of it. Assumes nothing.
use Rattle.std.specs.Prelude.{◌≡◌, ℕ, List, [], ◌∷◌, ◌++◌, take, Option}
use Rattle.std.specs.Option.{option_to_list}
use Rattle.std.specs.Io.KnownBytes.{Appends}
use Rattle.reader.specs.declared.input.InputReader.{InputReader}
use Rattle.reader.specs.declared.refused.RefusedLine.{RefusedLine}
use Rattle.reader.specs.Carrying.{Outcome}
use Rattle.reader.specs.Inputs.{LineTaken}
use Rattle.reader.specs.Printing.{next_number, refused_after, refusals_text, listing_text}
use Rattle.reader.specs.Feeding.{most_kept, LedOn, Ended}

-- A line that has begun and ends with some bytes: it is taken whole, and the next begins.
pub record LineEnded (bytes : List ℕ) (before after : InputReader) (refused : Option RefusedLine) : Type 0 where
  pub outcome : Outcome
  pub taken : LineTaken (take most_kept (before.begun.items ++ bytes)) before.lines after.lines outcome
  pub number : after.number ≡ next_number before.number
  pub begun : after.begun.items ≡ []
  pub told : option_to_list refused ≡ refused_after before.number (outcome ∷ [])

-- bytes of an input are read, and what is refused in them is printed, by the bytes that the writer holds
pub record Fed (bytes : List ℕ) (before after : InputReader) (held holds : Option (List ℕ)) : Type 0 where
  pub outcomes : List Outcome
  pub led : LedOn bytes before after outcomes
  pub written : Appends held holds (refusals_text (refused_after before.number outcomes))

-- an input ends, and the rest of what is printed of it is
pub record FinishedWith (before after : InputReader) (held holds : Option (List ℕ)) : Type 0 where
  pub refused : Option RefusedLine
  pub ended : Ended before after refused
  pub written : Appends held holds (refusals_text (option_to_list refused) ++ listing_text after.lines.book.lines.rows)
